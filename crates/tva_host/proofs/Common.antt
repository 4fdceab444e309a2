-- What several proofs of this crate name, by where it stands.
pub use Rattle.std.proofs.Common.{◌≡◌, ℕ, ◌≤◌, List, [], ◌∷◌, ◌++◌, fold, refl, sym, subst, arith, Bool, true, false, not, eqb, Option, Some, None, append-nil, ap, ⊎_elim, ◌∙◌, ◌+◌, length, cond, ◌%◌, ◌^◌, ◌<◌, min, Result, Ok, Err, OnOk, OnErr, IfOk, map, take}
pub use Rattle.std.proofs.Math.Nat.{mod-add-mod, le_refl}
pub use Rattle.std.proofs.lemmas.Bool.{cases_Bool, false≢true, and_parts}
pub use Rattle.std.specs.Option.{is_some, IfSome}
pub use Rattle.tva_base.specs.declared.addresses.Address.{Address}
pub use Rattle.tva_base.specs.declared.packet.Rights.{Rights}
pub use Rattle.tva_base.specs.declared.packet.Upper.{Upper}
pub use Rattle.tva_base.specs.declared.plan.HostPlan.{HostPlan}
pub use Rattle.tva_base.specs.declared.plan.PolicyPlan.{PolicyPlan}
pub use Rattle.tva_host.specs.Calls.{Call, Intended, Injected, Received, after_call, history_of, last_time, NeverFall}
pub use Rattle.tva_host.specs.History.{History, beginning, with_deed, with_packet, with_prepared, next_nonce}
pub use Rattle.tva_host.specs.Receiving.{ClaimData, became_of, what_came, reply_of, claim_in, notice_for, granted, decided_on, answer_to_claim, brought_by, after_answer, after_reply, before_reply, stray, received, body_of, met_by, upper_of, after_back}
unfoldable pub use Rattle.tva_host.specs.Receiving.{receipt_of, after_receipt}
pub use Rattle.tva_host.specs.Sending.{is_legacy, shim_of, carried_by, next_shape, next_with, next_made, with_made, kind_shown_of}
unfoldable pub use Rattle.tva_host.specs.Sending.{intended, after_intending}
pub use Rattle.tva_host.specs.Sound.{HasHistory}
pub use Rattle.tva_host.specs.Stands.{HostData, Keeps, StandsFor, host_data}
pub use Rattle.tva_host.specs.declared.made.Made.{Made}
pub use Rattle.tva_host.specs.declared.made.Receipt.{Receipt}
pub use Rattle.tva_policy.specs.Grants.{Deed, Decided, grant_decision, lets_in, was_sent_to, Sent}
unfoldable pub use Rattle.tva_policy.specs.Grants.{is_granted}
pub use Rattle.tva_sender.specs.Book.{of_peer, Book}
pub use Rattle.tva_sender.specs.Contacts.{Contact, Prepared, Taken, Notice, awaits, is_within, takes}
pub use Rattle.tva_sender.specs.Shapes.{length_of}
pub use Rattle.tva_sender.specs.Showable.{IsShowableContact, AreShowable, IsShowable}
pub use Rattle.tva_sender.specs.declared.shape.Shape.{Shape}
pub use Rattle.tva_shim.specs.Layout.{return_size}
unfoldable pub use Rattle.tva_shim.specs.Layout.{layout}
pub use Rattle.tva_shim.specs.Packets.{PacketData, packet_length, carried_bytes, upper_size}
pub use Rattle.tva_shim.specs.Shims.{IsReturn, ShimData}
pub use Rattle.tva_shim.specs.Shows.{back_in}
pub use Rattle.tva_shim.specs.declared.kinds.ReturnInfo.{ReturnInfo}
pub use Rattle.tva_shim.specs.declared.packets.Carried.{Carried}
pub use Rattle.std.proofs.lemmas.Bool.Decides.{nat_tests}
pub use Rattle.std.proofs.lemmas.Grind.{common_steps}
pub use Rattle.std.proofs.Common.{rules}
