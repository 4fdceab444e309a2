-- What several proofs of this crate name, by where it stands.
pub use Rattle.std.proofs.Common.{ℕ, ◌+◌, ◌*◌, ◌^◌, ◌<◌, ◌≤◌, max, arith, ◌≡◌, zero, suc, Bool, true, false, cond, eqb, List, [], ◌∷◌, ◌++◌, length, set, Option, Some, None, refl, sym, ap, ◌∙◌, subst, inl, inr, ◌⊎◌, not, ◌||◌, ◌&&◌, ltb, eq-eqb, append-nil, add-zero, sum_by, ◌-◌, map, get_or, append_assoc, Result, Ok, Err, OnOk, IsOk, ◌/◌, ◌%◌, rules}
pub use Rattle.std.proofs.Math.Nat.{mul-le-mul_left, le_refl}
pub use Rattle.std.proofs.lemmas.Bool.{cases_lt, cases_eq, ne_eqb, eqb-true, eqb-false, and_parts}
pub use Rattle.std.proofs.lemmas.Bool.Decides.{nat_tests}
pub use Rattle.std.proofs.lemmas.List.{get_or-set_same, get_or-set_other, get_or_append_left, get_or_push, get_or-map, length-set, length_push, map-append, map-set, set-get_or, length-map, get_or_read}
pub use Rattle.std.proofs.lemmas.List.Elements.{All-push, All-weaker, All-replicate}
pub use Rattle.std.proofs.lemmas.List.Sums.{sum_by_push, sum_by-cons}
pub use Rattle.std.specs.Map.{lookup}
pub use Rattle.std.specs.Option.{option_and_then, option_or, option_map, option_map_or, unwrap_or, IfSome}
pub use Rattle.std.specs.Prelude.{nat_eq, is_some}
pub use Rattle.tva_base.specs.Versions.{AreRights, AreSomeRights, IsVersion, carries}
pub use Rattle.tva_base.specs.declared.addresses.Address.{Address}
pub use Rattle.tva_base.specs.declared.packet.Rights.{Rights}
pub use Rattle.tva_sender.specs.Book.{Keeps, IsStrange, of_peer, Book, peer_at, IsKept, StandsFor, knows}
pub use Rattle.tva_sender.specs.Contacts.{Contact, Prepared, Taken, Notice, is_taking, is_notice, asks, Ask, last_ask, Taking, last_taking, notices, unless_given_up, Use, uses_in, uses, since_notice, life_of, first_nonce, time, grant_of, ask_in, taking_in, after_notice, is_answered, grant_held, is_within, awaits, takes}
pub use Rattle.tva_sender.specs.Near.{AreNear}
pub use Rattle.tva_sender.specs.Places.{Known, ArePlaced, IsNowhere, IsFirstAt}
pub use Rattle.tva_sender.specs.Played.{IsUpTo, NoneLater, IsNext, AreNext, IsPlayed}
pub use Rattle.tva_sender.specs.Shapes.{length_of, list_length, nonce_length, shape_of, by_grant, may_ask, nonce_of, renews, takes_nonce, fits, held, without_grant, request_length}
unfoldable pub use Rattle.tva_sender.specs.Shapes.{under_grant}
pub use Rattle.tva_sender.specs.Showable.{IsNonce, IsShowableHeld, IsShowable, IsShowableContact, AreShowable}
pub use Rattle.tva_sender.specs.Steps.{charged, used_by, grant_used_by, prepared, answered, noticed, first_asked, IsNearPeer}
pub use Rattle.tva_sender.specs.Tree.{addresses_of, leaf, node, branch, with_branch, is_high, step, spot, IsTree, IsMissing, IsRecent, bits_past, IsEnd}
pub use Rattle.tva_sender.specs.declared.grant.Grant.{Grant}
pub use Rattle.tva_sender.specs.declared.peer.Peer.{Peer}
pub use Rattle.tva_sender.specs.declared.places.Node.{Node}
pub use Rattle.tva_sender.specs.declared.shape.Shape.{Shape}
pub use Rattle.std.proofs.lemmas.Grind.{common_steps}
