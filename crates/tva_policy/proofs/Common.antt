-- What several proofs of this crate name, by where it stands.
pub use Rattle.std.proofs.Common.{◌≡◌, ℕ, ◌||◌, Bool, true, cond, eqb, List, [], ◌∷◌, Option, Some, refl, ap, sym, ◌∙◌, ◌+◌, arith, ◌<◌, ◌≤◌, false, ◌&&◌, not, ltb, ◌++◌, get_or, set, None, ◌%◌, subst, unwrap_or, take}
pub use Rattle.std.proofs.lemmas.Bool.Decides.{nat_tests}
pub use Rattle.std.proofs.lemmas.List.Elements.{All-set, All-replicate}
pub use Rattle.std.proofs.lemmas.List.Folds.{list_any-append}
pub use Rattle.std.proofs.lemmas.List.Sums.{sum_by_push, sum_by-append}
pub use Rattle.std.specs.List.{list_any, All}
pub use Rattle.std.specs.Ordering.{is_eq, nat_cmp}
pub use Rattle.tva_base.specs.declared.addresses.Address.{Address}
pub use Rattle.tva_base.specs.declared.plan.PolicyPlan.{PolicyPlan}
pub use Rattle.tva_policy.specs.Grants.{has_address, has_tag, Deed, Sent, Decided, is_sending_to, is_grant_to, was_sent_to, lets_in, grant_decision, grants_before}
unfoldable pub use Rattle.tva_policy.specs.Grants.{is_granted}
pub use Rattle.tva_policy.specs.Notes.{grants_kept, Notes, StandsFor, IsNotedIn, denies}
