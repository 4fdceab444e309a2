use Rattle.tva_policy.proofs.Common.{None, refl, ap, sym, ◌∙◌, All-replicate, list_any, is_eq, nat_cmp, has_address, lets_in, IsNotedIn, grants_kept}
use Rattle.tva_policy.proofs.Compared.{has_address_by, has_tag_by}
use Rattle.tva_policy.proofs.policies.Policy.build.Goals as goal

pub returns : goal.returns
returns c = record {
  kind = refl;
  rights = refl;
  grants = refl;
  deny = λ a. sym (has_address_by a _) ∙ c.in_ok-set_of.ensures a ∙ ap (λ list. list_any (λ d. is_eq (nat_cmp a.0 d.0)) list) c.as_slice.ensures ∙ has_address_by a _;
  deny_tags = λ tag. sym (has_tag_by tag _) ∙ c.in_ok-set_of-2.ensures tag ∙ ap (λ list. list_any (λ d. is_eq (nat_cmp tag d)) list) c.as_slice-2.ensures ∙ has_tag_by tag _;
  noted = λ a. ap (λ keys. lets_in c.args.plan.now.kind (has_address keys a)) c.new.ensures.empty;
  granted = λ a. ap (λ entries. grants_kept entries a) c.new-2.ensures.empty;
}

pub invariant_of-result : goal.invariant_of-result
invariant_of-result c = All-replicate (IsNotedIn c.new.result.keys) 64 None tt
