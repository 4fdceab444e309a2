use Rattle.tva_router.proofs.Common.{ℕ, List, sym, subst, All, LinkLimits, Route, IsPrefix, ArePlaces, IsTableOf}
use Rattle.tva_router.proofs.finding.ways_of.Goals as goal

pub table_of-requires : goal.table_of-requires
table_of-requires c = subst (λ (z : List Route). All (λ (r : Route). IsPrefix r.prefix) z) (sym c.as_slice.ensures) c.requires.prefixes

pub returns : goal.returns
returns c = record {
  routes = subst (λ (z : List Route). IsTableOf z c.in_ok-table_of.field-0) c.as_slice.ensures c.in_ok-table_of.ensures;
  places = subst (λ (z : List (ℕ × LinkLimits)). ArePlaces z c.in_ok-places_of.field-0) c.as_slice-2.ensures c.in_ok-places_of.ensures;
}
