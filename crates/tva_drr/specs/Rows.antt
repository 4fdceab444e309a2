-- Kit: the rings of items that are the sources of plain queues, for their model and the contracts of the functions on them.
use Rattle.std.specs.Prelude.{ℕ, List, map, refl}
use Rattle.std.specs.Coded.{Coded, code_by, coded×, coded_list, coded_ℕ}
use Rattle.tva_drr.specs.declared.served.Served.{Served}
use Rattle.tva_drr.specs.Queues.{Queue, queue}

-- the items in a ring, and the places of the ring
pub record RowOf (T : Type 0) : Type 0 where
  pub items : List T
  pub room : ℕ

module _ {T : Type 0} where
  abbrev pub row : List T → ℕ → RowOf T
  row xs n = record { items = xs; room = n }

  abbrev pub row_code : Coded T → Coded (RowOf T)
  row_code c = code_by (List T × ℕ) (coded× (coded_list c) coded_ℕ) (λ r. (r.items, r.room)) (λ p. row p.0 p.1) (λ _. refl)

  -- the queues of some turns
  abbrev pub queues_in : List (Served (RowOf T)) → List (Queue T)
  queues_in ts = map (λ t. queue t.key t.deficit t.source.items) ts
