-- What a node's log is at each of its places, and what holds of it from place to place.
use Rattle.tva_run.proofs.Common.{nat_tests, ◌≡◌, ◌≤◌, List, [], ◌∷◌, ◌++◌, Some, sym, subst, arith, append_assoc, AllByRecursion, IsInOrder, Input, Site, Content, Entry, Took, Started, entry_time, entry_rank, content, GoesOn, starts}
pub use Rattle.tva_base.proofs.Each.{each-left as each_front}
use Rattle.std.proofs.Common.{append-nil}
use Rattle.tva_run.proofs.Joins.{each-append}

-- ## any list

-- what holds of each element holds of one at its place
pub at_place : {X : Type 0} (P : X → Type 0) (xs before : List X) (x : X) (rest : List X) → xs ≡ before ++ x ∷ rest
    → AllByRecursion P xs → P x
at_place {X = X} P xs before x rest e a = from before (subst (AllByRecursion P) e a)
  where
    from : (ys : List X) → AllByRecursion P (ys ++ x ∷ rest) → P x
    from [] k = k.0
    from (y ∷ ys) k = from ys k.1

-- what holds of a list's front, and at each place with one element more, holds of the list
pub by_place : {X : Type 0} (P : List X → Type 0) (front xs : List X)
    → ((before : List X) (x : X) (rest : List X) → front ++ xs ≡ before ++ x ∷ rest → P before → P (before ++ x ∷ []))
    → P front → P (front ++ xs)
by_place P front [] step k = subst P (sym (append-nil front)) k
by_place P front (x ∷ xs) step k = grind (arith, nat_tests, append_assoc, (by_place P (front ++ x ∷ []) xs))

-- what holds of each element at its place, where it holds of those before it, holds of all
pub each_place : {X : Type 0} (P : X → Type 0) (xs : List X)
    → ((before : List X) (x : X) (rest : List X) → xs ≡ before ++ x ∷ rest → AllByRecursion P before → P x) → AllByRecursion P xs
each_place P xs step =
    by_place (AllByRecursion P) [] xs (λ before x rest e k. each-append P before (x ∷ []) k (step before x rest e k, tt)) tt

-- ## a node's log

-- what stands before an entry is no later
past_in : (before : List Entry) (e : Entry) (rest : List Entry) → IsInOrder entry_time entry_rank (before ++ e ∷ rest)
    → AllByRecursion (λ x. entry_time x ≤ entry_time e) before
past_in [] e rest o = tt
past_in (x ∷ xs) e rest o = grind (arith, nat_tests, at_place, (past_in xs e rest o.1))

pub past_at : (log before : List Entry) (e : Entry) (rest : List Entry) → IsInOrder entry_time entry_rank log → log ≡ before ++ e ∷ rest
    → AllByRecursion (λ x. entry_time x ≤ entry_time e) before
past_at log before e rest o split = past_in before e rest (subst (IsInOrder entry_time entry_rank) split o)

-- what an entry is after those before it: what the node makes of an input of which that holds, or what its link starts
abbrev pub IsMade : (Input → Type 0) → Site → List Entry → Entry → Type 0
IsMade P site before (Took input made) = (content site before input ≡ Some made) × P input
IsMade P site before (Started time link class packet) = starts site before link time ≡ Some (class, packet)

abbrev pub AnyInput : Input → Type 0
AnyInput i = Unit {0}

pub any : (is : List Input) → AllByRecursion AnyInput is
any [] = tt
any (i ∷ is) = (tt, any is)

module _ (P : Input → Type 0) (site : Site) where
  made_in : (past : List Entry) (is : List Input) (before : List Entry) (e : Entry) (rest : List Entry)
      → GoesOn site past is (before ++ e ∷ rest) → AllByRecursion P is → IsMade P site (past ++ before) e
  made_in past [] [] (Took j c) rest g h = absurd g
  made_in past (i ∷ is) [] (Took j c) rest g h =
      subst (λ (z : List Entry). IsMade P site z (Took j c)) (sym (append-nil past))
      (subst (λ (x : Input). content site past x ≡ Some c) (sym g.0) g.1, subst P (sym g.0) h.0)
  made_in past [] [] (Started u l c p) rest g h = subst (λ (z : List Entry). IsMade P site z (Started u l c p)) (sym (append-nil past)) g.0
  made_in past (i ∷ is) [] (Started u l c p) rest g h =
      subst (λ (z : List Entry). IsMade P site z (Started u l c p)) (sym (append-nil past)) g.0
  made_in past [] (Took j c ∷ xs) e rest g h = absurd g
  made_in past (i ∷ is) (Took j c ∷ xs) e rest g h =
      subst (λ (z : List Entry). IsMade P site z e) (append_assoc past (Took j c ∷ []) xs)
      (made_in (past ++ Took j c ∷ []) is xs e rest g.2 h.1)
  made_in past is (Started u l c p ∷ xs) e rest g h =
      subst (λ (z : List Entry). IsMade P site z e) (append_assoc past (Started u l c p ∷ []) xs)
      (made_in (past ++ Started u l c p ∷ []) is xs e rest g.1 h)

  -- each entry of a log is so at its place
  pub made_at : (is : List Input) (log before : List Entry) (e : Entry) (rest : List Entry) → GoesOn site [] is log → AllByRecursion P is
      → log ≡ before ++ e ∷ rest → IsMade P site before e
  made_at is log before e rest g h split = made_in [] is before e rest (subst (GoesOn site [] is) split g) h

-- what an entry takes became what the node makes of it
pub content_at_place : (site : Site) (is : List Input) (log before : List Entry) (input : Input) (made : Content) (rest : List Entry)
    → GoesOn site [] is log → log ≡ before ++ Took input made ∷ rest → content site before input ≡ Some made
content_at_place site is log before input made rest g split =
    (made_at AnyInput site is log before (Took input made) rest g (any is) split).0
