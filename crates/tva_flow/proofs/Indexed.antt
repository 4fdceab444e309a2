-- Entries stay indexed where one is written or added.
use Rattle.tva_flow.proofs.Common.{◌≡◌, ℕ, ◌+◌, ◌*◌, ◌<◌, ◌≤◌, List, [], ◌∷◌, length, get_or, set, Option, Some, None, refl, sym, ap, ◌∙◌, subst, ◌⊎◌, zero, suc, arith, MatchOption, cases_eq, get_or-set_same, get_or-set_other, get_or_default, length-set, Flow, Entry, bucket_of, entry_of, AreIndexed, IsUpTo}
use Rattle.tva_index.specs.Buckets.{Placed, placed, IsLastBelow}
use Rattle.tva_index.proofs.Homes.{in_range, here as home_here, elsewhere as home_there}
use Rattle.tva_flow.specs.declared.hash.HashKey.{HashKey}
use Rattle.tva_flow.proofs.Entries.{not_first}

-- what is read after a write, and after a further element
read_set : (es : List Entry) (at i : ℕ) (new e : Entry) → at < length es → e ≡ get_or (set es at new) i e → ((i ≡ at) × (e ≡ new)) ⊎ ((i ≡ at → ⊥) × (e ≡ get_or es i e))
read_set es at i new e l q = grind (arith, cases_eq i at, get_or-set_other es at i new e, get_or-set_same es at new e)

number_here : (ns : List ℕ) (at i v : ℕ) → at < length ns → i ≡ at → get_or (set ns at v) i 0 ≡ v
number_here ns at i v l k = ap (λ (z : ℕ). get_or (set ns at v) z 0) k ∙ get_or-set_same ns at v 0 l

-- the end of the entry that was written is its number
number_fits : (ns : List ℕ) (at i v : ℕ) (e : Entry) → at < length ns → i ≡ at → e.end ≡ v → get_or (set ns at v) i 0 ≤ e.end
number_fits ns at i v e l k q = omega (arith, number_here ns at i v l k, q)

-- an entry of the same flow, which ends no earlier
pub indexed-rewrite : (slots : ℕ) (key : HashKey) (es : List Entry) (p : Placed) (ends : List ℕ) (at : ℕ) (old new : Entry) → AreIndexed slots key es p ends → at < length es → old ≡ get_or es at old → old.grant.flow ≡ new.grant.flow
    → old.end ≤ new.end → AreIndexed slots key (set es at new) p ends
indexed-rewrite slots key es p ends at old new k l q g h =
    let n : length (set es at new) ≡ length es = length-set es at new in
    record {
      count = k.count;
      homes = k.homes;
      numbers = k.numbers;
      few = omega (arith, n, k.few);
      found = λ i e w r. grind (arith, read_set es at i new e l r, k.found at old l q, k.found i e, g, n);
      within = λ i b h. omega (arith, n, k.within i b h);
      until = λ i e w r. grind (arith, read_set es at i new e l r, k.until at old l q, k.until i e, h, n);
    }

-- an entry of any flow
pub indexed-replace : (slots : ℕ) (key : HashKey) (es : List Entry) (p p' : Placed) (ends : List ℕ) (at : ℕ) (new : Entry) → AreIndexed slots key es p ends → at < length es
    → p' ≡ placed p.count (set p.homes at (Some (bucket_of (2 * slots + 1) key new.grant.flow))) → AreIndexed slots key (set es at new) p' (set ends at new.end)
indexed-replace slots key es p p' ends at new k l f =
    let v : Option ℕ = Some (bucket_of (2 * slots + 1) key new.grant.flow) in
    let n : length (set es at new) ≡ length es = length-set es at new in
    let m : at < length ends = omega (arith, l, k.few, k.numbers) in
    let t : at < length p.homes = omega (arith, l, k.few, k.homes) in
    let hs : p'.homes ≡ set p.homes at v = ap (λ (z : Placed). z.homes) f in
    record {
      count = ap (λ (z : Placed). z.count) f ∙ k.count;
      homes = ap (λ (z : List (Option ℕ)). length z) hs ∙ (length-set p.homes at v ∙ k.homes);
      numbers = length-set ends at new.end ∙ k.numbers;
      few = omega (arith, n, k.few);
      found = λ i e w r. grind (arith, hs, read_set es at i new e l r, home_here p.homes at i v t, home_there p.homes at i v, k.found i e, n);
      within = λ i b h. grind (arith, hs, cases_eq i at, n, l, home_there p.homes at i v, k.within i b);
      until = λ i e w r. grind (arith, read_set es at i new e l r, number_fits ends at i new.end e m, get_or-set_other ends at i new.end 0, k.until i e, n);
    }

-- a flow that no place has
pub none_of : (f : Flow) (es : List Entry) → ((i : ℕ) (e : Entry) → i < length es → e ≡ get_or es i e → e.grant.flow ≡ f → ⊥) → entry_of f es ≡ None
none_of f [] n = refl
none_of f (d ∷ ds) n = not_first f d ds (λ q. n 0 d (omega arith) refl q) (none_of f ds (λ i e l s q. n (suc i) e (omega (arith, l)) s q))

-- what is left of a bucket
pub up_to : (hs : List (Option ℕ)) (bound b : ℕ) (o : Option ℕ) (i : ℕ) → IsLastBelow hs bound b o → i < bound → get_or hs i None ≡ Some b → IsUpTo o i
up_to hs bound b None i k l h = k i l h
up_to hs bound b (Some p) i k l h = k.2 i l h

-- what is read twice at a place
pub same_read : (es : List Entry) (i : ℕ) (d e : Entry) → d ≡ get_or es i d → e ≡ get_or es i e → i < length es → d ≡ e
same_read es i d e q r l = q ∙ (get_or_default es i d e l ∙ sym r)

-- a place has an entry
pub some_place : (es : List Entry) (i : ℕ) → i < length es → (e : Entry) × (e ≡ get_or es i e)
some_place [] i l = absurd (omega arith)
some_place (d ∷ ds) zero l = (d, refl)
some_place (d ∷ ds) (suc i) l = some_place ds i (omega arith)

-- a walk begins at the last place of a bucket
pub walk_starts : (hs : List (Option ℕ)) (n b : ℕ) (o : Option ℕ) → IsLastBelow hs n b o → MatchOption o (Unit {0}) (λ p. get_or hs p None ≡ Some b)
walk_starts hs n b None k = tt
walk_starts hs n b (Some p) k = k.1

-- the places of a flow that a walk through its bucket still has before it, at the start and a step on
pub rest_starts : (es : List Entry) (hs : List (Option ℕ)) (b : ℕ) (f : Flow) (o : Option ℕ) → ((i : ℕ) (e : Entry) → i < length es → e ≡ get_or es i e → e.grant.flow ≡ f → get_or hs i None ≡ Some b) → IsLastBelow hs (length hs) b o
    → (i : ℕ) (e : Entry) → i < length es → e ≡ get_or es i e → e.grant.flow ≡ f → IsUpTo o i
rest_starts es hs b f o found k i e l q g = let h = found i e l q g in up_to hs (length hs) b o i k (in_range hs i b h) h

pub rest_goes : (es : List Entry) (hs : List (Option ℕ)) (b : ℕ) (f : Flow) (p : ℕ) (x : Entry) (o : Option ℕ) → ((i : ℕ) (e : Entry) → i < length es → e ≡ get_or es i e → e.grant.flow ≡ f → get_or hs i None ≡ Some b)
    → ((i : ℕ) (e : Entry) → i < length es → e ≡ get_or es i e → e.grant.flow ≡ f → i ≤ p) → x ≡ get_or es p x → (x.grant.flow ≡ f → ⊥) → IsLastBelow hs p b o
    → (i : ℕ) (e : Entry) → i < length es → e ≡ get_or es i e → e.grant.flow ≡ f → IsUpTo o i
rest_goes es hs b f p x o found rest r away k i e l q g =
    let w = rest i e l q g in
    let n : i ≡ p → ⊥ = λ d. away (ap (λ (z : Entry). z.grant.flow) (same_read es p x e r (subst (λ z. e ≡ get_or es z e) d q) (omega (arith, l, d))) ∙ g) in
    up_to hs p b o i k (omega (arith, w, n)) (found i e l q g)
