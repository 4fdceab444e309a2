-- Turns over sources, as they change places.
use Rattle.tva_base.proofs.Each.{each-of_map}
use Rattle.tva_drr.proofs.Common.{◌≡◌, ℕ, ◌+◌, ◌<◌, List, [], ◌∷◌, ◌++◌, length, get_or, slice_get, take, drop, map, set, Some, sym, ap, ◌∙◌, subst, arith, length-append, All, map_push, length-set, recursion_from_All, All-from_recursion, All-head, All-tail, All-cons, All-push, All-set, All-pop, Served, served, turn_keys, turns_refilled}
use Rattle.std.proofs.Math.Seq.{map-set_same}

module _ {S : Type 0} where
  -- who comes next
  pub next_left : (P : Served S → Type 0) (ws : List (Served S)) → All P ws → (x : Served S) → slice_get (drop 1 ws) 0 ≡ Some x → P x
  next_left P (w ∷ v ∷ vs) a x e = let q : v ≡ x = cc in subst P q (All-head P v vs (All-tail P w (v ∷ vs) a))
  next_left P _ a x e = absurd (cc)

  pub next_turned : (P : Served S → Type 0) (ws : List (Served S)) → All P ws → (x : Served S) → slice_get (drop 1 ws ++ take 1 ws) 0 ≡ Some x → P x
  next_turned P [] a x e = absurd (cc)
  next_turned P (w ∷ []) a x e = let q : w ≡ x = cc in subst P q (All-head P w [] a)
  next_turned P (w ∷ v ∷ vs) a x e = let q : v ≡ x = cc in subst P q (All-head P v vs (All-tail P w (v ∷ vs) a))

  module _ (emptied : S → S) (fresh : S) (places : ℕ) where
    -- so many sources of one kind, of which the spare ones are empty
    abbrev pub Kept : List ℕ → List (Served S) → List S → Type 0
    Kept keys ws sp = (keys ≡ turn_keys ws) × (length ws + length sp ≡ places) × All (λ s. s ≡ fresh) sp × All (λ (t : Served S). emptied t.source ≡ fresh) ws

    refilled_kept : (quantum : ℕ) (keys : List ℕ) (ws : List (Served S)) (sp : List S) → Kept keys ws sp → Kept keys (turns_refilled quantum ws) sp
    refilled_kept quantum keys [] sp k = k
    refilled_kept quantum keys (w ∷ ws) sp k =
        let same = k.3 in (
          k.0,
          k.1,
          k.2,
          All-cons (λ (t : Served S). emptied t.source ≡ fresh) (served w.key (w.deficit + quantum) w.source) ws
              (All-head (λ (t : Served S). emptied t.source ≡ fresh) w ws same) (All-tail (λ (t : Served S). emptied t.source ≡ fresh) w ws same),
        )

    -- the front leaves
    pub kept-left : (quantum : ℕ) (keys : List ℕ) (ws : List (Served S)) (sp : List S) (t : Served S) → 0 < length ws → t ≡ get_or ws 0 t → t.source ≡ emptied t.source → Kept keys ws sp
        → Kept (drop 1 keys) (turns_refilled quantum (drop 1 ws)) (sp ++ map (λ (t : Served S). t.source) (take 1 ws))
    kept-left quantum keys [] sp t n e f k = absurd (omega arith)
    kept-left quantum keys (w ∷ ws) sp t n e f k =
        let P : Served S → Type 0 = λ (t : Served S). emptied t.source ≡ fresh in
        let own : w.source ≡ fresh = subst (λ (z : Served S). z.source ≡ emptied z.source) e f ∙ All-head P w ws k.3 in
        refilled_kept quantum (drop 1 keys) ws (sp ++ w.source ∷ [])
        (ap (drop 1) k.0, omega (arith, k.1, length-append sp (w.source ∷ [])), All-push (λ s. s ≡ fresh) sp w.source k.2 own, All-tail P w ws k.3)

    -- the front goes last
    pub kept-turned : (quantum : ℕ) (keys : List ℕ) (ws : List (Served S)) (sp : List S) → Kept keys ws sp
        → Kept (drop 1 keys ++ take 1 keys) (turns_refilled quantum (drop 1 ws ++ take 1 ws)) sp
    kept-turned quantum keys [] sp k = (ap (λ (z : List ℕ). drop 1 z ++ take 1 z) k.0, k.1, k.2, k.3)
    kept-turned quantum keys (w ∷ ws) sp k =
        let P : Served S → Type 0 = λ (t : Served S). emptied t.source ≡ fresh in
        refilled_kept quantum (drop 1 keys ++ take 1 keys) (ws ++ w ∷ []) sp (
          ap (λ (z : List ℕ). drop 1 z ++ take 1 z) k.0 ∙ sym (map_push (λ (t : Served S). t.key) ws w),
          omega (arith, k.1, length-append ws (w ∷ [])),
          k.2,
          All-push P ws w (All-tail P w ws k.3) (All-head P w ws k.3),
        )

    -- one at a place changes
    pub kept-set : (keys : List ℕ) (ws : List (Served S)) (sp : List S) (at : ℕ) (t : Served S) (d : ℕ) (s : S) → t ≡ get_or ws at t → emptied s ≡ fresh → Kept keys ws sp → Kept keys (set ws at (served t.key d s)) sp
    kept-set keys ws sp at t d s e f k =
        let P : Served S → Type 0 = λ (t : Served S). emptied t.source ≡ fresh in
        (k.0 ∙ sym (map-set_same (λ (t : Served S). t.key) ws at (served t.key d s) t (ap (λ (z : Served S). z.key) e)), omega (arith, k.1, length-set ws at (served t.key d s)), k.2, All-set P ws at (served t.key d s) f k.3)

    -- a spare one gets a turn
    pub kept-new : (keys : List ℕ) (ws : List (Served S)) (sp rest : List S) (key d : ℕ) (old new : S) → sp ≡ rest ++ old ∷ [] → emptied new ≡ fresh → Kept keys ws sp → Kept (keys ++ key ∷ []) (ws ++ served key d new ∷ []) rest
    kept-new keys ws sp rest key d old new e f k =
        let P : Served S → Type 0 = λ (t : Served S). emptied t.source ≡ fresh in (
          ap (λ (z : List ℕ). z ++ key ∷ []) k.0 ∙ sym (map_push (λ (t : Served S). t.key) ws (served key d new)),
          omega (arith, k.1, ap length e, length-append rest (old ∷ []), length-append ws (served key d new ∷ [])),
          (All-pop (λ s. s ≡ fresh) sp rest (Some old) e k.2).0,
          All-push P ws (served key d new) k.3 f,
        )

    pub spare_is : (sp rest : List S) (old : S) → sp ≡ rest ++ old ∷ [] → All (λ s. s ≡ fresh) sp → old ≡ fresh
    spare_is sp rest old e k = (All-pop (λ s. s ≡ fresh) sp rest (Some old) e k).1

  pub emptied_at : (emptied : S → S) (fresh : S) (ws : List (Served S)) (at : ℕ) (t : Served S) → at < length ws → t ≡ get_or ws at t → All (λ (t : Served S). emptied t.source ≡ fresh) ws → emptied t.source ≡ fresh
  emptied_at emptied fresh ws at t n e k = subst (λ (z : Served S). emptied z.source ≡ fresh) (sym e) (k at t n)

pub All-of_map : {X Y : Type 0} (f : X → Y) (P : Y → Type 0) (xs : List X) → All P (map f xs) → All (λ x. P (f x)) xs
All-of_map f P xs h = All-from_recursion (λ x. P (f x)) xs (each-of_map f P xs (recursion_from_All P (map f xs) h))
