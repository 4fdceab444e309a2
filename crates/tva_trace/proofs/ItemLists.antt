-- The capabilities of items that are read in turn.
use Rattle.tva_trace.proofs.Common.{◌≡◌, ◌∙◌, sym, ap, refl, ℕ, ◌+◌, ◌<◌, ◌≤◌, List, [], ◌∷◌, ◌++◌, length, get_or, drop, drop-cons, append_assoc, Option, Some, None, cond, Bool, true, false, arith, add-one, inl, inr, le-leb, leb_tells, append-nil, drop_all, slice_split, ◌==◌, NodePlan, caps_of_items, each_of, few, item_of, items_in}
use Rattle.std.proofs.Common.{nat_le}
use Rattle.tva_base.specs.declared.packet.Flow.{Flow}
use Rattle.tva_base.specs.declared.packet.Rights.{Rights}
use Rattle.tva_base.specs.Options.{◌>>=◌}

-- capabilities behind those that were read
abbrev pub behind_caps : List ℕ → Option (List ℕ) → Option (List ℕ)
behind_caps caps None = None
behind_caps caps (Some more) = Some (caps ++ more)

-- all items give what those that are left give, behind what was read
abbrev pub IsReadTo : List NodePlan → Flow → Rights → List (List ℕ) → ℕ → List ℕ → Type 0
IsReadTo plans flow rights items n caps = each_of plans flow rights items ≡ behind_caps caps (each_of plans flow rights (drop n items))

above-not-le : (a b : ℕ) → b < a → nat_le a b ≡ false
above-not-le a b h = elim (leb_tells a b) [ inl t ↦ absurd (omega arith) | inr f ↦ f.0 ]

-- the items of a text that isn't empty
pub items_in-some : (text : List ℕ) → (length text == 0) ≡ false → items_in text ≡ slice_split (λ b. b == 59) text
items_in-some [] h = cc
items_in-some (b ∷ bs) h = refl

-- one item more
more : (caps : List ℕ) (cap : ℕ) (rest : Option (List ℕ)) → behind_caps caps (rest >>= (λ caps. Some (cap ∷ caps))) ≡ behind_caps (caps ++ cap ∷ []) rest
more caps cap None = refl
more caps cap (Some rest) = ap Some (sym (append_assoc caps (cap ∷ []) rest))

each_of-drop : (plans : List NodePlan) (flow : Flow) (rights : Rights) (items : List (List ℕ)) (n : ℕ) (item : List ℕ) → n < length items → item ≡ get_or items n item → each_of plans flow rights (drop n items) ≡ item_of plans flow rights item >>= (λ cap. each_of plans flow rights (drop (n + 1) items) >>= (λ caps. Some (cap ∷ caps)))
each_of-drop plans flow rights items n item h is = ap (each_of plans flow rights) (drop-cons items n item h) ∙ (rw (← is, add-one) refl)

pub read_more : (plans : List NodePlan) (flow : Flow) (rights : Rights) (items : List (List ℕ)) (n : ℕ) (item : List ℕ) (caps : List ℕ) (cap : ℕ) → n < length items → item ≡ get_or items n item → item_of plans flow rights item ≡ Some cap → IsReadTo plans flow rights items n caps → IsReadTo plans flow rights items (n + 1) (caps ++ cap ∷ [])
read_more plans flow rights items n item caps cap h is found done =
    done ∙ ap (behind_caps caps) (each_of-drop plans flow rights items n item h is ∙ ap (λ o. o >>= (λ cap. each_of plans flow rights (drop (n + 1) items) >>= (λ caps. Some (cap ∷ caps)))) found)
    ∙ more caps cap (each_of plans flow rights (drop (n + 1) items))

-- an item that is none
few_none : (b : Bool) (items : List (List ℕ)) (caps : Option (List ℕ)) (next : List (List ℕ) → Option (List ℕ)) → next items ≡ None → (cond b (Some items) None >>= next) ≡ None
few_none true items caps next h = h
few_none false items caps next h = refl

pub read_none : (plans : List NodePlan) (flow : Flow) (rights : Rights) (items : List (List ℕ)) (n : ℕ) (item : List ℕ) (caps : List ℕ) → n < length items → item ≡ get_or items n item → item_of plans flow rights item ≡ None → IsReadTo plans flow rights items n caps → (few items >>= each_of plans flow rights) ≡ None
read_none plans flow rights items n item caps h is none done =
    few_none (nat_le (length items) 16) items None (each_of plans flow rights)
    (done ∙ ap (behind_caps caps) (each_of-drop plans flow rights items n item h is ∙ ap (λ o. o >>= (λ cap. each_of plans flow rights (drop (n + 1) items) >>= (λ caps. Some (cap ∷ caps)))) none))

-- more items than there may be
pub too_many : (items : List (List ℕ)) (next : List (List ℕ) → Option (List ℕ)) → 16 < length items → (few items >>= next) ≡ None
too_many items next h = ap (λ b. cond b (Some items) None >>= next) (above-not-le (length items) 16 h)

-- all items were read
pub read_all : (plans : List NodePlan) (flow : Flow) (rights : Rights) (items : List (List ℕ)) (n : ℕ) (caps : List ℕ) → n ≡ length items → length items ≤ 16 → IsReadTo plans flow rights items n caps → (few items >>= each_of plans flow rights) ≡ Some caps
read_all plans flow rights items n caps end fits done =
    ap (λ b. cond b (Some items) None >>= each_of plans flow rights) (le-leb (length items) 16 fits)
    ∙ done ∙ ap (λ l. behind_caps caps (each_of plans flow rights l)) (drop_all n items (omega arith)) ∙ ap Some (append-nil caps)

-- a text that isn't empty has the capabilities of its items
pub caps_of_items-some : (plans : List NodePlan) (flow : Flow) (rights : Rights) (text : List ℕ) (caps : Option (List ℕ)) → (length text == 0) ≡ false → (few (slice_split (λ b. b == 59) text) >>= each_of plans flow rights) ≡ caps → caps_of_items plans flow rights text ≡ caps
unfolding caps_of_items
caps_of_items-some plans flow rights text caps some e = ap (λ items. few items >>= each_of plans flow rights) (items_in-some text some) ∙ e
