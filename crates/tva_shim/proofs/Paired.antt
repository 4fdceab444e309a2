-- Entries whose tags and pre-capabilities stand in two lists.
use Rattle.tva_shim.proofs.Common.{◌≡◌, ℕ, ◌<◌, ◌≤◌, ◌+◌, ◌^◌, List, [], ◌∷◌, ◌++◌, length, get_or, map, take, refl, sym, ap, ◌∙◌, arith, length-append, min, length-take, length-take-le, take_all, take_more, All-nil, Entry, AreEntries, IsEntry, paired, nat_tests, common_steps}

paired_push : (tags precaps : List ℕ) (e : Entry) → length tags ≡ length precaps
    → paired (tags ++ e.tag ∷ []) (precaps ++ e.precap ∷ []) ≡ paired tags precaps ++ e ∷ []
paired_push [] [] e h = refl
paired_push (t ∷ ts) (p ∷ ps) e h = ap (λ rest. record { tag = t; precap = p } ∷ rest) (paired_push ts ps e (omega (arith, h)))
paired_push _ _ e h = absurd (omega (arith, h))

length_paired : (tags precaps : List ℕ) → length tags ≡ length precaps → length (paired tags precaps) ≡ length tags
length_paired [] [] h = refl
length_paired (t ∷ ts) (p ∷ ps) h = omega (arith, length_paired ts ps (omega (arith, h)))
length_paired _ _ h = absurd (omega (arith, h))

-- two empty lists
pub none_paired : (tags precaps : List ℕ) → tags ≡ [] → paired tags precaps ≡ []
none_paired tags precaps none = ap (λ list. paired list precaps) none

pub none_fit : (tags precaps : List ℕ) → tags ≡ [] → precaps ≡ [] → (length tags ≡ length precaps) × AreEntries (paired tags precaps)
none_fit tags precaps none nor = rw (none, nor) (refl, record { few = omega arith; each = All-nil IsEntry })

-- as many tags as entries
pub as_many : (tags precaps : List ℕ) (es : List Entry) → length tags ≡ length precaps → paired tags precaps ≡ es
    → length tags ≡ length es
as_many tags precaps es same view = sym (length_paired tags precaps same) ∙ ap length view

-- the tags of the entries
tags_of : (tags precaps : List ℕ) → length tags ≡ length precaps → map (λ (e : Entry). e.tag) (paired tags precaps) ≡ tags
tags_of [] [] h = refl
tags_of (t ∷ ts) (p ∷ ps) h = ap (λ rest. t ∷ rest) (tags_of ts ps (omega (arith, h)))
tags_of _ _ h = absurd (omega (arith, h))

pub tags_paired : (tags precaps : List ℕ) (es : List Entry) → length tags ≡ length precaps → paired tags precaps ≡ es
    → tags ≡ map (λ (e : Entry). e.tag) es
tags_paired tags precaps es same view = sym (tags_of tags precaps same) ∙ ap (map (λ (e : Entry). e.tag)) view

-- one entry more
pub paired_more : (tags precaps : List ℕ) (es : List Entry) (e : Entry) → length tags ≡ length precaps → paired tags precaps ≡ es
    → paired (tags ++ e.tag ∷ []) (precaps ++ e.precap ∷ []) ≡ es ++ e ∷ []
paired_more tags precaps es e same view = paired_push tags precaps e same ∙ ap (λ list. list ++ e ∷ []) view

-- where there is room
pub entries_more : (tags precaps : List ℕ) (es : List Entry) (e : Entry) → length tags ≡ length precaps → paired tags precaps ≡ es
    → AreEntries (paired tags precaps) → length es < 16 → e.tag < 2 ^ 16 → e.precap < 2 ^ 64
    → (length (tags ++ e.tag ∷ []) ≡ length (precaps ++ e.precap ∷ [])) × AreEntries (paired (tags ++ e.tag ∷ []) (precaps ++ e.precap ∷ []))
entries_more tags precaps es e same view entries room tag precap = grind (arith, common_steps, nat_tests, length-append, paired_push)

both_taken : (tags precaps : List ℕ) (place : ℕ) → length tags ≡ length precaps → length (take place tags) ≡ length (take place precaps)
both_taken tags precaps place same = length-take place tags ∙ ap (min place) same ∙ sym (length-take place precaps)

-- the entries up to a place are fewer than all
pub few_listed : (tags precaps : List ℕ) (list : List Entry) (place : ℕ) → length tags ≡ length precaps → place < length tags
    → list ≡ paired (take place tags) (take place precaps) → length list < length tags
few_listed tags precaps list place same within so_far = grind (arith, length_paired, both_taken, length-take-le)

-- all of them
pub all_listed : (tags precaps : List ℕ) (list es : List Entry) (place : ℕ) → length tags ≡ length precaps → length tags ≤ place
    → paired tags precaps ≡ es → list ≡ paired (take place tags) (take place precaps) → list ≡ es
all_listed tags precaps list es place same over view so_far = cc (take_all place tags over, take_all place precaps (omega (arith, same, over)))

-- the entries up to a place, and the one there
pub paired_step : (tags precaps : List ℕ) (list : List Entry) (place tag precap dt dp : ℕ) → length tags ≡ length precaps → place < length tags
    → list ≡ paired (take place tags) (take place precaps) → tag ≡ get_or tags place dt → precap ≡ get_or precaps place dp
    → list ++ record { tag = tag; precap = precap } ∷ [] ≡ paired (take (place + 1) tags) (take (place + 1) precaps)
paired_step tags precaps list place tag precap dt dp same within so_far is_tag is_precap =
    rw (take_more tags place dt within, take_more precaps place dp (omega (arith, same, within)), so_far, is_tag, is_precap)
    (sym (paired_push (take place tags) (take place precaps) (record { tag = get_or tags place dt; precap = get_or precaps place dp })
    (both_taken tags precaps place same)))
