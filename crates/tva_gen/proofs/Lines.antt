-- Lines that were put in parts.
use Rattle.tva_gen.proofs.Common.{if◌then◌else◌, Ok, Err, OnOk, is_ok, ◌≡◌, ◌∙◌, ap, ℕ, List, [], ◌∷◌, ◌++◌, codes, append_assoc, arith, joined}
use Rattle.std.specs.declared.result.Result.{Result}

-- what was put where nothing failed
pub on_ok_put : {T E : Type 0} (r : Result T E) (now put before : List ℕ) → now ≡ (if is_ok r then put else before) → OnOk r (now ≡ put)
on_ok_put (Ok x) now put before e = e
on_ok_put (Err x) now put before e = tt

pub sent : (old time name goal bytes a b d e : List ℕ) → a ≡ (old ++ time) ++ 44 ∷ name → b ≡ a ++ codes ",send,," → d ≡ (b ++ goal) ++ 44 ∷ bytes → e ≡ d ++ codes ",\n" → e ≡ old ++ joined (time ∷ name ∷ codes "send" ∷ [] ∷ goal ∷ bytes ∷ [] ∷ [])
sent old time name goal bytes a b d e ea eb ed ee = grind (arith, append_assoc)

-- the part of a raw row's line behind the source
raw_end : (from goal bytes b c d e f : List ℕ) → c ≡ b ++ from → d ≡ c ++ 44 ∷ [] → e ≡ (d ++ goal) ++ 44 ∷ bytes → f ≡ e ++ codes ",100600\n" → f ≡ b ++ (from ++ 44 ∷ (goal ++ 44 ∷ (bytes ++ codes ",100600\n")))
raw_end from goal bytes b c d e f ec ed ee ef = grind (arith, append_assoc)

raw_start : (old time name rest a b f : List ℕ) → a ≡ (old ++ time) ++ 44 ∷ name → b ≡ a ++ codes ",raw," → f ≡ b ++ rest → f ≡ old ++ (time ++ 44 ∷ (name ++ (codes ",raw," ++ rest)))
raw_start old time name rest a b f ea eb ef = grind (arith, append_assoc)

ended : (time name from goal bytes : List ℕ) → time ++ 44 ∷ (name ++ (codes ",raw," ++ (from ++ 44 ∷ (goal ++ 44 ∷ (bytes ++ codes ",100600\n"))))) ≡ joined (time ∷ name ∷ codes "raw" ∷ from ∷ goal ∷ bytes ∷ codes "100600" ∷ [])
ended time name from goal bytes = grind (arith, append_assoc)

pub raw : (old time name from goal bytes a b c d e f : List ℕ) → a ≡ (old ++ time) ++ 44 ∷ name → b ≡ a ++ codes ",raw," → c ≡ b ++ from → d ≡ c ++ 44 ∷ [] → e ≡ (d ++ goal) ++ 44 ∷ bytes → f ≡ e ++ codes ",100600\n" → f ≡ old ++ joined (time ∷ name ∷ codes "raw" ∷ from ∷ goal ∷ bytes ∷ codes "100600" ∷ [])
raw old time name from goal bytes a b c d e f ea eb ec ed ee ef =
    raw_start old time name _ a b f ea eb (raw_end from goal bytes b c d e f ec ed ee ef) ∙ ap (λ t. old ++ t) (ended time name from goal bytes)
