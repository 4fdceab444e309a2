-- What a value that was read keeps: its range, its letters.
use Rattle.tva_config_entries.proofs.Common.{add-zero, pow_more, suc, ◌+◌, fold, option_and_then, as_str, ◌≡◌, ◌≤◌, ◌<◌, ◌^◌, ◌*◌, ℕ, List, [], ◌∷◌, length, Result, Ok, Err, Option, Some, None, IfSome, IfOk, All, refl, sym, ◌∙◌, arith, nat_tests, option_map, All-nil, Data, Items, no_items, item, Members, prefix_of, IsPrefix, Place, Read, required, optional, number, written, name_of, number_of_bytes, hex_nonce_of, items, few_items, IsName}
use Rattle.std.specs.Result.{result_ok}
use Rattle.hex.specs.Hex.{IsBytes, decode_sized}
use Rattle.hex.specs.declared.error.FromHexError.{FromHexError}
use Rattle.hex.proofs.HexLemmas.{decode_of-ok, decode_sized-ok, decode_sized-twice}
use Rattle.tva_config_entries.proofs.Prefixes.{prefix_valid}
use Rattle.tva_config_entries.proofs.Turns.{all_cons}

-- what is known of each value of a kind, and of what is read of a missing key, is known of what a key gives
required_valid : {A : Type 0} (P : A → Type 0) (kind : Data → Option A) (place : Place) (ms : Members) (key : List ℕ)
    → ((d : Data) → IfSome (kind d) P) → IfOk (required place ms key kind) P
unfolding required
required_valid P kind place ms key known = grind (arith, known)

optional_valid : {A : Type 0} (P : A → Type 0) (kind : Data → Option A) (place : Place) (ms : Members) (key : List ℕ) (default : A)
    → ((d : Data) → IfSome (kind d) P) → P default → IfOk (optional place ms key kind default) P
unfolding optional
optional_valid P kind place ms key default known usual = grind (arith, known)

-- what a step gives keeps P; the step stands first, where `grind` looks
abbrev pub Gives : {A : Type 0} → Read A → (A → Type 0) → Type 0
Gives r P = (r ≡ r) × IfOk r P

-- a number from low to high
abbrev pub IsWithin : ℕ → ℕ → ℕ → Type 0
IsWithin low high n = (low ≤ n) × (n ≤ high)

pub number_valid : (low high : ℕ) (d : Data) → IfSome (number low high d) (IsWithin low high)
number_valid low high d = grind (arith, nat_tests)

pub number_needed : (low high : ℕ) (p : Place) (ms : Members) (key : List ℕ) → Gives (required p ms key (number low high)) (IsWithin low high)
number_needed low high p ms key = (refl, required_valid (IsWithin low high) (number low high) p ms key (number_valid low high))

pub number_or : (low high default : ℕ) (p : Place) (ms : Members) (key : List ℕ) → low ≤ default → default ≤ high
    → Gives (optional p ms key (number low high) default) (IsWithin low high)
number_or low high default p ms key least most = (refl, optional_valid (IsWithin low high) (number low high) p ms key default (number_valid low high) (least, most))

-- a name
name_valid : (d : Data) → IfSome (written name_of d) IsName
name_valid d = grind (arith, nat_tests)

pub name_needed : (p : Place) (ms : Members) (key : List ℕ) → Gives (required p ms key (written name_of)) IsName
name_needed p ms key = (refl, required_valid IsName (written name_of) p ms key name_valid)

-- a prefix
prefix_kind_valid : (d : Data) → IfSome (written prefix_of d) IsPrefix
prefix_kind_valid d = grind (arith, prefix_valid)

pub prefix_needed : (p : Place) (ms : Members) (key : List ℕ) → Gives (required p ms key (written prefix_of)) IsPrefix
prefix_needed p ms key = (refl, required_valid IsPrefix (written prefix_of) p ms key prefix_kind_valid)

-- a nonce
bytes_below : (bytes : List ℕ) (n k : ℕ) → n < 256 ^ k → IsBytes bytes → fold (λ n b. n * 256 + b) n bytes < 256 ^ (k + length bytes)
bytes_below [] n k below small = rw add-zero below
bytes_below (b ∷ bs) n k below small =
    let first : b < 256 = small 0 in
    let more : n * 256 + b < 256 ^ (k + 1) = rw pow_more (omega arith) in
    let long : k + length (b ∷ bs) ≡ (k + 1) + length bs = omega arith in
    rw long (bytes_below bs (n * 256 + b) (k + 1) more (λ i. small (suc i)))

decoded_from : (text : List ℕ) (r : Result (List ℕ) FromHexError) → decode_sized text 6 ≡ r
    → IfSome (option_map number_of_bytes (result_ok r)) (λ n. n < 2 ^ 48)
decoded_from text (Err e) is = tt
decoded_from text (Ok bytes) is =
    let twice : length text ≡ 2 * 6 = decode_sized-ok text 6 bytes is in
    let (even, digits, long, small) = decode_of-ok text bytes (sym (decode_sized-twice text 6 twice) ∙ is) in
    let six : length bytes ≡ 6 = omega arith in
    rw six at (bytes_below bytes 0 0 (omega arith) small)

nonce_at : (o : Option (List ℕ)) → IfSome (option_and_then hex_nonce_of o) (λ n. n < 2 ^ 48)
nonce_at None = tt
nonce_at (Some text) = decoded_from text (decode_sized text 6) refl

pub nonce_or : (p : Place) (ms : Members) (key : List ℕ) → Gives (optional p ms key (written hex_nonce_of) 1) (λ n. n < 2 ^ 48)
nonce_or p ms key = (refl, optional_valid (λ n. n < 2 ^ 48) (written hex_nonce_of) p ms key 1 (λ d. nonce_at (as_str d)) (omega arith))

-- a short list
items_valid : {A : Type 0} (P : A → Type 0) (kind : Data → Option A) → ((d : Data) → IfSome (kind d) P) → (ds : Items) → IfSome (items kind ds) (All P)
items_valid P kind known no_items = All-nil P
items_valid P kind known (item d ds) = grind (arith, known, all_cons, items_valid P kind known ds)

few_valid : {A : Type 0} (P : A → Type 0) (kind : Data → Option A) → ((d : Data) → IfSome (kind d) P) → (d : Data) → IfSome (few_items kind d) (λ xs. (length xs ≤ 1024) × All P xs)
few_valid P kind known d = grind (arith, nat_tests, items_valid P kind known)

pub few_or : {A : Type 0} (P : A → Type 0) (kind : Data → Option A) (p : Place) (ms : Members) (key : List ℕ) → ((d : Data) → IfSome (kind d) P)
    → Gives (optional p ms key (few_items kind) []) (λ xs. (length xs ≤ 1024) × All P xs)
few_or P kind p ms key known = (refl, optional_valid (λ xs. (length xs ≤ 1024) × All P xs) (few_items kind) p ms key [] (few_valid P kind known) (omega arith, All-nil P))
