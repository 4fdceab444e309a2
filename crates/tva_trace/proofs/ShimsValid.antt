-- What the last field of a row says is a shim within its widths, or few bytes.
use Rattle.tva_trace.proofs.Common.{◌≡◌, ℕ, ◌^◌, ◌<◌, ◌≤◌, Bool, true, cond, List, [], ◌∷◌, length, Option, Some, None, Result, Ok, All, sym, ◌∙◌, subst, arith, NodePlan, caps_of_items, each_of, few, item_of, row_shim, IsSaidShim, nat_le, SaidShim}
use Rattle.std.proofs.Common.{◌/◌}
use Rattle.std.specs.Option.{option_map}
use Rattle.std.proofs.lemmas.Bool.{leb-true}
use Rattle.std.proofs.lemmas.List.Elements.{All-cons, All-nil}
use Rattle.std.proofs.lemmas.Option.{same_Some}
use Rattle.tva_base.specs.declared.packet.Flow.{Flow}
use Rattle.tva_base.specs.declared.packet.Rights.{Rights}
use Rattle.tva_base.specs.Addresses.{parted}
use Rattle.tva_base.specs.Decimal.{decimal_of, number_in}
use Rattle.tva_base.specs.Versions.{AreSomeRights, IsVersion, version_for}
use Rattle.tva_base.proofs.Widths.{least_rights}
use Rattle.tva_shim.specs.declared.kinds.Shown.{Shown}
use Rattle.tva_shim.specs.declared.kinds.Kind.{Kind}
use Rattle.tva_shim.specs.Widths.{IsCap, AreEntries, AreCaps}
use Rattle.tva_shim.specs.Shims.{IsKind, IsShown, IsShim, caps_of, entries_of}
use Rattle.tva_caps.proofs.Stamps.{capability_of-lt, precap_of-lt}
use Rattle.tva_trace.specs.Items.{decoded, hex_bytes_of, hex_number_of, item_in, minted_of, plain_shim, raw_of, rights_of, shown_of}
use Rattle.std.proofs.lemmas.Bool.Decides.{nat_tests}
use Rattle.byteorder.specs.Endian.{big_number}
use Rattle.byteorder.specs.Numbers.{big_from-lt}
use Rattle.hex.specs.Hex.{IsBytes, decode_sized}
use Rattle.hex.specs.declared.error.FromHexError.{FromHexError}
use Rattle.hex.proofs.HexLemmas.{decode_of-ok, decode_sized-ok, decode_sized-twice}
use Rattle.tva_base.specs.Options.{◌>>=◌}
use Rattle.tva_trace.specs.declared.rows.RowKind as kinds
use Rattle.tva_trace.specs.declared.rows.RowKind.TheVariants as kind
use Rattle.tva_shim.proofs.Nothing.{no_caps, no_entries}

-- ## steps that gave something

-- a chain of steps: each value is a variable where the next step is looked at
when_some : {A B : Type 0} (P : B → Type 0) (o : Option A) (next : A → Option B) (y : B)
    → (o >>= next) ≡ Some y → ((x : A) → o ≡ Some x → next x ≡ Some y → P y) → P y
when_some P o next y gave go = grind (arith, nat_tests)

when_mapped : {A B : Type 0} (P : B → Type 0) (f : A → B) (o : Option A) (y : B)
    → option_map f o ≡ Some y → ((x : A) → o ≡ Some x → P (f x)) → P y
when_mapped P f o y gave go = grind (arith, nat_tests, same_Some)

-- ## numbers

number_fits : (b : Bool) (v max n : ℕ) → (b ≡ true → v ≤ max) → cond b (Some v) None ≡ Some n → n ≤ max
number_fits b v max n fits gave = grind (arith, nat_tests, same_Some)

-- a number that is read is at most the greatest
pub decimal_fits : (text : List ℕ) (max n : ℕ) → decimal_of text max ≡ Some n → n ≤ max
unfolding decimal_of
decimal_fits text max n gave = grind (arith, nat_tests, nat_le (number_in text) max)

-- ## bytes

decoded_is : (r : Result (List ℕ) FromHexError) (bytes : List ℕ) → decoded r ≡ Some bytes → r ≡ Ok bytes
decoded_is r bytes gave = grind (arith, nat_tests, same_Some)

bytes_are : (count : ℕ) (text bytes : List ℕ) → hex_bytes_of count text ≡ Some bytes → (length bytes ≡ count) × IsBytes bytes
bytes_are count text bytes gave =
    let is : decode_sized text count ≡ Ok bytes = decoded_is (decode_sized text count) bytes gave in
    let twice = decode_sized-ok text count bytes is in
    grind (arith, nat_tests, decode_of-ok text bytes (sym (decode_sized-twice text count twice) ∙ is), decode_sized-twice text count twice)

-- a number in so many bytes
number_short : (count : ℕ) (text : List ℕ) (n : ℕ) → hex_number_of count text ≡ Some n → n < 256 ^ count
number_short count text n gave =
    when_mapped (λ (m : ℕ). m < 256 ^ count) (big_number count) (hex_bytes_of count text) n gave
    (λ bytes k. big_from-lt 0 count bytes (bytes_are count text bytes k).1)

raw_at : (b : Bool) (text bytes : List ℕ) → (b ≡ true → length text ≤ 800)
    → cond b (hex_bytes_of (length text / 2) text) None ≡ Some bytes → length bytes ≤ 400
raw_at b text bytes short gave = grind (arith, nat_tests, bytes_are)

raw_few : (text bytes : List ℕ) → raw_of text ≡ Some bytes → length bytes ≤ 400
unfolding raw_of
raw_few text bytes gave = raw_at (nat_le (length text) 800) text bytes (leb-true (length text) 800) gave

-- ## capabilities

few_at : (b : Bool) (all items : List (List ℕ)) → (b ≡ true → length all ≤ 16) → cond b (Some all) None ≡ Some items → length items ≤ 16
few_at b all items short gave = grind (arith, nat_tests, same_Some)

few_items : (all items : List (List ℕ)) → few all ≡ Some items → length items ≤ 16
few_items all items gave = few_at (nat_le (length all) 16) all items (leb-true (length all) 16) gave

each_long : (plans : List NodePlan) (flow : Flow) (rights : Rights) (items : List (List ℕ)) (caps : List ℕ)
    → each_of plans flow rights items ≡ Some caps → length caps ≡ length items
each_long plans flow rights [] caps gave = grind (arith, nat_tests, same_Some)
each_long plans flow rights (item ∷ items) caps gave =
    let Q : List ℕ → Type 0 = λ xs. length xs ≡ length (item ∷ items) in
    when_some Q (item_of plans flow rights item) _ caps gave (λ cap k1 g1.
    when_some Q (each_of plans flow rights items) _ caps g1 (λ more k2 g2.
    let shorter = each_long plans flow rights items more k2 in
    let longer : length (cap ∷ more) ≡ length (item ∷ items) = omega (arith, shorter) in
    subst Q (same_Some (cap ∷ more) caps g2) longer))

minted_fits : (plans : List NodePlan) (flow : Flow) (rights : Rights) (parts : List ℕ × List ℕ) (cap : ℕ) → minted_of plans flow rights parts ≡ Some cap → IsCap cap
unfolding minted_of
minted_fits plans flow rights parts cap gave = grind (arith, nat_tests, when_some, same_Some, capability_of-lt, precap_of-lt)

item_in_fits : (plans : List NodePlan) (flow : Flow) (rights : Rights) (text : List ℕ) (parts : Option (List ℕ × List ℕ)) (cap : ℕ) → item_in plans flow rights text parts ≡ Some cap → IsCap cap
item_in_fits plans flow rights text parts cap gave = grind (arith, nat_tests, number_short, minted_fits)

item_fits : (plans : List NodePlan) (flow : Flow) (rights : Rights) (text : List ℕ) (cap : ℕ) → item_of plans flow rights text ≡ Some cap → IsCap cap
unfolding item_of
item_fits plans flow rights text cap gave = item_in_fits plans flow rights text (parted 64 text) cap gave

each_fits : (plans : List NodePlan) (flow : Flow) (rights : Rights) (items : List (List ℕ)) (caps : List ℕ)
    → each_of plans flow rights items ≡ Some caps → All IsCap caps
each_fits plans flow rights [] caps gave = subst (All IsCap) (same_Some [] caps gave) (All-nil IsCap)
each_fits plans flow rights (item ∷ items) caps gave =
    when_some (All IsCap) (item_of plans flow rights item) _ caps gave (λ cap k1 g1.
    when_some (All IsCap) (each_of plans flow rights items) _ caps g1 (λ more k2 g2.
    let all : All IsCap (cap ∷ more) = All-cons IsCap cap more (item_fits plans flow rights item cap k1) (each_fits plans flow rights items more k2) in
    subst (All IsCap) (same_Some (cap ∷ more) caps g2) all))

caps_fit : (plans : List NodePlan) (flow : Flow) (rights : Rights) (text caps : List ℕ) → caps_of_items plans flow rights text ≡ Some caps → AreCaps caps
unfolding caps_of_items
caps_fit plans flow rights text caps gave = grind (arith, nat_tests, when_some, each_long, each_fits)

-- ## rights

rights_fit : (units seconds : List ℕ) (rights : Rights) → rights_of units seconds ≡ Some rights → AreSomeRights rights
unfolding rights_of
rights_fit units seconds rights gave = grind (arith, nat_tests, when_some, decimal_fits, same_Some)

-- what is shown has the widths of version 2
record AreShown (s : Shown) : Type 0 where
  shows : IsShown 2 s
  caps : AreCaps s.caps

shown_fits : (plans : List NodePlan) (flow : Flow) (text : List ℕ) (s : Shown) → shown_of plans flow text ≡ Some s → AreShown s
unfolding shown_of
shown_fits plans flow text s gave = grind (arith, nat_tests, when_some, number_short, decimal_fits, rights_fit, caps_fit, same_Some)

-- ## shims

-- the least version for the rights can carry what is shown
least_shown : (s : Shown) → AreShown s → IsShown (version_for s.rights) s
least_shown s k = record { nonce = k.shows.nonce; pointer = k.shows.pointer; rights = least_rights s.rights k.shows.rights }

plain_fits : (version : ℕ) (kind : Kind) → IsVersion version → IsKind version kind → AreEntries (entries_of kind) → AreCaps (caps_of kind)
    → IsShim (plain_shim version kind)
plain_fits version kind v k es cs = grind (arith, nat_tests, no_caps)

pub shim_fits : (plans : List NodePlan) (k : kinds.RowKind) (flow : Flow) (text : List ℕ) (s : SaidShim)
    → row_shim plans k flow text ≡ Some s → IsSaidShim s
unfolding row_shim
shim_fits plans k flow text s gave = grind (arith, nat_tests, when_mapped, raw_few, shown_fits, plain_fits, least_shown, no_entries, number_short, no_caps)
