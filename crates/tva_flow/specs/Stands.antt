-- Product: what a flow cache keeps, and for which charges it stands.
use Rattle.std.specs.Prelude.{◌≡◌, ℕ, ◌≤◌, false, if◌then◌else◌, List, [], ◌∷◌, ◌++◌, length, Option, Some, None, All}
use Rattle.std.specs.Prelude.{MatchBool}
use Rattle.tva_base.specs.declared.packet.Flow.{Flow}
use Rattle.tva_base.specs.declared.packet.Grant.{Grant}
use Rattle.tva_flow.specs.declared.hash.HashKey.{HashKey}
use Rattle.tva_flow.specs.declared.kept.Entry.{Entry}
use Rattle.tva_flow.specs.Charges.{Charge, same_flow, of_flow, end_of, is_living, run, bytes_of, last_charge}
use Rattle.tva_flow.specs.Verdicts.{IsAuthorised}

-- a cache: the key by which it finds flows, its slots, how far the router's clock is ahead and the last
-- time, both in nanoseconds, and the entries that are kept
pub record Cache : Type 0 where
  pub key : HashKey
  pub slots : ℕ
  pub offset : ℕ
  pub last : ℕ
  pub entries : List Entry

abbrev pub keyed : HashKey → ℕ → ℕ → ℕ → List Entry → Cache
keyed key slots offset last entries = record { key = key; slots = slots; offset = offset; last = last; entries = entries }

-- the key of caches that are given none
abbrev pub fixed_key : HashKey
fixed_key = record { src = 7640891576956012809; dst = 13503953896175478587; plus = 4354685564936845355 }

-- a cache under it
abbrev pub cache : ℕ → ℕ → ℕ → List Entry → Cache
cache slots offset last entries = keyed fixed_key slots offset last entries

-- the entry of a flow
abbrev pub entry_of : Flow → List Entry → Option Entry
entry_of f [] = None
entry_of f (e ∷ es) = if same_flow e.grant.flow f then Some e else entry_of f es

-- no two entries are of one flow
abbrev pub AreApart : List Entry → Type 0
AreApart [] = Unit {0}
AreApart (e ∷ es) = (entry_of e.grant.flow es ≡ None) × AreApart es

-- the entry has the end, the holder and the used bytes of a flow with these charges
pub record Holds (cs : List Charge) (e : Entry) : Type 0 where
  pub end : e.end ≡ end_of cs
  pub holder : (c : Charge) → last_charge cs ≡ Some c → (c.grant ≡ e.grant) × (c.nonce ≡ e.nonce)
  pub used : e.used ≡ bytes_of e.grant (run [] cs)

-- what is kept of a flow with these charges: of one that lives an entry that holds it, and of one
-- that doesn't live at most an entry that has ended
abbrev pub IsKept : Option Entry → List Charge → ℕ → Type 0
IsKept None cs last = is_living cs last ≡ false
IsKept (Some e) cs last = MatchBool (is_living cs last) (Holds cs e) (e.end ≤ last)

-- a packet that may be charged: its grant's T seconds and second, and its length in bytes
pub record IsChargeable (g : Grant) (bytes : ℕ) : Type 0 where
  pub seconds : 1 ≤ g.rights.t
  pub second : g.second ≤ 2000000
  pub length : (20 ≤ bytes) × (bytes ≤ 2048)

-- no charge is later than that
abbrev pub NoChargeLater : ℕ → List Charge → Type 0
NoChargeLater time h = All (λ c. c.time ≤ time) h

-- a charge of such a packet, which is no earlier than the charges before it and authorised over them
pub record IsNext (slots offset : ℕ) (before : List Charge) (c : Charge) : Type 0 where
  pub order : NoChargeLater c.time before
  pub packet : IsChargeable c.grant c.length
  pub authorised : IsAuthorised slots offset before c

-- after the charges before, each charge is the next one
abbrev pub AreNext : ℕ → ℕ → List Charge → List Charge → Type 0
AreNext slots offset before [] = Unit {0}
AreNext slots offset before (c ∷ cs) = IsNext slots offset before c × AreNext slots offset (before ++ c ∷ []) cs

-- entries stand for these charges: none is later than the last time, each is the next one after those
-- before it, each flow is kept by its one entry, and there are at most as many entries as slots
pub record StandFor (slots offset last : ℕ) (entries : List Entry) (h : List Charge) : Type 0 where
  pub past : NoChargeLater last h
  pub charges : AreNext slots offset [] h
  pub kept : (f : Flow) → IsKept (entry_of f entries) (of_flow f h) last
  pub apart : AreApart entries
  pub few : length entries ≤ slots

-- the cache stands for these charges, whatever its key
abbrev pub StandsFor : Cache → List Charge → Type 0
StandsFor v h = StandFor v.slots v.offset v.last v.entries h
