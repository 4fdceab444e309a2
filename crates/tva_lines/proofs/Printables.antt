-- The texts of a report have printable bytes alone.
use Rattle.tva_lines.proofs.Common.{◌≡◌, inl, inr, ℕ, zero, suc, ◌+◌, ◌/◌, ◌%◌, ◌<◌, ◌≤◌, Bool, true, false, cond, List, [], ◌∷◌, ◌++◌, map, Option, Some, None, refl, ap, arith, ◌==◌, ◌&&◌, ◌||◌, nat_le, codes, decimal, slice_get, option_map_or, All, AllByRecursion, join_with_byte, list_all, All-append, All-cons, All-head, All-nil, All-tail, PacketId, Class, Cause, DropCause, Outcome, Queued, Dropped, ShapeKind, WhatKind, BackKind, Event, Happened, Arrived, Sent, Received, Started, Ticked, ReplyLine, DataLine, Totals, LinkPlan, IsPrintable, Config, NodePlan, is_name_byte, name_at, IsConfig, IsName, class_word, cause_word, drop_word, shape_word, what_word, back_word, name_of_node, name_before, name_behind, id_word, from_word, outcome_word, cause_or_dash, reply_word, range_words, happened_words, text_of_event, text_of_totals}
use Rattle.std.proofs.lemmas.Bool.{and_parts, eqb-true, le-leb, leb-true, or_cases}
use Rattle.std.specs.Fmt.{digit_glyph, digits, digits_onto}
use Rattle.tva_base.specs.declared.packet.Class.TheVariants as class
use Rattle.tva_base.specs.declared.packet.Cause.TheVariants as cause
use Rattle.tva_base.specs.declared.packet.DropCause.TheVariants as drop
use Rattle.tva_base.specs.declared.event.ShapeKind.TheVariants as shape
use Rattle.tva_base.specs.declared.event.WhatKind.TheVariants as what
use Rattle.tva_base.specs.declared.event.BackKind.TheVariants as back

abbrev IsPlain : List ℕ → Type 0
IsPlain text = All IsPrintable text

none : IsPlain []
none = All-nil IsPrintable

both : (a b : List ℕ) → IsPlain a → IsPlain b → IsPlain (a ++ b)
both a b p q = All-append IsPrintable a b p q

-- ---- texts that are written out

abbrev is_printable : ℕ → Bool
is_printable b = nat_le 32 b && nat_le b 126

between : (low b high : ℕ) → (nat_le low b && nat_le b high) ≡ true → (low ≤ b) × (b ≤ high)
between low b high t =
    let ends = and_parts (nat_le low b) (nat_le b high) t in
    (leb-true low b ends.0, leb-true b high ends.1)

tested : (text : List ℕ) → list_all is_printable text ≡ true → IsPlain text
tested [] t = none
tested (b ∷ bs) t =
    let parts = and_parts (is_printable b) (list_all is_printable bs) t in
    All-cons IsPrintable b bs (between 32 b 126 parts.0) (tested bs parts.1)

class_tested : (w : Class) → list_all is_printable (class_word w) ≡ true
class_tested class.Request = refl
class_tested class.Regular = refl
class_tested class.Legacy = refl

cause_tested : (w : Cause) → list_all is_printable (cause_word w) ≡ true
cause_tested cause.NoCapability = refl
cause_tested cause.Expired = refl
cause_tested cause.BadHash = refl
cause_tested cause.Superseded = refl
cause_tested cause.OverN = refl
cause_tested cause.CacheFull = refl
cause_tested cause.UnknownNonce = refl
cause_tested cause.PathFull = refl
cause_tested cause.Malformed = refl

drop_tested : (w : DropCause) → list_all is_printable (drop_word w) ≡ true
drop_tested drop.HopLimit = refl
drop_tested drop.NoRoute = refl
drop_tested drop.NoQueue = refl
drop_tested drop.QueueFull = refl

shape_tested : (w : ShapeKind) → list_all is_printable (shape_word w) ≡ true
shape_tested shape.Request = refl
shape_tested shape.List = refl
shape_tested shape.Nonce = refl
shape_tested shape.Renewal = refl
shape_tested shape.Legacy = refl
shape_tested shape.Trace = refl

what_tested : (w : WhatKind) → list_all is_printable (what_word w) ≡ true
what_tested what.Stray = refl
what_tested what.Demoted = refl
what_tested what.Request = refl
what_tested what.Renewal = refl
what_tested what.Regular = refl
what_tested what.Legacy = refl

back_tested : (w : BackKind) → list_all is_printable (back_word w) ≡ true
back_tested back.Nothing = refl
back_tested back.Notice = refl
back_tested back.Grant = refl
back_tested back.Ignored = refl

-- ---- numbers

either : (b : Bool) (x y : List ℕ) → IsPlain x → IsPlain y → IsPlain (cond b x y)
either true x y p q = p
either false x y p q = q

glyph : (d : ℕ) → d < 10 → IsPrintable (digit_glyph false d)
glyph d h =
    let is : digit_glyph false d ≡ 48 + d = ap (λ b. cond b (48 + d) (87 + d)) (le-leb (suc d) 10 h) in
    (omega (arith, is), omega (arith, is))

digits_plain : (k n : ℕ) (acc : List ℕ) → IsPlain acc → IsPlain (digits_onto k 10 false n acc)
digits_plain zero n acc p = p
digits_plain (suc k) n acc p =
    let last = digit_glyph false (n % 10) ∷ acc in
    let more = All-cons IsPrintable (digit_glyph false (n % 10)) acc (glyph (n % 10) (omega arith)) p in
    either (n / 10 == 0) last (digits_onto k 10 false (n / 10) last) more (digits_plain k (n / 10) last more)

decimal_plain : (n : ℕ) → IsPlain (decimal n)
unfolding digits
decimal_plain n = digits_plain 64 n [] none

-- ---- names

name_byte : (b : ℕ) → is_name_byte b ≡ true → IsPrintable b
name_byte b t =
    let upper : Bool = nat_le 65 b && nat_le b 90 in
    let lower : Bool = nat_le 97 b && nat_le b 122 in
    let digit : Bool = nat_le 48 b && nat_le b 57 in
    elim (or_cases (upper || lower || digit || (b == 95)) (b == 45) t) [
      | inl t1 ↦ elim (or_cases (upper || lower || digit) (b == 95) t1) [
        | inl t2 ↦ elim (or_cases (upper || lower) digit t2) [
          | inl t3 ↦ elim (or_cases upper lower t3) [
            | inl t4 ↦ (let h = between 65 b 90 t4 in (omega arith, omega arith))
            | inr t4 ↦ (let h = between 97 b 122 t4 in (omega arith, omega arith))
          ]
          | inr t3 ↦ (let h = between 48 b 57 t3 in (omega arith, omega arith))
        ]
        | inr t2 ↦ (let h = eqb-true b 95 t2 in (omega arith, omega arith))
      ]
      | inr t1 ↦ (let h = eqb-true b 45 t1 in (omega arith, omega arith))
    ]

name_plain : (text : List ℕ) → list_all is_name_byte text ≡ true → IsPlain text
name_plain [] t = none
name_plain (b ∷ bs) t =
    let parts = and_parts (is_name_byte b) (list_all is_name_byte bs) t in
    All-cons IsPrintable b bs (name_byte b parts.0) (name_plain bs parts.1)

named : (plans : List NodePlan) (number : ℕ) → All IsName (map name_at plans) → IsPlain (option_map_or name_at (slice_get plans number) [])
named [] number are = none
named (p ∷ ps) zero are = name_plain (name_at p) (All-head IsName (name_at p) (map name_at ps) are).bytes
named (p ∷ ps) (suc number) are = named ps number (All-tail IsName (name_at p) (map name_at ps) are)

node_plain : (config : Config) (number : ℕ) → IsConfig config → IsPlain (name_of_node config number)
node_plain config number valid = named config.nodes number valid.named

end_plain : (config : Config) (l : Option LinkPlan) (at : LinkPlan → ℕ) → IsConfig config → IsPlain (option_map_or (λ l. name_of_node config (at l)) l [])
end_plain config None at valid = none
end_plain config (Some l) at valid = node_plain config (at l) valid

before_plain : (config : Config) (link : ℕ) → IsConfig config → IsPlain (name_before config link)
before_plain config link valid = end_plain config (slice_get config.links link) (λ l. l.from) valid

behind_plain : (config : Config) (link : ℕ) → IsConfig config → IsPlain (name_behind config link)
behind_plain config link valid = end_plain config (slice_get config.links link) (λ l. l.to) valid

-- ---- words

id_plain : (config : Config) (id : PacketId) → IsConfig config → IsPlain (id_word config id)
id_plain config id valid =
    both (name_of_node config id.node ++ codes "#") (decimal id.ordinal)
    (both (name_of_node config id.node) (codes "#") (node_plain config id.node valid) (tested (codes "#") refl)) (decimal_plain id.ordinal)

from_plain : (config : Config) (from : Option ℕ) → IsConfig config → IsPlain (from_word config from)
from_plain config None valid = tested (codes "trace") refl
from_plain config (Some link) valid = before_plain config link valid

outcome_plain : (config : Config) (outcome : Outcome) → IsConfig config → IsPlain (outcome_word config outcome)
outcome_plain config (Queued link) valid = both (codes "queued:") (name_behind config link) (tested (codes "queued:") refl) (behind_plain config link valid)
outcome_plain config (Dropped why) valid = both (codes "dropped:") (drop_word why) (tested (codes "dropped:") refl) (tested (drop_word why) (drop_tested why))

cause_plain : (why : Option Cause) → IsPlain (cause_or_dash why)
cause_plain None = tested (codes "-") refl
cause_plain (Some why) = tested (cause_word why) (cause_tested why)

-- words that are joined by such a byte
joined : (c : ℕ) → IsPrintable c → (words : List (List ℕ)) → AllByRecursion IsPlain words → IsPlain (join_with_byte c words)
joined c p [] are = none
joined c p (x ∷ []) are = are.0
joined c p (x ∷ y ∷ ys) are =
    both x (c ∷ join_with_byte c (y ∷ ys)) are.0 (All-cons IsPrintable c (join_with_byte c (y ∷ ys)) p (joined c p (y ∷ ys) are.1))

reply_plain : (config : Config) (reply : Option ReplyLine) → IsConfig config → IsPlain (reply_word config reply)
reply_plain config None valid = tested (codes "-") refl
reply_plain config (Some r) valid =
    joined 47 (omega arith, omega arith)
    (id_word config r.id ∷ decimal r.length ∷ shape_word r.shape ∷ back_word r.back ∷ outcome_word config r.outcome ∷ []) (
      id_plain config r.id valid,
      (
        decimal_plain r.length,
        (
          tested (shape_word r.shape) (shape_tested r.shape),
          (tested (back_word r.back) (back_tested r.back), (outcome_plain config r.outcome valid, tt)),
        ),
      ),
    )

range_plain : (range : Option DataLine) → AllByRecursion IsPlain (range_words range)
range_plain None = tt
range_plain (Some r) = (
  joined 58 (omega arith, omega arith) (codes "data" ∷ decimal r.transfer ∷ decimal r.first ∷ decimal r.bytes ∷ [])
      (tested (codes "data") refl, (decimal_plain r.transfer, (decimal_plain r.first, (decimal_plain r.bytes, tt)))),
  tt,
)

happened_plain : (config : Config) (h : Happened) → IsConfig config → AllByRecursion IsPlain (happened_words config h)
happened_plain config (Arrived id bytes from fate) valid = (
  tested (codes "in") refl,
  (
    id_plain config id valid,
    (
      decimal_plain bytes,
      (
        from_plain config from valid,
        (tested (class_word fate.class) (class_tested fate.class), (cause_plain fate.cause, (outcome_plain config fate.outcome valid, tt))),
      ),
    ),
  ),
)
happened_plain config (Sent id bytes shape outcome) valid = (
  tested (codes "send") refl,
  (
    id_plain config id valid,
    (
      decimal_plain bytes,
      (tested (shape_word shape) (shape_tested shape), (outcome_plain config outcome valid, tt)),
    ),
  ),
)
happened_plain config (Received id bytes from payload what back reply range) valid = (
  tested (codes "recv") refl,
  (
    id_plain config id valid,
    (
      decimal_plain bytes,
      (
        before_plain config from valid,
        (tested (what_word what) (what_tested what), (tested (back_word back) (back_tested back), (reply_plain config reply valid, range_plain range))),
      ),
    ),
  ),
)
happened_plain config (Started id bytes link class end) valid = (
  tested (codes "start") refl,
  (
    id_plain config id valid,
    (
      decimal_plain bytes,
      (
        behind_plain config link valid,
        (tested (class_word class) (class_tested class), (decimal_plain end.0, tt)),
      ),
    ),
  ),
)
happened_plain config Ticked valid = (tested (codes "tick") refl, tt)

-- ---- texts

pub event_printable : (config : Config) (event : Event) → IsConfig config → All IsPrintable (text_of_event config event)
event_printable config event valid =
    joined 32 (omega arith, omega arith) (decimal event.time.0 ∷ name_of_node config event.node ∷ happened_words config event.happened)
    (decimal_plain event.time.0, (node_plain config event.node valid, happened_plain config event.happened valid))

counted : (name : List ℕ) (n : ℕ) → list_all is_printable name ≡ true → IsPlain (name ++ decimal n)
counted name n t = both name (decimal n) (tested name t) (decimal_plain n)

pub totals_printable : (t : Totals) → All IsPrintable (text_of_totals t)
totals_printable t =
    joined 32 (omega arith, omega arith)
    (codes "total" ∷ (codes "events=" ++ decimal t.events) ∷ (codes "routed=" ++ decimal t.routed)
    ∷ (codes "authorised=" ++ decimal t.authorised) ∷ (codes "demoted=" ++ decimal t.demoted)
    ∷ (codes "dropped=" ++ decimal t.dropped) ∷ (codes "started=" ++ decimal t.started)
    ∷ (codes "received=" ++ decimal t.received) ∷ (codes "bytes=" ++ decimal t.bytes) ∷ []) (
      tested (codes "total") refl,
      (
        counted (codes "events=") t.events refl,
        (
          counted (codes "routed=") t.routed refl,
          (
            counted (codes "authorised=") t.authorised refl,
            (
              counted (codes "demoted=") t.demoted refl,
              (
                counted (codes "dropped=") t.dropped refl,
                (counted (codes "started=") t.started refl, (counted (codes "received=") t.received refl, (counted (codes "bytes=") t.bytes refl, tt))),
              ),
            ),
          ),
        ),
      ),
    )
