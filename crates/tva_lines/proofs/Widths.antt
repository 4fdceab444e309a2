-- The texts of a report are short.
use Rattle.tva_lines.proofs.Common.{ℕ, zero, suc, ◌+◌, ◌^◌, ◌<◌, ◌≤◌, List, [], ◌∷◌, ◌++◌, length, map, Option, Some, None, arith, length-append, codes, decimal, slice_get, option_map_or, join_with_byte, All-head, All-tail, PacketId, Class, Cause, DropCause, Outcome, Queued, Dropped, ShapeKind, WhatKind, BackKind, Event, Happened, Arrived, Sent, Received, Started, Ticked, ReplyLine, DataLine, Totals, LinkPlan, IsLine, Config, NodePlan, name_at, IsConfig, IsName, class_word, drop_word, shape_word, what_word, back_word, FitsEvent, FitsHappened, FitsId, FitsRange, FitsReply, FitsTotals, name_of_node, name_before, name_behind, id_word, from_word, outcome_word, cause_or_dash, reply_word, range_words, happened_words, text_of_event, text_of_totals}
use Rattle.std.specs.Prelude.{All}
use Rattle.std.proofs.lemmas.Fmt.{length-decimal-le}
use Rattle.tva_base.specs.declared.packet.Class.TheVariants as class
use Rattle.tva_base.specs.declared.packet.Cause.TheVariants as cause
use Rattle.tva_base.specs.declared.packet.DropCause.TheVariants as drop
use Rattle.tva_base.specs.declared.event.ShapeKind.TheVariants as shape
use Rattle.tva_base.specs.declared.event.WhatKind.TheVariants as what
use Rattle.tva_base.specs.declared.event.BackKind.TheVariants as back
use Rattle.tva_lines.proofs.Printables.{event_printable, totals_printable}

-- ---- words

class_short : (w : Class) → length (class_word w) ≤ 7
class_short class.Request = omega arith
class_short class.Regular = omega arith
class_short class.Legacy = omega arith

cause_short : (w : Option Cause) → length (cause_or_dash w) ≤ 13
cause_short None = omega arith
cause_short (Some cause.NoCapability) = omega arith
cause_short (Some cause.Expired) = omega arith
cause_short (Some cause.BadHash) = omega arith
cause_short (Some cause.Superseded) = omega arith
cause_short (Some cause.OverN) = omega arith
cause_short (Some cause.CacheFull) = omega arith
cause_short (Some cause.UnknownNonce) = omega arith
cause_short (Some cause.PathFull) = omega arith
cause_short (Some cause.Malformed) = omega arith

drop_short : (w : DropCause) → length (drop_word w) ≤ 10
drop_short drop.HopLimit = omega arith
drop_short drop.NoRoute = omega arith
drop_short drop.NoQueue = omega arith
drop_short drop.QueueFull = omega arith

shape_short : (w : ShapeKind) → length (shape_word w) ≤ 7
shape_short shape.Request = omega arith
shape_short shape.List = omega arith
shape_short shape.Nonce = omega arith
shape_short shape.Renewal = omega arith
shape_short shape.Legacy = omega arith
shape_short shape.Trace = omega arith

what_short : (w : WhatKind) → length (what_word w) ≤ 7
what_short what.Stray = omega arith
what_short what.Demoted = omega arith
what_short what.Request = omega arith
what_short what.Renewal = omega arith
what_short what.Regular = omega arith
what_short what.Legacy = omega arith

back_short : (w : BackKind) → length (back_word w) ≤ 7
back_short back.Nothing = omega arith
back_short back.Notice = omega arith
back_short back.Grant = omega arith
back_short back.Ignored = omega arith

number_short : (n : ℕ) → n < 2 ^ 64 → length (decimal n) ≤ 20
number_short n h = length-decimal-le 20 n (omega arith) (omega arith) h

length_short : (n : ℕ) → n < 2 ^ 32 → length (decimal n) ≤ 10
length_short n h = length-decimal-le 10 n (omega arith) (omega arith) (omega arith)

short_short : (n : ℕ) → n < 2 ^ 16 → length (decimal n) ≤ 5
short_short n h = length-decimal-le 5 n (omega arith) (omega arith) (omega arith)

-- ---- names

named : (plans : List NodePlan) (number : ℕ) → All IsName (map name_at plans) → length (option_map_or name_at (slice_get plans number) []) ≤ 16
named [] number are = omega arith
named (p ∷ ps) zero are = (All-head IsName (name_at p) (map name_at ps) are).size.1
named (p ∷ ps) (suc number) are = named ps number (All-tail IsName (name_at p) (map name_at ps) are)

node_short : (config : Config) (number : ℕ) → IsConfig config → length (name_of_node config number) ≤ 16
node_short config number valid = named config.nodes number valid.named

end_short : (config : Config) (l : Option LinkPlan) (at : LinkPlan → ℕ) → IsConfig config → length (option_map_or (λ l. name_of_node config (at l)) l []) ≤ 16
end_short config None at valid = omega arith
end_short config (Some l) at valid = node_short config (at l) valid

before_short : (config : Config) (link : ℕ) → IsConfig config → length (name_before config link) ≤ 16
before_short config link valid = end_short config (slice_get config.links link) (λ l. l.from) valid

behind_short : (config : Config) (link : ℕ) → IsConfig config → length (name_behind config link) ≤ 16
behind_short config link valid = end_short config (slice_get config.links link) (λ l. l.to) valid

id_short : (config : Config) (id : PacketId) → IsConfig config → FitsId id → length (id_word config id) ≤ 37
id_short config id valid fits =
    simp length-append (omega (arith, node_short config id.node valid, number_short id.ordinal fits))

from_short : (config : Config) (from : Option ℕ) → IsConfig config → length (from_word config from) ≤ 16
from_short config None valid = omega arith
from_short config (Some link) valid = before_short config link valid

outcome_short : (config : Config) (outcome : Outcome) → IsConfig config → length (outcome_word config outcome) ≤ 23
outcome_short config (Queued link) valid = omega (arith, behind_short config link valid)
outcome_short config (Dropped why) valid = omega (arith, drop_short why)

-- ---- texts

-- the lengths of words, each with one byte more
abbrev spaced_length : List (List ℕ) → ℕ
spaced_length [] = 0
spaced_length (word ∷ words) = length word + 1 + spaced_length words

joined : (c : ℕ) (words : List (List ℕ)) → length (join_with_byte c words) ≤ spaced_length words
joined c [] = omega arith
joined c (x ∷ []) = omega arith
joined c (x ∷ y ∷ ys) = omega (arith, length-append x (c ∷ join_with_byte c (y ∷ ys)), joined c (y ∷ ys))

reply_short : (config : Config) (reply : Option ReplyLine) → IsConfig config → FitsReply reply → length (reply_word config reply) ≤ 89
reply_short config None valid fits = omega arith
reply_short config (Some r) valid fits =
    omega (
      arith,
      joined 47 (id_word config r.id ∷ decimal r.length ∷ shape_word r.shape ∷ back_word r.back ∷ outcome_word config r.outcome ∷ []),
      id_short config r.id valid fits.0,
      length_short r.length fits.1,
      shape_short r.shape,
      back_short r.back,
      outcome_short config r.outcome valid,
    )

range_short : (range : Option DataLine) → FitsRange range → spaced_length (range_words range) ≤ 29
range_short None fits = omega arith
range_short (Some r) fits =
    omega (
      arith,
      joined 58 (codes "data" ∷ decimal r.transfer ∷ decimal r.first ∷ decimal r.bytes ∷ []),
      short_short r.transfer fits.0,
      length_short r.first fits.1,
      short_short r.bytes fits.2,
    )

happened_short : (config : Config) (h : Happened) → IsConfig config → FitsHappened h → spaced_length (happened_words config h) ≤ 207
happened_short config (Arrived id bytes from fate) valid fits =
    omega (arith, id_short config id valid fits.0, length_short bytes fits.1, from_short config from valid, class_short fate.class, cause_short fate.cause, outcome_short config fate.outcome valid)
happened_short config (Sent id bytes shape outcome) valid fits =
    omega (arith, id_short config id valid fits.0, length_short bytes fits.1, shape_short shape, outcome_short config outcome valid)
happened_short config (Received id bytes from payload what back reply range) valid fits =
    omega (arith, id_short config id valid fits.0, length_short bytes fits.1, before_short config from valid, what_short what, back_short back, reply_short config reply valid fits.2, range_short range fits.3)
happened_short config (Started id bytes link class end) valid fits =
    omega (arith, id_short config id valid fits.0, length_short bytes fits.1, behind_short config link valid, class_short class, number_short end.0 fits.2)
happened_short config Ticked valid fits = omega arith

pub event_some : (config : Config) (event : Event) → 1 ≤ length (text_of_event config event)
event_some config event = simp length-append (omega arith)

pub event_line : (config : Config) (event : Event) → IsConfig config → FitsEvent event → IsLine (text_of_event config event)
event_line config event valid fits = record {
  some = event_some config event;
  short = omega (
    arith,
    joined 32 (decimal event.time.0 ∷ name_of_node config event.node ∷ happened_words config event.happened),
    number_short event.time.0 fits.time,
    node_short config event.node valid,
    happened_short config event.happened valid fits.happened,
  );
  printable = event_printable config event valid;
}

pub totals_some : (t : Totals) → 1 ≤ length (text_of_totals t)
totals_some t = omega arith

counted : (n : ℕ) (name : List ℕ) → n < 2 ^ 64 → length (name ++ decimal n) ≤ length name + 20
counted n name h = omega (arith, length-append name (decimal n), number_short n h)

pub totals_line : (t : Totals) → FitsTotals t → IsLine (text_of_totals t)
totals_line t fits = record {
  some = totals_some t;
  short = omega (
    arith,
    joined 32
        (codes "total" ∷ (codes "events=" ++ decimal t.events) ∷ (codes "routed=" ++ decimal t.routed)
        ∷ (codes "authorised=" ++ decimal t.authorised) ∷ (codes "demoted=" ++ decimal t.demoted)
        ∷ (codes "dropped=" ++ decimal t.dropped) ∷ (codes "started=" ++ decimal t.started)
        ∷ (codes "received=" ++ decimal t.received) ∷ (codes "bytes=" ++ decimal t.bytes) ∷ []),
    counted t.events (codes "events=") fits.events,
    counted t.routed (codes "routed=") fits.routed,
    counted t.authorised (codes "authorised=") fits.authorised,
    counted t.demoted (codes "demoted=") fits.demoted,
    counted t.dropped (codes "dropped=") fits.dropped,
    counted t.started (codes "started=") fits.started,
    counted t.received (codes "received=") fits.received,
    counted t.bytes (codes "bytes=") fits.bytes,
  );
  printable = totals_printable t;
}
