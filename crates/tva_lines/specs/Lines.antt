-- Product: the lines of a report: each a text of words, joined by blanks, that a line feed ends.
use Rattle.std.specs.Prelude.{◌<◌, ◌^◌, ℕ, List, [], ◌∷◌, ◌++◌, length, All, Option, Some, None, codes, decimal, slice_get}
use Rattle.std.specs.{Option.option_map_or, List.join_with_byte}
use Rattle.tva_base.specs.declared.packet.{PacketId.PacketId, Outcome.TheVariants.Queued, Outcome.TheVariants.Dropped}
use Rattle.tva_base.specs.declared.event.{Event.Event, ReplyLine.ReplyLine, DataLine.DataLine, Totals.Totals}
use Rattle.tva_base.specs.declared.event.Happened.TheVariants.{Arrived, Sent, Received, Started, Ticked}
use Rattle.tva_base.specs.declared.packet.Cause as cause
use Rattle.tva_base.specs.declared.packet.Outcome as outcome
use Rattle.tva_base.specs.declared.event.Happened as happened
use Rattle.tva_plan.specs.{declared.config.Config.Config, Names.name_at}
use Rattle.tva_lines.specs.Words.{class_word, cause_word, drop_word, shape_word, what_word, back_word}

-- the name of the node with that number
abbrev pub name_of_node : Config → ℕ → List ℕ
name_of_node config number = option_map_or name_at (slice_get config.nodes number) []

-- the name of the node before a link, and of the node behind it
abbrev pub name_before : Config → ℕ → List ℕ
name_before config link = option_map_or (λ l. name_of_node config l.from) (slice_get config.links link) []

abbrev pub name_behind : Config → ℕ → List ℕ
name_behind config link = option_map_or (λ l. name_of_node config l.to) (slice_get config.links link) []

-- a packet's name: its node, `#` and its ordinal there
abbrev pub id_word : Config → PacketId → List ℕ
id_word config id = name_of_node config id.node ++ codes "#" ++ decimal id.ordinal

-- where a packet came from: the node before the link, or the trace
abbrev pub from_word : Config → Option ℕ → List ℕ
from_word config None = codes "trace"
from_word config (Some link) = name_before config link

abbrev pub outcome_word : Config → outcome.Outcome → List ℕ
outcome_word config (Queued link) = codes "queued:" ++ name_behind config link
outcome_word config (Dropped why) = codes "dropped:" ++ drop_word why

abbrev pub cause_or_dash : Option cause.Cause → List ℕ
cause_or_dash None = codes "-"
cause_or_dash (Some why) = cause_word why

-- a reply is one word, whose parts are joined by `/`
abbrev pub reply_word : Config → Option ReplyLine → List ℕ
reply_word config None = codes "-"
reply_word config (Some r) =
    join_with_byte 47
    (id_word config r.id ∷ decimal r.length ∷ shape_word r.shape ∷ back_word r.back
    ∷ outcome_word config r.outcome ∷ [])

-- a range that was delivered is one word more, whose numbers are joined by `:`
abbrev pub range_words : Option DataLine → List (List ℕ)
range_words None = []
range_words (Some r) =
    join_with_byte 58 (codes "data" ∷ decimal r.transfer ∷ decimal r.first ∷ decimal r.bytes ∷ []) ∷ []

-- the words of what happened
abbrev pub happened_words : Config → happened.Happened → List (List ℕ)
happened_words config (Arrived id bytes from fate) =
    codes "in" ∷ id_word config id ∷ decimal bytes ∷ from_word config from
    ∷ class_word fate.class ∷ cause_or_dash fate.cause ∷ outcome_word config fate.outcome ∷ []
happened_words config (Sent id bytes shape outcome) =
    codes "send" ∷ id_word config id ∷ decimal bytes ∷ shape_word shape ∷ outcome_word config outcome ∷ []
happened_words config (Received id bytes from payload what back reply range) =
    codes "recv" ∷ id_word config id ∷ decimal bytes ∷ name_before config from
    ∷ what_word what ∷ back_word back ∷ reply_word config reply ∷ range_words range
happened_words config (Started id bytes link class end) =
    codes "start" ∷ id_word config id ∷ decimal bytes ∷ name_behind config link ∷ class_word class ∷ decimal end.0 ∷ []
happened_words config Ticked = codes "tick" ∷ []

-- the text of an event, and that of the sums
abbrev pub text_of_event : Config → Event → List ℕ
text_of_event config event =
    join_with_byte 32 (decimal event.time.0 ∷ name_of_node config event.node ∷ happened_words config event.happened)

abbrev pub text_of_totals : Totals → List ℕ
text_of_totals t =
    join_with_byte 32
    (codes "total" ∷ (codes "events=" ++ decimal t.events) ∷ (codes "routed=" ++ decimal t.routed)
    ∷ (codes "authorised=" ++ decimal t.authorised) ∷ (codes "demoted=" ++ decimal t.demoted)
    ∷ (codes "dropped=" ++ decimal t.dropped) ∷ (codes "started=" ++ decimal t.started)
    ∷ (codes "received=" ++ decimal t.received) ∷ (codes "bytes=" ++ decimal t.bytes) ∷ [])

-- a text that a line feed ends
abbrev pub ended : List ℕ → List ℕ
ended text = text ++ codes "\n"

-- the line of an event, and the last line of a report
abbrev pub line_of : Config → Event → List ℕ
line_of config event = ended (text_of_event config event)

abbrev pub summary_of : Totals → List ℕ
summary_of t = ended (text_of_totals t)

-- which nodes and links a configuration has
abbrev pub HasNode : Config → ℕ → Type 0
HasNode config number = number < length config.nodes

abbrev pub HasLink : Config → ℕ → Type 0
HasLink config number = number < length config.links

-- each link has its two ends among the nodes
abbrev pub LinksJoinNodes : Config → Type 0
LinksJoinNodes config = All (λ l. HasNode config l.from × HasNode config l.to) config.links

abbrev pub HasOutcome : Config → outcome.Outcome → Type 0
HasOutcome config (Queued link) = HasLink config link
HasOutcome config (Dropped why) = Unit {0}

abbrev pub HasSource : Config → Option ℕ → Type 0
HasSource config None = Unit {0}
HasSource config (Some link) = HasLink config link

abbrev pub HasReply : Config → Option ReplyLine → Type 0
HasReply config None = Unit {0}
HasReply config (Some r) = HasNode config r.id.node × HasOutcome config r.outcome

abbrev pub HasHappened : Config → happened.Happened → Type 0
HasHappened config (Arrived id bytes from fate) =
    HasNode config id.node × HasSource config from × HasOutcome config fate.outcome
HasHappened config (Sent id bytes shape outcome) = HasNode config id.node × HasOutcome config outcome
HasHappened config (Received id bytes from payload what back reply range) =
    HasNode config id.node × HasLink config from × HasReply config reply
HasHappened config (Started id bytes link class end) = HasNode config id.node × HasLink config link
HasHappened config Ticked = Unit {0}

-- the nodes and links that an event names are the configuration's
abbrev pub HasEvent : Config → Event → Type 0
HasEvent config event = HasNode config event.node × HasHappened config event.happened

-- times and numbers of packets have 64 bits, and lengths 32
abbrev pub FitsId : PacketId → Type 0
FitsId id = id.ordinal < 2 ^ 64

abbrev pub FitsReply : Option ReplyLine → Type 0
FitsReply None = Unit {0}
FitsReply (Some r) = FitsId r.id × (r.length < 2 ^ 32)

-- numbers of transfers and lengths of ranges have 16 bits, and their places 32
abbrev pub FitsRange : Option DataLine → Type 0
FitsRange None = Unit {0}
FitsRange (Some r) = (r.transfer < 2 ^ 16) × (r.first < 2 ^ 32) × (r.bytes < 2 ^ 16)

abbrev pub FitsHappened : happened.Happened → Type 0
FitsHappened (Arrived id bytes from fate) = FitsId id × (bytes < 2 ^ 32)
FitsHappened (Sent id bytes shape outcome) = FitsId id × (bytes < 2 ^ 32)
FitsHappened (Received id bytes from payload what back reply range) =
    FitsId id × (bytes < 2 ^ 32) × FitsReply reply × FitsRange range
FitsHappened (Started id bytes link class end) = FitsId id × (bytes < 2 ^ 32) × (end.0 < 2 ^ 64)
FitsHappened Ticked = Unit {0}

-- the numbers of an event, and the sums, are within their widths
pub record FitsEvent (event : Event) : Type 0 where
  pub time : event.time.0 < 2 ^ 64
  pub happened : FitsHappened event.happened

pub record FitsTotals (t : Totals) : Type 0 where
  pub events : t.events < 2 ^ 64
  pub routed : t.routed < 2 ^ 64
  pub authorised : t.authorised < 2 ^ 64
  pub demoted : t.demoted < 2 ^ 64
  pub dropped : t.dropped < 2 ^ 64
  pub started : t.started < 2 ^ 64
  pub received : t.received < 2 ^ 64
  pub bytes : t.bytes < 2 ^ 64
