-- Crate: what nodes get, and what is posted to them of what was sent.
use Rattle.std.specs.Prelude.{◌≡◌, ℕ, ◌<◌, ◌≤◌, ◌==◌, ◌&&◌, nat_le, false, Bool, List, [], ◌++◌, All, flat_map, length, map, filter}
use Rattle.std.specs.Prelude.{slice_get, slice_index_or, if◌then◌else◌}
use Rattle.std.specs.Option.{option_map_or}
use Rattle.tva_base.specs.declared.plan.LinkPlan.{LinkPlan}
use Rattle.tva_run.specs.declared.kinds.Input.{Input}
use Rattle.tva_run.specs.declared.kinds.Sending.{Sending}
use Rattle.tva_run.specs.Entries.{input_time}
use Rattle.tva_node.specs.States.{NodeState, Fits, Stands, unsent}
use Rattle.tva_run.specs.Reaching.{arrival}
use Rattle.tva_net.specs.News.{HasNoNews}
use Rattle.tva_net.specs.Places.{ArePlaces, AreQuietElsewhere}
use Rattle.tva_net.specs.Times.{AreNoted}

-- ## what nodes get

-- an input that a node can be given: at the time up to which it is worked or later, up to the horizon, of its kind
pub record CanTake (v : NodeState) (input : Input) : Type 0 where
  pub late : v.worked_to ≤ input_time input
  pub within : input_time input ≤ v.horizon
  pub fits : Fits v.site.plan input

-- the node in that place can be given the input
pub record CanDeliver (nodes : List NodeState) (to : ℕ) (input : Input) : Type 0 where
  pub node : to < length nodes
  pub takes : (d : NodeState) → CanTake (slice_index_or nodes to d) input

-- what posting leaves of a node, whatever it answers: all but its inbox and what memory holds
pub record KeepsWork (old new : NodeState) : Type 0 where
  pub site : new.site ≡ old.site
  pub horizon : new.horizon ≡ old.horizon
  pub events : new.events ≡ old.events
  pub sendings : new.sendings ≡ old.sendings
  pub worked_to : new.worked_to ≡ old.worked_to
  pub keeps : new.keeps ≡ old.keeps
  pub news : HasNoNews old → HasNoNews new

-- nothing happened to nodes in other places
abbrev pub IsSameBut : ℕ → List NodeState → List NodeState → Type 0
IsSameBut place old new =
    (length new ≡ length old)
    × ((other : ℕ) (d : NodeState) → (other ≡ place → ⊥) → slice_index_or new other d ≡ slice_index_or old other d)

-- a node told or handed over what it has, and memory may have less of that; nothing else happened to it
pub record HandedOn (old new : NodeState) : Type 0 where
  pub same : new ≡ record old { gone = new.gone }
  pub news : HasNoNews old → HasNoNews new

-- the same, where it handed over none of its sendings
pub record HandedOut (old new : NodeState) : Type 0 where
  pub same : new ≡ record old { gone = record old.gone { events = new.gone.events; told = new.gone.told } }
  pub news : HasNoNews old → HasNoNews new

-- a node got this mail, and nothing else happened to it
pub record GotMail (mail : List Input) (old new : NodeState) : Type 0 where
  pub inbox : new.inbox ≡ old.inbox ++ mail
  pub stands : Stands old → Stands new
  pub keeps : KeepsWork old new

-- each of the nodes got its mail
pub record GotMails (mail : ℕ → List Input) (old new : List NodeState) : Type 0 where
  pub count : length new ≡ length old
  pub each : (n : ℕ) (d : NodeState) → n < length old
      → GotMail (mail n) (slice_index_or old n d) (slice_index_or new n d)

-- mail for one place alone
abbrev pub mail_at : ℕ → List Input → ℕ → List Input
mail_at to mail n = if to == n then mail else []

-- ## what was sent

-- the link on which a packet was sent ends at that node, and it arrives there by the horizon
abbrev pub goes_to : ℕ → List LinkPlan → ℕ → Sending → Bool
goes_to horizon links node sent =
    option_map_or (λ link. link.to == node) (slice_get links sent.link) false && nat_le sent.arrive.0 horizon

-- what arrives at a node by the horizon of what was sent
abbrev pub mail_to : ℕ → List LinkPlan → List Sending → ℕ → List Input
mail_to horizon links sent node = map arrival (filter (goes_to horizon links node) sent)

-- a packet can be posted: its link is one of these, and where it arrives by the horizon, the node there can take it
pub record IsPostable (horizon : ℕ) (links : List LinkPlan) (nodes : List NodeState) (sent : Sending) : Type 0 where
  pub link : sent.link < length links
  pub arrives : (d : LinkPlan) → sent.arrive.0 ≤ horizon
      → CanDeliver nodes (slice_index_or links sent.link d).to (arrival sent)

-- ## posting

-- what the nodes in these places sent can be posted: the others have no news, and it is noted when each has work next
pub record CanPost (horizon : ℕ) (links : List LinkPlan) (places times : List ℕ) (nodes : List NodeState) : Type 0 where
  pub few : length nodes ≤ 1024
  pub placed : ArePlaces (length nodes) places
  pub others : AreQuietElsewhere nodes places
  pub noted : AreNoted times nodes
  pub postable : All (IsPostable horizon links nodes) (flat_map unsent nodes)

-- it is posted: each node got what goes to it, has told and handed over all, and it is noted when it has work next
pub record HavePosted (horizon : ℕ) (links : List LinkPlan) (times : List ℕ) (old new : List NodeState) : Type 0 where
  pub got : GotMails (mail_to horizon links (flat_map unsent old)) old new
  pub told : All HasNoNews new
  pub noted : AreNoted times new
