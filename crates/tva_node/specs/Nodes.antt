-- Crate: what a node keeps, which inputs it can take, and what memory holds of its past.
use Rattle.std.specs.Prelude.{◌≡◌, ℕ, ◌≤◌, List, [], ◌++◌, drop, length, map, Option, Some, None}
use Rattle.tva_base.specs.declared.event.Event.{Event}
use Rattle.tva_base.specs.declared.packet.Time.{Time}
use Rattle.tva_shim.specs.Packets.{IsCarried}
use Rattle.tva_plan.specs.declared.config.NodePlan.{NodePlan}
use Rattle.tva_plan.specs.declared.config.NodePlan.TheVariants as plans
use Rattle.tva_rows.specs.Valid.{IsFile}
use Rattle.tva_rows.specs.declared.rows.RowWhat.{RowWhat}
use Rattle.tva_rows.specs.declared.rows.RowWhat.TheVariants as rows
use Rattle.tva_run.specs.declared.kinds.Input.{Input}
use Rattle.tva_run.specs.declared.kinds.Input.TheVariants.{FromTrace, Arrival}
use Rattle.tva_run.specs.declared.kinds.Sending.{Sending}
use Rattle.tva_run.specs.Sites.{Site, site_of}
use Rattle.tva_run.specs.NodeLog.{in_turn}
use Rattle.tva_node.specs.declared.role.Role.{Role}
use Rattle.tva_node.specs.declared.role.Role.TheVariants as roles
use Rattle.tva_node.specs.declared.links.Link.{Link}
use Rattle.tva_waiting.specs.declared.memory.Memory.{Memory}
use Rattle.tva_waiting.specs.declared.memory.Memory.TheVariants as memory
use Rattle.tva_node.specs.declared.parts.Parts.{Parts}
use Rattle.tva_node.specs.Pairs.{link_pair}

-- ## what a node is

abbrev pub role_plan : Role → NodePlan
role_plan (roles.Router r) = plans.Router r.router.built
role_plan (roles.Host h) = plans.Host h.courier.host.plan

-- the restarts of a router's plan
abbrev pub restarts_in : NodePlan → List (Time × List ℕ)
restarts_in (plans.Router plan) = plan.restarts
restarts_in (plans.Host plan) = []

-- the number of a router
abbrev pub router_number : ℕ → NodePlan → Option ℕ
router_number number (plans.Router plan) = Some number
router_number number (plans.Host plan) = None

abbrev pub router_in : Site → Option ℕ
router_in site = router_number site.number site.plan

-- an input that a node can take: a row that sends is for a host
abbrev pub FitsRow : NodePlan → RowWhat → Type 0
FitsRow (plans.Router plan) (rows.Send dst payload) = ⊥
FitsRow (plans.Router plan) (rows.Inject flow payload carried) = (payload ≤ 1600) × IsCarried carried
FitsRow (plans.Router plan) (rows.File dst size segment) = ⊥
FitsRow (plans.Router plan) (rows.Tick dst) = ⊥
FitsRow (plans.Host plan) (rows.Send dst payload) = payload ≤ 1600
FitsRow (plans.Host plan) (rows.Inject flow payload carried) = (payload ≤ 1600) × IsCarried carried
FitsRow (plans.Host plan) (rows.File dst size segment) = IsFile size segment
FitsRow (plans.Host plan) (rows.Tick dst) = Unit {0}

abbrev pub Fits : NodePlan → Input → Type 0
Fits plan (FromTrace row) = FitsRow plan row.what
Fits plan (Arrival time link packet) = Unit {0}

-- ## a node

-- how many of a node's first inputs, events and sendings memory holds no more, and how many of its events were told and
-- of its sendings handed over
pub record Gone : Type 0 where
  pub inputs : ℕ
  pub events : ℕ
  pub sendings : ℕ
  pub told : ℕ
  pub sent : ℕ

-- a node: what it is, the horizon in nanoseconds, all inputs that it was given, all its events and sendings, the time
-- up to which it is worked; what memory keeps of these lists, and how much of them is gone; and what it keeps besides,
-- with the inputs that are not taken yet in the order of their taking
pub record NodeState : Type 0 where
  pub site : Site
  pub horizon : ℕ
  pub inbox : List Input
  pub events : List Event
  pub sendings : List Sending
  pub worked_to : ℕ
  pub keeps : Memory
  pub gone : Gone
  pub role : Role
  pub links : List Link
  pub waiting : List Input

abbrev pub site_at : Parts → Site
site_at p = site_of p.number (role_plan p.role) (map link_pair p.links)

abbrev pub gone_in : Parts → Gone
gone_in p =
    record { inputs = p.inbox.gone; events = p.log.gone; sendings = p.outbox.gone; told = p.log.told; sent = p.outbox.told }

abbrev pub state_of : Parts → NodeState
state_of p = record {
  site = site_at p;
  horizon = p.horizon;
  inbox = p.inbox.all;
  events = p.log.all;
  sendings = p.outbox.all;
  worked_to = p.worked_to;
  keeps = p.outbox.keeps;
  gone = gone_in p;
  role = p.role;
  links = p.links;
  waiting = p.waiting;
}

-- of all inputs in their order these are taken, and those wait
abbrev pub AreLeft : List Input → List Input → List Input → Type 0
AreLeft inbox taken waiting = in_turn inbox ≡ taken ++ waiting

-- ## what is told

-- nothing is gone or told
abbrev pub none_gone : Gone
none_gone = record { inputs = 0; events = 0; sendings = 0; told = 0; sent = 0 }

-- what was not told yet, and what was not handed over
abbrev pub news : NodeState → List Event
news v = drop v.gone.told v.events

abbrev pub unsent : NodeState → List Sending
unsent v = drop v.gone.sent v.sendings

-- all is told and handed over
abbrev pub all_told : NodeState → Gone
all_told v = record v.gone { told = length v.events; sent = length v.sendings }

-- the events are handed out, which are told then, and gone
abbrev pub all_given : NodeState → Gone
all_given v = record v.gone { events = length v.events; told = length v.events }

-- ## what memory holds

-- memory keeps all lists
abbrev pub KeepsAll : Memory → Type 0
KeepsAll memory.All = Unit {0}
KeepsAll memory.Nothing = ⊥

-- what is gone of a node's lists by what memory keeps of them; of inputs it keeps all or none
abbrev pub Holds : Memory → NodeState → Type 0
Holds memory.All v = (v.gone.inputs ≡ 0) × (v.gone.events ≡ 0) × (v.gone.sendings ≡ 0)
Holds memory.Nothing v = v.gone.inputs ≡ length v.inbox

-- what is gone once a node has told and handed over all, and forgotten what it need not keep
abbrev pub gone_by : Memory → NodeState → Gone
gone_by memory.All v = all_told v
gone_by memory.Nothing v = record (all_told v) { events = length v.events; sendings = length v.sendings }

abbrev pub gone_after : NodeState → Gone
gone_after v = gone_by v.keeps v
