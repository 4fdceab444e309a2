-- Product: what holds of every run that a replay or an audit can have, whatever it answers.
use Rattle.std.specs.Prelude.{◌≡◌, ℕ, List, All, Some}
use Rattle.tva_plan.specs.declared.config.Config.{Config}
use Rattle.tva_rows.specs.declared.rows.Row.{Row}
use Rattle.tva_trace.specs.Meaning.{AreRows}
use Rattle.tva_run.specs.Sites.{Site}
use Rattle.tva_run.specs.Reaching.{Logs, log_at, site_at}
use Rattle.tva_run.specs.Run.{IsRunTo}
use Rattle.tva_laws.specs.Promises.{KeepsPromises}
use Rattle.tva_laws.specs.Paths.{AreHonestRegular}
use Rattle.tva_laws.specs.Delivery.{KeepsFiles}
use Rattle.tva_audit.specs.Audit.{HasSums}
use Rattle.tva_audit.specs.Sums.{IsBelowLimit}
use Rattle.tva_audit.specs.declared.routers.RouterSum.{RouterSum}
use Rattle.tva.specs.Expected.{Expected, replays, audits}

-- it holds of the rows of a trace that is to be replayed, or whose report is to be audited
abbrev pub OfRows : (Config → List Row → Type 0) → Expected → Type 0
OfRows holds (replays plan trace) = (rows : List Row) → AreRows plan trace rows → holds plan rows
OfRows holds (audits plan trace report) = (rows : List Row) → AreRows plan trace rows → holds plan rows
OfRows holds x = Unit {0}

-- in every run up to any time the log of each node keeps its promises, a router's for each of its boots
abbrev pub EachKeepsPromises : Config → List Row → Type 0
EachKeepsPromises plan rows =
    (until : ℕ) (logs : Logs) → IsRunTo plan rows until logs
    → (node : ℕ) (site : Site) → site_at plan node ≡ Some site → KeepsPromises site until (log_at logs node)

-- in every such run, up to any time, what an honest sender shows is regular at each router to which its path is steady
abbrev pub EachTakesHonest : Config → List Row → Type 0
EachTakesHonest plan rows = (until : ℕ) (logs : Logs) → IsRunTo plan rows until logs → AreHonestRegular plan logs

-- in every such run, up to any time, each receiver delivers the ranges of a transfer in order and once, no more than
-- its file has, and no sender believes more than was delivered
abbrev pub EachKeepsFiles : Config → List Row → Type 0
EachKeepsFiles plan rows = (until : ℕ) (logs : Logs) → IsRunTo plan rows until logs → KeepsFiles plan logs

-- in the sums of each audited run the worst grant of each router has less than twice its units
abbrev pub AreSumsBelow : Expected → Type 0
AreSumsBelow (audits plan trace report) = (rows : List Row) → AreRows plan trace rows
    → (sums : List RouterSum) → HasSums plan rows sums → All IsBelowLimit sums
AreSumsBelow x = Unit {0}
