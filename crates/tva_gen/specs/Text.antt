-- Product: the text of a generated trace.
use Rattle.std.specs.Prelude.{ℕ, List, [], ◌∷◌, ◌++◌, codes}
use Rattle.rand_pcg.specs.{Lcg.Lcg, Lcg.increment_of, Lcg.started, Pcg.multiplier_64}
use Rattle.tva_base.specs.declared.plan.HostPlan.{HostPlan}
use Rattle.tva_plan.specs.declared.config.Config.{Config}
use Rattle.tva_gen.specs.{Hosts.hosts_in, Rows.joined, Rows.drawn_rows}

-- the names of the fields
abbrev pub header : List ℕ
header =
    joined (codes "time" ∷ codes "node" ∷ codes "kind" ∷ codes "src" ∷ codes "dst" ∷ codes "payload"
    ∷ codes "shim" ∷ [])

-- the generator of a seed, on stream 1
unfoldable pub generator_of : ℕ → Lcg
generator_of seed = started 64 multiplier_64 seed (increment_of 64 1)

-- a plan without hosts has no rows
abbrev pub row_count : List HostPlan → ℕ → ℕ
row_count [] count = 0
row_count (host ∷ hosts) count = count

-- the header and the rows, from time 0 on
unfoldable pub generated : Config → ℕ → ℕ → List ℕ
generated config seed count =
    header ++ drawn_rows config.horizon.0 (hosts_in config.nodes) (row_count (hosts_in config.nodes) count) 0
    (generator_of seed)
