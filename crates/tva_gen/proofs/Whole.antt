-- A whole trace, with hosts and without.
use Rattle.tva_gen.proofs.Common.{◌≡◌, ◌∙◌, sym, ap, ℕ, ◌≤◌, List, ◌++◌, length, map, arith, length-map, Lcg, HostPlan, hosts_in, drawn_rows, generated, generator_of, header}
use Rattle.tva_plan.specs.declared.config.Config.{Config}
use Rattle.tva_gen.proofs.RowsPut.{with_hosts, without_hosts}

-- the hosts that were found are so many
count_of : {X : Type 0} (v : X → HostPlan) (hosts : List X) (seen : List HostPlan) → map v hosts ≡ seen → length seen ≡ length hosts
count_of v hosts seen e = ap length (sym e) ∙ length-map hosts v

pub header_alone : {X : Type 0} (v : X → HostPlan) (hosts : List X) (config : Config) (seed count : ℕ) (text : List ℕ) → map v hosts ≡ hosts_in config.nodes → length hosts ≤ 0 → text ≡ header → text ≡ generated config seed count
unfolding generated
header_alone v hosts config seed count text e none is =
    let same = count_of v hosts (hosts_in config.nodes) e in
    is ∙ without_hosts (hosts_in config.nodes) config.horizon.0 count (generator_of seed) header (omega arith)

pub header_and_rows : {X : Type 0} (v : X → HostPlan) (hosts : List X) (config : Config) (seed count : ℕ) (text all : List ℕ) (g : Lcg) → map v hosts ≡ hosts_in config.nodes → 1 ≤ length hosts → text ≡ header → g ≡ generator_of seed → all ≡ text ++ drawn_rows config.horizon.0 (map v hosts) count 0 g → all ≡ generated config seed count
unfolding generated
header_and_rows v hosts config seed count text all g e some is start put =
    let same = count_of v hosts (hosts_in config.nodes) e in
    let rows = with_hosts (hosts_in config.nodes) count (omega arith) in
    cc
