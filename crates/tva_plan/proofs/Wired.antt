-- What a valid configuration says of the node of a number: its plan, and its links.
use Rattle.tva_plan.proofs.Common.{◌≡◌, ◌≤◌, ◌==◌, ℕ, zero, suc, ◌+◌, Bool, true, false, cond, List, [], ◌∷◌, length, slice_get, Option, Some, None, All, Contains, refl, ap, sym, ◌∙◌, subst, arith, is_host_plan}
use Rattle.std.specs.List.{cons_option}
use Rattle.std.proofs.lemmas.Bool.{eqb-true, eq-eqb}
use Rattle.std.proofs.lemmas.Option.{slice_get_within, get_or_from_slice_get}
use Rattle.tva_base.specs.declared.plan.LinkPlan.{LinkPlan}
use Rattle.tva_base.specs.declared.plan.RouterPlan.{RouterPlan}
use Rattle.tva_base.specs.declared.plan.HostPlan.{HostPlan}
use Rattle.tva_base.specs.Plan.{IsRouterPlan, IsHostPlan}
use Rattle.tva_plan.specs.declared.config.Config.{Config}
use Rattle.tva_plan.specs.declared.config.NodePlan as nodes
use Rattle.tva_plan.specs.declared.config.NodePlan.TheVariants as node
use Rattle.tva_plan.specs.Wiring.{picked, number_from, links_from, incoming_of, outgoing_of}
use Rattle.tva_plan.specs.Valid.{IsNodePlan, IsLinkPlan, IsWired, AreWired, AreRoutersFirst, IsConfig}

-- what holds of all elements holds of the one at a place
pub all_here : {A : Type 0} (P : A → Type 0) (xs : List A) (n : ℕ) (x : A) → All P xs → slice_get xs n ≡ Some x → P x
all_here P xs n x all here = subst P (get_or_from_slice_get xs n x x here) (all n x (slice_get_within xs n x here))

wired_here : (links : List LinkPlan) (k : ℕ) (ps : List nodes.NodePlan) (n : ℕ) (p : nodes.NodePlan)
    → AreWired links k ps → slice_get ps n ≡ Some p → IsWired links (k + n) p
wired_here links k [] n p wired here = absurd (cc)
wired_here links k (q ∷ ps) zero p wired here =
    let same : q ≡ p = cc in
    let start : k ≡ k + 0 = omega arith in
    subst (λ m. IsWired links m p) start (subst (IsWired links k) same wired.0)
wired_here links k (q ∷ ps) (suc n) p wired here =
    let further : (k + 1) + n ≡ k + suc n = omega arith in
    subst (λ m. IsWired links m p) further (wired_here links (k + 1) ps n p wired.1 here)

node_wired : (c : Config) (n : ℕ) (p : nodes.NodePlan) → IsConfig c → slice_get c.nodes n ≡ Some p → IsWired c.links n p
node_wired c n p valid here =
    let same : 0 + n ≡ n = omega arith in
    subst (λ m. IsWired c.links m p) same (wired_here c.links 0 c.nodes n p valid.wired here)

-- the plan of a router: it can be built, and has the links of the list that begin or end there
pub record IsRouterAt (c : Config) (n : ℕ) (p : RouterPlan) : Type 0 where
  pub plan : IsRouterPlan p
  pub incoming : p.incoming ≡ incoming_of n c.links
  pub outgoing : p.outgoing ≡ outgoing_of n c.links

pub router_at : (c : Config) (n : ℕ) (p : RouterPlan) → IsConfig c → slice_get c.nodes n ≡ Some (node.Router p) → IsRouterAt c n p
router_at c n p valid here =
    let wired = node_wired c n (node.Router p) valid here in
    record {
      plan = all_here IsNodePlan c.nodes n (node.Router p) valid.nodes here;
      incoming = wired.0;
      outgoing = wired.1;
    }

-- the first number that is picked is that of a link from the node
begins_at : (n k : ℕ) (l : LinkPlan) (ls : List LinkPlan) (u : ℕ) (rest : List ℕ) (b : Bool) → (l.from == n) ≡ b
    → (picked (number_from n) (k + 1) ls ≡ u ∷ rest → (i : ℕ) × (m : LinkPlan) × (slice_get ls i ≡ Some m) × (m.from ≡ n) × (u ≡ (k + 1) + i))
    → cons_option (cond b (Some k) None) (picked (number_from n) (k + 1) ls) ≡ u ∷ rest
    → (i : ℕ) × (m : LinkPlan) × (slice_get (l ∷ ls) i ≡ Some m) × (m.from ≡ n) × (u ≡ k + i)
begins_at n k l ls u rest true is more gave =
    let first : k ≡ u = cc in
    (0, l, refl, eqb-true l.from n is, omega arith)
begins_at n k l ls u rest false is more gave =
    let (i, m, here, from, far) = more gave in
    (suc i, m, here, from, omega arith)

begins : (n k : ℕ) (links : List LinkPlan) (u : ℕ) (rest : List ℕ) → picked (number_from n) k links ≡ u ∷ rest
    → (i : ℕ) × (m : LinkPlan) × (slice_get links i ≡ Some m) × (m.from ≡ n) × (u ≡ k + i)
begins n k [] u rest gave = absurd (cc)
begins n k (l ∷ ls) u rest gave = begins_at n k l ls u rest (l.from == n) refl (begins n (k + 1) ls u rest) gave

-- the number of each link from the node is picked
picked_first : (n k : ℕ) (l : LinkPlan) (rest : List ℕ) (b : Bool) → (l.from == n) ≡ b → b ≡ true
    → Contains (cons_option (cond b (Some k) None) rest) k
picked_first n k l rest true is holds = (0, omega arith, refl)
picked_first n k l rest false is holds = absurd (cc)

picked_more : (x : ℕ) (o : Option ℕ) (rest : List ℕ) → Contains rest x → Contains (cons_option o rest) x
picked_more x None rest there = there
picked_more x (Some y) rest (j, within, is) = (suc j, omega arith, is)

picks : (n k : ℕ) (links : List LinkPlan) (i : ℕ) (m : LinkPlan) → slice_get links i ≡ Some m → m.from ≡ n
    → Contains (picked (number_from n) k links) (k + i)
picks n k [] i m here from = absurd (cc)
picks n k (l ∷ ls) zero m here from =
    let same : l ≡ m = cc in
    let is : (l.from == n) ≡ true = eq-eqb l.from n (ap (λ (x : LinkPlan). x.from) same ∙ from) in
    let start : k ≡ k + 0 = omega arith in
    subst (λ x. Contains (picked (number_from n) k (l ∷ ls)) x) start (picked_first n k l (picked (number_from n) (k + 1) ls) (l.from == n) refl is)
picks n k (l ∷ ls) (suc i) m here from =
    let further : (k + 1) + i ≡ k + suc i = omega arith in
    subst (λ x. Contains (picked (number_from n) k (l ∷ ls)) x) further
    (picked_more ((k + 1) + i) (number_from n k l) (picked (number_from n) (k + 1) ls) (picks n (k + 1) ls i m here from))

alone : (u x : ℕ) → Contains (u ∷ []) x → x ≡ u
alone u x (zero, within, is) = sym is
alone u x (suc j, within, is) = absurd (omega arith)

-- the plan of a host: it can be built, and its link is the one of the list that begins there
pub record IsHostAt (c : Config) (n : ℕ) (p : HostPlan) : Type 0 where
  pub plan : IsHostPlan p
  pub link : LinkPlan
  pub at : slice_get c.links p.uplink ≡ Some link
  pub from : link.from ≡ n
  pub valid : IsLinkPlan (length c.nodes) link
  pub alone : (k : ℕ) (other : LinkPlan) → slice_get c.links k ≡ Some other → other.from ≡ n → k ≡ p.uplink

pub host_at : (c : Config) (n : ℕ) (p : HostPlan) → IsConfig c → slice_get c.nodes n ≡ Some (node.Host p) → IsHostAt c n p
unfolding links_from
host_at c n p valid here =
    let wired : picked (number_from n) 0 c.links ≡ p.uplink ∷ [] = node_wired c n (node.Host p) valid here in
    let (i, m, there, from, is) = begins n 0 c.links p.uplink [] wired in
    let same : i ≡ p.uplink = omega arith in
    let at_it : slice_get c.links p.uplink ≡ Some m = subst (λ j. slice_get c.links j ≡ Some m) same there in
    record {
      plan = all_here IsNodePlan c.nodes n (node.Host p) valid.nodes here;
      link = m;
      at = at_it;
      from = from;
      valid = all_here (IsLinkPlan (length c.nodes)) c.links p.uplink m valid.links at_it;
      alone = λ k other other_at begins_here.
          let one : Contains (picked (number_from n) 0 c.links) (0 + k) = picks n 0 c.links k other other_at begins_here in
          let last : 0 + k ≡ p.uplink = alone p.uplink (0 + k) (subst (λ ns. Contains ns (0 + k)) wired one) in
          omega arith;
    }

-- a node behind a host is one
pub hosts_behind : (ps : List nodes.NodePlan) (i j : ℕ) (p q : nodes.NodePlan) → AreRoutersFirst ps
    → slice_get ps i ≡ Some p → is_host_plan p ≡ true → i ≤ j → slice_get ps j ≡ Some q → is_host_plan q ≡ true
hosts_behind [] i j p q first here is behind there = absurd (cc)
hosts_behind (node.Router r ∷ ps) zero j p q first here is behind there =
    let same : node.Router r ≡ p = cc in
    let no : is_host_plan (node.Router r) ≡ true = ap is_host_plan same ∙ is in
    absurd (cc)
hosts_behind (node.Router r ∷ ps) (suc i) zero p q first here is behind there = absurd (omega arith)
hosts_behind (node.Router r ∷ ps) (suc i) (suc j) p q first here is behind there = hosts_behind ps i j p q first here is (omega arith) there
hosts_behind (node.Host h ∷ ps) i zero p q first here is behind there =
    let same : node.Host h ≡ q = cc in
    ap is_host_plan (sym same)
hosts_behind (node.Host h ∷ ps) i (suc j) p q first here is behind there =
    all_here (λ x. is_host_plan x ≡ true) ps j q first there
