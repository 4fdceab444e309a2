-- The nodes of a configuration, and that each row can be given to its node.
use Rattle.tva_net.proofs.Common.{◌≡◌, ℕ, ◌+◌, ◌<◌, ◌≤◌, Bool, true, false, cond, List, [], ◌∷◌, ◌++◌, length, get_or, map, filter, All, Option, Some, None, refl, sym, subst, ◌∙◌, ap, arith, inl, inr, suc, drop, drop-cons, add-one, ◌==◌, slice_get, option_map, option_map_or, cases_lt, get_or_append_left, get_or_push, All-append, All-from_recursion, slice_get_read, LinkPlan, Config, NodePlan, IsConfig, Row, AreTraceRows, IsRow, IsRowWhat, Input, FromTrace, IsSite, Site, site_of, Memory, FitsRow, NodeState, links_out, rows_at, site_at, site_valid, CanDeliver, GotMails, mail_at, AreFirstNodes, IsFirstNode}
use Rattle.tva_plan.specs.declared.config.NodePlan.TheVariants as plans
use Rattle.tva_plan.specs.Names.{is_host, is_host_plan}
use Rattle.tva_rows.specs.declared.rows.RowWhat.{RowWhat}
use Rattle.tva_rows.specs.declared.rows.RowWhat.TheVariants as rows
use Rattle.tva_shim.proofs.Lengths.{carried_fits}

-- ## a node

pub site_fits : (config : Config) (n : ℕ) (p : NodePlan) (links : List (ℕ × LinkPlan)) → IsConfig config → n < length config.nodes → p ≡ get_or config.nodes n p → links ≡ links_out n config.links → IsSite (site_of n p links)
site_fits config n p links valid within is out =
    subst (λ (os : List (ℕ × LinkPlan)). IsSite (site_of n p os)) (sym out)
    (site_valid config n p valid (slice_get_read config.nodes (length config.nodes) n p refl within is))

pub site_there : (config : Config) (n : ℕ) (p : NodePlan) (links : List (ℕ × LinkPlan)) (site : Site) → n < length config.nodes → p ≡ get_or config.nodes n p → links ≡ links_out n config.links → site ≡ site_of n p links → site_at config n ≡ Some site
site_there config n p links site within is out e =
    ap (option_map (λ plan. site_of n plan (links_out n config.links))) (slice_get_read config.nodes (length config.nodes) n p refl within is)
    ∙ ap (λ (s : Site). Some s) (ap (λ (os : List (ℕ × LinkPlan)). site_of n p os) (sym out) ∙ sym e)

-- one node more
pub firsts_more : (config : Config) (nodes : List NodeState) (i : ℕ) (v : NodeState) → length nodes ≡ i → IsFirstNode config [] i v
    → ((n : ℕ) (d : NodeState) → n < i → IsFirstNode config [] n (get_or nodes n d))
    → (n : ℕ) (d : NodeState) → n < i + 1 → IsFirstNode config [] n (get_or (nodes ++ v ∷ []) n d)
firsts_more config nodes i v c first each n d l =
    elim (cases_lt n i) [
      | inl k ↦
          let here : n < length nodes = omega arith in
          subst (λ (u : NodeState). IsFirstNode config [] n u) (sym (get_or_append_left nodes (v ∷ []) d n here)) (each n d k)
      | inr k ↦
          let same : i ≡ n = omega arith in
          subst (λ (m : ℕ). IsFirstNode config [] m (get_or (nodes ++ v ∷ []) m d)) same
          (subst (λ (u : NodeState). IsFirstNode config [] i u) (sym (get_or_push nodes v d i c)) first)
    ]

-- ## rows

row_fits : (p : NodePlan) (w : RowWhat) (b : Bool) → is_host_plan p ≡ b → IsRowWhat b w → FitsRow p w
row_fits (plans.Router p) (rows.Send dst payload) b e h = absurd (let no : false ≡ true = e ∙ h.0 in cc)
row_fits (plans.Router p) (rows.Inject flow payload carries) b e h = (h.0, carried_fits carries h.1)
row_fits (plans.Router p) (rows.File dst size segment) b e h = absurd (let no : false ≡ true = e ∙ h.0 in cc)
row_fits (plans.Router p) (rows.Tick dst) b e h = absurd (let no : false ≡ true = e ∙ h in cc)
row_fits (plans.Host p) (rows.Send dst payload) b e h = h.1
row_fits (plans.Host p) (rows.Inject flow payload carries) b e h = (h.0, carried_fits carries h.1)
row_fits (plans.Host p) (rows.File dst size segment) b e h = h.1
row_fits (plans.Host p) (rows.Tick dst) b e h = tt

plan_by : (config : Config) (n : ℕ) (site : Site) (o : Option NodePlan) → slice_get config.nodes n ≡ o → option_map (λ p. site_of n p (links_out n config.links)) o ≡ Some site → slice_get config.nodes n ≡ Some site.plan
plan_by config n site None e h = absurd (cc)
plan_by config n site (Some p) e h = e ∙ ap (option_map (λ (s : Site). s.plan)) h

plan_there : (config : Config) (n : ℕ) (site : Site) → site_at config n ≡ Some site → slice_get config.nodes n ≡ Some site.plan
plan_there config n site h = plan_by config n site (slice_get config.nodes n) refl h

host_there : (config : Config) (n : ℕ) (site : Site) → site_at config n ≡ Some site → is_host_plan site.plan ≡ is_host config.nodes n
host_there config n site h = ap (λ (o : Option NodePlan). option_map_or is_host_plan o false) (sym (plan_there config n site h))

row_delivers : (config : Config) (nodes : List NodeState) (row : Row) → AreFirstNodes config [] nodes → IsRow config row → CanDeliver nodes row.node (FromTrace row)
row_delivers config nodes row first h =
    let there : row.node < length nodes = let k = h.node in omega (arith, first.count) in
    record {
      node = there;
      takes = λ d.
          let v = first.each row.node d there in
          record {
            late = let w = v.nothing.2 in omega arith;
            within = let t = h.time in let e = v.horizon in omega arith;
            fits = row_fits (get_or nodes row.node d).site.plan row.what (is_host config.nodes row.node) (host_there config row.node (get_or nodes row.node d).site v.site) h.what;
          };
    }

pub rows_deliver : (config : Config) (nodes : List NodeState) (rs : List Row) → AreFirstNodes config [] nodes → AreTraceRows config rs → All (λ row. CanDeliver nodes row.node (FromTrace row)) rs
rows_deliver config nodes rs first h k d l = row_delivers config nodes (get_or rs k d) first (h.each k d l)

-- all nodes have their rows
pub with_rows : (config : Config) (rs : List Row) (nodes filed : List NodeState) → AreFirstNodes config [] nodes → GotMails (rows_at rs) nodes filed → AreFirstNodes config rs filed
with_rows config rs nodes filed first got = record {
  count = got.count ∙ first.count;
  each = λ n d l.
      let there : n < length nodes = omega (arith, got.count) in
      let v = first.each n d there in
      let g = got.each n d there in
      record {
        site = v.site ∙ ap (λ (s : Site). Some s) (sym g.keeps.site);
        horizon = g.keeps.horizon ∙ v.horizon;
        inbox = g.inbox ∙ ap (λ (is : List Input). is ++ rows_at rs n) v.inbox;
        nothing = (g.keeps.events ∙ v.nothing.0, g.keeps.sendings ∙ v.nothing.1, g.keeps.worked_to ∙ v.nothing.2);
        news = g.keeps.news v.news;
        stands = g.stands v.stands;
      };
}

-- one row more is filed
map_row : (row : Row) (b : Bool) (rs : List Row) → map FromTrace (cond b (row ∷ rs) rs) ≡ cond b (FromTrace row ∷ []) [] ++ map FromTrace rs
map_row row false rs = refl
map_row row true rs = refl

pub row_left : (rs : List Row) (place : ℕ) (row : Row) → place < length rs → row ≡ get_or rs place row → drop place rs ≡ row ∷ drop (place + 1) rs
row_left rs place row within e = rw add-one (drop-cons rs place row within ∙ ap (λ (r : Row). r ∷ drop (suc place) rs) (sym e))

pub row_first : (row : Row) (rs : List Row) (n : ℕ) → rows_at (row ∷ rs) n ≡ mail_at row.node (FromTrace row ∷ []) n ++ rows_at rs n
row_first row rs n = map_row row (row.node == n) (filter (λ r. r.node == n) rs)

-- ## what memory keeps

pub kept_more : (keeps : Memory) (nodes : List NodeState) (v : NodeState) → v.keeps ≡ keeps → All (λ u. u.keeps ≡ keeps) nodes → All (λ u. u.keeps ≡ keeps) (nodes ++ v ∷ [])
kept_more keeps nodes v here each = All-append (λ (u : NodeState). u.keeps ≡ keeps) nodes (v ∷ []) each (All-from_recursion (λ (u : NodeState). u.keeps ≡ keeps) (v ∷ []) (here, tt))

-- ## how many rows

pub some_row : Row
some_row = record { time = record { 0 = 0 }; node = 0; what = rows.Tick (record { 0 = 0 }) }

pub row_there : (config : Config) (count : ℕ) (rs : List Row) → count ≡ length config.nodes → AreTraceRows config rs → All (λ row. row.node < count) rs
row_there config count rs c h k d l = let there = (h.each k d l).node in omega (arith, there, c)

-- a node has no more rows than there are
pub rows_few : (rs : List Row) (n : ℕ) → length (rows_at rs n) ≤ length rs
rows_few [] n = omega arith
rows_few (r ∷ rs) n = row_few (r.node == n) (rows_few rs n)
  where
    row_few : (b : Bool) → length (rows_at rs n) ≤ length rs → length (map FromTrace (cond b (r ∷ filter (λ x. x.node == n) rs) (filter (λ x. x.node == n) rs))) ≤ length (r ∷ rs)
    row_few true e = omega (arith, e)
    row_few false e = omega (arith, e)
