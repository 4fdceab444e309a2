-- An input that is taken, and what the node stands for then.
use Rattle.tva_node.proofs.Common.{nat_tests, ◌≡◌, ℕ, ◌≤◌, ◌∷◌, [], ◌++◌, List, map, true, refl, sym, subst, arith, Event, Happened, with_more, Input, Entry, input_time, IsSite, Site, site_of, Link, Parts, Role, IsBy, RoleStands, asked_by, link_pair, Fits, NodeState, role_plan, site_at, state_of, Takes, TakesAt, is_due, queued_on}
use Rattle.tva_node.proofs.Decides.{from_fields}
use Rattle.tva_node.proofs.Left.{some_due}
use Rattle.tva_node.proofs.Waits.{asked_pairs}
use Rattle.tva_node.proofs.Works.{next_fits, took_one}

module _ (p : Parts) (now : ℕ) (input : Input) (rest : List Input) (due : is_due now p.waiting ≡ true) (st : TakesAt (state_of p) now) (first : p.waiting ≡ input ∷ rest) where
  at_now : input_time input ≡ now
  at_now = some_due now p.waiting input rest due first

  pub take_by : IsBy (input_time input) p.role
  take_by = subst (λ t. IsBy t p.role) (sym at_now) st.2.past

  pub take_within : input_time input ≤ 1000000000000000
  take_within = let h = st.2.horizon in let e = at_now in omega (arith, e, h.0, h.1)

  pub take_fits : Fits (role_plan p.role) input
  take_fits = subst (λ q. Fits q input) st.2.plan (next_fits (state_of p) now st.0 st.1 st.2 st.3 input rest first)

  module _ (told : Happened) (role : Role)
      (took : (site : Site) (log : List Entry) → IsSite site → site.number ≡ p.number → site.plan ≡ role_plan p.role → RoleStands site p.role log → Takes site log input told role)
      (plan : role_plan role ≡ role_plan p.role) (last : IsBy (input_time input) role) where
    abbrev event : Event
    event = record { time = record { 0 = now }; node = p.number; happened = told }

    abbrev asked : List Link
    asked = map (asked_by (queued_on told) now) p.links

    mid : TakesAt (record (state_of p) { site = site_of p.number (role_plan role) (map link_pair asked); links = asked; waiting = rest; role = role; events = p.log.all ++ event ∷ [] }) now
    mid = subst (λ (w : NodeState). TakesAt w now)
        (λ i. record (state_of p) { site = site_of p.number (sym plan i) (sym (asked_pairs (queued_on told) now p.links) i); links = asked; waiting = rest; role = role; events = p.log.all ++ event ∷ [] })
        (took_one (state_of p) now st.0 st.1 st.2 st.3 input rest told role first at_now (took (site_at p) st.1 st.2.site refl st.2.plan st.2.role) plan (subst (λ t. IsBy t role) at_now last))

    pub taken_then : (q : Parts) → q.log ≡ with_more p.log (event ∷ []) → q.links ≡ asked
        → (q.role ≡ role) × (q.inbox ≡ p.inbox) × (q.waiting ≡ rest) × (q.number ≡ p.number) × (q.horizon ≡ p.horizon) × (q.worked_to ≡ p.worked_to) × (q.outbox ≡ p.outbox)
        → TakesAt (state_of q) now
    taken_then q log links s = grind (arith, nat_tests, from_fields, mid)
