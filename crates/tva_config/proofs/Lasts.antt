-- Maps of last times, and one more time.
use Rattle.tva_config.proofs.Common.{◌≡◌, ◌==◌, ◌||◌, ◌&&◌, nat_eq, ℕ, true, false, cond, List, [], ◌∷◌, ◌++◌, Some, ap, sym, ◌∙◌, eqb-true, list_any, get, and_parts, list_any-append, Prefix, OwnedRestart, OwnedReroute, is_late_restart, is_late_reroute, is_late, Restarted, IsRestarted, Rerouted, same_route, IsRerouted}
use Rattle.tva_config.proofs.Rising.{pushed_late}

pub restarted_push : (old new : Restarted) (done : List OwnedRestart) (r : OwnedRestart) → IsRestarted old done
    → ((q : ℕ) → get nat_eq new q ≡ cond (nat_eq r.router q) (Some r.time.0) (get nat_eq old q))
    → list_any (is_late_restart r.router r.time.0) done ≡ false → IsRestarted new (done ++ r ∷ [])
restarted_push old new done r is updates after = λ router time.
    ap (λ o. is_late o time) (updates router)
    ∙ pushed_late (r.router == router) (get nat_eq old router) r.time.0 time (λ same.
    let e : r.router ≡ router = eqb-true r.router router same in
    is router r.time.0 ∙ rw e at after)
    ∙ ap (λ b. b || (is_late_restart router time r || false)) (is router time)
    ∙ sym (list_any-append (is_late_restart router time) done (r ∷ []))

abbrev made : ℕ → ℕ → Prefix
made address bits = record { address = record { 0 = address }; bits = bits }

abbrev key_of : OwnedReroute → ℕ × ℕ × ℕ
key_of r = (r.owned.router, r.owned.route.prefix.address.0, r.owned.route.prefix.bits)

-- the changes of one router for prefixes of the same numbers
same_late : (r : OwnedReroute) (router address bits : ℕ) (done : List OwnedReroute) → same_route (key_of r) (router, address, bits) ≡ true
    → list_any (is_late_reroute r.owned.router r.owned.route.prefix r.time.0) done ≡ false → list_any (is_late_reroute router (made address bits) r.time.0) done ≡ false
same_late r router address bits done same after =
    let (two, right) = and_parts ((r.owned.router == router) && (r.owned.route.prefix.address.0 == address)) (r.owned.route.prefix.bits == bits) same in
    let (one, left) = and_parts (r.owned.router == router) (r.owned.route.prefix.address.0 == address) two in
    let a : r.owned.router ≡ router = eqb-true r.owned.router router one in
    let b : r.owned.route.prefix.address.0 ≡ address = eqb-true r.owned.route.prefix.address.0 address left in
    let d : r.owned.route.prefix.bits ≡ bits = eqb-true r.owned.route.prefix.bits bits right in
    rw (← a, ← b, ← d) after

pub rerouted_push : (old new : Rerouted) (done : List OwnedReroute) (r : OwnedReroute) → IsRerouted old done
    → ((q : ℕ × ℕ × ℕ) → get same_route new q ≡ cond (same_route (key_of r) q) (Some r.time.0) (get same_route old q))
    → list_any (is_late_reroute r.owned.router r.owned.route.prefix r.time.0) done ≡ false → IsRerouted new (done ++ r ∷ [])
rerouted_push old new done r is updates after = λ router address bits time.
    ap (λ o. is_late o time) (updates (router, address, bits))
    ∙ pushed_late (same_route (key_of r) (router, address, bits)) (get same_route old (router, address, bits)) r.time.0 time (λ same.
    is router address bits r.time.0 ∙ same_late r router address bits done same after)
    ∙ ap (λ b. b || (is_late_reroute router (made address bits) time r || false)) (is router address bits time)
    ∙ sym (list_any-append (is_late_reroute router (made address bits) time) done (r ∷ []))
