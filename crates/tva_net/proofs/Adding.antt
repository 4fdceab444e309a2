-- Sums with events more.
use Rattle.tva_net.proofs.Common.{◌≡◌, ℕ, ◌+◌, ◌<◌, cond, List, [], ◌∷◌, ◌++◌, length, get_or, take, sym, ◌∙◌, ap, take_more, length_push, append_assoc, sum_by_push, Event, Totals, is_routed, is_charged, is_demoted, is_dropped, is_started, is_received, received_bytes, totals_of, with_event}

-- one event more
pub adds_one : (told : List Event) (e : Event) → with_event (totals_of told) e.happened ≡ totals_of (told ++ e ∷ [])
unfolding totals_of
adds_one told e = λ i. record {
  events = sym (length_push told e) i;
  routed = sym (sum_by_push (λ (x : Event). cond (is_routed x.happened) 1 0) told e) i;
  authorised = sym (sum_by_push (λ (x : Event). cond (is_charged x.happened) 1 0) told e) i;
  demoted = sym (sum_by_push (λ (x : Event). cond (is_demoted x.happened) 1 0) told e) i;
  dropped = sym (sum_by_push (λ (x : Event). cond (is_dropped x.happened) 1 0) told e) i;
  started = sym (sum_by_push (λ (x : Event). cond (is_started x.happened) 1 0) told e) i;
  received = sym (sum_by_push (λ (x : Event). cond (is_received x.happened) 1 0) told e) i;
  bytes = sym (sum_by_push (λ (x : Event). received_bytes x.happened) told e) i;
}

-- the events up to a place are added, and the next one
pub adds_more : (told more : List Event) (i : ℕ) (d : Event) (sums : Totals) → i < length more → sums ≡ totals_of (told ++ take i more) → with_event sums (get_or more i d).happened ≡ totals_of (told ++ take (i + 1) more)
adds_more told more i d sums l e =
    ap (λ (t : Totals). with_event t (get_or more i d).happened) e
    ∙ (adds_one (told ++ take i more) (get_or more i d)
    ∙ ap totals_of (append_assoc told (take i more) (get_or more i d ∷ []) ∙ ap (λ (es : List Event). told ++ es) (sym (take_more more i d l))))
