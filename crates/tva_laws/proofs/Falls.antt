-- The times that a log tells: those of a host's calls never fall, and what came to a router before an entry came no later.
use Rattle.tva_laws.proofs.Common.{◌≤◌, ℕ, List, [], ◌∷◌, Option, arith, option_map, AllByRecursion, cons_option, Flow, PacketData, NeverFall, RowWhat, IsInOrder, each-weaker, times_from, FromTrace, Arrival, Entry, Took, Started, entry_time, entry_rank, call_of_row, calls, packet_sent, Coming, came_at, comings, nat_tests}

sent_falls : (from now : ℕ) (what : RowWhat) (o : Option PacketData) (es : List Entry) → from ≤ now → NeverFall now (calls es)
    → ((t : ℕ) → t ≤ now → NeverFall t (calls es)) → NeverFall from (cons_option (option_map (call_of_row now what) o) (calls es))
sent_falls from now what o es l k all = grind (arith, nat_tests)

pub never_fall : (from : ℕ) (es : List Entry) → AllByRecursion (λ e. from ≤ entry_time e) es → IsInOrder entry_time entry_rank es
    → NeverFall from (calls es)
never_fall from [] a o = tt
never_fall from (Took (FromTrace row) c ∷ es) a o =
    let later = (times_from entry_time entry_rank (Took (FromTrace row) c) es o).1 in
    sent_falls from row.time.0 row.what (packet_sent c) es a.0 (never_fall row.time.0 es later o.1)
    (λ t l. never_fall t es (each-weaker (λ (e : Entry). row.time.0 ≤ entry_time e) (λ (e : Entry). t ≤ entry_time e)
    (λ e k. omega arith) es later) o.1)
never_fall from (Took (Arrival at link packet) c ∷ es) a o = grind (arith, nat_tests, times_from, never_fall at.0 es (times_from entry_time entry_rank (Took (Arrival at link packet) c) es o).1 o.1)
never_fall from (Started at link class packet ∷ es) a o = never_fall from es a.1 o.1

pub from_zero : (es : List Entry) → AllByRecursion (λ e. 0 ≤ entry_time e) es
from_zero [] = tt
from_zero (e ∷ es) = (omega arith, from_zero es)

come_here : (f : Flow) (n : ℕ) (e : Entry) (xs : List Coming) → entry_time e ≤ n → AllByRecursion (λ (y : Coming). y.time ≤ n) xs
    → AllByRecursion (λ (y : Coming). y.time ≤ n) (cons_option (came_at f e) xs)
come_here f n e xs l k = grind (arith, nat_tests)

pub come_by : (f : Flow) (n : ℕ) (es : List Entry) → AllByRecursion (λ e. entry_time e ≤ n) es
    → AllByRecursion (λ (x : Coming). x.time ≤ n) (comings f es)
come_by f n [] k = tt
come_by f n (e ∷ es) k = come_here f n e (comings f es) k.0 (come_by f n es k.1)
