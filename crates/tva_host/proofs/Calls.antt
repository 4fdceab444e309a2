-- The history and the times of one more call.
use Rattle.tva_host.proofs.Common.{◌≡◌, ℕ, ◌≤◌, List, [], ◌∷◌, ◌++◌, fold, refl, arith, HostPlan, History, beginning, Call, Intended, Injected, Received, after_call, history_of, last_time, NeverFall, HostData, Keeps, StandsFor, nat_tests, common_steps}

-- the history after these calls, which come after those that made it
abbrev pub history_from : HostPlan → History → List Call → History
history_from plan h calls = fold (after_call plan) h calls

pub history_from-push : (plan : HostPlan) (h : History) (cs : List Call) (c : Call) → history_from plan h (cs ++ c ∷ []) ≡ after_call plan (history_from plan h cs) c
history_from-push plan h cs c = grind (arith, common_steps, nat_tests)

pub history_of-push : (plan : HostPlan) (cs : List Call) (c : Call) → history_of plan (cs ++ c ∷ []) ≡ after_call plan (history_of plan cs) c
history_of-push plan cs c = history_from-push plan beginning cs c

-- a call at a time, or without one
abbrev pub time_after : ℕ → Call → ℕ
time_after from c = last_time from (c ∷ [])

pub last_time-push : (from : ℕ) (cs : List Call) (c : Call) → last_time from (cs ++ c ∷ []) ≡ time_after (last_time from cs) c
last_time-push from [] c = refl
last_time-push from (Intended now dst payload above ∷ ds) c = last_time-push now ds c
last_time-push from (Injected flow payload carries ∷ ds) c = last_time-push from ds c
last_time-push from (Received now packet above ∷ ds) c = last_time-push now ds c

pub never_fall-push : (from : ℕ) (cs : List Call) (c : Call) → NeverFall from cs → NeverFall (last_time from cs) (c ∷ []) → NeverFall from (cs ++ c ∷ [])
never_fall-push from [] c k l = l
never_fall-push from (Intended now dst payload above ∷ ds) c k l = (k.0, never_fall-push now ds c k.1 l)
never_fall-push from (Injected flow payload carries ∷ ds) c k l = never_fall-push from ds c k l
never_fall-push from (Received now packet above ∷ ds) c k l = (k.0, never_fall-push now ds c k.1 l)

-- a host stands for its calls with one more
pub stands-push : (v w : HostData) (cs : List Call) (c : Call) → StandsFor v cs → w.plan ≡ v.plan → NeverFall (last_time 0 cs) (c ∷ []) → time_after (last_time 0 cs) c ≤ w.last
    → Keeps w (after_call v.plan (history_of v.plan cs) c) → StandsFor w (cs ++ c ∷ [])
stands-push v w cs c s plan order past keeps = grind (arith, never_fall-push, last_time-push, history_of-push)

-- and for the same calls at a later time
pub stands-later : (v w : HostData) (cs : List Call) → StandsFor v cs → w.plan ≡ v.plan → v.last ≤ w.last → Keeps w (history_of v.plan cs) → StandsFor w cs
stands-later v w cs s plan later keeps = grind arith
