-- For which calls and acts a courier stands, after one more.
use Rattle.tva_transfer.proofs.Common.{◌≡◌, ℕ, List, [], ◌∷◌, ◌++◌, Result, sym, ap, subst, ◌∙◌, fold-append, Address, Call, Files, Act, Filed, after_act, begun, files_of, no_files, CourierData, Knows, StandsFor, known, arith}
use Rattle.std.specs.Result.{OnErr}
use Rattle.tva_base.specs.declared.plan.HostPlan.{HostPlan}
use Rattle.tva_host.specs.Stands as host

pub files_of-push : (home : Address) (acts : List Act) (a : Act) → files_of home (acts ++ a ∷ []) ≡ after_act home (files_of home acts) a
files_of-push home acts a = fold-append (after_act home) no_files acts (a ∷ [])

pub known-push : (old new : host.HostData) (acts : List Act) (a : Act) → new.plan ≡ old.plan → known new (acts ++ a ∷ []) ≡ after_act old.plan.address (known old acts) a
known-push old new acts a same = ap (λ (p : HostPlan). files_of p.address (acts ++ a ∷ [])) same ∙ files_of-push old.plan.address acts a

-- what is known means the same, at the same host
pub stands_again : (old new : CourierData) (calls : List Call) (acts : List Act) → new.host ≡ old.host → ((files : Files) → Knows old files → Knows new files) → StandsFor old calls acts → StandsFor new calls acts
stands_again old new calls acts same k s = record {
  host = subst (λ (h : host.HostData). host.StandsFor h calls) (sym same) s.host;
  files = subst (λ (h : host.HostData). Knows new (known h acts)) (sym same) (k (known old.host acts) s.files);
}

-- after one more act, by the host's calls
pub stands_act : (old new : CourierData) (calls more : List Call) (acts : List Act) (a : Act) → new.host.plan ≡ old.host.plan → host.StandsFor new.host more → Knows new (after_act old.host.plan.address (known old.host acts) a) → StandsFor new more (acts ++ a ∷ [])
stands_act old new calls more acts a same h k = grind (arith, known-push)

pub knows_filed : (home : Address) (old new : CourierData) (files : Files) (dst : Address) (size segment : ℕ) → new.transfers ≡ old.transfers ++ begun dst size segment ∷ [] → new.nexts ≡ old.nexts → Knows old files → Knows new (after_act home files (Filed dst size segment))
knows_filed home old new files dst size segment ts ns k = grind arith

-- whatever the host is
pub knows_at : (v : CourierData) (h : host.HostData) (files : Files) → Knows v files → Knows (record v { host = h }) files
knows_at v h files k = record { transfers = k.transfers; nexts = k.nexts }

-- where memory was wanting in the host
pub stands_refused : (v : CourierData) (h : host.HostData) (calls : List Call) (acts : List Act) → h.plan ≡ v.host.plan → host.StandsFor h calls → StandsFor v calls acts → StandsFor (record v { host = h }) calls acts
stands_refused v h calls acts same stands s = grind (arith, knows_at)

pub on_err : {T E : Type 0} (r : Result T E) (P : Type 0) → P → OnErr r P
on_err r P p = grind arith
