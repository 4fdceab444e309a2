-- The sums of chunks, one after another, are those of all.
use Rattle.tva_audit.proofs.Common.{◌≡◌, ℕ, ◌+◌, ◌*◌, ◌/◌, ◌%◌, ◌<◌, ◌≤◌, List, [], ◌∷◌, ◌++◌, length, get_or, take, Option, Some, None, Result, Ok, Err, append-nil, refl, sym, ◌∙◌, ap, ap₂, subst, arith, min, IfOk, AllocError, Global, Vec, slice_chunk, cons_option, take_all, take_more, filter_map-append, div_ceil_times, Event, NodePlan, Router, Host, charges_in, sums_of, NodeState, restarts_in, router_number, RouterSum, AreParts, numbered, sum_told, sums_told}
use Rattle.std.proofs.Math.Seq.{take-add}
use Rattle.tva_report.specs.declared.sums.Sums.{Sums}

-- one node more
pub one_told : (nodes : List NodeState) (i : ℕ) (d : NodeState) → i < length nodes
    → sums_told (take (i + 1) nodes) ≡ sums_told (take i nodes) ++ sums_told (get_or nodes i d ∷ [])
one_told nodes i d below = ap sums_told (take_more nodes i d below) ∙ filter_map-append (λ (v : NodeState). sum_told v.site.number v.site.plan v.events) (take i nodes) (get_or nodes i d ∷ [])

-- one chunk more
pub chunk_told : (nodes : List NodeState) (size n : ℕ)
    → sums_told (take ((n + 1) * size) nodes) ≡ sums_told (take (n * size) nodes) ++ sums_told (slice_chunk nodes size n)
chunk_told nodes size n =
    ap (λ (k : ℕ). sums_told (take k nodes)) (let e : (n + 1) * size ≡ n * size + size = omega arith in e)
    ∙ ap sums_told (take-add (n * size) size nodes)
    ∙ filter_map-append (λ (v : NodeState). sum_told v.site.number v.site.plan v.events) (take (n * size) nodes) (slice_chunk nodes size n)

-- the chunks hold all nodes
pub all_told : (nodes : List NodeState) (size count : ℕ) → 0 < size → count ≡ length nodes / size + min 1 (length nodes % size)
    → sums_told (take (count * size) nodes) ≡ sums_told nodes
all_told nodes size count some e =
    let whole : length nodes ≤ count * size = subst (λ (k : ℕ). length nodes ≤ k * size) (sym e) (div_ceil_times (length nodes) size some).0 in
    ap sums_told (take_all (count * size) nodes whole)

pub no_chunk : (nodes : List NodeState) (size : ℕ) (all : List RouterSum) → all ≡ [] → all ≡ sums_told (take (0 * size) nodes)
no_chunk nodes size all e = e ∙ ap (λ (k : ℕ). sums_told (take k nodes)) (let z : 0 ≡ 0 * size = omega arith in z)

-- one part more
pub part_told : (nodes : List NodeState) (size n : ℕ) (all new sums : List RouterSum) → all ≡ sums_told (take (n * size) nodes)
    → sums ≡ sums_told (slice_chunk nodes size n) → new ≡ all ++ sums → new ≡ sums_told (take ((n + 1) * size) nodes)
part_told nodes size n all new sums before part more = more ∙ ap₂ ◌++◌ before part ∙ sym (chunk_told nodes size n)

-- ## nodes

last_told : (nodes : List NodeState) (i : ℕ) (e : NodeState) (o : Option RouterSum) → e ≡ get_or nodes i e → o ≡ sum_told e.site.number e.site.plan e.events
    → cons_option o [] ≡ sums_told (get_or nodes i e ∷ [])
last_told nodes i e o is told =
    ap (λ (p : Option RouterSum). cons_option p []) told ∙ ap (λ (v : NodeState). sums_told (v ∷ [])) is

pub one_more : (nodes : List NodeState) (i : ℕ) (e : NodeState) (all new : List RouterSum) (s : RouterSum) → i < length nodes → e ≡ get_or nodes i e
    → all ≡ sums_told (take i nodes) → Some s ≡ sum_told e.site.number e.site.plan e.events → new ≡ all ++ s ∷ [] → new ≡ sums_told (take (i + 1) nodes)
one_more nodes i e all new s below is before told more =
    more ∙ ap₂ ◌++◌ before (last_told nodes i e (Some s) is told) ∙ sym (one_told nodes i e below)

pub none_more : (nodes : List NodeState) (i : ℕ) (e : NodeState) (all : List RouterSum) → i < length nodes → e ≡ get_or nodes i e
    → all ≡ sums_told (take i nodes) → None ≡ sum_told e.site.number e.site.plan e.events → all ≡ sums_told (take (i + 1) nodes)
none_more nodes i e all below is before told =
    sym (append-nil all) ∙ ap₂ ◌++◌ before (last_told nodes i e None is told) ∙ sym (one_told nodes i e below)

-- the parts joined are the sums of all nodes
pub joined_told : (r : Result (Vec RouterSum Global) AllocError) (parts items : List (Result (Vec RouterSum Global) AllocError)) (nodes : List NodeState) (size : ℕ)
    → parts ≡ items → IfOk r (λ sums. (size : ℕ) (nodes : List NodeState) → AreParts size nodes parts → sums.items ≡ sums_told (take (length parts * size) nodes))
    → AreParts size nodes items → 0 < size → length parts ≡ length nodes / size + min 1 (length nodes % size)
    → IfOk r (λ sums. sums.items ≡ sums_told nodes)
joined_told (Ok v) parts items nodes size same h are some long =
    h size nodes (subst (AreParts size nodes) (sym same) are) ∙ all_told nodes size (length parts) some long
joined_told (Err e) parts items nodes size same h are some long = tt

-- a router has sums, and a host has none
pub router_told : (number : ℕ) (plan : NodePlan) (told : List Event) (k : ℕ) (s : Sums) → router_number number plan ≡ Some k
    → s ≡ sums_of (restarts_in plan) (charges_in told) → Some (numbered k s) ≡ sum_told number plan told
router_told number (Router plan) told k s e same =
    ap₂ (λ (n : ℕ) (t : Sums). Some (numbered n t)) (let is : k ≡ number = cc in is) same
router_told number (Host plan) told k s e same = absurd (cc)

pub host_told : (number : ℕ) (plan : NodePlan) (told : List Event) → router_number number plan ≡ None → None ≡ sum_told number plan told
host_told number (Router plan) told e = absurd (cc)
host_told number (Host plan) told e = refl
