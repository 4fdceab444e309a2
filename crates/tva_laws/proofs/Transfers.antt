-- What a host knows of files is within the sizes of a network, and so is each upper part that it sends.
use Rattle.tva_laws.proofs.Common.{◌≡◌, ℕ, ◌≤◌, Bool, cond, List, [], ◌∷◌, Option, Some, None, All, refl, arith, fold, slice_get, option_map, option_map_or, option_and_then, IfSome, AllByRecursion, cons_option, and_parts, ltb-true, All-nil, All-push, All-set, position-Some, get_or_from_slice_get, Address, Upper, HostPlan, PacketData, Fills, IsUpper, upper_size, all_here, Transfer, Files, Act, Filed, Came, after_act, after_upper, answer_to, answered, begun, first_segment, heard, is_due, is_more, no_files, segment_behind, segment_due, segment_of, with_acked, Input, FromTrace, Arrival, Content, Entry, Took, Started, act_of, acts, files, IsSizedWhat, IsSizedInput, nat_tests}
use Rattle.std.specs.Prelude.{position, slice_set}
use Rattle.tva_base.specs.declared.packet.Upper.TheVariants as upper
use Rattle.tva_transfer.specs.Files.{Ticked}
use Rattle.tva_transfer.specs.Sound.{IsSized}

-- ## what is sent

-- a host's transfers are of files of at most 100,000,000 bytes in segments of at most 1,500
abbrev pub AreSizedFiles : Files → Type 0
AreSizedFiles known = All IsSized known.transfers

pub upper_fills : (above : Upper) → Fills above (upper_size above)
upper_fills above = grind (arith, nat_tests)

pub upper_few : (above : Upper) → IsUpper above → upper_size above ≤ 1508
upper_few above u = grind (arith, nat_tests)

pub first_upper : (known : Files) (dst : Address) (size segment : ℕ) → size ≤ 100000000 → segment ≤ 1500 → IsUpper (first_segment known dst size segment)
first_upper known dst size segment l k = grind (arith, nat_tests)

due_here : (ts : List Transfer) (dst : Address) (place : ℕ) (o : Option Transfer) → All IsSized ts → position (is_due dst) ts ≡ Some place → slice_get ts place ≡ o
    → IfSome (option_map (segment_of place) o) IsUpper
due_here ts dst place None k at here = tt
due_here ts dst place (Some t) k at here =
    let found = position-Some (is_due dst) ts place t at in
    grind (arith, nat_tests, get_or_from_slice_get, ltb-true, and_parts, all_here)

due_by : (ts : List Transfer) (dst : Address) (o : Option ℕ) → All IsSized ts → position (is_due dst) ts ≡ o
    → IfSome (option_and_then (λ place. option_map (segment_of place) (slice_get ts place)) o) IsUpper
due_by ts dst o k at = grind (arith, nat_tests, due_here)

pub due_upper : (known : Files) (dst : Address) → AreSizedFiles known → IfSome (segment_due known dst) IsUpper
unfolding segment_due
due_upper known dst k = due_by known.transfers dst (position (is_due dst) known.transfers) k refl

behind_upper : (source : Address) (transfer next : ℕ) (t : Transfer) → IsSized t → IsUpper (segment_behind source transfer next t)
behind_upper source transfer next t s = grind (arith, nat_tests, ltb-true, and_parts)

answer_by : (ts : List Transfer) (source : Address) (transfer next : ℕ) (o : Option Transfer) → All IsSized ts → slice_get ts transfer ≡ o
    → IsUpper (option_map_or (segment_behind source transfer next) o upper.Nothing)
answer_by ts source transfer next None k here = tt
answer_by ts source transfer next (Some t) k here = behind_upper source transfer next t (all_here IsSized ts transfer t k here)

answer_upper : (known : Files) (source : Address) (above : Upper) → AreSizedFiles known → IsUpper (answer_to known source above)
unfolding answer_to
answer_upper known source above k = grind (arith, nat_tests, answer_by)

pub answered_upper : (home : Address) (known : Files) (p : PacketData) → AreSizedFiles known → IsUpper (answered home known p)
answered_upper home known p k = answer_upper known p.flow.src (heard home p) k

-- ## over time

abbrev IsSizedAct : Act → Type 0
IsSizedAct (Filed dst size segment) = (size ≤ 100000000) × (segment ≤ 1500)
IsSizedAct (Ticked dst) = Unit {0}
IsSizedAct (Came p) = Unit {0}

acked_by : (b : Bool) (t : Transfer) (next : ℕ) → IsSized t → IsSized (cond b (record t { acked = next }) t)
acked_by b t next s = grind (arith, nat_tests)

acked_keeps : (ts : List Transfer) (source : Address) (transfer next : ℕ) (o : Option Transfer) → All IsSized ts → slice_get ts transfer ≡ o
    → All IsSized (option_map_or (λ t. slice_set ts transfer (with_acked source next t)) o ts)
acked_keeps ts source transfer next None k here = k
acked_keeps ts source transfer next (Some t) k here =
    All-set IsSized ts transfer (with_acked source next t) (acked_by (is_more source next t) t next (all_here IsSized ts transfer t k here)) k

upper_keeps : (known : Files) (source : Address) (above : Upper) → AreSizedFiles known → AreSizedFiles (after_upper known source above)
unfolding after_upper
upper_keeps known source above k = grind (arith, nat_tests, acked_keeps)

act_keeps : (home : Address) (known : Files) (act : Act) → IsSizedAct act → AreSizedFiles known → AreSizedFiles (after_act home known act)
act_keeps home known (Filed dst size segment) s k = All-push IsSized known.transfers (begun dst size segment) k s
act_keeps home known (Ticked dst) s k = k
act_keeps home known (Came p) s k = upper_keeps known p.flow.src (heard home p) k

-- ## over a node's log

-- a row that was taken is within the sizes
abbrev pub IsSizedTaken : Entry → Type 0
IsSizedTaken (Took (FromTrace row) content) = IsSizedWhat row.what
IsSizedTaken (Took (Arrival time link packet) content) = Unit {0}
IsSizedTaken (Started time link class packet) = Unit {0}

act_sized : (e : Entry) → IsSizedTaken e → IfSome (act_of e) IsSizedAct
act_sized e s = grind (arith, nat_tests)

option_keeps : (home : Address) (known : Files) (o : Option Act) (more : List Act) → IfSome o IsSizedAct → AreSizedFiles known
    → ((then : Files) → AreSizedFiles then → AreSizedFiles (fold (after_act home) then more)) → AreSizedFiles (fold (after_act home) known (cons_option o more))
option_keeps home known o more s k rest = grind (arith, nat_tests, act_keeps)

acts_keep : (home : Address) (known : Files) (log : List Entry) → AllByRecursion IsSizedTaken log → AreSizedFiles known → AreSizedFiles (fold (after_act home) known (acts log))
acts_keep home known [] s k = k
acts_keep home known (e ∷ es) s k = option_keeps home known (act_of e) (acts es) (act_sized e s.0) k (λ then t. acts_keep home then es s.1 t)

-- all transfers of a host's files are within the sizes, where the rows were that it took
pub files_sized : (plan : HostPlan) (log : List Entry) → AllByRecursion IsSizedTaken log → AreSizedFiles (files plan log)
files_sized plan log s = acts_keep plan.address no_files log s (All-nil IsSized)

pub input_taken : (input : Input) (content : Content) → IsSizedInput input → IsSizedTaken (Took input content)
input_taken input content s = grind (arith, nat_tests)
