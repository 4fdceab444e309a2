-- The next request, in queues of one level or of two.
use Rattle.tva_port.proofs.Common.{◌≡◌, ℕ, ◌≤◌, List, [], ◌∷◌, Option, Some, None, refl, ap, arith, DrrLimits, LinkLimits, PacketData, packet_length, Queue, first, head, AreMeasured, AreQueues, AreFair, Group, next, AreGroups, head_there, RequestQueues, OneLevel, TwoLevels, none_under, next_in, AreNone, AreWithin, nat_tests}

-- ## where nothing waits

pub no_first : (xs : List PacketData) → first xs ≡ None → xs ≡ []
no_first [] e = refl
no_first (x ∷ xs) e = absurd (cc)

-- each queue has an item, so fair queues without a head are none
pub no_head : (d : DrrLimits) (qs : List (Queue PacketData)) → AreFair packet_length d qs → head qs ≡ None → qs ≡ []
no_head d qs a e = grind (arith, nat_tests, no_first)

no_next : (d : DrrLimits) (n : ℕ) (gs : List (Group PacketData)) → AreGroups packet_length d n gs → next gs ≡ None
    → gs ≡ []
no_next d n gs a e = grind (arith, nat_tests, head_there)

pub none_left : (l : LinkLimits) (rs : RequestQueues) → AreWithin l rs → next_in rs ≡ None → AreNone rs
none_left l (OneLevel f) w e = no_head f.limits f.queues w.1.queues e
none_left l (TwoLevels h) w e = no_next h.limits h.inner h.groups w.1.groups.each e

pub none_next : (rs : RequestQueues) → AreNone rs → next_in rs ≡ None
none_next (OneLevel f) e = ap (λ (qs : List (Queue PacketData)). head qs) e
none_next (TwoLevels h) e = ap (λ (gs : List (Group PacketData)). next gs) e

pub none_first : (d : DrrLimits) (inner : Option ℕ) → AreNone (none_under d inner)
none_first d None = refl
none_first d (Some inner) = refl

-- ## sizes

first_sized : (d : DrrLimits) (xs : List PacketData) (p : PacketData) → AreMeasured packet_length d xs
    → first xs ≡ Some p → (1 ≤ packet_length p) × (packet_length p ≤ d.max)
first_sized d xs p m e = grind (arith, nat_tests)

pub head_sized : (d : DrrLimits) (qs : List (Queue PacketData)) (p : PacketData) → AreQueues packet_length d qs
    → head qs ≡ Some p → (1 ≤ packet_length p) × (packet_length p ≤ d.max)
head_sized d [] p a e = absurd (cc)
head_sized d (q ∷ qs) p a e = first_sized d q.items p a.0.measured e

next_sized : (d : DrrLimits) (n : ℕ) (gs : List (Group PacketData)) (p : PacketData)
    → AreGroups packet_length d n gs → next gs ≡ Some p → (1 ≤ packet_length p) × (packet_length p ≤ d.max)
next_sized d n [] p a e = absurd (cc)
next_sized d n (g ∷ gs) p a e = grind (arith, nat_tests, head_sized)

-- the next request has at most the greatest length
pub request_sized : (l : LinkLimits) (rs : RequestQueues) (p : PacketData) → AreWithin l rs → next_in rs ≡ Some p
    → (1 ≤ packet_length p) × (packet_length p ≤ l.request.max)
request_sized l rs p w e = grind (arith, nat_tests, head_sized, next_sized)
