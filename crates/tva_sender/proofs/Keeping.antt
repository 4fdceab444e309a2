-- What is kept of a peer after one more contact.
use Rattle.tva_sender.proofs.Common.{◌≡◌, ℕ, ◌+◌, Bool, true, false, ◌||◌, cond, ltb, eq-eqb, List, [], ◌∷◌, ◌++◌, Option, Some, None, refl, arith, append-nil, add-zero, sum_by, option_or, option_map, option_and_then, sum_by_push, nat_tests, Rights, Shape, Grant, Peer, Contact, Prepared, Taken, Notice, is_taking, is_notice, Ask, Taking, notices, unless_given_up, Use, uses_in, time, grant_of, length_of, list_length, nonce_length, charged, used_by, grant_used_by, prepared, answered, noticed, first_asked, Keeps, IsStrange, common_steps}
use Rattle.std.specs.List.{list_any}
use Rattle.std.proofs.lemmas.List.Folds.{list_any-append}
use Rattle.tva_base.specs.declared.packet.Time.{Time}
use Rattle.tva_sender.specs.declared.shape.Shape.TheVariants as shape
use Rattle.tva_sender.proofs.Pushes.{time_of, is_open, ask_more, last_ask-push, taking_more, last_taking-push, notices-push, uses-push, since_notice-push, since_notice-first, life_of-push, first_nonce-push}

-- a contact that is no taking leaves an ask as it was
asked_more : (c : Contact) (o : Option Ask) → option_map (λ (ask : Ask). time ask.time) (option_map (ask_more c) o) ≡ option_map (λ (ask : Ask). time ask.time) o
asked_more c o = grind arith

no_taking : (cs : List Contact) (c : Contact) → is_taking c ≡ false → list_any is_taking (cs ++ c ∷ []) ≡ list_any is_taking cs
no_taking cs c other = rw (list_any-append is_taking cs (c ∷ []), other) (elim (list_any is_taking cs) as (λ b. (b || (false || false)) ≡ b) [ true ↦ refl | false ↦ refl ])

open_more : (c : Contact) (o : Option Ask) → is_taking c ≡ false → is_open (option_map (ask_more c) o) ≡ is_open o
open_more c o other = grind (arith, no_taking)

-- a taking answers the last ask
has_taking : (cs : List Contact) (c : Contact) → is_taking c ≡ true → list_any is_taking (cs ++ c ∷ []) ≡ true
has_taking cs c taken = rw (list_any-append is_taking cs (c ∷ []), taken) (elim (list_any is_taking cs) as (λ b. (b || (true || false)) ≡ true) [ true ↦ refl | false ↦ refl ])

open_taken : (c : Contact) (o : Option Ask) → is_taking c ≡ true → is_open (option_map (ask_more c) o) ≡ false
open_taken c o taken = grind (arith, has_taking)

abbrev with : Rights → List ℕ → Option ℕ → Time → ℕ → ℕ → ℕ → Grant
with rights caps nonce asked used life notes = record { rights = rights; caps = caps; nonce = nonce; asked = asked; used = used; life = life; notices = notes }

same_with : (rights : Rights) (caps : List ℕ) (asked : Time) (n n' : Option ℕ) (u u' l l' k k' : ℕ) → n ≡ n' → u ≡ u' → l ≡ l' → k ≡ k' → with rights caps n asked u l k ≡ with rights caps n' asked u' l' k'
same_with rights caps asked n n' u u' l l' k k' a b c d = cc

-- a packet that uses the grant
grant_charged : (t : Taking) (c : Contact) (u : Use) → is_notice c ≡ false → uses_in c ≡ u ∷ [] → grant_of (taking_more c t) ≡ charged (grant_of t) u.time u.length u.nonce
grant_charged t c u other used = grind (arith, uses-push, since_notice-push, same_with, time_of, first_nonce-push, sum_by, sum_by_push, life_of-push, notices-push)

-- a packet that doesn't use it
grant_kept : (t : Taking) (c : Contact) → is_notice c ≡ false → uses_in c ≡ [] → grant_of (taking_more c t) ≡ grant_of t
grant_kept t c other unused = grind (arith, uses-push, append-nil, since_notice-push, same_with, time_of, sum_by, notices-push)

grant_used : (t : Taking) (version now body : ℕ) (s : Shape) → grant_of (taking_more (Prepared now s (length_of version s body)) t) ≡ used_by version (grant_of t) now s body
grant_used t version now body shape.Request = grant_kept t (Prepared now shape.Request (length_of version shape.Request body)) refl refl
grant_used t version now body (shape.List held) = grant_charged t (Prepared now (shape.List held) (length_of version (shape.List held) body)) (record { time = now; length = list_length version held.caps body; nonce = held.nonce }) refl refl
grant_used t version now body (shape.NonceOnly nonce) = grant_charged t (Prepared now (shape.NonceOnly nonce) (nonce_length body)) (record { time = now; length = nonce_length body; nonce = nonce }) refl refl
grant_used t version now body (shape.Renewal held) = grant_charged t (Prepared now (shape.Renewal held) (length_of version (shape.Renewal held) body)) (record { time = now; length = list_length version held.caps body; nonce = held.nonce }) refl refl
grant_used t version now body shape.Legacy = grant_kept t (Prepared now shape.Legacy (length_of version shape.Legacy body)) refl refl

held_used : (o : Option Taking) (version now body : ℕ) (s : Shape) → option_map grant_of (option_and_then unless_given_up (option_map (taking_more (Prepared now s (length_of version s body))) o)) ≡ grant_used_by version (option_map grant_of (option_and_then unless_given_up o)) now s body
held_used o version now body s = grind (arith, common_steps, nat_tests, notices-push, add-zero, taking_more, grant_used)

pub keeps_prepared : (version : ℕ) (p : Peer) (h : List Contact) (now body : ℕ) (s : Shape) → Keeps p h → Keeps (prepared version p now s body) (h ++ Prepared now s (length_of version s body) ∷ [])
keeps_prepared version p h now body s k = grind (arith, common_steps, nat_tests, last_ask-push, option_or, ask_more, asked_more, open_more, last_taking-push, held_used)

-- the first request
pub keeps_first : (version : ℕ) (h : List Contact) (now : Time) (body : ℕ) → IsStrange h → Keeps (first_asked now) (h ++ Prepared now.0 shape.Request (length_of version shape.Request body) ∷ [])
keeps_first version h now body strange = grind (arith, common_steps, nat_tests, last_ask-push, last_taking-push, held_used)

asked_time : (o : Option Ask) (asked : Time) → option_map (λ (ask : Ask). time ask.time) o ≡ Some asked → time (time_of o) ≡ asked
asked_time o asked e = grind arith

pub keeps_answered : (p : Peer) (h : List Contact) (rights : Rights) (caps : List ℕ) → Keeps p h → Keeps (answered p rights caps) (h ++ Taken rights caps ∷ [])
keeps_answered p h rights caps k = grind (arith, common_steps, nat_tests, last_ask-push, asked_more, open_taken, last_taking-push, with, asked_time)

-- the first notice on the grant that is held
grant_noticed : (t : Taking) → notices t.after ≡ 0 → grant_of (taking_more Notice t) ≡ with t.rights t.caps (grant_of t).nonce (grant_of t).asked (grant_of t).used 0 1
grant_noticed t none = grind (arith, uses-push, append-nil, same_with, time_of, sum_by, since_notice-first, notices-push)

noticed_by : (t : Taking) (n : ℕ) → n ≡ notices t.after → option_map grant_of (cond (ltb (n + 1) 2) (Some (taking_more Notice t)) None) ≡ noticed (option_map grant_of (cond (ltb n 2) (Some t) None))
noticed_by t n e = grind (arith, eq-eqb, grant_noticed)

held_noticed : (o : Option Taking) → option_map grant_of (option_and_then unless_given_up (option_map (taking_more Notice) o)) ≡ noticed (option_map grant_of (option_and_then unless_given_up o))
held_noticed o = grind (arith, notices-push, noticed_by)

none_from : {X : Type 0} (x y : X) (b b' : Bool) → cond b (Some x) None ≡ None → (b ≡ false → b' ≡ false) → cond b' (Some y) None ≡ None
none_from x y b b' none over = grind arith

given_up : (o : Option Taking) → option_and_then unless_given_up o ≡ None → option_and_then unless_given_up (option_map (taking_more Notice) o) ≡ None
given_up o none = grind (arith, notices-push, none_from, taking_more)

pub keeps_noticed : (p : Peer) (h : List Contact) → Keeps p h → Keeps (record p { grant = noticed p.grant }) (h ++ Notice ∷ [])
keeps_noticed p h k = grind (arith, common_steps, nat_tests, last_ask-push, asked_more, open_more, last_taking-push, held_noticed)

-- a notice of a peer that isn't known does nothing
pub strange_noticed : (h : List Contact) → IsStrange h → IsStrange (h ++ Notice ∷ [])
strange_noticed h strange = grind (arith, last_ask-push, last_taking-push, given_up)
