-- The history after one more deed, contact or packet.
use Rattle.tva_host.proofs.Common.{◌≡◌, ℕ, ◌+◌, ◌%◌, ◌^◌, ◌<◌, ◌≤◌, min, Bool, cond, List, [], ◌∷◌, ◌++◌, Option, Result, Ok, Err, OnOk, OnErr, IfOk, append-nil, ap, sym, subst, ◌∙◌, arith, IfSome, mod-add-mod, Address, Rights, PolicyPlan, ReturnInfo, IsReturn, Deed, Sent, grant_decision, Shape, Contact, Prepared, Taken, takes, length_of, IsShowableContact, AreShowable, of_peer, History, beginning, with_deed, with_packet, with_prepared, HostData, host_data, Keeps, HasHistory}
use Rattle.tva_base.specs.Plan.{IsHostPlan}
use Rattle.tva_base.specs.Versions.{AreRights, AreSomeRights, IsVersion}
use Rattle.tva_base.proofs.Widths.{some_rights}
use Rattle.tva_sender.proofs.Taking.{taken_fits}
use Rattle.tva_policy.specs.Notes as policy
use Rattle.tva_sender.specs.Book as sender

-- one more contact that a shim could carry
pub showable-push : (version : ℕ) (h : List (Address × Contact)) (a : Address) (c : Contact) → AreShowable version h → IsShowableContact version c → AreShowable version (h ++ (a, c) ∷ [])
showable-push version [] a c k x = (x, tt)
showable-push version (d ∷ ds) a c k x = (k.0, showable-push version ds a c k.1 x)

pub has-beginning : (v : HostData) → IsHostPlan v.plan → Keeps v beginning → v.sender.last ≤ v.last → HasHistory v
has-beginning v valid keeps past = record { history = beginning; valid = valid; keeps = keeps; showable = tt; past = past }

pub first-nonce : (n : ℕ) → n < 2 ^ 48 → n ≡ (n + 0) % 2 ^ 48
first-nonce n small = omega (arith, small)

pub next-nonce : (n p : ℕ) → ((n + p) % 2 ^ 48 + 1) % 2 ^ 48 ≡ (n + (p + 1)) % 2 ^ 48
next-nonce n p = let e : n + p + 1 ≡ n + (p + 1) = omega arith in mod-add-mod (n + p) (2 ^ 48) 1 ∙ ap (λ z. z % 2 ^ 48) e

one_more : (made : ℕ) → min (min (made + 1) 18446744073709551615 + 1) 18446744073709551615 ≡ min (made + 1 + 1) 18446744073709551615
one_more made = grind arith

-- the host with another next ordinal, nonce that is offered next, last time, policy or sender
abbrev pub numbered : ℕ → HostData → HostData
numbered next v = host_data v.node v.plan next v.offered v.last v.policy v.sender

abbrev pub timed : ℕ → HostData → HostData
timed last v = host_data v.node v.plan v.next v.offered last v.policy v.sender

abbrev pub noted : policy.Notes → HostData → HostData
noted notes v = host_data v.node v.plan v.next v.offered v.last notes v.sender

abbrev pub booked : ℕ → sender.Book → HostData → HostData
booked offered book v = host_data v.node v.plan v.next offered v.last v.policy book

pub keeps-timed : (v : HostData) (last : ℕ) (h : History) → Keeps v h → Keeps (timed last v) h
keeps-timed v last h k = grind arith

pub keeps-packet : (v : HostData) (h : History) → Keeps v h → Keeps (numbered (min (v.next + 1) 18446744073709551615) v) (with_packet h)
keeps-packet v h k = grind arith

pub has-packet : (v : HostData) → HasHistory v → HasHistory (numbered (min (v.next + 1) 18446744073709551615) v)
has-packet v has = grind (arith, keeps-packet)

pub keeps-deed : (v : HostData) (notes : policy.Notes) (deed : Deed) (h : History) → Keeps v h
    → policy.StandsFor v.plan.policy notes (h.deeds ++ deed ∷ []) → Keeps (noted notes v) (with_deed deed h)
keeps-deed v notes deed h k more = grind arith

pub has-deed : (v : HostData) (notes : policy.Notes) (deed : Deed) → HasHistory v
    → ((plan : PolicyPlan) (d : List Deed) → policy.StandsFor plan v.policy d → policy.StandsFor plan notes (d ++ deed ∷ []))
    → HasHistory (noted notes v)
has-deed v notes deed has more = record {
  history = with_deed deed has.history;
  valid = has.valid;
  keeps = keeps-deed v notes deed has.history has.keeps (more v.plan.policy has.history.deeds has.keeps.policy);
  showable = has.showable;
  past = has.past;
}

-- a send row is noted, or refused
pub has-sent : {A E : Type 0} (v : HostData) (notes : policy.Notes) (dst : Address) (r : Result A E) → HasHistory v
    → ((plan : PolicyPlan) (d : List Deed) → policy.StandsFor plan v.policy d → OnOk r (policy.StandsFor plan notes (d ++ Sent dst ∷ [])))
    → OnErr r (notes ≡ v.policy) → HasHistory (noted notes v)
has-sent v notes dst (Ok x) has more same = has-deed v notes (Sent dst) has more
has-sent v notes dst (Err e) has more same = subst (λ (n : policy.Notes). HasHistory (noted n v)) (sym same) has

pub keeps-sent : {A E : Type 0} (v : HostData) (notes : policy.Notes) (dst : Address) (h : History) (r : Result A E) → Keeps v h
    → ((plan : PolicyPlan) (d : List Deed) → policy.StandsFor plan v.policy d → OnOk r (policy.StandsFor plan notes (d ++ Sent dst ∷ [])))
    → IfOk r (λ done. Keeps (noted notes v) (with_deed (Sent dst) h))
keeps-sent v notes dst h (Ok x) k more = keeps-deed v notes (Sent dst) h k (more v.plan.policy h.deeds k.policy)
keeps-sent v notes dst h (Err e) k more = tt

-- the rights that a policy decides on are those of its plan
pub rights-fit : (version : ℕ) (plan : PolicyPlan) (d : List Deed) (src : Address) (tags : List ℕ) (rights : Option Rights) → AreRights version plan.rights → rights ≡ grant_decision plan d src tags
    → IfSome rights (AreRights version)
rights-fit version plan d src tags rights fits e = grind arith

pub some-fit : (version : ℕ) (rights : Option Rights) → IfSome rights (AreRights version) → IfSome rights AreSomeRights
some-fit version rights fits = grind (arith, some_rights)

-- return info of a shim of some version
pub back-some : (version : ℕ) (back : ReturnInfo) → IsReturn version back → IsReturn 2 back
back-some version back fits = grind (arith, some_rights)

-- the sender was told of one more contact
pub keeps-book : (v : HostData) (book : sender.Book) (h : History) (contacts : List (Address × Contact)) → Keeps v h
    → sender.StandsFor book contacts → book.margin ≡ v.sender.margin → book.retry ≡ v.sender.retry → book.version ≡ v.sender.version
    → Keeps (booked v.offered book v) (record h { contacts = contacts })
keeps-book v book h contacts k more margin retry version = grind arith

pub keeps-prepared : (v : HostData) (book : sender.Book) (h : History) (now : ℕ) (dst : Address) (shape : Shape) (body : ℕ) → Keeps v h
    → sender.StandsFor book (h.contacts ++ (dst, Prepared now shape (length_of v.plan.version shape body)) ∷ []) → book.margin ≡ v.sender.margin → book.retry ≡ v.sender.retry → book.version ≡ v.sender.version
    → Keeps (booked ((v.offered + 1) % 2 ^ 48) book v) (with_prepared v.plan.version now dst shape body h)
keeps-prepared v book h now dst shape body k more margin retry version = grind (arith, next-nonce)

pub has-prepared : (v : HostData) (book : sender.Book) (now : ℕ) (dst : Address) (shape : Shape) (body : ℕ) → (has : HasHistory v)
    → sender.StandsFor book (has.history.contacts ++ (dst, Prepared now shape (length_of v.plan.version shape body)) ∷ []) → IsShowableContact v.plan.version (Prepared now shape (length_of v.plan.version shape body))
    → book.margin ≡ v.sender.margin → book.retry ≡ v.sender.retry → book.version ≡ v.sender.version → book.last ≤ v.last
    → HasHistory (booked ((v.offered + 1) % 2 ^ 48) book v)
has-prepared v book now dst shape body has more fits margin retry version past = grind (arith, keeps-prepared, showable-push)

-- a grant that came with a shim is taken where a shim of the sender's version can carry it
pub showable-granted : (version : ℕ) → IsVersion version → (h contacts : List (Address × Contact)) (src : Address) (rights : Rights) (caps : List ℕ) (is_taken : Bool)
    → is_taken ≡ takes version (of_peer src contacts) rights → AreShowable version h → AreSomeRights rights → AreShowable version (h ++ cond is_taken ((src, Taken rights caps) ∷ []) [])
showable-granted version is h contacts src rights caps is_taken taken k some = grind (arith, showable-push, taken_fits, append-nil)

pub has-book : (v : HostData) (book : sender.Book) (more : List (Address × Contact)) → (has : HasHistory v)
    → sender.StandsFor book (has.history.contacts ++ more) → AreShowable v.plan.version (has.history.contacts ++ more) → book.margin ≡ v.sender.margin → book.retry ≡ v.sender.retry → book.version ≡ v.sender.version
    → book.last ≡ v.sender.last → HasHistory (booked v.offered book v)
has-book v book more has stands showable margin retry version last = grind (arith, keeps-book)
