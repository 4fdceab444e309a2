-- What a host makes of a packet is by the definitions.
use Rattle.tva_host.proofs.Common.{◌≡◌, ℕ, Bool, List, ◌++◌, ◌∷◌, [], true, false, not, eqb, Option, Some, None, append-nil, refl, sym, ap, subst, ◌∙◌, cases_Bool, is_some, Address, Rights, Upper, HostPlan, Carried, PacketData, Deed, Decided, grant_decision, is_granted, lets_in, was_sent_to, PolicyPlan, ReturnInfo, Made, Receipt, History, HostData, Keeps, back_in, ClaimData, became_of, what_came, reply_of, claim_in, notice_for, granted, decided_on, answer_to_claim, brought_by, after_answer, after_reply, before_reply, stray, received, receipt_of, after_receipt, arith}
use Rattle.tva_base.specs.declared.plan.PolicyKind.{PolicyKind}
use Rattle.tva_policy.specs.Notes as policy
use Rattle.tva_base.specs.declared.event.WhatKind.{WhatKind}
use Rattle.tva_base.specs.declared.event.BackKind.{BackKind}
use Rattle.tva_host.proofs.Standing.{noted, keeps-deed}

-- the policy decided on a claim
pub keeps-answer : (v : HostData) (notes : policy.Notes) (h : History) (src : Address) (carries : Carried) (claim : ClaimData) (rights : Option Rights)
    → Keeps v h → Some claim ≡ claim_in carries → rights ≡ grant_decision v.plan.policy h.deeds src claim.tags
    → policy.StandsFor v.plan.policy notes (h.deeds ++ Decided src (is_some rights) ∷ [])
    → Keeps (noted notes v) (after_answer v.plan src carries h)
keeps-answer v notes h src carries claim rights k claims decides more = grind (arith, is_some, keeps-deed)

-- a policy of a kind that lets nobody in grants nothing
let_in_never : (kind : PolicyKind) (sent : Bool) → not (lets_in kind true) ≡ true → lets_in kind sent ≡ false
let_in_never kind sent e = grind arith

grants-nobody : (plan : PolicyPlan) (deeds : List Deed) (src : Address) (tags : List ℕ) → not (lets_in plan.kind true) ≡ true → None ≡ grant_decision plan deeds src tags
unfolding is_granted
grants-nobody plan deeds src tags e = rw (let_in_never plan.kind (was_sent_to deeds src) e) refl

-- what claims a grant is answered with no notice
claims-unnoticed : (carries : Carried) (claim : ClaimData) → claim_in carries ≡ Some claim → notice_for carries ≡ None
claims-unnoticed carries claim e = grind (arith, cases_Bool)

-- so the answer is the notice alone
pub answer-nobody : (plan : HostPlan) (deeds : List Deed) (src : Address) (carries : Carried) → not (lets_in plan.policy.kind true) ≡ true → notice_for carries ≡ answer_to_claim plan deeds src carries (claim_in carries)
answer-nobody plan deeds src carries never = go (claim_in carries) refl where
  go : (o : Option ClaimData) → claim_in carries ≡ o → notice_for carries ≡ answer_to_claim plan deeds src carries o
  go None e = refl
  go (Some claim) e = claims-unnoticed carries claim e ∙ ap (λ rights. granted rights claim.precaps) (grants-nobody plan.policy deeds src claim.tags never)

pub keeps-nobody : (v : HostData) (h : History) (src : Address) (carries : Carried) → Keeps v h → not (lets_in v.plan.policy.kind true) ≡ true
    → policy.StandsFor v.plan.policy v.policy (h.deeds ++ Decided src false ∷ []) → Keeps v (after_answer v.plan src carries h)
keeps-nobody v h src carries k never more = go (claim_in carries) refl where
  go : (o : Option ClaimData) → claim_in carries ≡ o → Keeps v (record h { deeds = h.deeds ++ decided_on v.plan h.deeds src o })
  go None e = subst (λ deeds. Keeps v (record h { deeds = deeds })) (sym (append-nil h.deeds)) k
  go (Some claim) e = subst (λ (o : Option ClaimData). Keeps v (record h { deeds = h.deeds ++ decided_on v.plan h.deeds src o })) e
      (keeps-answer v v.policy h src carries claim None k (sym e) (grants-nobody v.plan.policy h.deeds src claim.tags never) more)

-- a packet for another host
pub receipt-stray : (node : ℕ) (plan : HostPlan) (h : History) (now : ℕ) (p : PacketData) (above : Upper) → eqb p.flow.dst.0 plan.address.0 ≡ false → stray ≡ receipt_of node plan h now p above
unfolding receipt_of
receipt-stray node plan h now p above apart = rw apart refl

pub keeps-stray : (plan : HostPlan) (v : HostData) (h : History) (now : ℕ) (p : PacketData) (above : Upper) → eqb p.flow.dst.0 plan.address.0 ≡ false → Keeps v h → Keeps v (after_receipt plan h now p above)
unfolding after_receipt
keeps-stray plan v h now p above apart k = rw apart k

-- a packet for this host
pub receipt-here : (node : ℕ) (plan : HostPlan) (h : History) (now : ℕ) (p : PacketData) (above : Upper) → eqb p.flow.dst.0 plan.address.0 ≡ true → received node plan h now p.flow.src p.carried above ≡ receipt_of node plan h now p above
unfolding receipt_of
receipt-here node plan h now p above here = rw here refl

pub keeps-here : (plan : HostPlan) (v : HostData) (h : History) (now : ℕ) (p : PacketData) (above : Upper) → eqb p.flow.dst.0 plan.address.0 ≡ true
    → Keeps v (after_reply plan now p.flow.src (brought_by above (answer_to_claim plan h.deeds p.flow.src p.carried (claim_in p.carried))) above (before_reply plan p.flow.src p.carried h))
    → Keeps v (after_receipt plan h now p above)
unfolding after_receipt
keeps-here plan v h now p above here k = rw here k

abbrev told : WhatKind → BackKind → Option Made → Receipt
told what back reply = record { what = what; back = back; reply = reply }

-- the parts of a receipt, one by one
pub receipt-received : (node : ℕ) (plan : HostPlan) (h : History) (now : ℕ) (src : Address) (carries : Carried) (what : WhatKind) (back : BackKind) (answer : Option ReturnInfo) (above : Upper) (reply : Option Made)
    → what ≡ what_came carries → back ≡ became_of plan.version h.contacts src (back_in carries) → answer ≡ brought_by above (answer_to_claim plan h.deeds src carries (claim_in carries))
    → reply ≡ reply_of node plan (before_reply plan src carries h) now src answer above
    → told what back reply ≡ received node plan h now src carries above
receipt-received node plan h now src carries what back answer above reply is became answers replies = cc
