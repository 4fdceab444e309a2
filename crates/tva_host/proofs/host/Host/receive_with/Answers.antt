use Rattle.tva_host.proofs.Common.{◌≡◌, eqb, ap, sym, subst, ◌∙◌, true, false, Option, arith, le_refl, HostPlan, ReturnInfo, PacketData, Receipt, back_in, after_back, became_of, claim_in, answer_to_claim, brought_by, after_answer, reply_of, after_reply, before_reply, receipt_of, after_receipt, Received, history_of, HostData, host_data, Keeps}
use Rattle.tva_shim.specs.Fields.{packet_of_fields}
use Rattle.tva_host.proofs.Standing.{timed, keeps-timed}
use Rattle.tva_host.proofs.Hearing.{receipt-stray, keeps-stray, receipt-here, keeps-here, receipt-received}
use Rattle.tva_host.proofs.Calls.{stands-push}
use Rattle.tva_host.proofs.host.Host.receive_with.Goals as goal

pub returns-then-not-is_for-clause-receipt : goal.returns-then-not-is_for-clause-receipt
returns-then-not-is_for-clause-receipt c calls s =
    let h = history_of c.args.self.now.plan calls in
    let packet : PacketData = packet_of_fields c.packet.inside in
    let apart : eqb packet.flow.dst.0 c.args.self.now.plan.address.0 ≡ false = sym (c.if-not-is_for.ensures ∙ ap (λ (w : HostData). eqb packet.flow.dst.0 w.plan.address.0) c.self.view_is) in
    subst (λ (z : PacketData). c.stray.result ≡ receipt_of c.args.self.now.node c.args.self.now.plan h c.args.now.0 z c.args.upper) c.packet.view_is
    (c.stray.ensures ∙ receipt-stray c.args.self.now.node c.args.self.now.plan h c.args.now.0 packet c.args.upper apart)

pub returns-then-not-is_for-clause-stands : goal.returns-then-not-is_for-clause-stands
returns-then-not-is_for-clause-stands c calls s =
    let v : HostData = host_data c.self.inside.node c.self.inside.plan c.self.inside.next c.self.inside.offered c.self.inside.last.0 c.self.inside.policy c.self.inside.sender in
    let told = c.args.self.now in
    let h = history_of told.plan calls in
    let packet : PacketData = packet_of_fields c.packet.inside in
    let apart : eqb packet.flow.dst.0 told.plan.address.0 ≡ false = sym (c.if-not-is_for.ensures ∙ ap (λ (w : HostData). eqb packet.flow.dst.0 w.plan.address.0) c.self.view_is) in
    let start = keeps-timed v c.args.now.0 h (subst (λ (w : HostData). Keeps w h) (sym c.self.view_is) s.keeps) in
    stands-push told (timed c.args.now.0 v) calls (Received c.args.now.0 c.args.packet c.args.upper) s (ap (λ (w : HostData). w.plan) c.self.view_is)
    (omega (arith, s.past, c.requires.time), tt) (le_refl c.args.now.0)
    (subst (λ (z : PacketData). Keeps (timed c.args.now.0 v) (after_receipt told.plan h c.args.now.0 z c.args.upper)) c.packet.view_is
    (keeps-stray told.plan (timed c.args.now.0 v) h c.args.now.0 packet c.args.upper apart start))

pub returns-clause-receipt : goal.returns-clause-receipt
returns-clause-receipt c calls s =
    let h = history_of c.args.self.now.plan calls in
    let packet : PacketData = packet_of_fields c.packet.inside in
    let here : eqb packet.flow.dst.0 c.args.self.now.plan.address.0 ≡ true = sym (c.if-not-is_for.ensures ∙ ap (λ (w : HostData). eqb packet.flow.dst.0 w.plan.address.0) c.self.view_is) in
    let start = keeps-timed _ c.args.now.0 h (subst (λ (w : HostData). Keeps w h) (sym c.self.view_is) s.keeps) in
    let roomy = c.in_ok-make_room.ensures.keeps h start in
    let plan : c.make_room.new.self.plan ≡ c.args.self.now.plan = ap (λ (w : HostData). w.plan) c.in_ok-make_room.ensures.rest ∙ ap (λ (w : HostData). w.plan) c.self.view_is in
    let node : c.make_room.new.self.node ≡ c.args.self.now.node = ap (λ (w : HostData). w.node) c.in_ok-make_room.ensures.rest ∙ ap (λ (w : HostData). w.node) c.self.view_is in
    let heard_plan : c.take_back-back.new.self.plan ≡ c.args.self.now.plan = ap (λ (w : HostData). w.plan) c.take_back-back.ensures.rest ∙ ap (λ (w : HostData). w.plan) c.in_ok-answer.ensures.rest ∙ plan in
    let heard_node : c.take_back-back.new.self.node ≡ c.args.self.now.node = ap (λ (w : HostData). w.node) c.take_back-back.ensures.rest ∙ ap (λ (w : HostData). w.node) c.in_ok-answer.ensures.rest ∙ node in
    let decided = subst (λ (q : HostPlan). Keeps c.answer.new.self (after_answer q c.packet.inside.flow.src c.packet.inside.carried h)) plan (c.in_ok-answer.ensures.keeps h roomy) in
    let asked_plan : c.answer.new.self.plan ≡ c.args.self.now.plan = ap (λ (w : HostData). w.plan) c.in_ok-answer.ensures.rest ∙ plan in
    let heard = subst (λ (q : HostPlan). Keeps c.take_back-back.new.self (after_back q.version c.packet.inside.flow.src (back_in c.packet.inside.carried) (after_answer c.args.self.now.plan c.packet.inside.flow.src c.packet.inside.carried h))) asked_plan
    (c.take_back-back.ensures.keeps (after_answer c.args.self.now.plan c.packet.inside.flow.src c.packet.inside.carried h) decided) in
    let replied = c.reply-reply.ensures.reply (before_reply c.args.self.now.plan c.packet.inside.flow.src c.packet.inside.carried h) heard in
    let receipt : Receipt = record { what = c.what_of.result; back = c.take_back-back.result; reply = c.reply-reply.result } in
    subst (λ (z : PacketData). receipt ≡ receipt_of c.args.self.now.node c.args.self.now.plan h c.args.now.0 z c.args.upper) c.packet.view_is
    (receipt-received c.args.self.now.node c.args.self.now.plan h c.args.now.0 c.packet.inside.flow.src c.packet.inside.carried c.what_of.result c.take_back-back.result c.brought_by.result c.args.upper c.reply-reply.result
    c.what_of.ensures
    (c.take_back-back.ensures.became (after_answer c.args.self.now.plan c.packet.inside.flow.src c.packet.inside.carried h) decided
    ∙ ap (λ (q : HostPlan). became_of q.version h.contacts c.packet.inside.flow.src (back_in c.packet.inside.carried)) asked_plan)
    (c.brought_by.ensures.back ∙ ap (brought_by c.args.upper) (c.in_ok-answer.ensures.answer h roomy ∙ ap (λ (q : HostPlan). answer_to_claim q h.deeds c.packet.inside.flow.src c.packet.inside.carried (claim_in c.packet.inside.carried)) plan))
    (replied ∙ ap (λ n. reply_of n c.take_back-back.new.self.plan (before_reply c.args.self.now.plan c.packet.inside.flow.src c.packet.inside.carried h) c.args.now.0 c.packet.inside.flow.src c.brought_by.result c.args.upper) heard_node
    ∙ ap (λ (q : HostPlan). reply_of c.args.self.now.node q (before_reply c.args.self.now.plan c.packet.inside.flow.src c.packet.inside.carried h) c.args.now.0 c.packet.inside.flow.src c.brought_by.result c.args.upper) heard_plan)
    ∙ receipt-here c.args.self.now.node c.args.self.now.plan h c.args.now.0 packet c.args.upper here)

pub returns-clause-stands : goal.returns-clause-stands
returns-clause-stands c calls s =
    let h = history_of c.args.self.now.plan calls in
    let packet : PacketData = packet_of_fields c.packet.inside in
    let here : eqb packet.flow.dst.0 c.args.self.now.plan.address.0 ≡ true = sym (c.if-not-is_for.ensures ∙ ap (λ (w : HostData). eqb packet.flow.dst.0 w.plan.address.0) c.self.view_is) in
    let start = keeps-timed _ c.args.now.0 h (subst (λ (w : HostData). Keeps w h) (sym c.self.view_is) s.keeps) in
    let roomy = c.in_ok-make_room.ensures.keeps h start in
    let plan : c.make_room.new.self.plan ≡ c.args.self.now.plan = ap (λ (w : HostData). w.plan) c.in_ok-make_room.ensures.rest ∙ ap (λ (w : HostData). w.plan) c.self.view_is in
    let heard_plan : c.take_back-back.new.self.plan ≡ c.args.self.now.plan = ap (λ (w : HostData). w.plan) c.take_back-back.ensures.rest ∙ ap (λ (w : HostData). w.plan) c.in_ok-answer.ensures.rest ∙ plan in
    let decided = subst (λ (q : HostPlan). Keeps c.answer.new.self (after_answer q c.packet.inside.flow.src c.packet.inside.carried h)) plan (c.in_ok-answer.ensures.keeps h roomy) in
    let asked_plan : c.answer.new.self.plan ≡ c.args.self.now.plan = ap (λ (w : HostData). w.plan) c.in_ok-answer.ensures.rest ∙ plan in
    let heard = subst (λ (q : HostPlan). Keeps c.take_back-back.new.self (after_back q.version c.packet.inside.flow.src (back_in c.packet.inside.carried) (after_answer c.args.self.now.plan c.packet.inside.flow.src c.packet.inside.carried h))) asked_plan
    (c.take_back-back.ensures.keeps (after_answer c.args.self.now.plan c.packet.inside.flow.src c.packet.inside.carried h) decided) in
    let answers = c.brought_by.ensures.back ∙ ap (brought_by c.args.upper) (c.in_ok-answer.ensures.answer h roomy ∙ ap (λ (q : HostPlan). answer_to_claim q h.deeds c.packet.inside.flow.src c.packet.inside.carried (claim_in c.packet.inside.carried)) plan) in
    let replied = subst (λ (q : HostPlan). Keeps c.reply-reply.new.self (after_reply q c.args.now.0 c.packet.inside.flow.src c.brought_by.result c.args.upper (before_reply c.args.self.now.plan c.packet.inside.flow.src c.packet.inside.carried h))) heard_plan
    (c.reply-reply.ensures.keeps (before_reply c.args.self.now.plan c.packet.inside.flow.src c.packet.inside.carried h) heard) in
    let last : c.reply-reply.new.self.last ≡ c.args.now.0 = c.reply-reply.ensures.rest.2 ∙ ap (λ (w : HostData). w.last) c.take_back-back.ensures.rest ∙ ap (λ (w : HostData). w.last) c.in_ok-answer.ensures.rest ∙ ap (λ (w : HostData). w.last) c.in_ok-make_room.ensures.rest in
    stands-push c.args.self.now c.reply-reply.new.self calls (Received c.args.now.0 c.args.packet c.args.upper) s (c.reply-reply.ensures.rest.1 ∙ heard_plan)
    (omega (arith, s.past, c.requires.time), tt) (omega (arith, last))
    (subst (λ (z : PacketData). Keeps c.reply-reply.new.self (after_receipt c.args.self.now.plan h c.args.now.0 z c.args.upper)) c.packet.view_is
    (keeps-here c.args.self.now.plan c.reply-reply.new.self h c.args.now.0 packet c.args.upper here
    (subst (λ (a : Option ReturnInfo). Keeps c.reply-reply.new.self (after_reply c.args.self.now.plan c.args.now.0 c.packet.inside.flow.src a c.args.upper (before_reply c.args.self.now.plan c.packet.inside.flow.src c.packet.inside.carried h))) answers replied)))
