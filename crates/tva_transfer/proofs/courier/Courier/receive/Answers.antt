use Rattle.tva_transfer.proofs.Common.{◌≡◌, List, ◌∷◌, [], ◌++◌, sym, subst, ap, ◌∙◌, Upper, Call, Received, history_of, PacketData, Act, Came, after_upper, answer_to, answered, range_of, CourierData, Knows, StandsFor, courier_data, known}
use Rattle.tva_host.specs.Stands as host
use Rattle.tva_host.specs.Receiving.{receipt_of}
use Rattle.tva_transfer.proofs.Standing.{knows_at, on_err, stands_again, stands_act, stands_refused}
use Rattle.tva_transfer.proofs.courier.Courier.receive.Goals as goal

pub returns-in_err-next-clause-refused : goal.returns-in_err-next-clause-refused
returns-in_err-next-clause-refused c =
    let still : (calls : List Call) (acts : List Act) → StandsFor c.args.self.now calls acts → StandsFor c.next_of.new.self calls acts =
    λ calls acts s. stands_again c.args.self.now c.next_of.new.self calls acts c.next_of.ensures.rest c.next_of.ensures.knows s in
    on_err _ _ still

pub returns-in_err-receipt-clause-refused : goal.returns-in_err-receipt-clause-refused
returns-in_err-receipt-clause-refused c =
    let after : CourierData = courier_data c.receive_with.new.self c.self.inside.transfers.items c.self.inside.nexts.entries in
    let still : (calls : List Call) (acts : List Act) → StandsFor c.args.self.now calls acts → StandsFor after calls acts =
    λ calls acts s.
    let roomy = stands_again c.args.self.now c.next_of.new.self calls acts c.next_of.ensures.rest c.next_of.ensures.knows s in
    let here = subst (λ (v : CourierData). StandsFor v calls acts) (sym c.self.view_is) roomy in
    stands_refused _ c.receive_with.new.self calls acts c.in_err-receipt.ensures.same.1 (c.in_err-receipt.ensures.refused calls here.host) here in
    on_err _ _ still

pub returns-clause-range : goal.returns-clause-range
returns-clause-range c calls acts s =
    let files = known c.args.self.now.host acts in
    c.range_at-range.ensures _ files _ (c.next_of.ensures.knows files s.files) c.in_ok-next.ensures.next
    ∙ ap (λ (p : PacketData). range_of files p.flow.src c.heard-upper.result) c.packet.view_is
    ∙ ap (λ (above : Upper). range_of files c.args.packet.flow.src above) c.heard-upper.ensures.heard

pub returns-clause-receipt : goal.returns-clause-receipt
returns-clause-receipt c calls acts s =
    let files = known c.args.self.now.host acts in
    let roomy = stands_again c.args.self.now c.next_of.new.self calls acts c.next_of.ensures.rest c.next_of.ensures.knows s in
    let same : c.self.inside.host ≡ c.args.self.now.host = ap (λ (v : CourierData). v.host) c.self.view_is ∙ c.next_of.ensures.rest in
    let answer : c.answer_to-answer.result ≡ answered c.args.self.now.host.plan.address files c.args.packet =
    c.answer_to-answer.ensures.answer files (c.next_of.ensures.knows files s.files)
    ∙ ap (λ (p : PacketData). answer_to files p.flow.src c.heard-upper.result) c.packet.view_is
    ∙ ap (λ (above : Upper). answer_to files c.args.packet.flow.src above) c.heard-upper.ensures.heard in
    c.in_ok-receipt.ensures.receipt calls (subst (λ (v : CourierData). StandsFor v calls acts) (sym c.self.view_is) roomy).host
    ∙ ap (λ (h : host.HostData). receipt_of h.node h.plan (history_of h.plan calls) c.args.now.0 c.args.packet c.answer_to-answer.result) same
    ∙ ap (λ (above : Upper). receipt_of c.args.self.now.host.node c.args.self.now.host.plan (history_of c.args.self.now.host.plan calls) c.args.now.0 c.args.packet above) answer

pub returns-clause-stands : goal.returns-clause-stands
returns-clause-stands c calls acts s =
    let files = known c.args.self.now.host acts in
    let roomy = stands_again c.args.self.now c.next_of.new.self calls acts c.next_of.ensures.rest c.next_of.ensures.knows s in
    let here = subst (λ (v : CourierData). StandsFor v calls acts) (sym c.self.view_is) roomy in
    let same : c.self.inside.host ≡ c.args.self.now.host = ap (λ (v : CourierData). v.host) c.self.view_is ∙ c.next_of.ensures.rest in
    let answer : c.answer_to-answer.result ≡ answered c.args.self.now.host.plan.address files c.args.packet =
    c.answer_to-answer.ensures.answer files (c.next_of.ensures.knows files s.files)
    ∙ ap (λ (p : PacketData). answer_to files p.flow.src c.heard-upper.result) c.packet.view_is
    ∙ ap (λ (above : Upper). answer_to files c.args.packet.flow.src above) c.heard-upper.ensures.heard in
    let knows = subst (λ (v : CourierData). Knows v files) (sym c.self.view_is) (c.next_of.ensures.knows files s.files) in
    let kept = c.keep.ensures.knows files (knows_at _ c.receive_with.new.self files knows) in
    let plan : c.keep.new.self.host.plan ≡ c.args.self.now.host.plan = ap (λ (h : host.HostData). h.plan) c.keep.ensures.rest ∙ c.in_ok-receipt.ensures.same.1 ∙ ap (λ (h : host.HostData). h.plan) same in
    let stands = subst (λ (above : Upper). host.StandsFor c.receive_with.new.self (calls ++ Received c.args.now.0 c.args.packet above ∷ [])) answer (c.in_ok-receipt.ensures.stands calls here.host) in
    stands_act c.args.self.now c.keep.new.self calls _ acts (Came c.args.packet) plan
    (subst (λ (h : host.HostData). host.StandsFor h (calls ++ Received c.args.now.0 c.args.packet (answered c.args.self.now.host.plan.address files c.args.packet) ∷ [])) (sym c.keep.ensures.rest) stands)
    (subst (λ (above : Upper). Knows c.keep.new.self (after_upper files c.args.packet.flow.src above)) c.heard-upper.ensures.heard
    (subst (λ (p : PacketData). Knows c.keep.new.self (after_upper files p.flow.src c.heard-upper.result)) c.packet.view_is kept))
