use Rattle.tva_host.proofs.Common.{◌≡◌, ℕ, ap, sym, subst, ◌∙◌, arith, Sent, with_deed, with_prepared, carried_by, Intended, history_of, HostData, Keeps}
use Rattle.tva_host.proofs.Standing.{keeps-timed}
use Rattle.tva_host.proofs.Making.{made-next, made-intended, keeps-intended}
use Rattle.tva_host.proofs.Calls.{stands-push}
use Rattle.tva_host.proofs.host.Host.send.Goals as goal

pub returns-clause-made : goal.returns-clause-made
returns-clause-made c calls s =
    let h = history_of c.args.self.now.plan calls in
    let start = keeps-timed _ c.args.now.0 h (subst (λ (w : HostData). Keeps w h) (sym c.self.view_is) s.keeps) in
    let noted = c.in_ok-note.ensures.keeps h start in
    let prepared = c.prepare-shape.ensures.keeps (with_deed (Sent c.args.dst) h) noted in
    let plan : c.note.new.self.plan ≡ c.args.self.now.plan = ap (λ (w : HostData). w.plan) c.in_ok-note.ensures.rest ∙ ap (λ (w : HostData). w.plan) c.self.view_is in
    let node : c.note.new.self.node ≡ c.args.self.now.node = ap (λ (w : HostData). w.node) c.in_ok-note.ensures.rest ∙ ap (λ (w : HostData). w.node) c.self.view_is in
    made-intended c.args.self.now.node c.args.self.now.plan c.note.new.self.plan h c.args.now.0 c.args.dst c.args.payload c.from.result c.prepare-shape.result c.carried_by.result c.args.upper _
    plan c.from.ensures (c.prepare-shape.ensures.shape (with_deed (Sent c.args.dst) h) noted) (c.carried_by.ensures.carried ∙ ap (λ (k : ℕ). carried_by k c.prepare-shape.result) c.version-version.ensures.version)
    (made-next c.args.self.now.node c.args.self.now.plan h c.args.dst c.args.payload c.prepare-shape.result c.prepare-shape.new.self.node c.prepare-shape.new.self.plan c.flow_to-flow.result c.carried_by.result c.args.upper c.number-packet.result c.kind_shown_of-kind.result
    (ap (λ (w : HostData). w.node) c.prepare-shape.ensures.rest ∙ node) (ap (λ (w : HostData). w.plan) c.prepare-shape.ensures.rest ∙ plan) c.flow_to-flow.ensures
    (c.number-packet.ensures.packet (with_prepared c.note.new.self.plan.version c.args.now.0 c.args.dst c.prepare-shape.result c.from.result (with_deed (Sent c.args.dst) h)) prepared)
    c.kind_shown_of-kind.ensures)

pub returns-clause-stands : goal.returns-clause-stands
returns-clause-stands c calls s =
    let h = history_of c.args.self.now.plan calls in
    let start = keeps-timed _ c.args.now.0 h (subst (λ (w : HostData). Keeps w h) (sym c.self.view_is) s.keeps) in
    let noted = c.in_ok-note.ensures.keeps h start in
    let prepared = c.prepare-shape.ensures.keeps (with_deed (Sent c.args.dst) h) noted in
    let plan : c.note.new.self.plan ≡ c.args.self.now.plan = ap (λ (w : HostData). w.plan) c.in_ok-note.ensures.rest ∙ ap (λ (w : HostData). w.plan) c.self.view_is in
    let last : c.number-packet.new.self.last ≡ c.args.now.0 = ap (λ (w : HostData). w.last) c.number-packet.ensures.rest ∙ ap (λ (w : HostData). w.last) c.prepare-shape.ensures.rest ∙ ap (λ (w : HostData). w.last) c.in_ok-note.ensures.rest in
    stands-push c.args.self.now c.number-packet.new.self calls (Intended c.args.now.0 c.args.dst c.args.payload c.args.upper) s
    (ap (λ (w : HostData). w.plan) c.number-packet.ensures.rest ∙ ap (λ (w : HostData). w.plan) c.prepare-shape.ensures.rest ∙ plan)
    (omega (arith, s.past, c.requires.time), tt) (omega (arith, last))
    (keeps-intended c.args.self.now.plan c.note.new.self.plan c.number-packet.new.self h c.args.now.0 c.args.dst c.args.payload c.from.result c.prepare-shape.result plan c.from.ensures
    (c.prepare-shape.ensures.shape (with_deed (Sent c.args.dst) h) noted)
    (c.number-packet.ensures.keeps (with_prepared c.note.new.self.plan.version c.args.now.0 c.args.dst c.prepare-shape.result c.from.result (with_deed (Sent c.args.dst) h)) prepared))
