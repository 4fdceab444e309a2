use Rattle.tva_host.proofs.Common.{◌≡◌, ℕ, ◌+◌, ◌∙◌, ap, ShimData, return_size, upper_size, with_prepared, next_made, shim_of, body_of, HostData}
use Rattle.tva_shim.specs.declared.packets.Carried.TheVariants as carried
use Rattle.tva_host.proofs.Making.{made-next, reply-made, keeps-reply}
use Rattle.tva_host.proofs.host.Host.reply.Goals as goal

pub returns-clause-reply : goal.returns-clause-reply
returns-clause-reply c h k =
    let shape = c.prepare-shape.ensures.shape h k in
    let back : c.return_size.result ≡ return_size c.args.self.now.plan.version c.in_ok-back.back = c.return_size.ensures.bytes ∙ ap (λ (n : ℕ). return_size n c.in_ok-back.back) c.version-version.ensures.version in
    let body : c.return_size.result + c.from.result ≡ body_of c.args.self.now.plan.version c.in_ok-back.back c.args.upper =
    ap (λ (n : ℕ). n + c.from.result) back ∙ ap (λ (n : ℕ). return_size c.args.self.now.plan.version c.in_ok-back.back + n) (c.from.ensures ∙ c.upper_size-payload.ensures.bytes) in
    reply-made c.args.self.now.node c.args.self.now.plan h c.args.now.0 c.args.src c.args.answer c.in_ok-back.back c.args.upper (c.return_size.result + c.from.result) c.prepare-shape.result _
    c.in_ok-back.was body shape
    (made-next c.args.self.now.node c.args.self.now.plan h c.args.src c.upper_size-payload.result c.prepare-shape.result c.prepare-shape.new.self.node c.prepare-shape.new.self.plan c.flow_to-flow.result (carried.Shim c.shim_of.result) c.args.upper c.number-packet.result c.kind_shown_of-kind.result
    (ap (λ (w : HostData). w.node) c.prepare-shape.ensures.rest) (ap (λ (w : HostData). w.plan) c.prepare-shape.ensures.rest) c.flow_to-flow.ensures
    (c.number-packet.ensures.packet (with_prepared c.args.self.now.plan.version c.args.now.0 c.args.src c.prepare-shape.result (c.return_size.result + c.from.result) h) (c.prepare-shape.ensures.keeps h k))
    c.kind_shown_of-kind.ensures
    ∙ ap (λ (n : ℕ). next_made c.args.self.now.node c.args.self.now.plan h c.args.src n (carried.Shim c.shim_of.result) c.args.upper c.prepare-shape.result) c.upper_size-payload.ensures.bytes
    ∙ ap (λ (z : ShimData). next_made c.args.self.now.node c.args.self.now.plan h c.args.src (upper_size c.args.upper) (carried.Shim z) c.args.upper c.prepare-shape.result)
    (c.shim_of.ensures ∙ ap (λ (n : ℕ). shim_of n c.prepare-shape.result c.in_ok-back.back) c.version-version.ensures.version))

pub returns-clause-keeps : goal.returns-clause-keeps
returns-clause-keeps c h k =
    let back : c.return_size.result ≡ return_size c.args.self.now.plan.version c.in_ok-back.back = c.return_size.ensures.bytes ∙ ap (λ (n : ℕ). return_size n c.in_ok-back.back) c.version-version.ensures.version in
    let body : c.return_size.result + c.from.result ≡ body_of c.args.self.now.plan.version c.in_ok-back.back c.args.upper =
    ap (λ (n : ℕ). n + c.from.result) back ∙ ap (λ (n : ℕ). return_size c.args.self.now.plan.version c.in_ok-back.back + n) (c.from.ensures ∙ c.upper_size-payload.ensures.bytes) in
    keeps-reply c.args.self.now.plan c.number-packet.new.self h c.args.now.0 c.args.src c.args.answer c.in_ok-back.back c.args.upper (c.return_size.result + c.from.result) c.prepare-shape.result
    c.in_ok-back.was body (c.prepare-shape.ensures.shape h k)
    (c.number-packet.ensures.keeps (with_prepared c.args.self.now.plan.version c.args.now.0 c.args.src c.prepare-shape.result (c.return_size.result + c.from.result) h) (c.prepare-shape.ensures.keeps h k))
