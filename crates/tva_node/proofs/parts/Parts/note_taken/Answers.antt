use Rattle.tva_node.proofs.Common.{◌≡◌, ℕ, ◌∷◌, [], map, Option, refl, ◌∙◌, ap, asked_by, link_pair, gone_in, state_of, queued_on}
use Rattle.tva_node.proofs.Waits.{asked_pairs}
use Rattle.tva_node.proofs.Zips.{begins_same}
use Rattle.tva_node.proofs.parts.Parts.note_taken.Goals as goal

pub returns-clause-keeps : goal.returns-clause-keeps
returns-clause-keeps c =
    let p = c.args.self.now in
    let links : c.ask.new.self ≡ map (asked_by (queued_on c.args.happened) c.args.now) p.links = c.ask.ensures ∙ ap (λ (queued : Option ℕ). map (asked_by queued c.args.now) p.links) c.queued_on-queued.ensures in
    let pushed = c.in_ok-push.ensures.ok in
    record {
      site = λ i. record { number = p.number; plan = (state_of p).site.plan; links = (ap (map link_pair) links ∙ asked_pairs (queued_on c.args.happened) c.args.now p.links) i };
      horizon = refl;
      inbox = refl;
      events = (record { time = record { 0 = c.args.now }; node = p.number; happened = c.args.happened } ∷ [], ap (λ k. k.all) pushed);
      sendings = begins_same p.outbox.all;
      keeps = refl;
      gone = λ i. record (gone_in p) { events = (pushed i).gone; told = (pushed i).told };
    }
