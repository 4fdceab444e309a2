use Rattle.tva_router.proofs.Common.{ℕ, sym, ◌∙◌, subst, arith, is_good, IsWithinSeconds}
use Rattle.tva_router.proofs.Answers.{keeps-verdict}
use Rattle.tva_router.proofs.guard.Guard.answer_to_checked.Goals as goal

pub returns-in-Valid-clause-keeps : goal.returns-in-Valid-clause-keeps
returns-in-Valid-clause-keeps c =
    let second = rw c.in-Valid.is at c.requires.second in
    let within : IsWithinSeconds c.args.plan.now.clock_offset c.args.arrival.now.time.0 c.in-Valid.grant = record { from = second.from; until = second.until } in
    rw c.answer_of.ensures (keeps-verdict c.args.plan.now c.args.arrival.now c.args.nonce c.admit_list_at.result c.args.self.now.cache c.admit_list_at.new.self
    c.requires.may.guard.offset c.admit_list_at.ensures.stands (λ h s t. c.admit_list_at.ensures.timely h s t (subst (λ (o : ℕ). IsWithinSeconds o c.args.arrival.now.time.0 c.in-Valid.grant) (sym c.requires.may.guard.offset) within)))

pub returns-in-Valid-clause-guard : goal.returns-in-Valid-clause-guard
returns-in-Valid-clause-guard c =
    record {
      master = c.requires.may.guard.master;
      clock = c.requires.may.guard.clock;
      key = c.admit_list_at.ensures.key ∙ c.requires.may.guard.key;
      slots = c.admit_list_at.ensures.same.0 ∙ c.requires.may.guard.slots;
      offset = c.admit_list_at.ensures.same.1 ∙ c.requires.may.guard.offset;
      minted = c.requires.may.guard.minted;
      charged = omega (arith, c.admit_list_at.ensures.last);
      known = c.admit_list_at.ensures.shown (is_good c.args.plan.now.master) c.requires.may.guard.known (rw c.in-Valid.is at c.requires.good);
      incoming = c.requires.may.guard.incoming;
    }
