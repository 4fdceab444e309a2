use Rattle.tva_router.proofs.Common.{◌∙◌, arith, is_good}
use Rattle.tva_router.proofs.Answers.{keeps-verdict}
use Rattle.tva_router.proofs.guard.Guard.answer_to_nonce.Goals as goal

pub returns-clause-keeps : goal.returns-clause-keeps
returns-clause-keeps c =
    rw c.answer_of.ensures (keeps-verdict c.args.plan.now c.args.arrival.now c.args.nonce c.admit_nonce.result c.args.self.now.cache c.admit_nonce.new.self
    c.requires.may.guard.offset c.admit_nonce.ensures.stands c.admit_nonce.ensures.timely)

pub returns-clause-guard : goal.returns-clause-guard
returns-clause-guard c =
    record {
      master = c.requires.may.guard.master;
      clock = c.requires.may.guard.clock;
      key = c.admit_nonce.ensures.key ∙ c.requires.may.guard.key;
      slots = c.admit_nonce.ensures.same.0 ∙ c.requires.may.guard.slots;
      offset = c.admit_nonce.ensures.same.1 ∙ c.requires.may.guard.offset;
      minted = c.requires.may.guard.minted;
      charged = omega (arith, c.admit_nonce.ensures.last);
      known = c.admit_nonce.ensures.shown (is_good c.args.plan.now.master) c.requires.may.guard.known;
      incoming = c.requires.may.guard.incoming;
    }
