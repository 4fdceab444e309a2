use Rattle.tva.proofs.Common.{◌≡◌, ◌∙◌, None, Some, subst, WereAsked, files_of, Rose, HasFound, WroteAll, WroteLines, WrotePart, asked, texts, refuses, Settles, SettlesRefusal, Done, Usage, ReadFault, TooLarge, BadConfig, BadTrace, EventLimit, BadReport}
use Rattle.tva.specs.declared.status.Status.TheVariants.{Found as Differs}
use Rattle.tva.proofs.Fronts.{at_status, missing_held, of_no_words, of_words, part_of_answer}
use Rattle.tva.proofs.Given.{told_none}
use Rattle.tva.proofs.Settled.{refusal_of_answer, settles_of_answer}
use Rattle.tva.proofs.Wants.{kept_of_wanted, honest_of_wanted, files_of_wanted, below_of_wanted, one_end_of_wanted}
use Rattle.tva.proofs.top.run.Goals as goal

pub returns-in-Some-clause-missing : goal.returns-in-Some-clause-missing
returns-in-Some-clause-missing g c e =
    of_words _ _ (texts c.args.words.now) _ (λ x. x ≡ refuses ReadFault) (rw c.in-Some.is at c.parse.ensures)
    (at_status _ _ _ _ _ _ _ ReadFault e c.run_command.ensures.answer).0

pub returns-in-Some-clause-too_large : goal.returns-in-Some-clause-too_large
returns-in-Some-clause-too_large g c k e =
    of_words _ _ (texts c.args.words.now) _ (λ x. x ≡ refuses (TooLarge k)) (rw c.in-Some.is at c.parse.ensures)
    (at_status _ _ _ _ _ _ _ (TooLarge k) e c.run_command.ensures.answer).0

pub returns-in-Some-clause-bad_config : goal.returns-in-Some-clause-bad_config
returns-in-Some-clause-bad_config g c fault e =
    of_words _ _ (texts c.args.words.now) _ (λ x. x ≡ refuses (BadConfig fault)) (rw c.in-Some.is at c.parse.ensures)
    (at_status _ _ _ _ _ _ _ (BadConfig fault) e c.run_command.ensures.answer).0

pub returns-in-Some-clause-bad_trace : goal.returns-in-Some-clause-bad_trace
returns-in-Some-clause-bad_trace g c fault e =
    of_words _ _ (texts c.args.words.now) _ (λ x. x ≡ refuses (BadTrace fault)) (rw c.in-Some.is at c.parse.ensures)
    (at_status _ _ _ _ _ _ _ (BadTrace fault) e c.run_command.ensures.answer).0

pub returns-in-Some-clause-bad_report : goal.returns-in-Some-clause-bad_report
returns-in-Some-clause-bad_report g c line e =
    of_words _ _ (texts c.args.words.now) _ (λ x. x ≡ refuses (BadReport line)) (rw c.in-Some.is at c.parse.ensures)
    (at_status _ _ _ _ _ _ _ (BadReport line) e c.run_command.ensures.answer).0

pub returns-in-Some-clause-found : goal.returns-in-Some-clause-found
returns-in-Some-clause-found g c finding e =
    of_words _ _ (texts c.args.words.now) _ (HasFound finding) (rw c.in-Some.is at c.parse.ensures)
    (at_status _ _ _ _ _ _ _ (Differs finding) e c.run_command.ensures.answer).0

pub returns-in-Some-clause-done : goal.returns-in-Some-clause-done
returns-in-Some-clause-done g c e =
    of_words _ _ (texts c.args.words.now) _ (WroteAll _ _) (rw c.in-Some.is at c.parse.ensures)
    (at_status _ _ _ _ _ _ _ Done e c.run_command.ensures.answer)

pub returns-in-Some-clause-event_limit : goal.returns-in-Some-clause-event_limit
returns-in-Some-clause-event_limit g c most e =
    of_words _ _ (texts c.args.words.now) _ (WroteLines most _ _) (rw c.in-Some.is at c.parse.ensures)
    (λ files agree. ((at_status _ _ _ _ _ _ _ (EventLimit most) e c.run_command.ensures.answer) files agree).0)

pub returns-in-Some-clause-front : goal.returns-in-Some-clause-front
returns-in-Some-clause-front g c =
    of_words _ _ (texts c.args.words.now) _ (WrotePart _ _) (rw c.in-Some.is at c.parse.ensures)
    (part_of_answer _ _ _ _ _ _ _ c.run_command.ensures.answer)

pub returns-in-Some-clause-complete : goal.returns-in-Some-clause-complete
returns-in-Some-clause-complete g c unfailed =
    of_words _ _ (texts c.args.words.now) _ (Settles c.run_command.result) (rw c.in-Some.is at c.parse.ensures)
    (settles_of_answer _ _ _ _ _ _ _ c.run_command.ensures.answer unfailed)

pub returns-in-Some-clause-refused : goal.returns-in-Some-clause-refused
returns-in-Some-clause-refused g c =
    of_words _ _ (texts c.args.words.now) _ (SettlesRefusal c.run_command.result) (rw c.in-Some.is at c.parse.ensures)
    (refusal_of_answer _ _ _ _ _ _ _ c.run_command.ensures.answer)

pub returns-in-Some-clause-read_fault : goal.returns-in-Some-clause-read_fault
returns-in-Some-clause-read_fault g c e =
    let is = (rw c.in-Some.is at c.parse.ensures) in
    missing_held _ _ _ (texts c.args.words.now) _ ReadFault (λ none. let both : Some (asked c.in-Some.command) ≡ None = is ∙ none in cc) (c.run_command.ensures.told.1 e)
    (of_words _ _ (texts c.args.words.now) _ (λ x. x ≡ refuses ReadFault) is (at_status _ _ _ _ _ _ _ ReadFault e c.run_command.ensures.answer).0)

pub returns-in-Some-clause-in_order : goal.returns-in-Some-clause-in_order
returns-in-Some-clause-in_order g c =
    let S = g.S.Shelf in
    let W = g.W.Sink in
    let first = S.gave c.args.shelf.now in
    let last = S.gave c.run_command.new.shelf in
    let words = texts c.args.words.now in
    let command = asked c.in-Some.command in
    let rose = Rose (W.faults c.args.out.now) (W.faults c.run_command.new.out) in
    let old = W.took c.args.out.now in
    let new = W.took c.run_command.new.out in
    let is = (rw c.in-Some.is at c.parse.ensures) in
    subst (λ o. WereAsked first last (files_of o)) is c.run_command.ensures.in_order

-- words that are no command
pub returns-in-None-clause-front : goal.returns-in-None-clause-front
returns-in-None-clause-front g c =
    let first = g.S.Shelf.gave c.args.shelf.now in
    let old = g.W.Sink.took c.args.out.now in
    of_no_words first first (texts c.args.words.now) (WrotePart old old) (rw c.in-None.is at c.parse.ensures)

pub returns-in-None-clause-complete : goal.returns-in-None-clause-complete
returns-in-None-clause-complete g c unfailed =
    let first = g.S.Shelf.gave c.args.shelf.now in
    of_no_words first first (texts c.args.words.now) (Settles Usage) (rw c.in-None.is at c.parse.ensures)

pub returns-in-None-clause-refused : goal.returns-in-None-clause-refused
returns-in-None-clause-refused g c =
    let first = g.S.Shelf.gave c.args.shelf.now in
    of_no_words first first (texts c.args.words.now) (SettlesRefusal Usage) (rw c.in-None.is at c.parse.ensures)

pub returns-in-None-clause-told : goal.returns-in-None-clause-told
returns-in-None-clause-told g c =
    let S = g.S.Shelf in
    told_none (S.held c.args.shelf.now) (S.gave c.args.shelf.now) (Rose (S.faults c.args.shelf.now) (S.faults c.args.shelf.now)) Usage (λ e. cc)

pub returns-in-Some-clause-one_end : goal.returns-in-Some-clause-one_end
returns-in-Some-clause-one_end g c = one_end_of_wanted (texts c.args.words.now)

pub returns-in-Some-clause-network : goal.returns-in-Some-clause-network
returns-in-Some-clause-network g c = kept_of_wanted (texts c.args.words.now)

pub returns-in-Some-clause-honest : goal.returns-in-Some-clause-honest
returns-in-Some-clause-honest g c = honest_of_wanted (texts c.args.words.now)

pub returns-in-Some-clause-delivered : goal.returns-in-Some-clause-delivered
returns-in-Some-clause-delivered g c = files_of_wanted (texts c.args.words.now)

pub returns-in-Some-clause-limits : goal.returns-in-Some-clause-limits
returns-in-Some-clause-limits g c = below_of_wanted (texts c.args.words.now)
