use Rattle.tva_net.proofs.Common.{ℕ, [], List, All, length, subst, sym, arith, flat_map, Sending, unsent, GotMails, HandedOut, IsPostable, mail_to, ArePlaces, AreQuietElsewhere, AllZip-long, AllZip, Keeps, KeepsWork, GrowsFrom, NodeState}
use Rattle.tva_net.proofs.Forgotten.{got_handed, handed_keeps, handed_then_got, noted_handed}
use Rattle.tva_net.proofs.Handed.{all_handed_on, handed_elsewhere, handed_unsent}
use Rattle.tva_net.proofs.Mails.{postables_still}
use Rattle.tva_net.proofs.Ends.{all_stand, few, mids_few, mids_numbered, mids_stand, postable, quiet_elsewhere, reach, told_kept, told_more, told_posted}
use Rattle.tva_net.proofs.works.work_nodes.Goals as goal

pub advance-requires-clause-few : goal.advance-requires-clause-few
advance-requires-clause-few g c κs within = few _ c.args.until.0 c.requires.works.2

pub advance-requires-clause-stand : goal.advance-requires-clause-stand
advance-requires-clause-stand g c κs within = all_stand _ c.args.until.0 c.requires.works.2

pub advance-requires-clause-reach : goal.advance-requires-clause-reach
advance-requires-clause-reach g c κs within = reach _ c.args.until.0 c.requires.works.2

pub gather-requires-clause-places : goal.gather-requires-clause-places
gather-requires-clause-places g c =
    subst (λ (ps : List ℕ). ArePlaces (length c.advance.new.nodes) ps) (sym c.as_slice.ensures.value) c.in-Ok.ensures.through.placed

pub gather-requires-clause-others : goal.gather-requires-clause-others
gather-requires-clause-others g c =
    subst (AreQuietElsewhere c.advance.new.nodes) (sym c.as_slice.ensures.value)
    (quiet_elsewhere _ c.args.until.0 c.requires.works.2 c.advance.new.nodes c.in-Ok.ensures.through.each c.in-Ok.ensures.kept _ c.in-Ok.ensures.through.others)

pub gather-requires-clause-stand : goal.gather-requires-clause-stand
gather-requires-clause-stand g c = mids_stand _ c.args.until.0 c.requires.works.2 c.advance.new.nodes c.in-Ok.ensures.through.each c.in-Ok.ensures.kept

pub gather-requires-clause-numbers : goal.gather-requires-clause-numbers
gather-requires-clause-numbers g c = mids_numbered _ c.args.until.0 c.requires.works.2 c.advance.new.nodes c.in-Ok.ensures.through.each c.in-Ok.ensures.kept

pub post_beside-result-requires-clause-posting : goal.post_beside-result-requires-clause-posting
post_beside-result-requires-clause-posting g c κs within =
    let mids = c.advance.new.nodes in
    let vs = c.gather.new.nodes in
    let e = c.in-Ok.ensures in
    let handed = c.in-Ok-gather.ensures.handed in
    let on = all_handed_on mids vs handed in
    let count = AllZip-long HandedOut mids vs handed in
    let most = mids_few _ c.args.until.0 c.requires.works.2 mids e.through.each e.kept in
    record {
      few = omega (arith, most, count);
      placed = subst (λ (n : ℕ). ArePlaces n c.as_slice-2.result.now) (sym count) (subst (λ (ps : List ℕ). ArePlaces (length mids) ps) (sym c.as_slice-2.ensures.value) e.through.placed);
      others = handed_elsewhere mids vs _ handed
          (subst (AreQuietElsewhere mids) (sym c.as_slice-2.ensures.value) (quiet_elsewhere _ c.args.until.0 c.requires.works.2 mids e.through.each e.kept _ e.through.others));
      noted = noted_handed c.advance.new.times mids vs on e.noted;
      postable = subst (All (IsPostable c.args.horizon.0 c.args.links.now vs)) (sym (handed_unsent mids vs handed))
          (postables_still (λ n. []) c.args.horizon.0 c.args.links.now mids vs (flat_map unsent mids) (got_handed mids vs on)
          (postable _ c.args.until.0 c.requires.works.2 mids e.through.each e.kept));
    }

pub returns-in-Err-clause-kept : goal.returns-in-Err-clause-kept
returns-in-Err-clause-kept g c = told_kept c.args.nodes.now c.advance.new.nodes c.in-Err.ensures.kept

gathered_kept : (olds mids vs : List NodeState) → AllZip Keeps olds mids → AllZip HandedOut mids vs → AllZip GrowsFrom olds vs
gathered_kept olds mids vs k h = told_more olds mids vs (told_kept olds mids k) (told_posted mids vs (handed_keeps mids vs (all_handed_on mids vs h)))

pub returns-in-Err-gather-clause-kept : goal.returns-in-Err-gather-clause-kept
returns-in-Err-gather-clause-kept g c = gathered_kept c.args.nodes.now c.advance.new.nodes c.gather.new.nodes c.in-Ok.ensures.kept c.in-Err-gather.ensures.handed

posted_kept : (olds mids vs news : List NodeState) → AllZip Keeps olds mids → AllZip HandedOut mids vs → AllZip KeepsWork vs news → AllZip GrowsFrom olds news
posted_kept olds mids vs news k h p = told_more olds vs news (gathered_kept olds mids vs k h) (told_posted vs news p)

pub returns-clause-kept : goal.returns-clause-kept
returns-clause-kept g c = posted_kept c.args.nodes.now c.advance.new.nodes c.gather.new.nodes c.post_beside-result.new.nodes c.in-Ok.ensures.kept c.in-Ok-gather.ensures.handed c.post_beside-result.ensures.keeps

pub returns-in-Ok-result-clause-kept : goal.returns-in-Ok-result-clause-kept
returns-in-Ok-result-clause-kept g c = posted_kept c.args.nodes.now c.advance.new.nodes c.gather.new.nodes c.post_beside-result.new.nodes c.in-Ok.ensures.kept c.in-Ok-gather.ensures.handed c.post_beside-result.ensures.keeps

pub returns-in-Ok-result-clause-worked : goal.returns-in-Ok-result-clause-worked
returns-in-Ok-result-clause-worked g c =
    let mids = c.advance.new.nodes in
    let vs = c.gather.new.nodes in
    let handed = c.in-Ok-gather.ensures.handed in
    let posted = rw c.in-Ok-result.is at c.post_beside-result.ensures.posted in
    record {
      mids = mids;
      through = c.in-Ok.ensures.through.each;
      kept = c.in-Ok.ensures.kept;
      told = c.in-Ok-gather.ensures.join;
      mail = handed_then_got (mail_to c.args.horizon.0 c.args.links.now (flat_map unsent mids)) mids vs c.post_beside-result.new.nodes (all_handed_on mids vs handed)
          (subst (λ (ss : List Sending). GotMails (mail_to c.args.horizon.0 c.args.links.now ss) vs c.post_beside-result.new.nodes) (handed_unsent mids vs handed) posted.got);
      quiet = posted.told;
    }

pub returns-in-Ok-result-clause-noted : goal.returns-in-Ok-result-clause-noted
returns-in-Ok-result-clause-noted g c = (rw c.in-Ok-result.is at c.post_beside-result.ensures.posted).noted
