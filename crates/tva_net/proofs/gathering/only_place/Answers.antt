use Rattle.tva_net.proofs.Common.{◌≤◌, ◌+◌, length, subst, sym, news}
use Rattle.tva_net.proofs.Handed.{IsOnlySoFar, first_there, only_last, only_within, quiet_there}
use Rattle.tva_net.proofs.gathering.only_place.Goals as goal
use Rattle.tva_net.proofs.gathering.only_place.Goals.{else-count-gt0, then-count-gt0+in-None}

pub loop-place-preserved : goal.loop-place-preserved
loop-place-preserved c =
    let nodes = c.args.nodes.now in
    let places = c.args.places.now in
    let i = c.loop-place.place-index in
    let l = c.loop-place-test.true in
    let m = c.requires i 0 l in
    let v = c.index-nodes-place.result in
    elim c.if-count-gt0.branch [
      | then-count-gt0+in-None w ↦
          subst (IsOnlySoFar nodes places (i + 1)) (sym w.only-is)
          (first_there nodes places i l v c.index-nodes-place.is m (subst (IsOnlySoFar nodes places i) w.in-None.is c.loop-place.invariant))
      | else-count-gt0 w ↦
          let few : length (news v) ≤ 0 = let count = c.news-count.ensures in let test = w.if-count-gt0.false in rw count at test in
          subst (IsOnlySoFar nodes places (i + 1)) (sym w.only-is) (quiet_there nodes places i l v c.index-nodes-place.is m c.loop-place.only few c.loop-place.invariant)
    ]

pub returns-clause-within : goal.returns-clause-within
returns-clause-within c = only_within c.args.nodes.now c.args.places.now c.loop-place.place-index c.loop-place.only c.loop-place.invariant

pub returns-clause-only : goal.returns-clause-only
returns-clause-only c = only_last c.args.nodes.now c.args.places.now c.loop-place.place-index c.loop-place.only c.loop-place-test.false c.loop-place.invariant
