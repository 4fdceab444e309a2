use Rattle.tva_sender.proofs.Common.{[], ◌∷◌, get_or, addresses_of}
use Rattle.tva_sender.proofs.Recent.{recent-more}
use Rattle.tva_sender.proofs.places.Places.push.Goals as goal

pub invariant_of-self : goal.invariant_of-self
invariant_of-self c = (
  c.hang.ensures.tree,
  λ k d l. rw c.hang.ensures.addresses (recent-more (addresses_of c.self.inside.nodes.items) (c.args.address ∷ []) (get_or c.self.inside.recent k d) (c.self.invariant.1 k d l)),
)
