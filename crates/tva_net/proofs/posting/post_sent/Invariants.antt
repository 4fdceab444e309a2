use Rattle.tva_net.proofs.Common.{All, AllZip, drain_items, IsPostable, KeepsWork, mail_to, AreNoted}
use Rattle.tva_net.proofs.Mails.{IsGoing}
use Rattle.tva_net.proofs.posting.post_sent.Given as goal

abbrev pub invariant-loop-sending : goal.invariant-loop-sending
invariant-loop-sending l = record {
  going : IsGoing (mail_to l.horizon.0 l.links l.fn.sent.items) (mail_to l.horizon.0 l.links (drain_items l.sending-iterator)) l.initial.nodes l.nodes;
  left : All (IsPostable l.horizon.0 l.links l.initial.nodes) (drain_items l.sending-iterator);
  noted : AreNoted l.times l.nodes;
  keeps : AllZip KeepsWork l.initial.nodes l.nodes;
}
