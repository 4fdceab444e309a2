-- For a log a node stands whatever memory holds of it.
use Rattle.tva_node.proofs.Common.{List, Entry, Gone, NodeState, StandsFor}

pub stands_without : (v : NodeState) (gone : Gone) (log : List Entry) → StandsFor v log → StandsFor (record v { gone = gone }) log
stands_without v gone log s = record {
  site = s.site;
  horizon = s.horizon;
  whole = s.whole;
  events = s.events;
  sendings = s.sendings;
  besides = record {
    plan = s.besides.plan;
    out = s.besides.out;
    role = s.besides.role;
    past = s.besides.past;
    links = s.besides.links;
    fits = s.besides.fits;
    left = s.besides.left;
  };
}
