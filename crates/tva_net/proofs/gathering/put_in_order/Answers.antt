use Rattle.tva_net.proofs.Common.{rules, IsNonDecreasingBy-from_sort_by_key, answers_always}
use Rattle.tva_net.proofs.Sorting.{by_time, time_of}
use Rattle.tva_net.proofs.gathering.put_in_order.Goals as goal

pub returns : goal.returns
returns c =
    by_time c.args.news.now.items c.sort_by_key.new.self.items
    (IsNonDecreasingBy-from_sort_by_key time_of _ c.in_ok-sort_by_key.ensures.sorted (λ a r q k. search rules))
    (c.in_ok-sort_by_key.ensures.stable time_of (answers_always _ _ _ (λ f a r q k. search rules)))
