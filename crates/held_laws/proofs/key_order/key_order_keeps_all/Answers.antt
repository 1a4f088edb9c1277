use Rattle.cache_meaning.specs.Held.{key_cmp}
use Rattle.held_laws.proofs.KeyOrderLemmas.{sorted_in_key_order, grouped_in_zone_order}
use Rattle.held_laws.proofs.OrderedLemmas.{key_order_same, apart_in_key_order, once_in_key_order, two_in_key_order}
use Rattle.held_laws.proofs.SortLemmas.{sorted_length}
use Rattle.held_laws.proofs.key_order.key_order_keeps_all.Goals as goal

pub returns : goal.returns
returns c = record {
  same = key_order_same;
  as_many = λ held. sorted_length key_cmp held.records;
  none_displaces = apart_in_key_order;
  once = once_in_key_order;
  two_chains = two_in_key_order;
  by_key = λ held. sorted_in_key_order held.records;
  by_zone = λ held. grouped_in_zone_order held.chains;
}
