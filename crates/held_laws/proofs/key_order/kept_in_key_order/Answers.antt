use Rattle.held_laws.proofs.OrderedLemmas.{all_alike, kept_in_order, kept_in_zones, kept_two, kept_has_record, kept_is_listed, kept_once, kept_usable, kept_within}
use Rattle.held_laws.proofs.key_order.kept_in_key_order.Goals as goal

pub returns : goal.returns
returns c = record {
  same = λ batches. (all_alike batches).order;
  by_key = λ batches. (kept_in_order batches).1;
  by_zone = kept_in_zones;
  none_displaces = λ batches. (kept_in_order batches).0;
  two_chains = kept_two;
  has_record = kept_has_record;
  is_listed = kept_is_listed;
  once = kept_once;
  usable = kept_usable;
  within = kept_within;
}
