use Rattle.std.proofs.Common.{◌≡◌, arith, rules}
use Rattle.std.specs.List.{prefix_len}
use Rattle.std.specs.Arc.{arc_value}
use Rattle.record_store.specs.LookUp.{is_upto}
use Rattle.record_store.proofs.LongestLemmas.{upto_first, none_upto, is_last_upto}
use Rattle.record_store.proofs.zone_search.last_upto.Goals as goal

pub returns-then-count-eq0 : goal.returns-then-count-eq0
returns-then-count-eq0 c =
    let zones = c.args.zones.now in
    let name = c.args.name.now in
    let order = c.find-count.ensures.in_order in
    let start : c.find-count.result ≡ prefix_len (is_upto name) zones = c.find-count.ensures.exact (is_upto name) (λ x r says. search rules) (upto_first name zones order) in
    none_upto zones order name c.find-count.result start c.if-count-eq0.true

pub returns-else-count-eq0 : goal.returns-else-count-eq0
returns-else-count-eq0 c =
    let zones = c.args.zones.now in
    let name = c.args.name.now in
    let order = c.find-count.ensures.in_order in
    let start : c.find-count.result ≡ prefix_len (is_upto name) zones = c.find-count.ensures.exact (is_upto name) (λ x r says. search rules) (upto_first name zones order) in
    is_last_upto zones order name c.find-count.result start (arc_value c.get.result.now) (omega arith) c.get.ensures
