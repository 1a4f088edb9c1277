use Rattle.std.proofs.Common.{rules, not, ◌∙◌, sym, ap}
use Rattle.std.specs.Arc.{arc_value}
use Rattle.std.proofs.lemmas.Fn.{filter_same}
use Rattle.cache_meaning.specs.Held.{is_of_chain}
use Rattle.cache_meaning.specs.Views.{shared_records}
use Rattle.cache_meaning.proofs.HeldLemmas.{filter-map}
use Rattle.cache_meaning.proofs.held_records.drop_records_of.Goals as goal

pub returns : goal.returns
returns c =
    ap shared_records (filter_same _ (λ item. not (is_of_chain c.args.chain.now (arc_value item))) _ (λ x b f' k. search rules) c.args.records.now.items c.retain.new.self.items c.retain.ensures.filtered)
    ∙ sym (filter-map arc_value (λ item. not (is_of_chain c.args.chain.now item)) c.args.records.now.items)
