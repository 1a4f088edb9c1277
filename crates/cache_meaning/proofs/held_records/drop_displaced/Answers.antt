use Rattle.std.proofs.Common.{rules, not, ◌∙◌, sym, ap}
use Rattle.std.specs.Arc.{arc_value}
use Rattle.std.proofs.lemmas.Fn.{filter_same}
use Rattle.cache_meaning.specs.Held.{displaces}
use Rattle.cache_meaning.specs.Views.{shared_records}
use Rattle.cache_meaning.proofs.HeldLemmas.{filter-map}
use Rattle.cache_meaning.proofs.held_records.drop_displaced.Goals as goal

pub returns : goal.returns
returns c =
    ap shared_records (filter_same _ (λ old. not (displaces c.args.new.now (arc_value old))) _ (λ x b f' k. search rules) c.args.records.now.items c.retain.new.self.items c.retain.ensures.filtered)
    ∙ sym (filter-map arc_value (λ old. not (displaces c.args.new.now old)) c.args.records.now.items)
