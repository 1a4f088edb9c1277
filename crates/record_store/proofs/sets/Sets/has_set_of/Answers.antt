use Rattle.std.proofs.Common.{List, ◌∙◌, ap, subst}
use Rattle.std.specs.Arc.{arc_value}
use Rattle.denial_records.specs.declared.record.Record.{Record}
use Rattle.record_store.specs.Counts.{count_at, AreCounted}
use Rattle.record_store.proofs.CountLemmas.{has_set, set_is_there}
use Rattle.record_store.proofs.sets.Sets.has_set_of.Goals as goal

pub returns-clause-yes : goal.returns-clause-yes
returns-clause-yes c =
    let counts = arc_value c.self.inside.counts in
    let are = subst (λ (l : List Record). AreCounted l counts) c.self.view_is c.self.invariant in
    has_set c.args.self.now counts are c.args.apex.now c.count_at.result (c.count_at.ensures ∙ ap (count_at c.args.apex.now) c.deref.ensures)

pub returns-clause-no : goal.returns-clause-no
returns-clause-no c =
    let counts = arc_value c.self.inside.counts in
    let are = subst (λ (l : List Record). AreCounted l counts) c.self.view_is c.self.invariant in
    set_is_there c.args.self.now counts are c.args.apex.now c.count_at.result (c.count_at.ensures ∙ ap (count_at c.args.apex.now) c.deref.ensures)
