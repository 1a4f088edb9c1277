use Rattle.std.proofs.Common.{◌≡◌, List, get_or, ◌∙◌, ap, subst, arith}
use Rattle.std.proofs.lemmas.Bool.{leb-false}
use Rattle.std.specs.Arc.{arc_value}
use Rattle.denial_records.specs.declared.record.Record.{Record}
use Rattle.cache_meaning.specs.Held.{Held, expiry_of}
use Rattle.ordered_list.specs.Order.{IsInOrder}
use Rattle.record_store.specs.Ranks.{going_cmp}
use Rattle.record_store.proofs.PhaseLemmas.{all_usable}
use Rattle.record_store.proofs.holding.Holding.has_expired.Goals as goal

pub returns-then-len-gt0-clause-none : goal.returns-then-len-gt0-clause-none
returns-then-len-gt0-clause-none c later =
    let xs = c.args.self.now.records in
    let first = arc_value c.first.result.now in
    let whole : c.self.inside.goings ≡ xs = ap (λ (h : Held). h.records) c.self.view_is in
    let order = subst (IsInOrder going_cmp) whole c.len.ensures.in_order in
    let here = subst (λ (l : List Record). first ≡ get_or l 0 first) whole c.first.ensures.value in
    let expiry : c.expiry_of.result ≡ expiry_of first = c.expiry_of.ensures ∙ ap expiry_of c.deref.ensures in
    let after = leb-false c.expiry_of.result c.from.result later in
    all_usable c.args.now xs order first here (omega (arith, after, expiry, c.from.ensures))
