use Rattle.std.proofs.Common.{drop, arith, ◌≡◌, ◌∙◌, sym, ap}
use Rattle.std.specs.Arc.{arc_value}
use Rattle.range_index.proofs.WithLemmas.{IsOverMet-made}
use Rattle.range_index.proofs.cut.with_over.Goals as goal
use Rattle.range_index.proofs.cut.with_over.Goals.{then-met-gt0+in_ok-made-2, else-met-gt0}

pub returns-clause-list : goal.returns-clause-list
returns-clause-list g c =
    let dropped : c.if-met-gt0.made ≡ drop c.over_met-met.result.to c.in_ok-made.made = elim c.if-met-gt0.branch [
      | then-met-gt0+in_ok-made-2 w ↦ w.made-is ∙ w.in_ok-made-2.ensures
      | else-met-gt0 w ↦
          let none : c.over_met-met.result.to ≡ 0 = omega (arith, w.if-met-gt0.false) in
          w.made-is ∙ sym (ap (λ n. drop n c.in_ok-made.made) none)
    ] in
    IsOverMet-made _ c.args.list.now c.in_ok-made.made _ (arc_value c.args.span) _ _ _ _
    dropped c.in_ok-made.ensures c.len.ensures (rw c.deref.ensures at c.over_met-met.ensures.met)
