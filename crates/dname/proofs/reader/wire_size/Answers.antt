use Rattle.std.proofs.Common.{◌≢◌, ◌≤◌, ℕ, drop, subst, arith}
use Rattle.std.proofs.lemmas.List.{take_rest}
use Rattle.dname.specs.Read.{HasLabelAt}
use Rattle.dname.proofs.ReadLemmas.{read_more, read_end}
use Rattle.dname.proofs.reader.wire_size.Goals as goal

pub returns-in-Ok-eq0-clause-read : goal.returns-in-Ok-eq0-clause-read
returns-in-Ok-eq0-clause-read c =
    let at = subst (λ rest. HasLabelAt c.loop-size.before rest c.in-Ok-eq0.field-0) (take_rest c.args.octets.now c.loop-size.before) c.in-Ok-eq0.ensures.read in
    read_end _ _ c.loop-size.invariant (subst (HasLabelAt c.loop-size.before (drop c.loop-size.before c.args.octets.now)) c.in-Ok-eq0.field-0-test at)

pub loop-size-preserved : goal.loop-size-preserved
loop-size-preserved c =
    let at = subst (λ rest. HasLabelAt c.loop-size.before rest c.in-Ok.size) (take_rest c.args.octets.now c.loop-size.before) c.in-Ok.ensures.read in
    read_more _ _ _ c.loop-size.invariant at (some c.in-Ok.size c.in-Ok.size-test.1)
  where
    some : (size : ℕ) → size ≢ 0 → 1 ≤ size
    some size not = omega (arith, not)
