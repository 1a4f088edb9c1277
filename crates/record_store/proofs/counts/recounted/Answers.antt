use Rattle.std.proofs.Common.{◌∙◌, ap, subst, sym, arith}
use Rattle.std.proofs.lemmas.Result.{IfOk-weaker}
use Rattle.ordered_list.specs.Order.{with_entry}
use Rattle.record_store.specs.declared.counts.SetCount.{SetCount}
use Rattle.record_store.specs.Counts.{count_cmp, IsRecounted}
use Rattle.record_store.proofs.CountLemmas.{recounted_with, recounted_without}
use Rattle.record_store.proofs.counts.recounted.Goals as goal

pub returns-then-count-eq0 : goal.returns-then-count-eq0
returns-then-count-eq0 c =
    let counts = c.args.counts.now in
    let each : SetCount = record { apex = c.copy.result; count = c.args.count } in
    IfOk-weaker c.without.result _ (λ made. IsRecounted c.args.apex.now c.args.count counts made)
    (λ made is. subst (λ n. IsRecounted c.args.apex.now n counts made) (sym c.if-count-eq0.true)
    (recounted_without counts c.without.ensures.in_order each c.args.apex.now c.copy.ensures made is)) c.without.ensures.made

pub returns-in_ok-new : goal.returns-in_ok-new
returns-in_ok-new c =
    let counts = c.args.counts.now in
    let each : SetCount = record { apex = c.copy.result; count = c.args.count } in
    IfOk-weaker c.with.result _ (λ made. IsRecounted c.args.apex.now c.args.count counts made)
    (λ made is. recounted_with counts c.with.ensures.in_order each c.args.apex.now c.copy.ensures (omega (arith, c.if-count-eq0.false)) made
    (is ∙ ap (λ (e : SetCount). with_entry count_cmp e counts) c.in_ok-new.ensures.ok)) c.with.ensures.made
