use Rattle.std.proofs.Common.{Some, subst}
use Rattle.std.proofs.lemmas.Result.{IfOk-weaker}
use Rattle.record_store.specs.Holding.{AreWithout, AreElsewhere}
use Rattle.record_store.proofs.GoneLemmas.{all_gone}
use Rattle.record_store.proofs.gone.without_chain.Goals as goal

pub returns : goal.returns
returns c =
    let records = c.args.chain.now.records in
    IfOk-weaker c.without_places.result _ (λ left. AreWithout (Some c.args.chain.now.chain) c.args.goings left)
    (λ left elsewhere. all_gone records c.args.goings left c.args.chain.now.chain (subst (λ n. AreElsewhere records 0 n c.args.goings left) c.len.ensures elsewhere) c.requires.all c.requires.its) c.without_places.ensures
