use Rattle.std.proofs.Common.{[], length, ap, ◌∙◌, arith}
use Rattle.zone_index.proofs.HashLemmas.{hashed_more, hashed_all}
use Rattle.zone_index.proofs.hash_table.hashed_names.Goals as goal

pub loop-at-preserved : goal.loop-at-preserved
loop-at-preserved c =
    hashed_more c.args.salt.now c.args.iterations c.args.live.now c.labels-apex.result c.loop-at.at c.first_new-from.result c.get.result.now c.loop-at.names.items c.push_ancestors.new.names.items c.loop-at.invariant (c.get.ensures []) c.first_new-from.ensures.least c.first_new-from.ensures.known c.in_ok-push_ancestors.ensures.named c.in_ok-push_ancestors.ensures.hashed

pub returns-clause-named : goal.returns-clause-named
returns-clause-named c =
    hashed_all c.args.salt.now c.args.iterations c.args.live.now c.labels-apex.result c.args.zone.now c.apex.ensures.zone (c.labels-apex.ensures.value ∙ ap length c.apex.ensures.value) c.requires c.loop-at.at c.loop-at.names.items c.loop-at.invariant (omega (arith, c.loop-at-test.false, c.loop-at.auto.at-end, c.len-at-end.ensures))
