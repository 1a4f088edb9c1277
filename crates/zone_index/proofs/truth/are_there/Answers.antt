use Rattle.std.proofs.Common.{refl}
use Rattle.std.proofs.lemmas.Bool.{false≢true}
use Rattle.zone_index.proofs.TruthLemmas.{each_more, each_lacks, each_all}
use Rattle.zone_index.proofs.truth.are_there.Goals as goal

pub loop-item-preserved : goal.loop-item-preserved
loop-item-preserved c = each_more c.args.records.now.zone c.args.records.now.name c.args.rtype c.args.items c.loop-item.items c.next.new.self c.in-Some.item.now c.loop-item.invariant c.in-Some.ensures.first (c.if-not-has_data.ensures.0 refl)

pub returns-then-not-has_data : goal.returns-then-not-has_data
returns-then-not-has_data c = (
  λ e. absurd (false≢true e),
  λ all. absurd (each_lacks c.args.records.now.zone c.args.records.now.name c.args.rtype c.args.items c.loop-item.items c.next.new.self c.in-Some.item.now c.loop-item.invariant c.in-Some.ensures.first (λ has. false≢true (c.if-not-has_data.ensures.1 has)) all),
)

pub returns : goal.returns
returns c = (λ _. each_all c.args.records.now.zone c.args.records.now.name c.args.rtype c.args.items c.loop-item.items c.loop-item.invariant c.in_default.ensures.first, λ _. refl)
