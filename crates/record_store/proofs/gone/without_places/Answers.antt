use Rattle.std.proofs.Common.{◌≡◌, subst, sym, arith, Contains}
use Rattle.std.specs.Arc.{arc_value}
use Rattle.denial_records.specs.declared.record.Record.{Record}
use Rattle.record_store.specs.Holding.{AreBut, AreElsewhere}
use Rattle.record_store.proofs.GoingLemmas.{taking_begins, taking_there, taking_goes_on}
use Rattle.record_store.proofs.gone.without_places.Goals as goal

pub loop-i-init : goal.loop-i-init
loop-i-init c = taking_begins c.args.chain.now.records c.args.goings c.args.from

pub without-requires : goal.without-requires
without-requires c =
    let records = c.args.chain.now.records in
    let x = arc_value c.get.result.now in
    let has = taking_there records c.args.goings c.loop-i.goings c.args.from c.loop-i.i c.loop-i.invariant c.requires.once x (omega arith) c.get.ensures
    (c.requires.there x (c.loop-i.i, omega arith, omega arith, sym c.get.ensures)) in
    subst (Contains c.loop-i.goings) (sym c.deref.ensures) has

pub loop-i-preserved : goal.loop-i-preserved
loop-i-preserved c =
    let but = subst (λ (r : Record). AreBut r c.loop-i.goings c.in_ok-goings.goings) c.deref.ensures c.in_ok-goings.ensures in
    taking_goes_on c.args.chain.now.records c.args.goings c.loop-i.goings c.args.from c.loop-i.i c.loop-i.invariant (arc_value c.get.result.now) c.in_ok-goings.goings (omega arith) (omega arith) c.get.ensures but

pub returns : goal.returns
returns c =
    let end : c.loop-i.i ≡ c.args.to = omega arith in
    subst (λ n. AreElsewhere c.args.chain.now.records c.args.from n c.args.goings c.loop-i.goings) end c.loop-i.invariant
