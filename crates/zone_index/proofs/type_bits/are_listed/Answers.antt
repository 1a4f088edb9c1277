use Rattle.std.proofs.Common.{refl, sym, subst, arith}
use Rattle.std.specs.List.{Contains}
use Rattle.std.proofs.lemmas.Bool.{false≢true}
use Rattle.zone_index.specs.declared.entry.Entry.{Entry}
use Rattle.zone_index.proofs.TypeLemmas.{listed_more}
use Rattle.zone_index.proofs.type_bits.are_listed.Goals as goal

pub loop-at-preserved : goal.loop-at-preserved
loop-at-preserved c =
    listed_more c.args.types.now c.args.entries.now c.loop-at.at c.index-entries-at.result c.loop-at.invariant c.loop-at-test.true
    (subst (λ (x : Entry). Contains c.args.types.now x.rtype) c.index-entries-at.is (c.if-not-is_listed.ensures.0 refl))

pub returns-then-not-is_listed : goal.returns-then-not-is_listed
returns-then-not-is_listed c = (
  λ e. absurd (false≢true e),
  λ all. absurd (false≢true (c.if-not-is_listed.ensures.1 (subst (λ (x : Entry). Contains c.args.types.now x.rtype) (sym c.index-entries-at.is) (all c.loop-at.at c.index-entries-at.result c.loop-at-test.true)))),
)

pub returns : goal.returns
returns c = (λ _ k d lt. c.loop-at.invariant k d (omega (arith, lt, c.loop-at-test.false)), λ _. refl)
