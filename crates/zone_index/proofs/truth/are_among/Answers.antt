use Rattle.std.proofs.Common.{refl, sym, subst}
use Rattle.std.proofs.lemmas.Bool.{false≢true}
use Rattle.zone_index.specs.Truth.{IsAmong}
use Rattle.zone_index.specs.declared.entry.Entry.{Entry}
use Rattle.zone_index.proofs.TruthLemmas.{among_more}
use Rattle.zone_index.proofs.truth.are_among.Goals as goal

pub loop-at-preserved : goal.loop-at-preserved
loop-at-preserved c =
    among_more c.args.items.now c.args.entries.now c.loop-at.at c.index-entries-at.result c.loop-at.invariant c.loop-at-test.true
    (subst (λ (x : Entry). IsAmong c.args.items.now x.octets) c.index-entries-at.is (c.if-not-is_among.ensures.0 refl))

pub returns-then-not-is_among : goal.returns-then-not-is_among
returns-then-not-is_among c = (
  λ e. absurd (false≢true e),
  λ all. absurd (false≢true (c.if-not-is_among.ensures.1 (subst (λ (x : Entry). IsAmong c.args.items.now x.octets) (sym c.index-entries-at.is) (all c.loop-at.at c.index-entries-at.result c.loop-at-test.true)))),
)
