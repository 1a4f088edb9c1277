use Rattle.std.proofs.Common.{refl, sym, subst}
use Rattle.std.proofs.lemmas.Bool.{false≢true}
use Rattle.dname.specs.Name.{IsUnder}
use Rattle.zone_index.proofs.EntryLemmas.{live_by, not_live_outside}
use Rattle.zone_index.proofs.zone_index.ZoneIndex.is_live.Goals as goal

pub returns-then-not-is_under : goal.returns-then-not-is_under
returns-then-not-is_under c = (
  λ e. absurd (false≢true e),
  λ live. absurd (not_live_outside c.args.self.now c.apex.ensures.zone c.args.name.now (λ under. false≢true (c.if-not-is_under.ensures.1 (subst (IsUnder c.args.name.now) (sym c.apex.ensures.value) under))) live),
)

pub returns : goal.returns
returns c = live_by c.args.self.now c.args.name.now c.is_barred.result (c.if-not-is_owner.ensures.0 refl) c.is_barred.ensures
