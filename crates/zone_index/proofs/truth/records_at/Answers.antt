use Rattle.std.proofs.Common.{List, sym, subst}
use denote.Ref.{Bor}
use Rattle.zone_index.specs.Entries.{AreOwners}
use Rattle.zone_index.specs.declared.entry.Entry.{Entry}
use Rattle.zone_index.proofs.truth.records_at.Goals as goal

pub of-requires : goal.of-requires
of-requires c = subst (λ (run : Bor (List Entry)). AreOwners c.args.zone.now c.args.name.now run.now) (sym c.index-runs-at.is) (c.requires.owners c.index-runs-at.result)
