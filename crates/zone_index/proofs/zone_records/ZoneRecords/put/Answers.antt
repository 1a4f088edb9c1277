use Rattle.std.proofs.Common.{◌∷◌, ◌++◌, [], ◌≡◌, map, sym, subst}
use Rattle.dname.specs.Name.{IsUnder}
use Rattle.zone_meaning.specs.Zone.{Zone}
use Rattle.zone_meaning.specs.ZoneTable.{zone_record}
use Rattle.zone_index.specs.Entries.{record_of}
use Rattle.zone_index.proofs.EntryLemmas.{pushed_zone, pushed_records}
use Rattle.zone_index.proofs.zone_records.ZoneRecords.put.Goals as goal

pub invariant_of-self-2 : goal.invariant_of-self-2
invariant_of-self-2 c =
    let f = c.self.inside in
    let under = subst (λ (z : Zone). IsUnder c.args.owner z.apex) (sym c.self.view_is) c.requires.under in
    pushed_zone f.apex f.entries.items _ _ c.args.owner c.self.invariant c.in_ok-push.ensures.items c.in_ok-owner.ensures under c.requires.plain

pub returns-clause-added : goal.returns-clause-added
returns-clause-added c =
    let f = c.self.inside in
    subst (λ (z : Zone). map record_of c.push.new.self.items ≡ z.records ++ zone_record c.args.owner c.args.rtype c.args.octets ∷ []) c.self.view_is
    (pushed_records f.entries.items _ _ c.args.owner c.in_ok-push.ensures.items c.in_ok-owner.ensures)
