use Rattle.std.proofs.Common.{◌≡◌, true, ◌↔◌, sym, subst}
use Rattle.denial_records.specs.Proof.{denied_by}
use Rattle.denial_records.specs.declared.verdict.Denial.{Denial}
use Rattle.denial_records.specs.declared.verdict.Denial.TheVariants.{Nsec3}
use Rattle.zone_meaning.specs.Zone.{Zone}
use Rattle.soundness.specs.True.{IsClashFreeFor}
use Rattle.zone_index.specs.Hashes.{IsTableOf}
use Rattle.zone_index.specs.declared.hash_table.HashTable.{HashTable}
use Rattle.zone_index.proofs.TruthLemmas.{free_for}
use Rattle.zone_index.proofs.zone_search.ZoneSearch.is_clash_free.Goals as goal

pub returns-in_ok-at-in-Nsec3-clause-is : goal.returns-in_ok-at-in-Nsec3-clause-is
returns-in_ok-at-in-Nsec3-clause-is c =
    let nsec3 = c.in-Nsec3.nsec3.now in
    let zone = c.self.inside.zone.now in
    let name = c.args.name.now in
    let table = c.index.result.now in
    let r = c.is_clash_free.result in
    let is = subst (λ (t : HashTable). IsTableOf zone nsec3.salt nsec3.iterations t) (sym c.index.ensures) (c.in_ok-at-in-Nsec3.ensures.place.1 table) in
    subst (λ (d : Denial). (r ≡ true) ↔ IsClashFreeFor c.args.self.now name (denied_by d)) (sym c.in-Nsec3.is)
    (subst (λ (z : Zone). (r ≡ true) ↔ IsClashFreeFor z name (denied_by (Nsec3 c.in-Nsec3.nsec3))) c.self.view_is (free_for zone name nsec3 table r is c.is_clash_free.ensures))
