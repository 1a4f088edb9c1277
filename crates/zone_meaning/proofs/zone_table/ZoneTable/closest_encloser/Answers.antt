use Rattle.std.proofs.Common.{◌≡◌, ◌≢◌, List, sym, ◌∙◌, subst, ⊎_elim}
use Rattle.dname.specs.Name.{Label, IsUnder}
use Rattle.dname.proofs.SameLemmas.{same_or_not}
use Rattle.zone_meaning.specs.ZoneTable.{IsReached}
use Rattle.zone_meaning.proofs.TableLemmas.{reached_by, each_owner}
use Rattle.zone_meaning.proofs.UnbarredLemmas.{is_closest}
use Rattle.zone_meaning.proofs.zone_table.ZoneTable.closest_encloser.Goals as goal

pub returns : goal.returns
returns c =
    let zone = c.args.self.now in
    let name = c.args.name.now in
    let found = c.nearest.result in
    let reached : IsReached zone found = ⊎_elim
    (λ (same : found ≡ c.apex.result.now). subst (IsReached zone) (sym (same ∙ c.apex.ensures.value)) c.requires.some)
    (λ (apart : found ≢ c.apex.result.now). reached_by zone c.groups.result.now c.groups.ensures found (c.nearest.ensures.shared apart))
    (same_or_not found c.apex.result.now) in
    is_closest zone c.groups.ensures.valid name found c.requires.within c.requires.unbarred c.requires.missing c.nearest.ensures.above reached
    (each_owner zone c.groups.result.now c.groups.ensures (λ (owner : List Label). (other : List Label) → IsUnder name other → IsUnder owner other → IsUnder found other) c.nearest.ensures.longest)
