use Rattle.std.proofs.Common.{sym, subst}
use Rattle.std.proofs.lemmas.Bool.Decides.{not_from_Decides}
use Rattle.dname.specs.Name.{IsUnder}
use Rattle.zone_meaning.specs.Lookup.{Synthesizes, at_the_name, by_a_wildcard, with_no_encloser}
use Rattle.zone_meaning.specs.ZoneTable.{looked_of, IsUnbarred, IsReached}
use Rattle.zone_meaning.proofs.BarLemmas.{source_within}
use Rattle.zone_meaning.proofs.LookLemmas.{looks_first}
use Rattle.zone_meaning.proofs.UnbarredLemmas.{owner_under, nothing_is_free, reached_exists, exists_reached, source_free}
use Rattle.zone_meaning.proofs.zone_table.ZoneTable.lookup.Goals as goal

pub returns-in-Some : goal.returns-in-Some
returns-in-Some c = looks_first c.args.self.now c.args.name.now c.args.qtype c.in-Some.other (looked_of c.stopped_at.result) c.requires c.in-Some.ensures.first c.stopped_at.ensures.cut c.stopped_at.ensures.dname

pub returns-then-reaches : goal.returns-then-reaches
returns-then-reaches c =
    let zone = c.args.self.now in
    let name = c.args.name.now in
    let nothing = c.in_default.ensures.none in
    record {
      within = c.requires;
      found = at_the_name (looked_of c.answer_at.result) nothing (reached_exists zone name c.requires (nothing_is_free zone name c.args.qtype nothing) (c.reaches.ensures.0 c.if-reaches.true)) c.answer_at.ensures;
    }

pub returns-then-not-reaches : goal.returns-then-not-reaches
returns-then-not-reaches c =
    let zone = c.args.self.now in
    record {
      within = c.requires;
      found = with_no_encloser c.in_default.ensures.none
          (λ other under there. not_from_Decides c.reaches-2.result c.reaches-2.ensures c.if-not-reaches.true
          (subst (IsReached zone) (sym c.apex.ensures.value) (there.owner, there.live.owner, owner_under zone c.apex.ensures.zone there.owner there.live.owner)));
    }

pub closest_encloser-encloser-requires-clause-unbarred :
    goal.closest_encloser-encloser-requires-clause-unbarred
closest_encloser-encloser-requires-clause-unbarred c = nothing_is_free c.args.self.now c.args.name.now c.args.qtype c.in_default.ensures.none

pub synthesized-requires-clause-within : goal.synthesized-requires-clause-within
synthesized-requires-clause-within c =
    let closest = c.closest_encloser-encloser.ensures in
    subst (λ n. IsUnder n c.args.self.now.apex) (sym c.wildcard_of.ensures) (source_within c.args.self.now c.closest_encloser-encloser.result closest.there.within)

pub synthesized-requires-clause-unbarred : goal.synthesized-requires-clause-unbarred
synthesized-requires-clause-unbarred c =
    let closest = c.closest_encloser-encloser.ensures in
    subst (IsUnbarred c.args.self.now) (sym c.wildcard_of.ensures)
    (source_free c.args.self.now c.args.name.now c.closest_encloser-encloser.result closest.above (nothing_is_free c.args.self.now c.args.name.now c.args.qtype c.in_default.ensures.none))

pub returns : goal.returns
returns c =
    let zone = c.args.self.now in
    let name = c.args.name.now in
    record {
      within = c.requires;
      found = by_a_wildcard (looked_of c.synthesized.result) c.closest_encloser-encloser.result c.in_default.ensures.none
          (λ there. not_from_Decides c.reaches.result c.reaches.ensures c.if-reaches.false (exists_reached zone name there))
          c.closest_encloser-encloser.ensures
          (subst (λ source. Synthesizes zone source c.args.qtype (looked_of c.synthesized.result)) c.wildcard_of.ensures c.synthesized.ensures);
    }
