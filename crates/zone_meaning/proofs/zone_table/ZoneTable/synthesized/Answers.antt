use Rattle.std.proofs.lemmas.Bool.Decides.{not_from_Decides}
use Rattle.zone_meaning.specs.Lookup.{by_no_source, by_its_ns, as_itself}
use Rattle.zone_meaning.specs.ZoneTable.{looked_of}
use Rattle.zone_meaning.proofs.LookLemmas.{lends_no_data, made_without}
use Rattle.zone_meaning.proofs.UnbarredLemmas.{reached_exists, exists_reached}
use Rattle.zone_meaning.proofs.zone_table.ZoneTable.synthesized.Goals as goal

pub returns-then-not-reaches : goal.returns-then-not-reaches
returns-then-not-reaches c = by_no_source (λ there. not_from_Decides c.reaches.result c.reaches.ensures c.if-not-reaches.true (exists_reached c.args.self.now c.args.source.now there))

pub returns-then-has : goal.returns-then-has
returns-then-has c =
    by_its_ns (reached_exists c.args.self.now c.args.source.now c.requires.within c.requires.unbarred (c.reaches.ensures.0 c.if-not-reaches.false)) (c.has.ensures.0 c.if-has.true)

pub returns-in-NoData : goal.returns-in-NoData
returns-in-NoData c =
    made_without c.args.self.now c.args.source.now c.args.rtype c.without_data.result (reached_exists c.args.self.now c.args.source.now c.requires.within c.requires.unbarred (c.reaches.ensures.0 c.if-not-reaches.false))
    (not_from_Decides c.has.result c.has.ensures c.if-has.false)
    c.in-NoData.ensures
    c.without_data.ensures.dname
    c.without_data.ensures.none

pub returns-in_default : goal.returns-in_default
returns-in_default c =
    as_itself (looked_of c.answer_at.result) (reached_exists c.args.self.now c.args.source.now c.requires.within c.requires.unbarred (c.reaches.ensures.0 c.if-not-reaches.false))
    (not_from_Decides c.has.result c.has.ensures c.if-has.false)
    c.answer_at.ensures
    (λ none. absurd (c.in_default.not-NoData (lends_no_data c.answer_at.result none)))
