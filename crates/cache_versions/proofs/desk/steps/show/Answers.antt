use Rattle.std.proofs.Common.{rules, ◌≡◌, [], ◌∷◌, drop}
use Rattle.cache_versions.specs.Kin.{content_of, Kin}
use Rattle.cache_versions.proofs.Kins.{looks, kin_same, kin_trans, sound_same}
use Rattle.cache_versions.proofs.desk.steps.show.Goals as goal

pub publish_as-writer-requires : goal.publish_as-writer-requires
publish_as-writer-requires g c y is =
    let writer = c.append.new.self in
    let next = c.args.next in
    let shown = writer.desk.shown.value in
    let pending : drop writer.behind writer.log.items ≡ next ∷ [] = search rules in
    let same : content_of y ≡ content_of next = rw pending at is in
    let kin : Kin shown next = search rules in
    looks g.S.State.after g.S.State.BATCHES _ _ shown y (kin_trans shown next y kin (kin_same next y same)) (λ _. sound_same g.S.State.after g.S.State.BATCHES next y same c.requires.sound)
