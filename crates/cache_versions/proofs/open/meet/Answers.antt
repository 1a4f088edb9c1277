use Rattle.std.proofs.Common.{rules, ◌≡◌, [], ◌∷◌, drop}
use Rattle.cache_versions.specs.Kin.{content_of}
use Rattle.cache_versions.proofs.Kins.{meets, kin_same, sound_same}
use Rattle.cache_versions.proofs.open.meet.Goals as goal

pub publish_as-writer-requires : goal.publish_as-writer-requires
publish_as-writer-requires g c y is =
    let writer = c.append.new.self in
    let first = c.args.first in
    let shown = writer.desk.shown.value in
    let pending : drop writer.behind writer.log.items ≡ first ∷ [] = search rules in
    let same : content_of y ≡ content_of first = rw pending at is in
    let was : content_of shown ≡ content_of first = search rules in
    let now : content_of y ≡ content_of shown = search rules in
    meets g.S.State.after g.S.State.BATCHES _ _ shown y (kin_same shown y now) (sound_same g.S.State.after g.S.State.BATCHES shown y now)
