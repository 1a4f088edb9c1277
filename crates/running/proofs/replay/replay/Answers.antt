use Rattle.std.proofs.Common.{sym, subst}
use Rattle.cache_versions.specs.Closes.{journal_at}
use Rattle.replay_meaning.specs.Replay.{SpellsFrames}
use Rattle.worker_seats.specs.WalkReplay.{IsReplayBy}
use Rattle.worker_seats.proofs.LawLemmas.{replay_of}
use Rattle.running.proofs.replay.replay.Goals as goal

pub returns-in-Ok-clause-replay : goal.returns-in-Ok-clause-replay
returns-in-Ok-clause-replay g c octets output are merged =
    let frames = c.args.frames.now in
    let all = c.in_ok-cache.ensures.all.1 in
    subst (λ n. IsReplayBy c.args.answering n octets output) all
    (replay_of c.args.answering c.in_ok-cache.seats.items c.in-Ok.seats.items (journal_at c.close-closed.result) octets output frames
    (subst (λ n. SpellsFrames n octets frames) (sym all) are)
    c.requires.few
    c.in-Ok.ensures.all
    (λ k d within. (c.in_ok-cache.ensures.fresh k d within).2)
    c.close-closed.ensures.seen
    c.close-closed.ensures.places
    (c.in-Ok.ensures.worked output merged))
