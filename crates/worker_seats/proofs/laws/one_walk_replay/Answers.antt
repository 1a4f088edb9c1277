use Rattle.worker_seats.proofs.WalkReplayLemmas.{has_one_walk_replay}
use Rattle.worker_seats.proofs.laws.one_walk_replay.Goals as goal

pub returns : goal.returns
returns c = has_one_walk_replay
