use Rattle.worker_seats.proofs.WalkReplayLemmas.{walks_sound}
use Rattle.worker_seats.proofs.laws.walk_replies_are_sound.Goals as goal

pub returns : goal.returns
returns c = walks_sound
