use Rattle.std.proofs.Common.{◌∙◌, sym}
use Rattle.replay_meaning.specs.Frame.{input_of}
use Rattle.replay_meaning.proofs.FrameLemmas.{one_input}
use Rattle.worker_seats.proofs.frames.frame_for.Goals as goal

pub returns-clause-every : goal.returns-clause-every
returns-clause-every c input rest fits is =
    let one = one_input (input_of c.in-Some-read_frame.frame) input c.in-Some-read_frame.after.now rest c.in-Some-read_frame.ensures.input fits (sym c.in-Some-read_frame.ensures.spelled ∙ is) in
    (one.1, (one.0, sym (c.in-Some.ensures.every input rest fits is).0 ∙ sym c.from.ensures ∙ c.if-from-worker.false))
