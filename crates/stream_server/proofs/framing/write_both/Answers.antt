use Rattle.std.proofs.Common.{take}
use Rattle.stream_server.proofs.FramingLemmas.{cut_in_first, later_part}
use Rattle.stream_server.proofs.framing.write_both.Goals as goal

pub returns-in-Err-clause-part : goal.returns-in-Err-clause-part
returns-in-Err-clause-part g c =
    let part = c.in-Err.ensures.part in
    (take part.0 c.args.first.now, cut_in_first c.args.first.now c.args.later.now part.0 part.1, part.2)

pub returns-in-Ok-clause-part : goal.returns-in-Ok-clause-part
returns-in-Ok-clause-part g c =
    let written = g.K.Sink.written in
    later_part (written c.args.sink.now) (written c.write_whole.new.sink) (written c.write_whole-in-Ok.new.sink) c.args.first.now c.args.later.now c.write_whole-in-Ok.result c.in-Ok.ensures.written c.write_whole-in-Ok.ensures.part
