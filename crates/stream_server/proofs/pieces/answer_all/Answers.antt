use Rattle.std.proofs.Common.{◌∙◌, refl}
use Rattle.cache_versions.specs.Seats.{seen_by}
use Rattle.resolver.proofs.GoneOnLemmas.{only_read_self, only_read_then}
use Rattle.stream_server.proofs.PieceLemmas.{none_so_far, one_so_far, cut_short}
use Rattle.stream_server.proofs.pieces.answer_all.Goals as goal

pub loop-message-init : goal.loop-message-init
loop-message-init g c = record {
  read = only_read_self c.args.cache.now c.args.seat.now c.requires;
  so_far = none_so_far c.args.now (seen_by c.args.seat.now) c.args.octets.now (g.K.Sink.written c.args.sink.now);
  faults = refl;
}

pub returns-in-Err-clause-answered : goal.returns-in-Err-clause-answered
returns-in-Err-clause-answered g c =
    let written = g.K.Sink.written in
    let at = c.loop-message.invariant in
    let one = c.in-Err.ensures.answered in
    cut_short c.args.now (seen_by c.args.seat.now) (seen_by c.loop-message.seat) (seen_by c.answer_one.new.seat) c.args.octets.now c.loop-message.rest.now c.in-Message.message.now c.in-Message.after.now
    (written c.args.sink.now) (written c.loop-message.sink) at.so_far c.in-Message.ensures.0 c.in-Message.ensures.1 at.read.on.begins c.answer_one.ensures.read.on.begins
    one.0 one.1 (written c.answer_one.new.sink) one.2 one.3 one.4

pub loop-message-preserved : goal.loop-message-preserved
loop-message-preserved g c =
    let written = g.K.Sink.written in
    let at = c.loop-message.invariant in
    let one = c.answer_one.ensures in
    let done = c.in-Ok.ensures.answered in
    record {
      read = only_read_then c.args.cache.now c.args.seat.now c.loop-message.seat c.answer_one.new.seat at.read one.read;
      so_far =
          one_so_far c.args.now (seen_by c.args.seat.now) (seen_by c.loop-message.seat) (seen_by c.answer_one.new.seat) c.args.octets.now c.loop-message.rest.now c.in-Message.message.now c.in-Message.after.now
          (written c.args.sink.now) (written c.loop-message.sink) at.so_far c.in-Message.ensures.0 c.in-Message.ensures.1 at.read.on.begins one.read.on.begins
          done.0 (written c.answer_one.new.sink) done.1 done.2;
      faults = c.in-Ok.ensures.cause ∙ at.faults;
    }
