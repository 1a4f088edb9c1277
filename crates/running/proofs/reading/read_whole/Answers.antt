use Rattle.running.proofs.GivenLemmas.{gave_more}
use Rattle.running.proofs.reading.read_whole.Goals as goal

pub returns-in-Err-clause-part : goal.returns-in-Err-clause-part
returns-in-Err-clause-part g c =
    gave_more (g.S.Source.left c.args.source.now) (g.S.Source.left c.loop-piece.source) (g.S.Source.left c.read_piece.new.source) c.loop-piece.input.items c.loop-piece.invariant.left c.in-Err.ensures.part
