use Rattle.dnswire.proofs.RunLemmas.{no_run, no_run_room}
use Rattle.dnswire.proofs.run_sizes.run_by.Goals as goal

pub returns-in_default-piece_at-clause-none : goal.returns-in_default-piece_at-clause-none
returns-in_default-piece_at-clause-none c =
    let points = rw c.in-Some-Pointer.field-0-is at c.in-Some-Pointer.ensures.read in
    no_run_room _ _ c.in-Some.last _ _ c.in-Some.ensures.read.end.passed points c.if-next-at.false

pub returns-in_default-piece_at-3-clause-none : goal.returns-in_default-piece_at-3-clause-none
returns-in_default-piece_at-3-clause-none c =
    let none = rw c.in_default-piece_at.is at c.piece_at.ensures.none in
    no_run _ _ c.in-Some.last _ c.in-Some.ensures.read.end.passed none.no_end none.no_label none.no_pointer
