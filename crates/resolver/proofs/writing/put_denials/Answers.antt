use Rattle.std.proofs.Common.{◌≡◌, ◌<◌, ◌≤◌, [], length, take, get_or, arith}
use Rattle.resolver.specs.Lent.{denials_in, denials_by, end_by}
use Rattle.resolver.specs.WalkReply.{are_new}
use Rattle.resolver.proofs.WritingLemmas.{Puts, left_is, puts_same, puts_denials_first, puts_denials_next, puts_denials_last}
use Rattle.resolver.proofs.writing.put_denials.Goals as goal

pub loop-place-init : goal.loop-place-init
loop-place-init g c = λ last. puts_denials_first c.args.links.now (end_by last c.args.end.now) c.args.sections.now

pub loop-place-preserved : goal.loop-place-preserved
loop-place-preserved g c = λ last.
    let links = c.args.links.now in
    let way = c.index-links-place.result in
    let inside : c.loop-place.place < length links = omega (arith, c.loop-place-test.true) in
    let at : way ≡ get_or links c.loop-place.place way = c.index-links-place.is in
    let puts : Puts (are_new (denials_by (take c.loop-place.place links)) (denials_in way)) c.loop-place.sections c.put_those_of_way.new.sections =
    rw (← c.first_of.ensures) (record { writes = c.put_those_of_way.ensures }) in
    puts_denials_next links (end_by last c.args.end.now) c.args.sections.now c.loop-place.sections c.put_those_of_way.new.sections c.loop-place.place way inside at (c.loop-place.invariant last) puts

pub returns : goal.returns
returns g c = λ name last.
    let links = c.args.links.now in
    let end = end_by last c.args.end.now in
    let all_done : length links ≤ c.loop-place.place = omega (arith, c.loop-place-test.false) in
    (puts_same _ _ c.args.sections.now c.put_those_of_end.new.sections (left_is [] name links end)
    (puts_denials_last links end c.args.sections.now c.loop-place.sections c.put_those_of_end.new.sections c.loop-place.place all_done (c.loop-place.invariant last)
    (record { writes = c.put_those_of_end.ensures last }))).writes
