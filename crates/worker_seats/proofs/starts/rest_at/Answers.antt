use Rattle.std.proofs.Common.{◌*◌, length, arith, sym, subst, drop}
use Rattle.worker_seats.specs.Frames.{AreSpelled}
use Rattle.worker_seats.specs.declared.cut.TheConstants.{RANGE}
use Rattle.worker_seats.proofs.StartLemmas.{cut_from, from_within, many_cuts, rest_none, rest_spelled}
use Rattle.worker_seats.proofs.starts.rest_at.Goals as goal

pub returns-then-workers-eq0 : goal.returns-then-workers-eq0
returns-then-workers-eq0 c = rest_none (length c.args.outputs.now) (RANGE * c.args.range) c.args.frames.now c.octets.result.now (omega (arith, c.workers.ensures, c.if-workers-eq0.true)) c.requires.workers c.octets.ensures

pub cut_before-requires : goal.cut_before-requires
cut_before-requires c = omega (arith, c.requires.range, many_cuts c.args.outputs.now c.args.frames.now c.requires.cuts 0 (omega (arith, c.workers.ensures, c.if-workers-eq0.false)) c.cuts_of.result.now c.cuts_of.ensures)

pub octets_from-requires : goal.octets_from-requires
octets_from-requires c =
    from_within (RANGE * c.args.range) c.cut_before.result.from c.args.frames.now c.octets-2.result.now c.octets-2.ensures
    (cut_from c.args.outputs.now c.args.frames.now c.requires.cuts 0 (omega (arith, c.workers.ensures, c.if-workers-eq0.false)) c.cuts_of.result.now c.cuts_of.ensures c.args.range c.cut_before.result c.cut_before.ensures)

pub returns : goal.returns
returns c =
    subst (λ l. AreSpelled l (drop (RANGE * c.args.range) c.args.frames.now)) (sym c.octets_from.ensures)
    (rest_spelled (RANGE * c.args.range) c.cut_before.result.from c.args.frames.now c.octets-2.result.now c.octets-2.ensures
    (cut_from c.args.outputs.now c.args.frames.now c.requires.cuts 0 (omega (arith, c.workers.ensures, c.if-workers-eq0.false)) c.cuts_of.result.now c.cuts_of.ensures c.args.range c.cut_before.result c.cut_before.ensures))
