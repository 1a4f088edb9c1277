use Rattle.std.proofs.Common.{◌∙◌, arith}
use Rattle.dname.proofs.PieceLemmas.{octet_apart, lengths_decide, fewer}
use Rattle.dname.proofs.pieces.short_cmp.Goals as goal

pub returns-then-octets-at : goal.returns-then-octets-at
returns-then-octets-at c = c.cmp.ensures ∙ octet_apart c.args.octets.now c.args.others.now c.loop-at.at (omega arith) (omega arith) c.loop-at.invariant c.if-octets-at.true

pub returns : goal.returns
returns c =
    c.cmp-2.ensures
    ∙ lengths_decide c.args.octets.now c.args.others.now c.args.both c.requires (fewer c.args.both c.loop-at.at c.args.octets.now c.args.others.now (omega arith) c.loop-at.invariant)
