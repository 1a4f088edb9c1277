use Rattle.std.proofs.Common.{◌≡◌, ◌+◌, ◌-◌, ◌∙◌, ℕ, take, arith}
use Rattle.dname.proofs.PieceLemmas.{piece_apart, piece_alike, lengths_decide, fewer}
use Rattle.dname.proofs.pieces.long_cmp.Goals as goal

pub returns-then-first-other : goal.returns-then-first-other
returns-then-first-other c =
    c.cmp.ensures
    ∙ piece_apart c.args.octets.now c.args.others.now c.loop-at.at 8 _ _ c.type_inv.octets c.type_inv.others (omega arith) (omega arith) c.loop-at.invariant c.word_at-first.ensures c.word_at-other.ensures c.if-first-other.true

pub loop-at-preserved : goal.loop-at-preserved
loop-at-preserved c =
    piece_alike c.args.octets.now c.args.others.now c.loop-at.at 8 _ _ c.type_inv.octets c.type_inv.others (omega arith) (omega arith) c.loop-at.invariant c.word_at-first.ensures c.word_at-other.ensures c.if-first-other.false

pub returns-then-last-another : goal.returns-then-last-another
returns-then-last-another c =
    let xs = c.args.octets.now in
    let ys = c.args.others.now in
    let n : ℕ = c.args.both in
    c.cmp-then-last-another.ensures
    ∙ piece_apart xs ys (n - 8) 8 _ _ c.type_inv.octets c.type_inv.others (omega arith) (omega arith) (fewer (n - 8) c.loop-at.at xs ys (omega arith) c.loop-at.invariant) c.word_at-last.ensures c.word_at-another.ensures c.if-last-another.true

pub returns : goal.returns
returns c =
    let xs = c.args.octets.now in
    let ys = c.args.others.now in
    let n : ℕ = c.args.both in
    let all : take (n - 8 + 8) xs ≡ take (n - 8 + 8) ys =
    piece_alike xs ys (n - 8) 8 _ _ c.type_inv.octets c.type_inv.others (omega arith) (omega arith) (fewer (n - 8) c.loop-at.at xs ys (omega arith) c.loop-at.invariant) c.word_at-last.ensures c.word_at-another.ensures c.if-last-another.false in
    c.cmp-2.ensures ∙ lengths_decide xs ys n c.requires.least (fewer n (n - 8 + 8) xs ys (omega arith) all)
