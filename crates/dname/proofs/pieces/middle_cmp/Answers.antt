use Rattle.std.proofs.Common.{◌≡◌, ◌+◌, ◌-◌, ◌∙◌, ℕ, take, refl, arith}
use Rattle.dname.proofs.PieceLemmas.{piece_apart, piece_alike, lengths_decide, fewer}
use Rattle.dname.proofs.pieces.middle_cmp.Goals as goal

pub returns-then-first-other : goal.returns-then-first-other
returns-then-first-other c =
    c.cmp.ensures
    ∙ piece_apart c.args.octets.now c.args.others.now 0 4 _ _ c.type_inv.octets c.type_inv.others (omega arith) (omega arith) refl c.half_at-first.ensures c.half_at-other.ensures c.if-first-other.true

pub returns-then-last-another : goal.returns-then-last-another
returns-then-last-another c =
    let xs = c.args.octets.now in
    let ys = c.args.others.now in
    let n : ℕ = c.args.both in
    let seen : take (0 + 4) xs ≡ take (0 + 4) ys =
    piece_alike xs ys 0 4 _ _ c.type_inv.octets c.type_inv.others (omega arith) (omega arith) refl c.half_at-first.ensures c.half_at-other.ensures c.if-first-other.false in
    c.cmp-then-last-another.ensures
    ∙ piece_apart xs ys (n - 4) 4 _ _ c.type_inv.octets c.type_inv.others (omega arith) (omega arith) (fewer (n - 4) (0 + 4) xs ys (omega (arith, c.requires.middle)) seen)
    c.half_at-last.ensures c.half_at-another.ensures c.if-last-another.true

pub returns : goal.returns
returns c =
    let xs = c.args.octets.now in
    let ys = c.args.others.now in
    let n : ℕ = c.args.both in
    let seen : take (0 + 4) xs ≡ take (0 + 4) ys =
    piece_alike xs ys 0 4 _ _ c.type_inv.octets c.type_inv.others (omega arith) (omega arith) refl c.half_at-first.ensures c.half_at-other.ensures c.if-first-other.false in
    let all : take (n - 4 + 4) xs ≡ take (n - 4 + 4) ys =
    piece_alike xs ys (n - 4) 4 _ _ c.type_inv.octets c.type_inv.others (omega arith) (omega arith) (fewer (n - 4) (0 + 4) xs ys (omega (arith, c.requires.middle)) seen)
    c.half_at-last.ensures c.half_at-another.ensures c.if-last-another.false in
    c.cmp-2.ensures ∙ lengths_decide xs ys n c.requires.least (fewer n (n - 4 + 4) xs ys (omega arith) all)
