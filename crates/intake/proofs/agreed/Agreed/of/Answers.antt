use Rattle.std.proofs.Common.{◌≡◌, suc, ◌+◌, [], ◌∷◌, ◌++◌, length, take, get_or, refl, sym, ap, ◌∙◌, subst, arith}
use Rattle.std.proofs.lemmas.List.{take_more, take_all}
use Rattle.intake.specs.SignedGroup.{IsAgreed}
use Rattle.intake.proofs.AgreedLemmas.{agreed_one, agreed_more, agreed_at, agreed_with}
use Rattle.intake.proofs.agreed.Agreed.of.Goals as goal

pub returns-in_err-agreed : goal.returns-in_err-agreed
returns-in_err-agreed c =
    let all : c.args.signatures.now ≡ c.in_ok-first.first.now ∷ c.in_ok-first.others.now = c.in_ok-first.ensures.cases.0 in
    rw c.from_residual-in_err-agreed.ensures
    (λ agreed is. let first = agreed_at c.args.now c.args.signatures.now agreed 0 c.in_ok-first.first.now is (omega (arith, ap length all)) (sym (ap (λ xs. get_or xs 0 c.in_ok-first.first.now) all)) in c.in_err-agreed.ensures first.0 first.1)

pub loop-octets-init : goal.loop-octets-init
loop-octets-init c =
    let all : c.args.signatures.now ≡ c.in_ok-first.first.now ∷ c.in_ok-first.others.now = c.in_ok-first.ensures.cases.0 in
    rw all (agreed_one c.args.now c.in_ok-first.first.now c.in_ok-agreed.agreed c.in_ok-agreed.ensures)

pub returns-in_err-other : goal.returns-in_err-other
returns-in_err-other c =
    let all : c.args.signatures.now ≡ c.in_ok-first.first.now ∷ c.in_ok-first.others.now = c.in_ok-first.ensures.cases.0 in
    let at : c.octets-item.result ≡ get_or c.args.signatures.now (suc c.loop-octets.octets-index) c.octets-item.result = c.octets-item.is ∙ sym (ap (λ xs. get_or xs (suc c.loop-octets.octets-index) c.octets-item.result) all) in
    rw c.from_residual-in_err-other.ensures
    (λ agreed is. let there = agreed_at c.args.now c.args.signatures.now agreed (suc c.loop-octets.octets-index) c.octets-item.result is (omega (arith, ap length all, c.loop-octets-test.true)) at in c.in_err-other.ensures there.0 there.1)

pub returns-then-not-says_the_same : goal.returns-then-not-says_the_same
returns-then-not-says_the_same c = λ agreed is.
    let all : c.args.signatures.now ≡ c.in_ok-first.first.now ∷ c.in_ok-first.others.now = c.in_ok-first.ensures.cases.0 in
    let at : c.octets-item.result ≡ get_or c.args.signatures.now (suc c.loop-octets.octets-index) c.octets-item.result = c.octets-item.is ∙ sym (ap (λ xs. get_or xs (suc c.loop-octets.octets-index) c.octets-item.result) all) in
    let same = agreed_with c.args.now c.args.signatures.now (take (suc c.loop-octets.octets-index) c.args.signatures.now) c.loop-octets.agreed agreed c.in_ok-first.first.now c.octets-item.result c.in_ok-first.others.now (take c.loop-octets.octets-index c.in_ok-first.others.now) (suc c.loop-octets.octets-index) c.in_ok-other.other
    all (ap (take (suc c.loop-octets.octets-index)) all) c.loop-octets.invariant is c.in_ok-other.ensures (omega (arith, ap length all, c.loop-octets-test.true)) at in
    let says = c.says_the_same.ensures.1 same in
    cc

pub loop-octets-preserved : goal.loop-octets-preserved
loop-octets-preserved c =
    let all : c.args.signatures.now ≡ c.in_ok-first.first.now ∷ c.in_ok-first.others.now = c.in_ok-first.ensures.cases.0 in
    let now_all : take (suc (c.loop-octets.octets-index + 1)) c.args.signatures.now ≡ take (suc c.loop-octets.octets-index) c.args.signatures.now ++ c.octets-item.result ∷ [] =
    ap (take (suc (c.loop-octets.octets-index + 1))) all
    ∙ ap (λ xs. c.in_ok-first.first.now ∷ xs) (take_more c.in_ok-first.others.now c.loop-octets.octets-index c.octets-item.result c.loop-octets-test.true)
    ∙ ap (λ x. (c.in_ok-first.first.now ∷ take c.loop-octets.octets-index c.in_ok-first.others.now) ++ x ∷ []) (sym c.octets-item.is)
    ∙ ap (λ xs. take (suc c.loop-octets.octets-index) xs ++ c.octets-item.result ∷ []) (sym all) in
    rw now_all (agreed_more c.args.now (take (suc c.loop-octets.octets-index) c.args.signatures.now) c.octets-item.result c.loop-octets.agreed c.in_ok-other.other _ c.loop-octets.invariant c.in_ok-other.ensures
    (c.says_the_same.ensures.0 c.if-not-says_the_same.false) refl refl refl c.min.ensures)

pub returns : goal.returns
returns c =
    let all : c.args.signatures.now ≡ c.in_ok-first.first.now ∷ c.in_ok-first.others.now = c.in_ok-first.ensures.cases.0 in
    subst (λ xs. IsAgreed c.args.now xs c.loop-octets.agreed) (take_all (suc c.loop-octets.octets-index) c.args.signatures.now (omega (arith, ap length all, c.loop-octets-test.false))) c.loop-octets.invariant
