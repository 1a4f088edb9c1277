use Rattle.std.proofs.Common.{◌≡◌, ◌∙◌, ◌+◌, ◌-◌, ◌++◌, take, drop, ap, arith}
use Rattle.dnswire.proofs.DataLemmas.{octets_appended}
use Rattle.dnswire.proofs.data.append_octets.Goals as goal

pub returns : goal.returns
returns c =
    let count : c.args.at + c.args.count - c.args.at ≡ c.args.count = omega arith in
    octets_appended _ _ _ _ _ _ (omega (arith, c.if-count-stop.false)) c.requires.1
    (c.in_ok-append.ensures.ok ∙ ap (λ o. c.args.octets.now ++ o) (c.octets_between.ensures ∙ ap (λ n. take n (drop c.args.at c.args.message.now)) count))
