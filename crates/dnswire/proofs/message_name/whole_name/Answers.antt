use Rattle.std.proofs.Common.{◌≡◌, ◌∙◌, take, drop, ap, arith}
use Rattle.dnswire.proofs.ExpansionLemmas.{out_form, out_read}
use Rattle.dnswire.proofs.message_name.whole_name.Goals as goal

pub of_wire-requires : goal.of_wire-requires
of_wire-requires c =
    let whole = c.in-Some.whole in
    let piece = drop whole.start c.args.message.now in
    let is : c.octets_between-octets.result.now ≡ take whole.size piece = c.octets_between-octets.ensures ∙ ap (λ n. take n piece) (omega arith) in
    out_form _ _ _ whole.end _ c.in-Some.ensures.read is

pub returns : goal.returns
returns c =
    let whole = c.in-Some.whole in
    let piece = drop whole.start c.args.message.now in
    let is : c.octets_between-octets.result.now ≡ take whole.size piece = c.octets_between-octets.ensures ∙ ap (λ n. take n piece) (omega arith) in
    out_read _ _ _ whole.end _ _ c.in-Some.ensures.read is c.of_wire.ensures
