use Rattle.std.proofs.Common.{◌≡◌, ◌++◌, ◌∷◌, [], length, take, drop, refl, ap, arith, ◌∙◌, length-append}
use Rattle.std.proofs.lemmas.Result.{err_from_is_err_and}
use Rattle.dnswire.proofs.RunLemmas.{handed_on}
use Rattle.dnswire.proofs.ExpansionLemmas.{closed_out, pointed_out, rest_fails}
use Rattle.dnswire.proofs.name_read.write_out.Goals as goal

pub returns-in_default-next-clause-read : goal.returns-in_default-next-clause-read
returns-in_default-next-clause-read c =
    let ends = rw c.in_default-next.is at c.in-Some.ensures.read.ends in
    let run = c.in-Some.ensures.labels in
    let piece = take c.in-Some.run'.size (drop c.args.at c.args.message.now) in
    let out : c.append.new.octets.items ≡ piece ++ 0 ∷ [] = c.append.ensures.octets ∙ ap (λ o. o ++ 0 ∷ []) (c.append_from.ensures.octets ∙ ap (λ o. o ++ piece) c.requires.empty) in
    closed_out _ _ c.in-Some.run'.size _ run.0 run.1 ends out (omega (arith, c.append.ensures.size, c.append_from.ensures.size, ap length c.requires.empty, c.in-Some.ensures.room))

pub returns-in_err-write_rest-clause-faulty : goal.returns-in_err-write_rest-clause-faulty
returns-in_err-write_rest-clause-faulty c =
    let p = err_from_is_err_and c.from_residual.result c.from_residual.ensures.1 in
    let ends = rw c.in-Some-next.is at c.in-Some.ensures.read.ends in
    let run = c.in-Some.ensures.labels in
    rw (p.1, p.2) (λ is. rest_fails _ _ c.in-Some.run'.size c.in-Some-next.next _ run.0 run.1 ends.0 refl (c.in_err-write_rest.ensures.faulty (handed_on _ _ is)))

pub returns-clause-read : goal.returns-clause-read
returns-clause-read c =
    let ends = rw c.in-Some-next.is at c.in-Some.ensures.read.ends in
    let run = c.in-Some.ensures.labels in
    let piece = take c.in-Some.run'.size (drop c.args.at c.args.message.now) in
    let rest = c.in_ok-write_rest.ensures.read in
    let out : c.write_rest.new.octets.items ≡ piece ++ rest.0 = rest.3 ∙ ap (λ o. o ++ rest.0) (c.append_from.ensures.octets ∙ ap (λ o. o ++ piece) c.requires.empty) in
    pointed_out _ _ c.in-Some.run'.size c.in-Some-next.next rest.0 _ run.0 run.1 ends.0 ends.1 rest.1 out (omega (arith, ap length rest.3, length-append c.append_from.new.octets.items rest.0, c.append_from.ensures.size, ap length c.requires.empty, rest.2, c.in-Some.ensures.room))
