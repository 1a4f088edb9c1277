use Rattle.std.proofs.Common.{◌≡◌, ◌≤◌, ◌++◌, ◌∷◌, [], length, take, drop, refl, ap, arith, ◌∙◌, length-append, append_assoc}
use Rattle.dnswire.proofs.ExpansionLemmas.{expands_end, expands_on}
use Rattle.dnswire.proofs.name_read.write_near.Goals as goal

pub returns-in_default-next-clause-yes : goal.returns-in_default-next-clause-yes
returns-in_default-next-clause-yes c = λ _.
    let inv = c.loop.invariant in
    let ends = rw c.in_default-next.is at c.in-Some.ensures.read.ends in
    let run = c.in-Some.ensures.labels in
    let old = c.args.octets.now.items in
    let piece = take c.in-Some.run'.size (drop c.loop.start c.args.message.now) in
    let whole = (inv.0 ++ piece) ++ 0 ∷ [] in
    let out : c.append.new.octets.items ≡ old ++ whole = c.append.ensures.octets ∙ ap (λ o. o ++ 0 ∷ []) (c.append_from.ensures.octets ∙ ap (λ o. o ++ piece) inv.2 ∙ append_assoc old inv.0 piece) ∙ append_assoc old (inv.0 ++ piece) (0 ∷ []) in
    let fits : length whole ≤ c.args.room = omega (arith, c.append.ensures.size, c.append_from.ensures.size, ap length inv.2, length-append old inv.0, ap length out, length-append old whole, c.in-Some.ensures.room, inv.3) in
    (whole, expands_end _ _ c.loop.start c.in-Some.run'.size inv.0 (inv.0 ++ piece) whole run.0 inv.1 run.1 ends refl refl (omega (arith, fits, c.requires)), fits, out)

pub loop-preserved : goal.loop-preserved
loop-preserved c =
    let inv = c.loop.invariant in
    let ends = rw c.in-Some-next.is at c.in-Some.ensures.read.ends in
    let run = c.in-Some.ensures.labels in
    let old = c.args.octets.now.items in
    let piece = take c.in-Some.run'.size (drop c.loop.start c.args.message.now) in
    let out : c.append_from.new.octets.items ≡ old ++ (inv.0 ++ piece) = c.append_from.ensures.octets ∙ ap (λ o. o ++ piece) inv.2 ∙ append_assoc old inv.0 piece in
    (inv.0 ++ piece, expands_on _ _ c.loop.start c.in-Some.run'.size _ inv.0 (inv.0 ++ piece) run.0 inv.1 run.1 ends.0 ends.1 refl, out, omega (arith, c.append_from.ensures.size, ap length out, length-append old (inv.0 ++ piece), ap length inv.2, length-append old inv.0, inv.3, c.in-Some.ensures.room))
