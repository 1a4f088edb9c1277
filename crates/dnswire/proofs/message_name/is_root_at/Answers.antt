use Rattle.std.proofs.Common.{refl}
use Rattle.std.proofs.lemmas.Bool.{false≢true}
use Rattle.dnswire.proofs.NameLabelsLemmas.{root_at, not_root_at, no_name}
use Rattle.dnswire.proofs.message_name.is_root_at.Goals as goal

pub returns-in-Some-End : goal.returns-in-Some-End
returns-in-Some-End c name end at =
    let last = rw (c.in-Some-End.field-0-is, c.of.ensures) at c.in-Some-End.ensures in
    (λ _. root_at _ _ _ end name last at, λ _. refl)

pub returns-in-Some-Label : goal.returns-in-Some-Label
returns-in-Some-Label c name end at =
    let next = rw (c.in-Some-Label.field-0-is, c.of.ensures) at c.in-Some-Label.ensures in
    (λ is. absurd (false≢true is), λ root. absurd (not_root_at _ _ _ _ end name next at root))

pub returns-in-None : goal.returns-in-None
returns-in-None c name end at = absurd (no_name _ _ name end (rw c.of.ensures at c.in-None.ensures) at)
