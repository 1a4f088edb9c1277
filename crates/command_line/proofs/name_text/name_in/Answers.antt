use Rattle.std.proofs.Common.{sym, ◌∙◌, ap, subst, arith}
use Rattle.command_line.specs.Words.{AreLabelsOf, without_dot}
use Rattle.command_line.proofs.NameTextLemmas.{parts, too_long}
use Rattle.command_line.proofs.name_text.name_in.Goals as goal

pub returns-then-octets-gt-MAX_OCTETS-clause-none : goal.returns-then-octets-gt-MAX_OCTETS-clause-none
returns-then-octets-gt-MAX_OCTETS-clause-none c = λ name all.
    let text = c.without_dot-octets.result.now in
    let is = c.without_dot-octets.ensures ∙ ap without_dot c.as_bytes.ensures.value in
    too_long text (omega arith) name (subst (λ t. AreLabelsOf (parts t) name) (sym is) all)
