use Rattle.std.proofs.Common.{map, subst}
use Rattle.command_line.specs.Options.{IsDraft, choice_of}
use Rattle.command_line.specs.Words.{texts}
use Rattle.command_line.proofs.ForwardLemmas.{missing}
use Rattle.command_line.proofs.drafting.settings_of.Goals as goal

pub returns-clause-told : goal.returns-clause-told
returns-clause-told c =
    let items = c.in_ok-choices.choices.items in
    let set = subst (λ chosen. IsDraft (map choice_of chosen) c.in_ok-draft.draft) c.deref.ensures.value c.in_ok-draft.ensures.read in
    missing (map choice_of items) (texts c.args.words.now) c.in_ok-draft.draft c.in-Err.flag c.in_ok-choices.ensures.read set c.in-Err.ensures.lacks
