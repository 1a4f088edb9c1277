use Rattle.std.proofs.Common.{subst, rules}
use Rattle.std.specs.Option.{option_to_list}
use Rattle.command_line.specs.Words.{AreSet}
use Rattle.command_line.proofs.CommandLemmas.{not_empty}
use Rattle.command_line.proofs.DraftLemmas.{none_before, tells_one}
use Rattle.command_line.proofs.drafting.Draft.tell.Goals as goal

pub returns : goal.returns
returns c = λ choices set.
    let old = c.args.self.now in
    let none = none_before old.status (search rules) in
    tells_one choices c.args.text.now c.in_ok-of.field-0 old.listens (option_to_list old.upstream) (option_to_list old.workers) old.passes
    (record { same = c.in_ok-of.ensures; some = not_empty c.args.text.now c.is_empty.result c.is_empty.ensures c.if-is_empty.false })
    (subst (λ files. AreSet choices old.listens (option_to_list old.upstream) (option_to_list old.workers) old.passes files) none set)
