use Rattle.std.proofs.Common.{subst, rules}
use Rattle.std.specs.Option.{option_to_list}
use Rattle.command_line.specs.Words.{AreSet}
use Rattle.command_line.proofs.DraftLemmas.{employs, none_before}
use Rattle.command_line.proofs.drafting.Draft.employ.Goals as goal

pub returns : goal.returns
returns c = λ choices set.
    let old = c.args.self.now in
    let none = none_before old.workers (search rules) in
    employs choices c.args.text.now c.in-Some.workers old.listens (option_to_list old.upstream) old.passes (option_to_list old.status) c.in-Some.ensures.read
    (subst (λ counts. AreSet choices old.listens (option_to_list old.upstream) counts old.passes (option_to_list old.status)) none set)
