use Rattle.std.proofs.Common.{◌++◌}
use Rattle.reply_core.specs.Shown.{denial_in}
use Rattle.resolver.specs.Lent.{denials_by}
use Rattle.resolver.specs.WalkReply.{are_new}
use Rattle.resolver.proofs.WritingLemmas.{puts_both, puts_same, new_in_turn}
use Rattle.resolver.proofs.writing.put_new_denials.Goals as goal

pub returns : goal.returns
returns g c =
    let earlier = denials_by c.args.earlier.now in
    let first = denial_in c.args.verdict.now.first in
    let second = denial_in c.args.verdict.now.second in
    let third = denial_in c.args.verdict.now.third in
    (puts_same _ _ c.args.sections.now c.put_new_denial-3.new.sections (new_in_turn earlier first second third)
    (puts_both (are_new earlier first ++ are_new earlier second) (are_new earlier third) c.args.sections.now c.put_new_denial-2.new.sections c.put_new_denial-3.new.sections
    (puts_both (are_new earlier first) (are_new earlier second) c.args.sections.now c.put_new_denial.new.sections c.put_new_denial-2.new.sections
    (record { writes = c.put_new_denial.ensures }) (record { writes = c.put_new_denial-2.ensures }))
    (record { writes = c.put_new_denial-3.ensures }))).writes
