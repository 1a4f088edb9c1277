use Rattle.std.proofs.Common.{inr, sym}
use Rattle.intake.proofs.BringLemmas.{rrs_long, few_rrs}
use Rattle.intake.proofs.FaultLemmas.{header_refused}
use Rattle.intake.proofs.intake.taken_or_fault.Goals as goal

pub returns-in-Some-clause-refused : goal.returns-in-Some-clause-refused
returns-in-Some-clause-refused c = inr (λ octets reads. header_refused octets c.args.now c.args.message c.in-Some.fault reads (sym c.in-Some.ensures))

pub taken_of-requires-clause-answer : goal.taken_of-requires-clause-answer
taken_of-requires-clause-answer c = rrs_long c.requires.octets _ c.args.message.answer _ c.requires.reads.answer

pub taken_of-requires-clause-authority : goal.taken_of-requires-clause-authority
taken_of-requires-clause-authority c = rrs_long c.requires.octets _ c.args.message.authority _ c.requires.reads.authority

pub taken_of-requires-clause-few : goal.taken_of-requires-clause-few
taken_of-requires-clause-few c = few_rrs c.requires.octets c.args.message c.requires.small c.requires.reads
