use Rattle.std.proofs.Common.{[], refl, arith, inr, length-append}
use Rattle.std.proofs.lemmas.Result.{err_from_is_err_and}
use Rattle.dnswire.specs.Message.{IsRr}
use Rattle.dnswire.specs.Message.IsFaultOf.{not_one, no_fields}
use Rattle.dnswire.proofs.InTurnLemmas.{in_turn-append}
use Rattle.dnswire.proofs.MessageLemmas.{name_refused, section_refused, question_of}
use Rattle.dnswire.proofs.message.message_of.Goals as goal

pub returns-then-header-ne1-clause-refused : goal.returns-then-header-ne1-clause-refused
returns-then-header-ne1-clause-refused c = inr (not_one c.in-Some.header c.in-Some.ensures.read c.if-header-ne1.true refl)

pub returns-in_err-name-clause-refused : goal.returns-in_err-name-clause-refused
returns-in_err-name-clause-refused c =
    let p = err_from_is_err_and c.from_residual.result c.from_residual.ensures.1 in
    rw (p.1, p.2) (name_refused _ _ _ c.in-Some.ensures.read c.if-header-ne1.false c.in_err-name.ensures.refused)

pub returns-in_default-read-clause-refused : goal.returns-in_default-read-clause-refused
returns-in_default-read-clause-refused c =
    inr (no_fields c.in-Some.header c.in_ok-name.name c.in_ok-name.fields_at
    (record { head = c.in-Some.ensures.read; one = c.if-header-ne1.false; name_at = c.in_ok-name.ensures.read })
    (c.in_default-read.ensures.none refl) refl)

pub returns-in_err-answer-clause-refused : goal.returns-in_err-answer-clause-refused
returns-in_err-answer-clause-refused c =
    let p = err_from_is_err_and c.from_residual-in_err-answer.result c.from_residual-in_err-answer.ensures.1 in
    let question = question_of _ _ _ _ _ c.in-Some.ensures.read c.if-header-ne1.false c.in_ok-name.ensures.read c.in-Some-read.ensures.read in
    rw (p.1, p.2) (section_refused _ _ _ _ [] _ _ _ question refl (omega arith) c.in_err-answer.ensures.refused)

pub returns-in_err-authority-clause-refused : goal.returns-in_err-authority-clause-refused
returns-in_err-authority-clause-refused c =
    let p = err_from_is_err_and c.from_residual-in_err-authority.result c.from_residual-in_err-authority.ensures.1 in
    let question = question_of _ _ _ _ _ c.in-Some.ensures.read c.if-header-ne1.false c.in_ok-name.ensures.read c.in-Some-read.ensures.read in
    let answers = c.in_ok-answer.ensures in
    rw (p.1, p.2) (section_refused _ _ _ _ c.in_ok-answer.answer _ _ _ question answers.read (omega (arith, answers.size)) c.in_err-authority.ensures.refused)

pub returns-in_err-additional-clause-refused : goal.returns-in_err-additional-clause-refused
returns-in_err-additional-clause-refused c =
    let p = err_from_is_err_and c.from_residual-in_err-additional.result c.from_residual-in_err-additional.ensures.1 in
    let question = question_of _ _ _ _ _ c.in-Some.ensures.read c.if-header-ne1.false c.in_ok-name.ensures.read c.in-Some-read.ensures.read in
    let answers = c.in_ok-answer.ensures in
    let authorities = c.in_ok-authority.ensures in
    let both = in_turn-append (IsRr c.args.octets.now) _ c.in_ok-answer.answer c.in_ok-authority.authority _ _ answers.read authorities.read in
    rw (p.1, p.2) (section_refused _ _ _ _ _ _ _ _ question both (omega (arith, answers.size, authorities.size, length-append c.in_ok-answer.answer c.in_ok-authority.authority)) c.in_err-additional.ensures.refused)

pub name_or_fault-requires : goal.name_or_fault-requires
name_or_fault-requires c = c.empty-table.ensures c.args.octets.now
