use Rattle.std.proofs.Common.{sym, ◌∙◌, subst, rules}
use Rattle.std.proofs.lemmas.Bool.{false≢true}
use Rattle.command_line.specs.Words.{IsLabelText}
use Rattle.command_line.proofs.NameTextLemmas.{above_refused, cut_none, cut_read, ends_read, first_label, if_none, taken, within_text}
use Rattle.command_line.proofs.name_text.+name_of.Goals as goal

pub octets_between-label-requires-clause-within : goal.octets_between-label-requires-clause-within
octets_between-label-requires-clause-within t c = within_text c.args.octets.now c.first_dot-end.result c.first_dot-end.ensures

pub returns-then-not-is_label-clause-none : goal.returns-then-not-is_label-clause-none
returns-then-not-is_label-clause-none t c = λ name all.
    let text = c.args.octets.now in
    let end = c.first_dot-end.result in
    let label = first_label text end c.first_dot-end.ensures (within_text text end c.first_dot-end.ensures) all.each in
    let here = subst IsLabelText (sym (taken text end c.octets_between-label.result.now c.octets_between-label.ensures)) label in
    false≢true (sym (search rules) ∙ c.is_label.ensures.1 here)

pub returns-then-end-octets-clause-read : goal.returns-then-end-octets-clause-read
returns-then-end-octets-clause-read t c =
    ends_read c.args.octets.now c.first_dot-end.result c.octets_between-label.result.now c.root.result c.child.result c.first_dot-end.ensures c.if-end-octets.true c.octets_between-label.ensures
    (c.is_label.ensures.0 (search rules)) c.root.ensures c.child.ensures.room.0 c.child.ensures.value

pub returns-in_err-above-clause-none : goal.returns-in_err-above-clause-none
returns-in_err-above-clause-none t c =
    if_none c.from_residual.result _
    (above_refused c.args.octets.now c.first_dot-end.result c.octets_between-label.result.now c.octets_from.result.now
    c.first_dot-end.ensures c.if-end-octets.false c.octets_between-label.ensures c.octets_from.ensures c.in_err-above.ensures.none)

pub returns-clause-read : goal.returns-clause-read
returns-clause-read t c =
    cut_read c.args.octets.now c.first_dot-end.result c.octets_between-label.result.now c.octets_from.result.now c.in_ok-above.above c.child-2.result
    c.first_dot-end.ensures c.if-end-octets.false c.octets_between-label.ensures c.octets_from.ensures
    (c.is_label.ensures.0 (search rules)) c.in_ok-above.ensures.read c.child-2.ensures.room.0 c.child-2.ensures.value

pub returns-clause-none : goal.returns-clause-none
returns-clause-none t c =
    cut_none c.args.octets.now c.first_dot-end.result c.octets_between-label.result.now c.octets_from.result.now c.in_ok-above.above c.child-2.result
    c.first_dot-end.ensures c.if-end-octets.false c.octets_between-label.ensures c.octets_from.ensures c.in_ok-above.ensures.read c.child-2.ensures.room.1
