use Rattle.std.proofs.Common.{refl, inr}
use Rattle.audit_source.proofs.ReadingLemmas.{at_apex, no_head, no_entries, no_run, refused_record, more_behind, whole_read, some_left, none_left}
use Rattle.audit_source.proofs.audit_source.source_of.Goals as goal

pub returns-in_default-clause-refused : goal.returns-in_default-clause-refused
returns-in_default-clause-refused c = inr (no_head c.args.octets.now (c.in_default.ensures.none refl))

pub returns-in_default-2-clause-refused : goal.returns-in_default-2-clause-refused
returns-in_default-2-clause-refused c =
    let none = rw c.in_default-2.is at c.in_ok-refused.ensures in
    inr (no_entries c.args.octets.now c.in-Some.apex c.in-Some.count c.in-Some.rest.now c.in-Some.ensures.some none)

pub returns-in_default-first_run-clause-refused : goal.returns-in_default-first_run-clause-refused
returns-in_default-first_run-clause-refused c =
    let taken = rw c.in-Some-2.is at c.in_ok-refused.ensures in
    inr (no_run c.args.octets.now c.in-Some.apex c.in-Some.count c.in-Some.rest.now c.in-Some.ensures.some
    c.take_entries.new.zone c.in-Some-2.refused c.in-Some-2.rest.now
    (at_apex c.in-Some.rest.now c.in-Some.apex c.in-Some.count c.at-zone.result c.take_entries.new.zone c.in-Some-2.refused c.in-Some-2.rest.now c.at-zone.ensures taken)
    (c.in_default-first_run.ensures.none refl))

pub returns-in-Some-refused-clause-refused : goal.returns-in-Some-refused-clause-refused
returns-in-Some-refused-clause-refused c =
    let taken = rw c.in-Some-2.is at c.in_ok-refused.ensures in
    inr (refused_record c.args.octets.now c.in-Some.apex c.in-Some.count c.in-Some.rest.now c.in-Some.ensures.some
    c.take_entries.new.zone c.in-Some-2.refused c.in-Some-2.rest.now
    (at_apex c.in-Some.rest.now c.in-Some.apex c.in-Some.count c.at-zone.result c.take_entries.new.zone c.in-Some-2.refused c.in-Some-2.rest.now c.at-zone.ensures taken)
    c.in-Some-first_run.input.now c.in-Some-first_run.output.now c.in-Some-first_run.rest.now c.in-Some-first_run.ensures.some
    c.in-Some-refused.fault c.in-Some-refused.is)

pub returns-then-not-is_empty-clause-refused : goal.returns-then-not-is_empty-clause-refused
returns-then-not-is_empty-clause-refused c =
    let taken = rw c.in-Some-2.is at c.in_ok-refused.ensures in
    inr (more_behind c.args.octets.now c.in-Some.apex c.in-Some.count c.in-Some.rest.now c.in-Some.ensures.some
    c.take_entries.new.zone c.in-Some-2.refused c.in-Some-2.rest.now
    (at_apex c.in-Some.rest.now c.in-Some.apex c.in-Some.count c.at-zone.result c.take_entries.new.zone c.in-Some-2.refused c.in-Some-2.rest.now c.at-zone.ensures taken)
    c.in-Some-first_run.input.now c.in-Some-first_run.output.now c.in-Some-first_run.rest.now c.in-Some-first_run.ensures.some
    c.in_default-refused.is (some_left c.in-Some-first_run.rest.now c.is_empty.result c.is_empty.ensures c.if-not-is_empty.true))

pub returns-clause-read : goal.returns-clause-read
returns-clause-read c =
    let taken = rw c.in-Some-2.is at c.in_ok-refused.ensures in
    whole_read c.args.octets.now c.in-Some.apex c.in-Some.count c.in-Some.rest.now c.in-Some.ensures.some
    c.take_entries.new.zone c.in-Some-2.refused c.in-Some-2.rest.now
    (at_apex c.in-Some.rest.now c.in-Some.apex c.in-Some.count c.at-zone.result c.take_entries.new.zone c.in-Some-2.refused c.in-Some-2.rest.now c.at-zone.ensures taken)
    c.in-Some-first_run.input.now c.in-Some-first_run.output.now c.in-Some-first_run.rest.now c.in-Some-first_run.ensures.some
    c.in_default-refused.is (none_left c.in-Some-first_run.rest.now c.is_empty.result c.is_empty.ensures c.if-not-is_empty.false) c.in_ok-zone.zone c.in_ok-zone.ensures
