use Rattle.std.proofs.Common.{refl, inr}
use Rattle.std.proofs.lemmas.List.{drop_more, drop_all}
use Rattle.dnswire.proofs.DataLemmas.{writes_more, writes_all, writes_no_more}
use Rattle.dnswire.proofs.data.read_fields.Goals as goal

pub loop-field-preserved : goal.loop-field-preserved
loop-field-preserved c =
    record {
      wrote = writes_more _ _ _ _ _ _ _ _ _ _ _ c.loop-field.invariant.wrote (drop_more _ _ _ c.loop-field-test.true) (rw c.in-Ok-Some.field-0-is at c.in-Ok-Some.ensures.ok);
      table = c.append_field.ensures.table;
    }

pub returns-in-Ok-None-clause-refused : goal.returns-in-Ok-None-clause-refused
returns-in-Ok-None-clause-refused c =
    inr (writes_no_more _ _ _ _ _ _ _ _ _ c.loop-field.invariant.wrote (drop_more _ _ _ c.loop-field-test.true) (rw c.in-Ok-None.field-0-is at c.in-Ok-None.ensures.ok), refl)

pub returns-clause-read : goal.returns-clause-read
returns-clause-read c = writes_all _ _ _ _ _ _ _ c.loop-field.invariant.wrote (drop_all _ _ c.loop-field-test.false) c.if-here-end.false
