use Rattle.std.proofs.Common.{List}
use Rattle.dname.specs.Name.{Label}
use Rattle.resolver.specs.Lent.{end_by}
use Rattle.resolver.proofs.WritingLemmas.{PutsDenials}
use Rattle.resolver.proofs.writing.put_denials.Given as goal

abbrev pub invariant-loop-place : goal.invariant-loop-place
invariant-loop-place g l = (last : List Label) → PutsDenials l.links (end_by last l.end) l.initial.sections l.place l.sections
