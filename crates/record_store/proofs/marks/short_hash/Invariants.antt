use Rattle.std.proofs.Common.{◌≡◌, take, fold}
use Rattle.record_store.specs.Marks.{mixed}
use Rattle.record_store.proofs.marks.short_hash.Given as goal

abbrev pub invariant-loop-octet : goal.invariant-loop-octet
invariant-loop-octet l = l.hash ≡ fold mixed 0 (take l.octet-index l.octets)
