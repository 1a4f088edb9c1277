use Rattle.std.proofs.Common.{◌≡◌, ◌-◌, length, drop}
use Rattle.dname.proofs.name.Name.last_labels.Given as goal

abbrev pub invariant-loop : goal.invariant-loop
invariant-loop l = record { end : l.end ≡ length l.self; labels : l.labels ≡ drop (l.counter - l.n) l.self }
