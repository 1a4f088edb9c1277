use Rattle.std.proofs.Common.{◌≡◌, ◌-◌, length}
use Rattle.std.specs.Option.{option_map}
use Rattle.resolver.specs.Walk.{behind}
use Rattle.resolver.specs.Lent.{links_by, within}
use Rattle.resolver.proofs.WalkLemmas.{HasGone}
use Rattle.resolver.proofs.walking.behind.Given as goal

abbrev pub invariant-loop : goal.invariant-loop
invariant-loop l = record {
  few : length l.links.items ≡ l.counter;
  gone : HasGone l.rule l.store l.now l.qtype l.name
      (option_map (behind (links_by l.name l.initial.links.items)) (within (l.most - 1) l.rule l.store l.now l.qtype l.initial.here))
      (l.most - l.counter) l.links.items l.here;
}
