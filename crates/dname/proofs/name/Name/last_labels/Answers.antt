use Rattle.std.proofs.Common.{◌≡◌, ◌+◌, ◌-◌, drop, ◌∙◌, ap, arith}
use Rattle.std.proofs.lemmas.List.{drop-drop}
use Rattle.dname.proofs.name.Name.last_labels.Goals as goal

pub loop-preserved : goal.loop-preserved
loop-preserved c =
    let count : c.loop.counter - c.args.n + 1 ≡ c.loop.counter + 1 - c.args.n = omega arith in
    record {
      end = c.loop.invariant.end;
      labels = c.next.ensures.rest ∙ ap (drop 1) c.loop.invariant.labels ∙ drop-drop 1 (c.loop.counter - c.args.n) c.args.self.now ∙ ap (λ k. drop k c.args.self.now) count;
    }
