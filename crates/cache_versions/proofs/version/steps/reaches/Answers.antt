use Rattle.std.proofs.Common.{◌<◌, ◌≤◌, List, length, ap, subst, arith}
use mathlib.Core.List.{IsPrefix}
use Rattle.cache_versions.specs.Kin.{journal_of}
use Rattle.cache_versions.proofs.Fronts.{prefix_shorter}
use Rattle.cache_versions.proofs.version.steps.reaches.Goals as goal

pub returns-then-deref : goal.returns-then-deref
returns-then-deref g c =
    let u = c.args.first.now in
    let v = c.args.second.now in
    let both = c.learn.new.self.log in
    let this : IsPrefix (journal_of u) both = subst (λ (l : List g.row.B.Denot). IsPrefix l both) (ap (λ s. s.log) c.again-both.ensures) c.learn.ensures.2 in
    let less : length (journal_of u) ≤ length (journal_of v) = rw (c.deref.ensures, c.deref-2.ensures, u.counted, v.counted) at c.if-deref.true in
    prefix_shorter (journal_of u) (journal_of v) both this c.learn.ensures.3 less

pub returns : goal.returns
returns g c =
    let u = c.args.first.now in
    let v = c.args.second.now in
    let both = c.learn.new.self.log in
    let this : IsPrefix (journal_of u) both = subst (λ (l : List g.row.B.Denot). IsPrefix l both) (ap (λ s. s.log) c.again-both.ensures) c.learn.ensures.2 in
    let less : length (journal_of v) < length (journal_of u) = rw (c.deref.ensures, c.deref-2.ensures, u.counted, v.counted) at c.if-deref.false in
    prefix_shorter (journal_of v) (journal_of u) both c.learn.ensures.3 this (omega arith)
