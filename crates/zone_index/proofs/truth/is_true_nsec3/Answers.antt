use Rattle.std.proofs.Common.{refl, sym, ◌∙◌}
use Rattle.std.proofs.lemmas.Bool.{false≢true}
use Rattle.zone_index.proofs.TruthLemmas.{nsec3_true, nsec3_named, nsec3_none}
use Rattle.zone_index.proofs.truth.is_true_nsec3.Goals as goal

pub returns-then-not-has_named : goal.returns-then-not-has_named
returns-then-not-has_named c = (λ e. absurd (false≢true e), λ is. absurd (false≢true (c.if-not-has_named.ensures.1 (nsec3_named c.args.zone.now c.args.nsec3.now c.args.table.now c.requires is))))

pub returns-then-opt_out : goal.returns-then-opt_out
returns-then-opt_out c = (
  λ _. nsec3_true c.args.zone.now c.args.nsec3.now c.args.table.now c.requires (c.if-not-is_apex.ensures.0 refl ∙ c.zone.ensures) (c.if-not-has_named.ensures.0 refl) (λ clear. absurd (false≢true (sym clear ∙ sym c.opt_out.ensures ∙ c.if-opt_out.true))),
  λ _. refl,
)

pub returns : goal.returns
returns c =
    let none = rw c.hash.ensures at (rw c.next.ensures at c.none_inside.ensures) in (
      λ t. nsec3_true c.args.zone.now c.args.nsec3.now c.args.table.now c.requires (c.if-not-is_apex.ensures.0 refl ∙ c.zone.ensures) (c.if-not-has_named.ensures.0 refl) (λ _. none.0 t),
      λ is. none.1 (nsec3_none c.args.zone.now c.args.nsec3.now c.args.table.now c.requires is (sym c.opt_out.ensures ∙ c.if-opt_out.false)),
    )
