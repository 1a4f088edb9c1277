use Rattle.std.proofs.Common.{inl, inr, ⊎_elim, refl, sym, subst}
use Rattle.std.proofs.lemmas.Bool.{false≢true}
use Rattle.zone_index.specs.Hashes.{HasClash}
use Rattle.zone_index.proofs.truth.clashes.Goals as goal

pub returns-then-has_clash : goal.returns-then-has_clash
returns-then-has_clash c = (λ _. inl (c.if-has_clash.ensures.0 refl), λ _. refl)

pub returns-then-eq : goal.returns-then-eq
returns-then-eq c = (
  λ e. absurd (false≢true e),
  λ found. ⊎_elim (λ h. absurd (false≢true (c.if-has_clash.ensures.1 h))) (λ h. absurd (h.0 (c.if-eq.ensures.same.0 refl))) found,
)

pub returns : goal.returns
returns c = (
  λ t. inr (λ same. false≢true (c.if-eq.ensures.same.1 same), subst (HasClash c.args.table.now) c.wildcard_of.ensures (c.has_clash-2.ensures.0 t)),
  λ found. ⊎_elim (λ h. absurd (false≢true (c.if-has_clash.ensures.1 h))) (λ h. c.has_clash-2.ensures.1 (subst (HasClash c.args.table.now) (sym c.wildcard_of.ensures) h.1)) found,
)
