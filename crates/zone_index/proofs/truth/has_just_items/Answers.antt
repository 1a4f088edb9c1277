use Rattle.std.proofs.Common.{refl, sym, subst}
use Rattle.std.proofs.lemmas.Bool.{false≢true}
use Rattle.zone_index.specs.Truth.{HasEach}
use Rattle.zone_index.proofs.TruthLemmas.{just_by}
use Rattle.zone_index.proofs.truth.has_just_items.Goals as goal

pub returns-then-not-are_there : goal.returns-then-not-are_there
returns-then-not-are_there c = (
  λ e. absurd (false≢true e),
  λ just. absurd (false≢true (c.if-not-are_there.ensures.1 (subst (HasEach c.args.records.now.zone c.args.records.now.name c.args.rtype) (sym c.again.ensures) (λ octets has. (just.1 octets).0 has)))),
)

pub returns : goal.returns
returns c =
    let each = subst (HasEach c.args.records.now.zone c.args.records.now.name c.args.rtype) c.again.ensures (c.if-not-are_there.ensures.0 refl) in
    let h = just_by c.args.records.now.zone c.args.records.now.name c.args.rtype c.args.items c.in_ok-list.list.items c.of_type-run.result.now (λ none. false≢true (c.if-is_empty.ensures.1 none)) each c.in_ok-list.ensures.same c.of_type-run.ensures in
    let told = rw c.as_slice.ensures.value at c.are_among.ensures in
    (λ t. h.0 (told.0 t), λ just. told.1 (h.1 just))
