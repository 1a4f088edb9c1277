use Rattle.std.proofs.Common.{◌≡◌, false, Some, sym, ◌∙◌, ap}
use Rattle.std.specs.Arc.{arc_value}
use Rattle.cache_meaning.specs.Held.{is_of_chain}
use Rattle.zone_chains.specs.Zone.{OneChain}
use Rattle.cache_meaning.proofs.ChainLemmas.{of_chain}
use Rattle.zone_chains.proofs.ComeLemmas.{older_has}
use Rattle.zone_chains.proofs.changes.chains_without.Goals as goal

pub parted-requires-then-is_of : goal.parted-requires-then-is_of
parted-requires-then-is_of c =
    of_chain c.deref-then-is_of.result.now.chain c.args.item.now
    (ap (λ (each : OneChain). is_of_chain each.chain c.args.item.now) (c.deref-then-is_of.ensures ∙ sym c.deref-in-Two.ensures) ∙ sym c.is_of.ensures ∙ c.if-is_of.true)

pub parted-requires-else-is_of : goal.parted-requires-else-is_of
parted-requires-else-is_of c =
    let other : is_of_chain (arc_value c.in-Two.newer).chain c.args.item.now ≡ false =
    ap (λ (each : OneChain). is_of_chain each.chain c.args.item.now) (sym c.deref-in-Two.ensures) ∙ sym c.is_of.ensures ∙ c.if-is_of.false in
    older_has _ _ c.args.item.now (rw c.in-Two.is at c.requires) other ∙ ap (λ (each : OneChain). Some each.chain) (sym c.deref-else-is_of.ensures)
