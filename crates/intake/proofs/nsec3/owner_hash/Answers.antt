use Rattle.std.proofs.Common.{◌≡◌, not, ◌∷◌, slice_index_or, sym, ap, ◌∙◌}
use Rattle.std.proofs.lemmas.Bool.{not-false}
use Rattle.std.specs.Cmp.Lexicographic.{pointwise_decides, bytes_decides}
use Rattle.dname.specs.Name.{wire_of, lowered}
use Rattle.intake.proofs.OnceLemmas.{true_or_false}
use Rattle.intake.proofs.NameLemmas.{hashed, unhashed, hashed_label}
use Rattle.intake.proofs.nsec3.owner_hash.Goals as goal
use Rattle.intake.proofs.nsec3.owner_hash.Goals.{then-ne-via-then-ne, then-ne-via-else-ne+then-wire-ne-HASH_DIGITS}

pub returns-then-ne : goal.returns-then-ne
returns-then-ne c = λ hash of.
    let parts = unhashed c.args.owner.now c.args.zone.now c.in_ok-parent.parent c.in_ok-parent.ensures.0 hash c.in_ok-parent.ensures.1 of in
    elim c.then-ne.branch [
      | then-ne-via-then-ne w ↦ absurd (true_or_false c.ne.result (c.ne.ensures ∙ ap not ((pointwise_decides bytes_decides c.in_ok-parent.parent c.args.zone.now).1 parts.0)) w.if-ne.true)
      | then-ne-via-else-ne+then-wire-ne-HASH_DIGITS w ↦ absurd (w.if-wire-ne-HASH_DIGITS.true (ap (λ wire. slice_index_or wire 0 0) (c.wire-wire.ensures.spelled ∙ ap wire_of c.in_ok-parent.ensures.1) ∙ parts.2))
    ]

pub returns-in_err-hash : goal.returns-in_err-hash
returns-in_err-hash c =
    let text = c.octets_between.ensures ∙ hashed_label c.args.owner.now c.in_ok-parent.ensures.0 c.in_ok-parent.parent c.wire-wire.result.now c.in_ok-parent.ensures.1 c.wire-wire.ensures.spelled c.if-wire-ne-HASH_DIGITS.false in
    rw c.from_residual-in_err-hash.ensures
    (λ hash of.
    let parts = unhashed c.args.owner.now c.args.zone.now c.in_ok-parent.parent c.in_ok-parent.ensures.0 hash c.in_ok-parent.ensures.1 of in
    let found = c.in_err-hash.ensures.every_hash hash of.hash_is (parts.1 ∙ ap lowered (sym text)) in
    cc)

pub returns : goal.returns
returns c =
    let text = c.octets_between.ensures ∙ hashed_label c.args.owner.now c.in_ok-parent.ensures.0 c.in_ok-parent.parent c.wire-wire.result.now c.in_ok-parent.ensures.1 c.wire-wire.ensures.spelled c.if-wire-ne-HASH_DIGITS.false in
    let zone : c.in_ok-parent.parent ≡ c.args.zone.now = (pointwise_decides bytes_decides c.in_ok-parent.parent c.args.zone.now).0 (not-false _ (sym c.ne.ensures ∙ c.if-ne.false)) in
    hashed c.args.owner.now c.args.zone.now c.in_ok-parent.ensures.0 c.in_ok-hash.hash c.wire-wire.ensures.name (c.in_ok-parent.ensures.1 ∙ ap (λ rest. c.in_ok-parent.ensures.0 ∷ rest) zone)
    c.are_hash.ensures
    (c.in_ok-hash.ensures.value ∙ ap lowered text)
