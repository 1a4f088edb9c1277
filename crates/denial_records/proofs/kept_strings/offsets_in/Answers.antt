use Rattle.std.proofs.Common.{◌≡◌, ◌∙◌, ap, sym, suc, ◌+◌, drop, arith, length-set}
use Rattle.std.proofs.lemmas.List.{drop-drop}
use Rattle.denial_records.specs.Kept.{octets_before, kept_offset}
use Rattle.denial_records.proofs.OffsetLemmas.{before_more, before_all, kept_behind, offset_more}
use Rattle.denial_records.proofs.kept_strings.offsets_in.Goals as goal
use Rattle.denial_records.proofs.kept_strings.offsets_in.Goals.{in-Some, in_default}

pub strings-preserved : goal.strings-preserved
strings-preserved g c =
    let is = c.strings.invariant in
    let at : c.match-next.offset ≡ kept_offset (octets_before (suc c.strings.i) c.args.pack.now) = elim c.match-next.branch [
      | in-Some w ↦
          kept_behind _ _ _ _ is.2 (w.offset-is ∙ w.offset_behind-offset.ensures) ∙ ap kept_offset (sym (before_more c.strings.i _ _ _ (sym is.1 ∙ w.in-Some.ensures.first)))
      | in_default w ↦ w.offset-is ∙ is.2 ∙ ap kept_offset (sym (before_all c.strings.i _ (sym is.1 ∙ w.in_default.ensures.first)))
    ] in
    let next : suc c.strings.i ≡ c.strings.i + 1 = omega arith in (
      length-set _ _ _ ∙ is.0,
      c.next.ensures.rest ∙ ap (drop 1) is.1 ∙ drop-drop 1 c.strings.i c.args.pack.now,
      at ∙ ap (λ k. kept_offset (octets_before k c.args.pack.now)) next,
      offset_more c.strings.i c.match-next.offset c.strings.offsets c.args.pack.now is.3 (omega (arith, is.0)) at,
    )
