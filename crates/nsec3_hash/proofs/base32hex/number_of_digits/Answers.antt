use Rattle.std.proofs.Common.{rules, refl, arith}
use Rattle.nsec3_hash.specs.Base32Hex.{values_of, IsDigit}
use Rattle.std.specs.Char.{to_ascii_lowercase}
use Rattle.std.proofs.lemmas.List.Elements.{All-more}
use Rattle.nsec3_hash.proofs.TextLemmas.{digit_fits, digit_room, digit_read}
use Rattle.nsec3_hash.proofs.base32hex.number_of_digits.Goals as goal

pub loop-digit-init : goal.loop-digit-init
unfolding values_of
loop-digit-init c = search rules

pub overflow_add-number : goal.overflow_add-number
overflow_add-number c =
    let fits = digit_fits c.loop-digit.digit-index c.loop-digit.number c.in_ok-value_of.field-0 (omega arith) c.loop-digit.invariant.small c.in_ok-value_of.ensures.small in
    omega (arith, fits)

pub loop-digit-preserved : goal.loop-digit-preserved
loop-digit-preserved c = record {
  small = rw c.from.ensures (digit_room c.loop-digit.digit-index _ _ c.loop-digit.invariant.small c.in_ok-value_of.ensures.small);
  digits = All-more (λ octet. IsDigit (to_ascii_lowercase octet)) c.args.digits.now c.loop-digit.digit-index 0 c.loop-digit-test.true
      c.loop-digit.invariant.digits (c.in_ok-value_of.ensures.read.0 refl);
  written = rw c.from.ensures (digit_read c.loop-digit.digit-index _ _ c.args.digits.now c.loop-digit-test.true
      c.in_ok-value_of.ensures.small c.in_ok-value_of.ensures.value c.loop-digit.invariant.written);
}
