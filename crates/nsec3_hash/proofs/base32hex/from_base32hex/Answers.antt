use Rattle.std.proofs.Common.{rules, ◌≡◌, ◌+◌, ◌*◌, refl, sym, ap, ◌∙◌, arith, length, ℕ, Some, false, true, lit<, ◌<◌}
use Rattle.std.specs.Char.{to_ascii_lowercase}
use Rattle.std.specs.List.{All}
use Rattle.std.proofs.lemmas.List.Elements.{All-take, All-drop, All-replicate}
use Rattle.std.proofs.lemmas.List.{take_all}
use Rattle.std.proofs.lemmas.Slice.{take-put_mid}
use Rattle.nsec3_hash.specs.Base32Hex.{values_of, IsDigit}
use Rattle.nsec3_hash.proofs.TextLemmas.{IsHash-put, read_more, IsDigit_more, IsText-from, lowered-text_of, same_from_text_of}
use Rattle.nsec3_hash.proofs.base32hex.from_base32hex.Goals as goal

pub returns-then-text-ne32-clause-every_hash : goal.returns-then-text-ne32-clause-every_hash
returns-then-text-ne32-clause-every_hash c = λ hash h same. absurd (c.if-text-ne32.true (IsText-from hash _ same).size)

pub returns-then-text-ne32-clause-reads_back : goal.returns-then-text-ne32-clause-reads_back
returns-then-text-ne32-clause-reads_back c = λ hash h same.
    returns-then-text-ne32-clause-every_hash c hash h (rw same (sym (lowered-text_of hash)))

pub groups-init : goal.groups-init
unfolding values_of
groups-init c = record {
  hash = record { size = refl; octets = All-replicate (λ octet. octet < 256) 20 0 (lit< tt) };
  digits = search rules;
  written = search rules;
}

pub returns-in_err-number-clause-every_hash : goal.returns-in_err-number-clause-every_hash
returns-in_err-number-clause-every_hash c = λ hash h same.
    let text = IsText-from hash c.args.text.now same in
    let P = λ (octet : ℕ). IsDigit (to_ascii_lowercase octet) in
    let read : false ≡ true = c.in_err-number.ensures.read.1 (All-take P _ _ (All-drop P _ _ text.digits)) in
    cc

pub returns-in_err-number-clause-reads_back : goal.returns-in_err-number-clause-reads_back
returns-in_err-number-clause-reads_back c = λ hash h same.
    returns-in_err-number-clause-every_hash c hash h (rw same (sym (lowered-text_of hash)))

pub groups-preserved : goal.groups-preserved
groups-preserved c =
    let five : length c.copy_from_slice.new.self ≡ 5 = rw c.copy_from_slice.ensures.after c.octets_of.ensures.size in
    let fits : All (λ octet. octet < 256) c.copy_from_slice.new.self = rw c.copy_from_slice.ensures.after c.octets_of.ensures.octets in record {
      hash = IsHash-put c.groups.group c.groups.hash _ c.groups.invariant.hash c.groups-test.true five fits;
      digits = IsDigit_more c.groups.group _ c.groups.invariant.digits (search rules);
      written = read_more c.groups.group _ c.args.text.now c.groups.hash c.copy_from_slice.new.self _ c.groups.invariant.written
          c.in_ok-number.ensures.value five fits (rw c.copy_from_slice.ensures.after c.octets_of.ensures.value)
          (take-put_mid (5 * c.groups.group) _ c.groups.hash c.copy_from_slice.new.self (5 * (c.groups.group + 1)) (omega (arith, five)) (omega (arith, c.groups.invariant.hash.size)));
    }

pub returns-clause-every_hash : goal.returns-clause-every_hash
returns-clause-every_hash c = λ hash h same.
    let done : c.groups.group ≡ 4 = omega arith in
    let hash_size = c.groups.invariant.hash.size in
    let written = rw (done, take_all 20 c.groups.hash (omega arith), take_all 32 c.args.text.now (omega arith)) at c.groups.invariant.written in
    ap Some (same_from_text_of c.groups.hash hash c.groups.invariant.hash h (written ∙ sym same))

pub returns-clause-reads_back : goal.returns-clause-reads_back
returns-clause-reads_back c = λ hash h same.
    returns-clause-every_hash c hash h (rw same (sym (lowered-text_of hash)))
