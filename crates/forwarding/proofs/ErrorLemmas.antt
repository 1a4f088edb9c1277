-- Extended errors among the options of an OPT record.
use Rattle.std.proofs.Common.{◌≡◌, ℕ, zero, suc, ◌+◌, ◌-◌, ◌<◌, ◌≤◌, ◌&&◌, Bool, true, false, nat_eq, nat_le, if◌then◌else◌, List, [], ◌∷◌, ◌++◌, length, take, drop, refl, sym, ◌∙◌, ap, arith, length-append, append_assoc, Some, None}
use Rattle.std.specs.Prelude.{filter, All}
use Rattle.std.specs.List.{flat_map}
use Rattle.std.proofs.Math.Seq.{take-append_seam, drop-append_seam}
use Rattle.std.proofs.lemmas.List.{append-nil}
use Rattle.std.proofs.lemmas.List.Elements.{All-head, All-tail}
use Rattle.std.proofs.lemmas.Bool.Decides.{nat_tests}
use Rattle.byteorder.specs.Endian.{big_bytes, big_number}
use Rattle.byteorder.specs.Numbers.{big_number-reads_back}
use Rattle.forwarding.specs.Options.{EdnsOption, IsOption, option_octets, option_size}
use Rattle.forwarding.specs.ExtendedError.{behind_one, errors_after, errors_in, fitting, is_error_octets, is_extended_error, with_error}
use Rattle.forwarding.specs.declared.extended_error.TheConstants.{EXTENDED_ERROR}

-- ---- one more option is passed, or none stands there

pub one_more : (octets rest errors : List ℕ) (passed room size : ℕ) → passed < length octets → option_size rest ≡ Some size → errors_after (length octets - passed) room rest errors ≡ errors_after (length octets - (passed + 1)) room (drop size rest) (with_error room (take size rest) errors)
one_more octets rest errors passed room size within stands =
    let left : length octets - passed ≡ suc (length octets - (passed + 1)) = omega arith in
    ap (λ n. errors_after n room rest errors) left
    ∙ ap (behind_one errors (λ size. errors_after (length octets - (passed + 1)) room (drop size rest) (with_error room (take size rest) errors))) stands

pub goes_on : (octets rest rest' option errors errors' : List ℕ) (passed room size : ℕ) → passed < length octets → option_size rest ≡ Some size → option ≡ take (size - 0) rest → rest' ≡ drop size rest → errors' ≡ with_error room option errors → errors_after (length octets - passed) room rest errors ≡ errors_in room octets → errors_after (length octets - (passed + 1)) room rest' errors' ≡ errors_in room octets
goes_on octets rest rest' option errors errors' passed room size within stands option_is rest_is errors_are so_far =
    let whole : size - 0 ≡ size = omega arith in
    let one = errors_are ∙ ap (λ o. with_error room o errors) (option_is ∙ ap (λ n. take n rest) whole) in
    let count = length octets - (passed + 1) in
    ap (λ l. errors_after count room l errors') rest_is
    ∙ ap (λ l. errors_after count room (drop size rest) l) one
    ∙ sym (one_more octets rest errors passed room size within stands)
    ∙ so_far

pub none_more : (count room : ℕ) (rest errors : List ℕ) → option_size rest ≡ None → errors_after count room rest errors ≡ errors
none_more zero room rest errors none = refl
none_more (suc more) room rest errors none = ap (behind_one errors (λ size. errors_after more room (drop size rest) (with_error room (take size rest) errors))) none

pub none_left : (count room : ℕ) (rest errors : List ℕ) → count ≡ 0 → errors_after count room rest errors ≡ errors
none_left zero room rest errors none = refl
none_left (suc more) room rest errors none = absurd (omega (arith, none))

-- ---- an option at the front

octets_length : (option : EdnsOption) → length (option_octets option) ≡ 4 + length option.value
octets_length option = omega arith

value_length : (option : EdnsOption) (rest : List ℕ) → IsOption option → big_number 2 (drop 2 (option_octets option ++ rest)) ≡ length option.value
value_length option rest is = big_number-reads_back 2 (length option.value) (option.value ++ rest) is.size

size_at_front : (option : EdnsOption) (rest : List ℕ) → IsOption option → option_size (option_octets option ++ rest) ≡ Some (length (option_octets option))
size_at_front option rest is =
    let value = value_length option rest is in
    let whole : length (option_octets option ++ rest) ≡ 4 + length option.value + length rest = omega (arith, length-append (option_octets option) rest, octets_length option) in
    let four : nat_le 4 (length (option_octets option ++ rest)) ≡ true = grind (arith, nat_tests, whole) in
    let all : nat_le (4 + big_number 2 (drop 2 (option_octets option ++ rest))) (length (option_octets option ++ rest)) ≡ true = grind (arith, nat_tests, whole, value) in
    ap (λ test. if test && nat_le (4 + big_number 2 (drop 2 (option_octets option ++ rest))) (length (option_octets option ++ rest)) then Some (4 + big_number 2 (drop 2 (option_octets option ++ rest))) else None) four
    ∙ ap (λ test. if test then Some (4 + big_number 2 (drop 2 (option_octets option ++ rest))) else None) all
    ∙ ap (λ n. Some (4 + n)) value
    ∙ ap Some (sym (octets_length option))

code_at_front : (option : EdnsOption) → IsOption option → big_number 2 (option_octets option) ≡ option.code
code_at_front option is = big_number-reads_back 2 option.code (big_bytes 2 (length option.value) ++ option.value) is.code

same_error : (option : EdnsOption) → IsOption option → is_error_octets (option_octets option) ≡ is_extended_error option
same_error option is =
    let code = code_at_front option is in
    let six : nat_le 6 (length (option_octets option)) ≡ nat_le 2 (length option.value) = grind (arith, nat_tests) in
    ap (λ n. nat_eq n EXTENDED_ERROR && nat_le 6 (length (option_octets option))) code
    ∙ ap (λ test. nat_eq option.code EXTENDED_ERROR && test) six

-- ---- all of them

same_room : (taken size room : ℕ) → taken ≤ room → nat_le (taken + size) room ≡ nat_le size (room - taken)
same_room taken size room within = grind (arith, nat_tests)

-- behind the option's own, by both tests
step_gives : (error fits : Bool) (room : ℕ) (option : EdnsOption) (options : List EdnsOption) (errors : List ℕ) → length errors ≤ room → nat_le (length (option_octets option)) (room - length errors) ≡ fits → (if error && fits then errors ++ option_octets option else errors) ++ flat_map option_octets (fitting (room - length (if error && fits then errors ++ option_octets option else errors)) options) ≡ errors ++ flat_map option_octets (fitting (room - length errors) (if error then option ∷ options else options))
step_gives false fits room option options errors within is = refl
step_gives true false room option options errors within is =
    ap (λ test. errors ++ flat_map option_octets (if test then option ∷ fitting (room - length errors - length (option_octets option)) options else fitting (room - length errors) options)) (sym is)
step_gives true true room option options errors within is =
    let left : room - length (errors ++ option_octets option) ≡ room - length errors - length (option_octets option) = omega (arith, length-append errors (option_octets option)) in
    ap (λ n. (errors ++ option_octets option) ++ flat_map option_octets (fitting n options)) left
    ∙ append_assoc errors (option_octets option) (flat_map option_octets (fitting (room - length errors - length (option_octets option)) options))
    ∙ ap (λ test. errors ++ flat_map option_octets (if test then option ∷ fitting (room - length errors - length (option_octets option)) options else fitting (room - length errors) options)) (sym is)

still_within : (error fits : Bool) (room : ℕ) (octets errors : List ℕ) → length errors ≤ room → nat_le (length octets) (room - length errors) ≡ fits → length (if error && fits then errors ++ octets else errors) ≤ room
still_within false fits room octets errors within is = within
still_within true false room octets errors within is = within
still_within true true room octets errors within is =
    let small : length octets ≤ room - length errors = grind (arith, nat_tests, is) in
    omega (arith, length-append errors octets, small, within)

with_one : (room : ℕ) (option : EdnsOption) (errors : List ℕ) → IsOption option → length errors ≤ room → with_error room (option_octets option) errors ≡ (if is_extended_error option && nat_le (length (option_octets option)) (room - length errors) then errors ++ option_octets option else errors)
with_one room option errors is within =
    ap (λ test. if test && nat_le (length errors + length (option_octets option)) room then errors ++ option_octets option else errors) (same_error option is)
    ∙ ap (λ test. if is_extended_error option && test then errors ++ option_octets option else errors) (same_room (length errors) (length (option_octets option)) room within)

all_after : (count room : ℕ) (options : List EdnsOption) (tail errors : List ℕ) → All IsOption options → option_size tail ≡ None → length (flat_map option_octets options ++ tail) ≤ count → length errors ≤ room → errors_after count room (flat_map option_octets options ++ tail) errors ≡ errors ++ flat_map option_octets (fitting (room - length errors) (filter is_extended_error options))
all_after count room [] tail errors all none enough within = none_more count room tail errors none ∙ sym (append-nil errors)
all_after zero room (option ∷ options) tail errors all none enough within =
    absurd (omega (arith, enough, length-append (option_octets option ++ flat_map option_octets options) tail, length-append (option_octets option) (flat_map option_octets options), octets_length option))
all_after (suc more) room (option ∷ options) tail errors all none enough within =
    let is = All-head IsOption option options all in
    let here = option_octets option in
    let rest = flat_map option_octets options ++ tail in
    let taken = with_error room here errors in
    let gives = with_one room option errors is within in
    let fits = nat_le (length here) (room - length errors) in
    let stands : (here ++ flat_map option_octets options) ++ tail ≡ here ++ rest = append_assoc here (flat_map option_octets options) tail in
    let small : length taken ≤ room = rw gives (still_within (is_extended_error option) fits room here errors within refl) in
    let fewer : length rest ≤ more = omega (arith, enough, ap length stands, length-append here rest, octets_length option) in
    ap (λ (all : List ℕ). errors_after (suc more) room all errors) stands
    ∙ ap (behind_one errors (λ size. errors_after more room (drop size (here ++ rest)) (with_error room (take size (here ++ rest)) errors))) (size_at_front option rest is)
    ∙ ap (λ left. errors_after more room left (with_error room (take (length here) (here ++ rest)) errors)) (drop-append_seam here rest)
    ∙ ap (λ one. errors_after more room rest (with_error room one errors)) (take-append_seam here rest)
    ∙ all_after more room options tail taken (All-tail IsOption option options all) none fewer small
    ∙ ap (λ (so_far : List ℕ). so_far ++ flat_map option_octets (fitting (room - length so_far) (filter is_extended_error options))) gives
    ∙ step_gives (is_extended_error option) fits room option (filter is_extended_error options) errors within refl

pub errors_are : (room : ℕ) (options : List EdnsOption) (tail : List ℕ) → All IsOption options → option_size tail ≡ None → errors_in room (flat_map option_octets options ++ tail) ≡ flat_map option_octets (fitting room (filter is_extended_error options))
errors_are room options tail all none =
    let free : room - 0 ≡ room = omega arith in
    all_after (length (flat_map option_octets options ++ tail)) room options tail [] all none (omega arith) (omega arith)
    ∙ ap (λ left. flat_map option_octets (fitting left (filter is_extended_error options))) free

fitting_within : (test : Bool) (room : ℕ) (option : EdnsOption) (fewer others : List EdnsOption) → nat_le (length (option_octets option)) room ≡ test → length (flat_map option_octets fewer) ≤ room - length (option_octets option) → length (flat_map option_octets others) ≤ room → length (flat_map option_octets (if test then option ∷ fewer else others)) ≤ room
fitting_within false room option fewer others is small small' = small'
fitting_within true room option fewer others is small small' =
    let fits : length (option_octets option) ≤ room = grind (arith, nat_tests, is) in
    omega (arith, length-append (option_octets option) (flat_map option_octets fewer), fits, small)

pub fitting_fit : (room : ℕ) (options : List EdnsOption) → length (flat_map option_octets (fitting room options)) ≤ room
fitting_fit room [] = omega arith
fitting_fit room (option ∷ options) =
    fitting_within (nat_le (length (option_octets option)) room) room option (fitting (room - length (option_octets option)) options) (fitting room options) refl
    (fitting_fit (room - length (option_octets option)) options) (fitting_fit room options)
