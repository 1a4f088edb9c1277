use Rattle.std.proofs.Common.{◌∙◌, ap, ℕ, arith}
use Rattle.std.specs.Prelude.{filter, List}
use Rattle.std.specs.List.{flat_map}
use Rattle.reply_core.specs.Relay.{relay_upper, relay_within}
use Rattle.forwarding.specs.Options.{option_octets, room_in, told}
use Rattle.forwarding.specs.ExtendedError.{errors_in, fitting, is_extended_error}
use Rattle.forwarding.proofs.EndLemmas.{fitting_is_data, relay_ends}
use Rattle.forwarding.proofs.ErrorLemmas.{errors_are, fitting_fit}
use Rattle.forwarding.proofs.told_laws.errors_are_passed_on.Goals as goal

pub returns : goal.returns
returns c limit question message options tail all none is =
    let ends = relay_ends limit question message in
    let relay = relay_within limit question message in
    let room = room_in limit relay in
    let errors = flat_map option_octets (fitting room (filter is_extended_error options)) in (
      ends.front,
      ends.is,
      ap (λ (octets : List ℕ). told limit question.edns (errors_in room octets) relay) is
          ∙ ap (λ (taken : List ℕ). told limit question.edns taken relay) (errors_are room options tail all none)
          ∙ fitting_is_data limit ends.front errors relay (relay_upper question message) question.edns ends.is (let fit = fitting_fit room (filter is_extended_error options) in omega (arith, fit)),
    )
