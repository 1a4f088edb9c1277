-- Extended errors in a reply's OPT record (RFC 8914).
use Rattle.std.specs.Prelude.{◌≡◌, ℕ, zero, suc, ◌+◌, ◌-◌, Bool, true, ◌&&◌, if◌then◌else◌, nat_eq, nat_le, List, [], ◌∷◌, ◌++◌, length, take, drop, filter, All, Option, Some, None}
use Rattle.std.specs.List.{flat_map}
use Rattle.byteorder.specs.Endian.{big_bytes, big_number}
use Rattle.dnswire.specs.declared.message.Message.{Message}
use Rattle.dnswire.specs.declared.question.Question.{Question}
use Rattle.reply_core.specs.Relay.{relay_upper, relay_within}
use Rattle.reply_core.specs.Reply.{opt_octets}
use Rattle.resolver.specs.Walk.{Walk}
use Rattle.resolver.specs.WalkReply.{walk_within}
use Rattle.forwarding.specs.Options.{EdnsOption, IsOption, option_octets, option_size, opt_data, opt_with, room_in, told, can_take}
use Rattle.forwarding.specs.declared.extended_error.TheConstants.{EXTENDED_ERROR, SYNTHESIZED}

-- ---- the mark of a reply that denials or a wildcard made

-- the INFO-CODE alone, without text (RFC 8914, section 2)
abbrev pub synthesized_option : EdnsOption
synthesized_option = record { code = EXTENDED_ERROR; value = big_bytes 2 SYNTHESIZED }

-- the reply with the mark, where it is synthesized and can have it within the limit; else the reply, octet for octet
abbrev pub marked : ℕ → Question → Bool → List ℕ → List ℕ
marked limit question synthesized reply =
    if synthesized then told limit question.edns (option_octets synthesized_option) reply
    else reply

-- a walk's reply ends in an OPT record where the client has one, and the mark is that record's one option
abbrev pub MarkIsAnOption : Type 0
MarkIsAnOption =
    (limit : ℕ) (question : Question) (walk : Walk) (ttl : ℕ) → (front : List ℕ)
    × (walk_within limit question walk ttl ≡ front ++ opt_octets 0 question.edns)
    × (can_take limit question.edns (option_octets synthesized_option)
    (walk_within limit question walk ttl) ≡ true
    → marked limit question true (walk_within limit question walk ttl)
    ≡ front ++ opt_with 0 question.edns (option_octets synthesized_option))

-- ---- the resolver's own extended errors

-- an option of their code, with an INFO-CODE at least (RFC 8914, section 2)
abbrev pub is_extended_error : EdnsOption → Bool
is_extended_error option = nat_eq option.code EXTENDED_ERROR && nat_le 2 (length option.value)

-- in their order, each that the room has after those before it
abbrev pub fitting : ℕ → List EdnsOption → List EdnsOption
fitting room [] = []
fitting room (option ∷ more) =
    if nat_le (length (option_octets option)) room
    then option ∷ fitting (room - length (option_octets option)) more
    else fitting room more

-- a whole option's octets are those of an extended error
abbrev pub is_error_octets : List ℕ → Bool
is_error_octets octets = nat_eq (big_number 2 octets) EXTENDED_ERROR && nat_le 6 (length octets)

-- the option's octets behind those that were taken, where they are an extended error and there is room
abbrev pub with_error : ℕ → List ℕ → List ℕ → List ℕ
with_error room octets errors =
    if is_error_octets octets && nat_le (length errors + length octets) room then errors ++ octets else errors

-- what is taken where an option of a size stands, or what was taken where none does
abbrev pub behind_one : List ℕ → (ℕ → List ℕ) → Option ℕ → List ℕ
behind_one errors next None = errors
behind_one errors next (Some size) = next size

-- of so many options at most, behind those that were taken
abbrev pub errors_after : ℕ → ℕ → List ℕ → List ℕ → List ℕ
errors_after zero room octets errors = errors
errors_after (suc more) room octets errors = behind_one errors
    (λ size. errors_after more room (drop size octets) (with_error room (take size octets) errors))
    (option_size octets)

-- the octets of the extended errors that the room has, up to where no whole option stands
abbrev pub errors_in : ℕ → List ℕ → List ℕ
errors_in room octets = errors_after (length octets) room octets []

-- the relay within the limit, with the message's extended errors, as far as there is room
abbrev pub told_relay : ℕ → Question → Message → List ℕ
told_relay limit question message =
    let relay = relay_within limit question message in
    told limit question.edns (errors_in (room_in limit relay) (opt_data message.additional)) relay

-- Of an OPT record with these options, those that are extended errors are passed on, as far as there is room: they are the data
-- of the relay's own OPT record, and a client without one gets none. Octets at whose front no
-- whole option stands are left out.
abbrev pub ErrorsArePassedOn : Type 0
ErrorsArePassedOn =
    (limit : ℕ) (question : Question) (message : Message) (options : List EdnsOption) (tail : List ℕ)
    → All IsOption options → option_size tail ≡ None
    → opt_data message.additional ≡ flat_map option_octets options ++ tail → (front : List ℕ)
    × (relay_within limit question message
    ≡ front ++ opt_octets (relay_upper question message) question.edns)
    × (told_relay limit question message
    ≡ front ++ opt_with (relay_upper question message) question.edns
    (flat_map option_octets
    (fitting (room_in limit (relay_within limit question message)) (filter is_extended_error options))))
