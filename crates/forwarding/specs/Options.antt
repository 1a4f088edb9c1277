-- The options of an OPT record, which are its data (RFC 6891, section 6.1.2).
use Rattle.std.specs.Prelude.{ℕ, ◌+◌, ◌-◌, ◌^◌, ◌<◌, min, Bool, ◌&&◌, if◌then◌else◌, nat_eq, nat_lt, nat_le, is_some, List, [], ◌∷◌, ◌++◌, length, take, drop, Option, Some, None}
use Rattle.byteorder.specs.Endian.{big_bytes, big_number}
use Rattle.dname.specs.Name.{wire_of}
use Rattle.dname.specs.declared.types.TheConstants.{OPT_TYPE}
use Rattle.dnswire.specs.Message.{is_root}
use Rattle.dnswire.specs.declared.edns.Edns.{Edns}
use Rattle.dnswire.specs.declared.edns.TheConstants.{DO}
use Rattle.dnswire.specs.declared.rr.Rr.{Rr}
use Rattle.reply_core.specs.Reply.{flag}
use Rattle.reply_core.specs.declared.draft.TheConstants.{MAX_REPLY}

pub record EdnsOption : Type 0 where
  pub code : ℕ
  pub value : List ℕ

-- its numbers fit two octets each
pub record IsOption (option : EdnsOption) : Type 0 where
  pub code : option.code < 2 ^ 16
  pub size : length option.value < 2 ^ 16

-- code, the value's length, value
abbrev pub option_octets : EdnsOption → List ℕ
option_octets option = big_bytes 2 option.code ++ big_bytes 2 (length option.value) ++ option.value

-- the OPT record of a reply as `opt_octets` has it, but with this data
abbrev pub opt_with : ℕ → Option Edns → List ℕ → List ℕ
opt_with upper None options = []
opt_with upper (Some edns) options =
    wire_of [] ++ big_bytes 2 OPT_TYPE ++ big_bytes 2 MAX_REPLY
    ++ big_bytes 1 upper ++ big_bytes 1 0 ++ big_bytes 2 (flag edns.dnssec DO)
    ++ big_bytes 2 (length options) ++ options

-- ---- what is put into a reply

-- octets in place of no data of a record that ends the reply: the last two octets are the data's length
abbrev pub with_options : List ℕ → List ℕ → List ℕ
with_options options reply = take (length reply - 2) reply ++ big_bytes 2 (length options) ++ options

-- the octets of options that the reply may have: 1232 at most, by a stream too
abbrev pub room_in : ℕ → List ℕ → ℕ
room_in limit reply = min MAX_REPLY (limit - length reply)

-- a record that ends the reply has no data, if one does
abbrev pub has_no_data : List ℕ → Bool
has_no_data reply = nat_le 2 (length reply) && nat_eq (big_number 2 (drop (length reply - 2) reply)) 0

-- there are some, the client sent an OPT record, the reply's has none yet, and the reply stays within the limit
abbrev pub can_take : ℕ → Option Edns → List ℕ → List ℕ → Bool
can_take limit edns options reply =
    is_some edns && nat_lt 0 (length options) && has_no_data reply
    && nat_le (length reply + length options) limit

-- the reply with them where that can be, else the reply
abbrev pub told : ℕ → Option Edns → List ℕ → List ℕ → List ℕ
told limit edns options reply =
    if can_take limit edns options reply then with_options options reply else reply

-- ---- what is read

-- the octets of the whole option at the front, by its length
abbrev pub option_size : List ℕ → Option ℕ
option_size octets =
    if nat_le 4 (length octets) && nat_le (4 + big_number 2 (drop 2 octets)) (length octets)
    then Some (4 + big_number 2 (drop 2 octets)) else None

-- the data of the first OPT record of the root, which is the one of which the RCODE's upper bits are
abbrev pub opt_data : List Rr → List ℕ
opt_data [] = []
opt_data (rr ∷ more) = if nat_eq rr.rtype OPT_TYPE && is_root rr.owner then rr.octets else opt_data more
