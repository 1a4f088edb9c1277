-- No public clause cites this module. The number of records, as a header has it.
use Rattle.std.specs.Prelude.{◌≡◌, ℕ, ◌%◌, ◌^◌, List, length}
use Rattle.std.specs.List.{flat_map}
use Rattle.reply_core.specs.Draft.{Contents, put}
use Rattle.reply_core.specs.Reply.{ReplyRecord, record_octets}

-- the number of records as 16 bits hold it
abbrev pub count16 : {T : Type 0} → List T → ℕ
count16 records = length records % 2 ^ 16

-- from one draft to the other these records were put, with this TTL, and counted
pub record HasPut (ttl : ℕ) (before after : Contents) (number : ℕ) (records : List ReplyRecord) : Type 0 where
  pub octets : after ≡ put before (flat_map (record_octets ttl) records)
  pub count : number ≡ count16 records
