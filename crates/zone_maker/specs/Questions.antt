-- The queries that a made zone is asked, octet for octet.
use Rattle.std.specs.Prelude.{ℕ, ◌+◌, ◌*◌, ◌/◌, ◌%◌, ◌==◌, if◌then◌else◌, List, [], ◌∷◌, ◌++◌, codes}
use Rattle.byteorder.specs.Endian.{big_bytes}
use Rattle.dname.specs.Name.{Label, wire_of}
use Rattle.dname.specs.declared.types.TheConstants.{A_TYPE, DS_TYPE, OPT_TYPE, TXT_TYPE}
use Rattle.zone_maker.specs.Made.{NameKind, Host, Above, Cut, Wild, kind_at, name_at}
use Rattle.zone_maker.specs.Messages.{header_octets, question_octets}

-- a name and a type
pub record Asked : Type 0 where
  pub name : List Label
  pub qtype : ℕ

-- what is asked of a name the first time, and the second
abbrev pub asked_first : NameKind → List Label → Asked
asked_first Host name = record { name = name; qtype = TXT_TYPE }
asked_first Above name = record { name = name; qtype = A_TYPE }
asked_first Cut name = record { name = name; qtype = DS_TYPE }
asked_first Wild name = record { name = codes "w" ∷ name; qtype = A_TYPE }

abbrev pub asked_second : NameKind → List Label → Asked
asked_second Host name = record { name = codes "z" ∷ name; qtype = A_TYPE }
asked_second Above name = record { name = codes "y" ∷ name; qtype = A_TYPE }
asked_second Cut name = record { name = name; qtype = A_TYPE }
asked_second Wild name = record { name = codes "w" ∷ name; qtype = TXT_TYPE }

-- the number of the name that query j asks of
abbrev pub asked_number : ℕ → ℕ → ℕ → ℕ
asked_number seed names j = (seed + 7921 * j) % names

abbrev pub asked_at : ℕ → ℕ → ℕ → Asked
asked_at seed names j =
    let i = asked_number seed names j in
    if (j / 4) % 2 == 0 then asked_first (kind_at i) (name_at i) else asked_second (kind_at i) (name_at i)

-- an OPT record: the root, 1232 octets of payload, DO, no data (RFC 6891, section 6.1.2; RFC 3225, section 3)
abbrev pub opt_octets : List ℕ
opt_octets = wire_of [] ++ big_bytes 2 OPT_TYPE ++ big_bytes 2 1232 ++ big_bytes 4 0x8000 ++ big_bytes 2 0

-- query number j: RD, one question, and the OPT record
abbrev pub query_at : ℕ → ℕ → ℕ → List ℕ
query_at seed names j =
    let asked = asked_at seed names j in
    header_octets j 0x0100 0 0 1 ++ question_octets asked.name asked.qtype ++ opt_octets
