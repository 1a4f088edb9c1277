-- How long what was proved may be kept, in seconds: the least of what its records have left (RFC 8198, section 5.4).
use Rattle.std.specs.Prelude.{ℕ, ◌-◌, nat_lt, min, if◌then◌else◌, List, [], ◌∷◌, ◌++◌, length, drop, map, fold, Option, Some, None}
use Rattle.byteorder.specs.Endian.{big_number}
use Rattle.denial_records.specs.Proof.{Proof}
use Rattle.denial_records.specs.TimeLeft.{time_left}
use Rattle.denial_records.specs.declared.set_rec.SetRec.{SetRec}
use Rattle.denial_records.specs.declared.record.Record.{Record}
use Rattle.denial_records.specs.declared.record.Record.TheVariants.{Set, Nsec, Nsec3}

-- the seconds that a record has left
abbrev pub left_of : ℕ → Record → ℕ
left_of now (Set set) = time_left set.life set.expiry now
left_of now (Nsec nsec) = time_left nsec.life nsec.expiry now
left_of now (Nsec3 nsec3) = time_left nsec3.life nsec3.expiry now

-- an SOA's MINIMUM, the last four octets of its data (RFC 1035, section 3.3.13); 0 where they aren't there
abbrev pub minimum_of : List (List ℕ) → ℕ
minimum_of [] = 0
minimum_of (octets ∷ rest) =
    if nat_lt (length octets) 4 then 0 else big_number 4 (drop (length octets - 4) octets)

abbrev pub set_left : ℕ → Option SetRec → List ℕ
set_left now None = []
set_left now (Some set) = time_left set.life set.expiry now ∷ []

abbrev pub minimum_left : Option SetRec → List ℕ
minimum_left None = []
minimum_left (Some soa) = minimum_of soa.items ∷ []

-- the least of what the used records have left, and of the SOA's MINIMUM in a denial (RFC 2308, section 5)
abbrev pub bounds_of : ℕ → Proof → List ℕ
bounds_of now proof =
    set_left now proof.answer
    ++ (set_left now proof.soa ++ (minimum_left proof.soa ++ map (left_of now) proof.denials))

abbrev pub least : List ℕ → ℕ
least [] = 0
least (x ∷ xs) = fold min x xs

abbrev pub ttl_of : ℕ → Proof → ℕ
ttl_of now proof = least (bounds_of now proof)
