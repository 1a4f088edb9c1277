-- What a kept record is in a message: its owner name, its type, its data, and its signatures.
use Rattle.std.specs.Prelude.{ℕ, List, [], ◌∷◌, Option}
use Rattle.std.specs.Option.{option_map, option_to_list}
use Rattle.dname.specs.Name.{Label}
use Rattle.dname.specs.declared.types.TheConstants.{NSEC_TYPE, NSEC3_TYPE}
use Rattle.nsec3_hash.specs.Base32Hex.{text_of}
use Rattle.denial_records.specs.declared.set_rec.SetRec.{SetRec}
use Rattle.denial_records.specs.declared.record.Record.{Record}
use Rattle.denial_records.specs.declared.record.Record.TheVariants.{Set, Nsec, Nsec3}

-- an NSEC3 record's is the text of its hash, one label in front of its zone (RFC 5155, section 3)
abbrev pub owner_of : Record → List Label
owner_of (Set set) = set.owner
owner_of (Nsec nsec) = nsec.owner
owner_of (Nsec3 nsec3) = text_of nsec3.hash ∷ nsec3.zone

abbrev pub rtype_of : Record → ℕ
rtype_of (Set set) = set.rtype
rtype_of (Nsec nsec) = NSEC_TYPE
rtype_of (Nsec3 nsec3) = NSEC3_TYPE

-- a set may have several records, and a denial is one
abbrev pub items_of : Record → List (List ℕ)
items_of (Set set) = set.items
items_of (Nsec nsec) = nsec.image ∷ []
items_of (Nsec3 nsec3) = nsec3.image ∷ []

abbrev pub signatures_of : Record → List (List ℕ)
signatures_of (Set set) = set.signatures
signatures_of (Nsec nsec) = nsec.signatures
signatures_of (Nsec3 nsec3) = nsec3.signatures

-- the set, where there is one
abbrev pub listed : Option SetRec → List Record
listed set = option_to_list (option_map Set set)
