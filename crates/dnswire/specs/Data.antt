-- The layout of a record's data by its type, in a message where names may have pointers.
use Rattle.std.specs.Prelude.{◌≡◌, ℕ, ◌+◌, ◌≤◌, nat_eq, if◌then◌else◌, List, [], ◌∷◌, ◌++◌, length, drop, slice_index}
use Rattle.dname.specs.Name.{Label, wire_of}
use Rattle.dnswire.specs.MessageName.{Reads}
use Rattle.dnswire.specs.declared.field.Field.{Field}
use Rattle.dnswire.specs.declared.field.Field.TheVariants.{Numbers, Name, CharacterString, Rest}
use Rattle.dname.specs.declared.types.TheConstants.{AFSDB_TYPE, CNAME_TYPE, DNAME_TYPE, KX_TYPE, MB_TYPE, MD_TYPE, MF_TYPE, MG_TYPE, MINFO_TYPE, MR_TYPE, MX_TYPE, NAPTR_TYPE, NS_TYPE, NSEC_TYPE, NXT_TYPE, PTR_TYPE, PX_TYPE, RP_TYPE, RRSIG_TYPE, RT_TYPE, SIG_TYPE, SOA_TYPE, SRV_TYPE}

-- a layout that is a name alone
abbrev pub one_name : List Field
one_name = Name ∷ []

-- two octets and a name
abbrev pub preference_and_name : List Field
preference_and_name = Numbers 2 ∷ Name ∷ []

-- 18 octets of numbers, the signer's name, and the signature
abbrev pub signature_layout : List Field
signature_layout = Numbers 18 ∷ Name ∷ Rest ∷ []

-- the types in whose data a name may end in a pointer, each with its layout
abbrev pub layouts : List (ℕ × List Field)
layouts =
    -- RFC 1035, section 3.3
    (NS_TYPE, one_name) ∷ (MD_TYPE, one_name) ∷ (MF_TYPE, one_name) ∷ (CNAME_TYPE, one_name)
    ∷ (MB_TYPE, one_name) ∷ (MG_TYPE, one_name) ∷ (MR_TYPE, one_name) ∷ (PTR_TYPE, one_name)
    -- RFC 6672, section 2.1
    ∷ (DNAME_TYPE, one_name)
    -- the server, the mailbox, and five numbers of four octets (RFC 1035, section 3.3.13)
    ∷ (SOA_TYPE, Name ∷ Name ∷ Numbers 20 ∷ [])
    -- RFC 1035, section 3.3.7; RFC 1183, section 2.2
    ∷ (MINFO_TYPE, Name ∷ Name ∷ []) ∷ (RP_TYPE, Name ∷ Name ∷ [])
    -- RFC 1035, section 3.3.9; RFC 1183, sections 1 and 3.3; RFC 2230, section 3
    ∷ (MX_TYPE, preference_and_name) ∷ (AFSDB_TYPE, preference_and_name)
    ∷ (RT_TYPE, preference_and_name) ∷ (KX_TYPE, preference_and_name)
    -- RFC 2535, section 4.1; RFC 4034, section 3.1
    ∷ (SIG_TYPE, signature_layout) ∷ (RRSIG_TYPE, signature_layout)
    -- RFC 2163, section 4
    ∷ (PX_TYPE, Numbers 2 ∷ Name ∷ Name ∷ [])
    -- RFC 2535, section 5.2; RFC 4034, section 4.1
    ∷ (NXT_TYPE, Name ∷ Rest ∷ []) ∷ (NSEC_TYPE, Name ∷ Rest ∷ [])
    -- priority, weight, port and target (RFC 2782)
    ∷ (SRV_TYPE, Numbers 6 ∷ Name ∷ [])
    -- order, preference, flags, services, regular expression and replacement (RFC 3403, section 4.1)
    ∷ (NAPTR_TYPE, Numbers 4 ∷ CharacterString ∷ CharacterString ∷ CharacterString ∷ Name ∷ [])
    ∷ []

-- the layout in such a table; data of every other type is taken as it is (RFC 3597, section 3)
abbrev pub layout_in : List (ℕ × List Field) → ℕ → List Field
layout_in [] rtype = Rest ∷ []
layout_in (row ∷ more) rtype = if nat_eq rtype row.0 then row.1 else layout_in more rtype

abbrev pub layout_of : ℕ → List Field
layout_of rtype = layout_in layouts rtype

-- at the offset stands a name that ends before `end`; `written` is its wire form without pointers, with its letters as
-- they came
pub record IsWrittenOut (message : List ℕ) (at : ℕ) (written : List ℕ) (end : ℕ) : Type 0 where
  pub labels : List Label
  pub reads : Reads message at at labels end
  pub fits : length (wire_of labels) ≤ 255
  pub wire : written ≡ wire_of labels

-- the octets from one offset on and before another
pub record AreOctets (message : List ℕ) (at : ℕ) (octets : List ℕ) (end : ℕ) : Type 0 where
  pub rest : List ℕ
  pub stands : drop at message ≡ octets ++ rest
  pub end_is : end ≡ at + length octets

-- a length octet, and as many octets as it says (RFC 1035, section 3.3)
abbrev pub IsCharacterString : List ℕ → Type 0
IsCharacterString octets = length octets ≡ 1 + slice_index octets 0

-- in data that ends before `stop` the field stands at the offset and ends before `end`; it is written out as `octets`
abbrev pub IsField : List ℕ → ℕ → Field → ℕ → List ℕ → ℕ → Type 0
IsField message stop (Numbers count) at octets end = AreOctets message at octets end × (length octets ≡ count)
IsField message stop Name at octets end = IsWrittenOut message at octets end
IsField message stop CharacterString at octets end = AreOctets message at octets end × IsCharacterString octets
IsField message stop Rest at octets end = AreOctets message at octets end × (end ≡ stop)

-- from the offset up to `stop` stand these fields, and nothing else; they are written out as `rdata`
abbrev pub IsData : List ℕ → ℕ → List Field → ℕ → List ℕ → Type 0
IsData message stop [] at rdata = (at ≡ stop) × (rdata ≡ [])
IsData message stop (field ∷ more) at rdata =
    (octets : List ℕ) × (end : ℕ) × (others : List ℕ) × IsField message stop field at octets end × (end ≤ stop)
    × IsData message stop more end others × (rdata ≡ octets ++ others)

-- other octets stand there
abbrev pub HasNoData : List ℕ → ℕ → List Field → ℕ → Type 0
HasNoData message stop fields at = (rdata : List ℕ) → IsData message stop fields at rdata → ⊥
