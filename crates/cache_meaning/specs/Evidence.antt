-- What the held records of one chain say of a name at a moment.
use Rattle.std.specs.Prelude.{ℕ, Bool, not, ◌&&◌, ◌||◌, ◌==◌, nat_lt, if◌then◌else◌, List, Option, Some, None}
use Rattle.std.specs.List.{list_any}
use Rattle.std.specs.Str.{bytes_eq}
use Rattle.dname.specs.Name.{Label}
use Rattle.dname.specs.Tests.{same_name, is_under}
use Rattle.dname.specs.declared.types.TheConstants.{NS_TYPE, CNAME_TYPE, SOA_TYPE, DNAME_TYPE, DS_TYPE}
use Rattle.denial_records.specs.declared.set_rec.SetRec.{SetRec}
use Rattle.denial_records.specs.declared.nsec_rec.NsecRec.{NsecRec}
use Rattle.denial_records.specs.declared.nsec3_rec.Nsec3Rec.{Nsec3Rec}
use Rattle.nsec3_hash.specs.IteratedHash.{hash_of}
use Rattle.cache_meaning.specs.Held.{Held, HashParameters}
use Rattle.cache_meaning.specs.Zones.{set_at, nsec_at, nsec3_at}

-- what is found, if it passes the test
abbrev pub that : {A : Type 0} → (A → Bool) → Option A → Option A
that test None = None
that test (Some x) = if test x then Some x else None

-- ---- sets

-- the set at the owner name and type that may be used now
abbrev pub usable_set : Held → ℕ → List Label → List Label → ℕ → Option SetRec
usable_set held now zone owner rtype =
    that (λ (set : SetRec). nat_lt now set.expiry) (set_at held zone owner rtype)

-- the zone's SOA
abbrev pub usable_soa : Held → ℕ → List Label → Option SetRec
usable_soa held now zone = usable_set held now zone zone SOA_TYPE

-- ---- types

abbrev pub has_type : List ℕ → ℕ → Bool
has_type types rtype = list_any (λ each. each == rtype) types

abbrev pub lacks_type : List ℕ → ℕ → Bool
lacks_type types rtype = not (has_type types rtype)

-- The types of the name itself deny it the type: neither it is there nor a CNAME, and at a zone cut they speak for the DS
-- alone (RFC 4035, section 5.4; RFC 5155, sections 8.5 and 8.6; RFC 6840, sections 4.1 and 4.3).
abbrev pub deny_type : List ℕ → List Label → List Label → ℕ → Bool
deny_type types zone name qtype =
    lacks_type types qtype
    && (lacks_type types CNAME_TYPE
    && (lacks_type types NS_TYPE || (same_name name zone || (qtype == DS_TYPE))))

-- The types of a wildcard deny the type to the names that it would give: neither it is there nor a CNAME, and it hands no
-- names on (RFC 4035, section 5.4; RFC 5155, section 8.7; RFC 4592, sections 4.2 and 4.4).
abbrev pub deny_type_below : List ℕ → ℕ → Bool
deny_type_below types qtype =
    lacks_type types qtype
    && (lacks_type types CNAME_TYPE && (lacks_type types NS_TYPE && lacks_type types DNAME_TYPE))

-- The types of a name don't hand the names below it on: there is no DNAME, and no NS but at the apex (RFC 6840, section 4.1;
-- RFC 5155, section 8.3).
abbrev pub hand_nothing_on : List ℕ → List Label → List Label → Bool
hand_nothing_on types zone name =
    lacks_type types DNAME_TYPE && (lacks_type types NS_TYPE || same_name name zone)

-- ---- NSEC (RFC 4034, section 4; RFC 4035, section 5.4)

-- of a name below its owner name a record says nothing where the owner hands names on
abbrev pub speaks_of : List Label → List Label → NsecRec → Bool
speaks_of zone name nsec =
    (same_name nsec.owner name || not (is_under name nsec.owner))
    || hand_nothing_on nsec.types zone nsec.owner

-- the record that speaks of the name, if it may be used now
abbrev pub nsec_for : Held → ℕ → List Label → List Label → Option NsecRec
nsec_for held now zone name =
    that (λ (nsec : NsecRec). nat_lt now nsec.expiry && speaks_of zone name nsec)
    (nsec_at held zone name)

-- it is the name's own
abbrev pub nsec_matches : NsecRec → List Label → Bool
nsec_matches nsec name = same_name nsec.owner name

-- the name exists without records, since the next name is below it (RFC 4592, section 2.2.2); inside an arc a name is
-- neither of its ends
abbrev pub nsec_shows_empty : NsecRec → List Label → Bool
nsec_shows_empty nsec name = not (nsec_matches nsec name) && is_under nsec.next name

-- the name doesn't exist
abbrev pub nsec_covers : NsecRec → List Label → Bool
nsec_covers nsec name = not (nsec_matches nsec name) && not (is_under nsec.next name)

-- ---- NSEC3 (RFC 5155, sections 3 and 8)

-- the hash of a name in a chain
abbrev pub hash_by : HashParameters → List Label → List ℕ
hash_by parameters name = hash_of name parameters.salt parameters.iterations

-- the record of the chain that speaks of the name's hash, if it may be used now
abbrev pub nsec3_for : Held → ℕ → List Label → HashParameters → List Label → Option Nsec3Rec
nsec3_for held now zone parameters name =
    that (λ (nsec3 : Nsec3Rec). nat_lt now nsec3.expiry)
    (nsec3_at held zone parameters (hash_by parameters name))

-- it is the name's own, whatever its Opt-Out flag
abbrev pub nsec3_matches : HashParameters → Nsec3Rec → List Label → Bool
nsec3_matches parameters nsec3 name = bytes_eq nsec3.hash (hash_by parameters name)

-- the name doesn't exist; inside an Opt-Out span nothing is said of it (RFC 5155, section 6; RFC 8198, section 5.2)
-- That such a span proves that a name has no DS (RFC 5155, section 8.6) isn't used.
abbrev pub nsec3_covers : HashParameters → Nsec3Rec → List Label → Bool
nsec3_covers parameters nsec3 name = not (nsec3_matches parameters nsec3 name) && not nsec3.opt_out
