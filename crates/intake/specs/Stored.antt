-- Which groups of a validated answer are stored, and as what record.
use Rattle.std.specs.Prelude.{◌≡◌, ◌≢◌, ℕ, ◌+◌, ◌-◌, ◌<◌, ◌≤◌, Bool, false, not, ◌&&◌, ◌||◌, ◌==◌, nat_lt, nat_le, if◌then◌else◌, List, [], ◌∷◌, length, drop, IsTrue}
use Rattle.std.specs.List.{list_any}
use Rattle.dname.specs.Name.{Label, IsUnder, asterisk, without_asterisk}
use Rattle.dname.specs.declared.types.TheConstants.{NS_TYPE, MD_TYPE, MF_TYPE, CNAME_TYPE, SOA_TYPE, MB_TYPE, MG_TYPE, MR_TYPE, MINFO_TYPE, RP_TYPE, AFSDB_TYPE, RT_TYPE, SIG_TYPE, PX_TYPE, NXT_TYPE, NAPTR_TYPE, KX_TYPE, DNAME_TYPE, OPT_TYPE, DS_TYPE, RRSIG_TYPE, NSEC_TYPE, NSEC3_TYPE, IN_CLASS}
use Rattle.nsec3_hash.specs.Base32Hex.{IsHash, text_of}
use Rattle.denial_records.specs.NsecParts.{IsNsec}
use Rattle.denial_records.specs.Nsec3Parts.{IsNsec3}
use Rattle.denial_records.specs.declared.nsec_parts.NsecParts.{NsecParts}
use Rattle.denial_records.specs.declared.nsec3_parts.Nsec3Parts.{Nsec3Parts}
use Rattle.denial_records.specs.declared.set_rec.SetRec.{SetRec}
use Rattle.denial_records.specs.declared.nsec_rec.NsecRec.{NsecRec}
use Rattle.denial_records.specs.declared.nsec3_rec.Nsec3Rec.{Nsec3Rec}
use Rattle.denial_records.specs.declared.record.Record.{Record}
use Rattle.denial_records.specs.declared.record.Record.TheVariants.{Set, Nsec, Nsec3}
use Rattle.intake.specs.Group.{Group}
use Rattle.intake.specs.Signed.{Agree, life_of}

-- ---- types

abbrev pub is_one_of : List ℕ → ℕ → Bool
is_one_of types rtype = list_any (λ other. rtype == other) types

-- types whose records have a name with a form of its own in signatures, and that no zone needs today
-- (RFC 4034, section 6.2)
abbrev pub outdated_types : List ℕ
outdated_types =
    MD_TYPE ∷ MF_TYPE ∷ MB_TYPE ∷ MG_TYPE ∷ MR_TYPE ∷ MINFO_TYPE ∷ RP_TYPE ∷ AFSDB_TYPE ∷ RT_TYPE ∷ SIG_TYPE ∷ PX_TYPE
    ∷ NXT_TYPE ∷ NAPTR_TYPE ∷ KX_TYPE ∷ []

-- types that are no data of a zone: 0, OPT, RRSIG, and those for questions and messages alone
-- (RFC 6895, section 3.1)
abbrev pub is_no_data : ℕ → Bool
is_no_data rtype = is_one_of (0 ∷ OPT_TYPE ∷ RRSIG_TYPE ∷ []) rtype || (nat_le 128 rtype && nat_le rtype 255)

abbrev pub is_kept_type : ℕ → Bool
is_kept_type rtype = not (is_no_data rtype) && not (is_one_of outdated_types rtype)

-- types of which a name has one record (RFC 2181, section 10.1; RFC 6672, section 2.4; RFC 4034, section 4;
-- RFC 5155, section 7.1)
abbrev pub is_single_type : ℕ → Bool
is_single_type = is_one_of (SOA_TYPE ∷ CNAME_TYPE ∷ DNAME_TYPE ∷ NSEC_TYPE ∷ NSEC3_TYPE ∷ [])

-- a zone's own SOA and NS records stand at its apex (RFC 1034, section 4.2.1)
abbrev pub is_apex_type : ℕ → Bool
is_apex_type = is_one_of (SOA_TYPE ∷ NS_TYPE ∷ [])

abbrev pub is_denial_type : ℕ → Bool
is_denial_type = is_one_of (NSEC_TYPE ∷ NSEC3_TYPE ∷ [])

-- types that are never an expansion of a wildcard: they speak of their own owner name
abbrev pub is_own_type : ℕ → Bool
is_own_type = is_one_of (NSEC_TYPE ∷ NSEC3_TYPE ∷ DS_TYPE ∷ SOA_TYPE ∷ NS_TYPE ∷ [])

-- ---- owners

-- where a set may stand in its zone
pub record IsInside (rtype : ℕ) (owner zone : List Label) : Type 0 where
  pub under : IsUnder owner zone
  -- a DS set is the parent's (RFC 4035, section 2.4)
  pub below : rtype ≡ DS_TYPE → owner ≢ zone
  pub apex : IsTrue (is_apex_type rtype) → owner ≡ zone

-- the labels of an owner name, as signatures count them (RFC 4034, section 3.1.3)
abbrev pub owner_labels : List Label → ℕ
owner_labels owner = length (without_asterisk owner)

-- the name that was signed: one with fewer labels is the wildcard that the owner was expanded from (RFC 4035, section 5.3.2)
abbrev pub signed_name : List Label → ℕ → List Label
signed_name owner labels =
    if nat_lt labels (owner_labels owner) then asterisk ∷ drop (length owner - labels) owner else owner

-- ---- lives

-- three hours for denials (RFC 8198, section 5.4), a day for other sets
abbrev pub limit_of : ℕ → ℕ
limit_of rtype = if is_denial_type rtype then 10800 else 86400

-- ---- groups

-- What holds of every group that is stored, as a record of the zone, with the owner and the life.
pub record IsKept (now : ℕ) (group : Group) (zone owner : List Label) (life : ℕ) : Type 0 where
  pub labels : ℕ
  pub original_ttl : ℕ
  pub left : List ℕ
  pub class_is : group.class ≡ IN_CLASS
  pub type_kept : IsTrue (is_kept_type group.rtype)
  pub signed : Agree group.signatures now zone labels original_ttl left
  pub inside : IsInside group.rtype group.owner zone
  pub few_labels : labels ≤ owner_labels group.owner
  pub enough_labels : length zone ≤ labels
  pub own_name : IsTrue (is_own_type group.rtype) → labels ≡ owner_labels group.owner
  pub owner_is : owner ≡ signed_name group.owner labels
  pub single : IsTrue (is_single_type group.rtype) → length group.items ≡ 1
  pub life_is : life ≡ life_of group (limit_of group.rtype) original_ttl left
  pub alive : 0 < life

pub record IsStoredSet (now : ℕ) (group : Group) (set : SetRec) : Type 0 where
  pub kept : IsKept now group set.zone set.owner set.life
  pub no_denial : is_denial_type group.rtype ≡ false
  pub rtype_is : set.rtype ≡ group.rtype
  pub items_are : set.items ≡ group.items
  pub signatures_are : set.signatures ≡ group.signatures
  pub expiry_is : set.expiry ≡ now + set.life

-- its data reads, and the next name is in the zone (RFC 4034, section 4.1)
pub record IsStoredNsec (now : ℕ) (group : Group) (nsec : NsecRec) : Type 0 where
  pub kept : IsKept now group nsec.zone nsec.owner nsec.life
  pub type_is : group.rtype ≡ NSEC_TYPE
  pub parts : NsecParts
  pub item_is : group.items ≡ nsec.image ∷ []
  pub reads : IsNsec nsec.image parts
  pub next_inside : IsUnder parts.next nsec.zone
  pub next_is : nsec.next ≡ parts.next
  pub types_are : nsec.types ≡ parts.types
  pub signatures_are : nsec.signatures ≡ group.signatures
  pub expiry_is : nsec.expiry ≡ now + nsec.life

-- the owner is the text of a hash below the zone (RFC 5155, section 3)
pub record IsHashedOwner (owner zone : List Label) (hash : List ℕ) : Type 0 where
  pub hash_is : IsHash hash
  pub owner_is : owner ≡ text_of hash ∷ zone

-- its data reads, its hash is SHA-1, no flag but Opt-Out is set (RFC 5155, section 8.2), and the iterations are few
-- (RFC 9276, section 3.2)
pub record IsStoredNsec3 (now : ℕ) (group : Group) (nsec3 : Nsec3Rec) : Type 0 where
  pub kept : IsKept now group nsec3.zone group.owner nsec3.life
  pub type_is : group.rtype ≡ NSEC3_TYPE
  pub parts : Nsec3Parts
  pub item_is : group.items ≡ nsec3.image ∷ []
  pub reads : IsNsec3 nsec3.image parts
  pub sha1 : parts.algorithm ≡ 1
  pub flags_known : parts.flags ≤ 1
  pub few_iterations : parts.iterations ≤ 50
  pub hashed : IsHashedOwner group.owner nsec3.zone nsec3.hash
  pub next_is : nsec3.next ≡ parts.next
  pub salt_is : nsec3.salt ≡ parts.salt
  pub iterations_are : nsec3.iterations ≡ parts.iterations
  -- Opt-Out is the lowest flag (RFC 5155, section 3.1.2.1)
  pub opt_out_is : nsec3.opt_out ≡ (parts.flags == 1)
  pub types_are : nsec3.types ≡ parts.types
  pub signatures_are : nsec3.signatures ≡ group.signatures
  pub expiry_is : nsec3.expiry ≡ now + nsec3.life

-- the group is stored at this moment, as this record
abbrev pub IsStored : ℕ → Group → Record → Type 0
IsStored now group (Set set) = IsStoredSet now group set
IsStored now group (Nsec nsec) = IsStoredNsec now group nsec
IsStored now group (Nsec3 nsec3) = IsStoredNsec3 now group nsec3
