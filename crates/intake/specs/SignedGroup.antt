-- No public clause cites this module. A group with what its signatures say, and when it is kept.
use Rattle.std.specs.Prelude.{◌≡◌, ℕ, ◌<◌, ◌≤◌, ◌^◌, min, List, length, IsTrue, Option}
use Rattle.dname.specs.declared.types.TheConstants.{IN_CLASS}
use Rattle.denial_records.specs.Rrsig.{IsRrsig}
use Rattle.denial_records.specs.declared.rrsig.Rrsig.{Rrsig}
use Rattle.denial_records.specs.declared.record.Record.{Record}
use Rattle.intake.specs.Group.{Group, seconds_to}
use Rattle.intake.specs.Batch.{IsTakenAs}
use Rattle.intake.specs.Pile.{least_ttl}
use Rattle.intake.specs.Signed.{Agree, Says, least_of}
use Rattle.intake.specs.Stored.{is_kept_type, is_single_type, is_own_type, limit_of, owner_labels, IsInside}
use Rattle.intake.specs.declared.agreed.Agreed.{Agreed}
use Rattle.intake.specs.declared.signed_group.SignedGroup.{SignedGroup}

-- this is what the signatures agree in, and the least of the seconds that they have left
pub record IsAgreed (now : ℕ) (signatures : List (List ℕ)) (agreed : Agreed) : Type 0 where
  pub left : List ℕ
  pub agree : Agree signatures now agreed.signer agreed.labels agreed.original_ttl left
  pub least : agreed.left ≡ least_of (2 ^ 32) left

-- this is what one signature says
pub record IsSaid (now : ℕ) (octets : List ℕ) (agreed : Agreed) : Type 0 where
  pub rrsig : Rrsig
  pub read : IsRrsig octets rrsig
  pub says : Says agreed.signer agreed.labels agreed.original_ttl rrsig
  pub left_is : agreed.left ≡ seconds_to rrsig.expiration now

-- but for the seconds left
pub record SaySame (agreed other : Agreed) : Type 0 where
  pub signer : agreed.signer ≡ other.signer
  pub labels : agreed.labels ≡ other.labels
  pub original_ttl : agreed.original_ttl ≡ other.original_ttl

-- the labels of the signed name are in bounds
pub record HasLabels (group : SignedGroup) : Type 0 where
  pub few : group.agreed.labels ≤ owner_labels group.owner
  pub enough : length group.agreed.signer ≤ group.agreed.labels
  pub own : IsTrue (is_own_type group.rtype) → group.agreed.labels ≡ owner_labels group.owner

abbrev pub life_in : SignedGroup → ℕ
life_in group = min (min (min (limit_of group.rtype) group.ttl) group.agreed.original_ttl) group.agreed.left

-- the group is kept, whatever its data
pub record Passes (group : SignedGroup) : Type 0 where
  pub class_is : group.class ≡ IN_CLASS
  pub type_kept : IsTrue (is_kept_type group.rtype)
  pub inside : IsInside group.rtype group.owner group.agreed.signer
  pub labels : HasLabels group
  pub single : IsTrue (is_single_type group.rtype) → group.count ≡ 1
  pub alive : 0 < life_in group

-- these are the group's data and signatures, and what is known of it besides
pub record IsGroupOf (now : ℕ) (group : Group) (signed : SignedGroup) (items signatures : List (List ℕ)) : Type 0 where
  pub class_is : signed.class ≡ group.class
  pub rtype_is : signed.rtype ≡ group.rtype
  pub owner_is : signed.owner ≡ group.owner
  pub ttl_is : signed.ttl ≡ least_ttl group.ttls
  pub items_are : items ≡ group.items
  pub count_is : signed.count ≡ length items
  pub signatures_are : signatures ≡ group.signatures
  pub agreed : IsAgreed now signatures signed.agreed

-- whatever group these are of is stored as this record, or as none
abbrev pub IsTakenOf : ℕ → SignedGroup → List (List ℕ) → List (List ℕ) → Option Record → Type 0
IsTakenOf now signed items signatures taken = (group : Group) → IsGroupOf now group signed items signatures → IsTakenAs now group taken
