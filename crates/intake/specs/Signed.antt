-- What the signatures of a group say together, and how long they let it live.
use Rattle.std.specs.Prelude.{◌≡◌, ℕ, ◌≤◌, ◌^◌, min, nat_lt, if◌then◌else◌, List, ◌∷◌, ◌++◌, length, map, fold}
use Rattle.std.specs.List.{All, AllZip}
use Rattle.dname.specs.Name.{Label}
use Rattle.denial_records.specs.Rrsig.{IsRrsig}
use Rattle.denial_records.specs.declared.rrsig.Rrsig.{Rrsig}
use Rattle.intake.specs.Group.{Group, seconds_to}

-- the signature says these: who signed, the labels of the signed owner name, and the TTL in the zone
-- (RFC 4034, section 3.1)
pub record Says (signer : List Label) (labels original_ttl : ℕ) (signature : Rrsig) : Type 0 where
  pub signer_is : signature.signer ≡ signer
  pub labels_are : signature.labels ≡ labels
  pub ttl_is : signature.original_ttl ≡ original_ttl

-- there is a signature, each reads, and all say the same; `left` are the seconds that each has left
pub record Agree (signatures : List (List ℕ)) (now : ℕ) (signer : List Label) (labels original_ttl : ℕ) (left : List ℕ) : Type 0 where
  pub each : List Rrsig
  pub read : AllZip IsRrsig signatures each
  pub some : 1 ≤ length each
  pub same : All (Says signer labels original_ttl) each
  pub left_is : left ≡ map (λ (s : Rrsig). seconds_to s.expiration now) each

-- a TTL with its top bit set counts as 0 (RFC 2181, section 8)
abbrev pub counted_ttl : ℕ → ℕ
counted_ttl ttl = if nat_lt ttl (2 ^ 31) then ttl else 0

-- the least of a limit and the numbers
abbrev pub least_of : ℕ → List ℕ → ℕ
least_of limit numbers = fold min limit numbers

-- how long a group may be used: no longer than its TTLs, the original TTL and its signatures allow, or the limit
-- (RFC 4035, section 5.3.3)
abbrev pub life_of : Group → ℕ → ℕ → List ℕ → ℕ
life_of group limit original_ttl left = least_of limit (map counted_ttl group.ttls ++ original_ttl ∷ left)
