-- What the strings of a kept record say. A name is kept as its wire form, types as their type bit maps, and a set's items
-- as one string that is packed itself. The signatures come last.
use Rattle.std.specs.Prelude.{◌≡◌, ℕ, ◌+◌, ◌-◌, ◌^◌, ◌<◌, ◌≤◌, nat_lt, if◌then◌else◌, zero, suc, Bool, List, [], ◌∷◌, length, drop, get_or, slice_index_or}
use Rattle.dname.specs.Name.{labels_of, IsWire}
use Rattle.dname.specs.Pack.{head_of, pieces_of, IsPacked}
use Rattle.denial_records.specs.TypeSet.{types_in, IsKept}
use Rattle.denial_records.specs.declared.set_rec.SetRec.{SetRec}
use Rattle.denial_records.specs.declared.nsec_rec.NsecRec.{NsecRec}
use Rattle.denial_records.specs.declared.nsec3_rec.Nsec3Rec.{Nsec3Rec}

-- how many octets the first so many strings take in a pack, each with those of its length
abbrev pub octets_before : ℕ → List (List ℕ) → ℕ
octets_before zero pieces = 0
octets_before (suc count) [] = 0
octets_before (suc count) (piece ∷ rest) =
    length (head_of (length piece)) + (length piece + octets_before count rest)

-- an offset as it is kept: the greatest number of 32 bits where it has no place in them
abbrev pub kept_offset : ℕ → ℕ
kept_offset offset = if nat_lt offset (2 ^ 32 - 1) then offset else 2 ^ 32 - 1

-- the first so many offsets are where the strings behind the first, the second and so on begin
abbrev pub HasOffsets : ℕ → List ℕ → List (List ℕ) → Type 0
HasOffsets count offsets pieces =
    (i : ℕ) → i < count → get_or offsets i 0 ≡ kept_offset (octets_before (suc i) pieces)

-- the string at a place
abbrev pub piece_at : List (List ℕ) → ℕ → List ℕ
piece_at pieces i = slice_index_or pieces i []

-- zone, owner, items
abbrev pub set_in : List (List ℕ) → ℕ → ℕ → ℕ → SetRec
set_in pieces rtype life expiry = record {
  zone = labels_of (piece_at pieces 0);
  owner = labels_of (piece_at pieces 1);
  rtype = rtype;
  life = life;
  expiry = expiry;
  items = pieces_of (piece_at pieces 2);
  signatures = drop 3 pieces;
}

-- zone, owner, next, types, image
abbrev pub nsec_in : List (List ℕ) → ℕ → ℕ → NsecRec
nsec_in pieces life expiry = record {
  zone = labels_of (piece_at pieces 0);
  owner = labels_of (piece_at pieces 1);
  next = labels_of (piece_at pieces 2);
  types = types_in (piece_at pieces 3);
  life = life;
  expiry = expiry;
  image = piece_at pieces 4;
  signatures = drop 5 pieces;
}

-- zone, salt, types, image
abbrev pub nsec3_in : List (List ℕ) → List ℕ → List ℕ → ℕ → Bool → ℕ → ℕ → Nsec3Rec
nsec3_in pieces hash next iterations opt_out life expiry = record {
  zone = labels_of (piece_at pieces 0);
  hash = hash;
  next = next;
  salt = piece_at pieces 1;
  iterations = iterations;
  opt_out = opt_out;
  types = types_in (piece_at pieces 2);
  life = life;
  expiry = expiry;
  image = piece_at pieces 3;
  signatures = drop 4 pieces;
}

-- all strings of a set are there, and well formed
pub record HoldsSet (pieces : List (List ℕ)) : Type 0 where
  pub whole : 3 ≤ length pieces
  pub zone : IsWire (piece_at pieces 0)
  pub owner : IsWire (piece_at pieces 1)
  pub items : IsPacked (piece_at pieces 2)

pub record HoldsNsec (pieces : List (List ℕ)) : Type 0 where
  pub whole : 5 ≤ length pieces
  pub zone : IsWire (piece_at pieces 0)
  pub owner : IsWire (piece_at pieces 1)
  pub next : IsWire (piece_at pieces 2)
  pub types : IsKept (piece_at pieces 3)

pub record HoldsNsec3 (pieces : List (List ℕ)) : Type 0 where
  pub whole : 4 ≤ length pieces
  pub zone : IsWire (piece_at pieces 0)
  pub types : IsKept (piece_at pieces 2)
