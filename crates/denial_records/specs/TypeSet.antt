-- Type bit maps, and the record types that they stand for (RFC 4034, section 4.1.2).
use Rattle.std.specs.Prelude.{◌≡◌, ◌≢◌, ℕ, ◌+◌, ◌-◌, ◌*◌, ◌/◌, ◌%◌, ◌^◌, ◌<◌, ◌≤◌, zero, suc, Bool, not, ◌==◌, bit_and, slice_index, List, [], ◌∷◌, ◌++◌, length, take, drop, map, filter, flat_map}
use Rattle.std.specs.List.{All, AllPairs, range_with_len}
use Rattle.denial_records.specs.declared.type_set.TheConstants.{MAX_BITMAP}

-- a block: 256 types from 256 times the window's number on, and the bitmap that says which of them are there
pub record Block : Type 0 where
  pub window : ℕ
  pub bitmap : List ℕ

-- blocks as they are written, each after its window's number and its bitmap's length
abbrev pub map_of : List Block → List ℕ
map_of [] = []
map_of (block ∷ rest) = block.window ∷ length block.bitmap ∷ block.bitmap ++ map_of rest

-- a bitmap has 1 to 32 octets, and its last octet isn't zero
pub record IsBitmap (bitmap : List ℕ) : Type 0 where
  pub some : 1 ≤ length bitmap
  pub short : length bitmap ≤ MAX_BITMAP
  pub trimmed : slice_index bitmap (length bitmap - 1) ≢ 0

-- blocks with such bitmaps, whose windows rise strictly, the first of them at or after the given one
abbrev pub AreBlocksFrom : ℕ → List Block → Type 0
AreBlocksFrom least [] = Unit {0}
AreBlocksFrom least (block ∷ rest) = (least ≤ block.window) × IsBitmap block.bitmap × AreBlocksFrom (block.window + 1) rest

-- bit 0 is the high bit of the first octet, bit 8 that of the second
abbrev pub has_bit : List ℕ → ℕ → Bool
has_bit bitmap bit = not (bit_and (slice_index bitmap (bit / 8)) (128 / 2 ^ (bit % 8)) == 0)

-- the bits that are set, in rising order
abbrev pub bits_of : List ℕ → List ℕ
bits_of bitmap = filter (has_bit bitmap) (range_with_len 0 (8 * length bitmap))

-- bit n of a window's bitmap stands for type 256 times the window and n
abbrev pub types_of_block : Block → List ℕ
types_of_block block = map (λ bit. 256 * block.window + bit) (bits_of block.bitmap)

-- the types that blocks stand for
abbrev pub types_of : List Block → List ℕ
types_of blocks = flat_map types_of_block blocks

-- the octets are type bit maps, and stand for these types
pub record IsTypeMap (octets types : List ℕ) : Type 0 where
  pub blocks : List Block
  pub written : octets ≡ map_of blocks
  pub formed : AreBlocksFrom 0 blocks
  pub meaning : types ≡ types_of blocks

-- the octets are no type bit maps
abbrev pub IsNoTypeMap : List ℕ → Type 0
IsNoTypeMap octets = (types : List ℕ) → ¬ IsTypeMap octets types

-- a set of types, as the rising list of their numbers, which have 16 bits
pub record IsTypeSet (types : List ℕ) : Type 0 where
  pub rising : AllPairs (λ earlier later. earlier < later) types
  pub small : All (λ rtype. rtype < 2 ^ 16) types

-- the blocks that octets spell, which their written form gives back; at most so many
abbrev pub blocks_within : ℕ → List ℕ → List Block
blocks_within zero octets = []
blocks_within (suc n) [] = []
blocks_within (suc n) (window ∷ []) = []
blocks_within (suc n) (window ∷ size ∷ rest) = record { window = window; bitmap = take size rest } ∷ blocks_within n (drop size rest)

-- the types that their blocks stand for
abbrev pub types_in : List ℕ → List ℕ
types_in octets = types_of (blocks_within (length octets) octets)

-- the octets are those that a set of types keeps
pub record IsKept (octets : List ℕ) : Type 0 where
  pub map : IsTypeMap octets (types_in octets)
  pub set : IsTypeSet (types_in octets)

-- the octets begin with a block whose window is at or after the given one
pub record BeginsWith (least : ℕ) (octets : List ℕ) (window : ℕ) (bitmap rest : List ℕ) : Type 0 where
  pub spelled : octets ≡ window ∷ length bitmap ∷ bitmap ++ rest
  pub rises : least ≤ window
  pub formed : IsBitmap bitmap
