-- The frames that octets spell, in order.
use Rattle.std.specs.Prelude.{◌≡◌, ℕ, zero, suc, ◌==◌, cond, List, [], ◌∷◌, length, take, drop, get_or}
use Rattle.std.specs.List.{All}
use Rattle.byteorder.specs.Endian.{big_number}
use Rattle.replay_meaning.specs.Frame.{Input, IsInput, inputs_spelling}
use Rattle.replay_meaning.specs.declared.frame.FrameKind.{FrameKind}
use Rattle.replay_meaning.specs.declared.frame.FrameKind.TheVariants.{Query, Upstream}

-- the octets are those of these frames
abbrev pub AreSpelled : List ℕ → List Input → Type 0
AreSpelled octets inputs = (octets ≡ inputs_spelling inputs) × All IsInput inputs

-- ---- no public clause cites what follows: the frames by the octets alone

abbrev pub kind_of : ℕ → FrameKind
kind_of number = cond (number == 1) Query Upstream

-- how many octets the message of the frame at the front has
abbrev pub size_of : List ℕ → ℕ
size_of octets = big_number 2 (drop 6 octets)

abbrev pub front_of : List ℕ → Input
front_of octets = record {
  kind = kind_of (get_or octets 0 0);
  worker = get_or octets 1 0;
  now = big_number 4 (drop 2 octets);
  message = take (size_of octets) (drop 8 octets);
}

-- so many frames at most
unfoldable pub inputs_upto : ℕ → List ℕ → List Input
inputs_upto zero octets = []
inputs_upto (suc most) [] = []
inputs_upto (suc most) (octet ∷ octets) =
    front_of (octet ∷ octets) ∷ inputs_upto most (drop (size_of (octet ∷ octets)) (drop 8 (octet ∷ octets)))

abbrev pub inputs_in : List ℕ → List Input
inputs_in octets = inputs_upto (length octets) octets
