-- Addresses of peers, as numbers.
use Rattle.std.proofs.Common.{◌≡◌, ℕ, ◌+◌, ◌*◌, ◌/◌, ◌%◌, ◌^◌, ◌<◌, ◌∙◌, ap, arith}
use Rattle.std.specs.Int.{w32, from_be_bytes}
use Rattle.std.specs.Net.Addr.{ipv4_bits, IsIpv4OfBits}
use Rattle.std.specs.declared.net.ipv4_addr.Ipv4Addr.{Ipv4Addr}
use Rattle.std.proofs.lemmas.Nat.{from_be_bytes-to_be_bytes_4}

-- an address that is made of a number has it
pub bits_back : (ip : Ipv4Addr) (bits : ℕ) → bits < 2 ^ 32 → IsIpv4OfBits ip bits → ipv4_bits ip ≡ bits
unfolding ipv4_bits IsIpv4OfBits
bits_back ip bits within is = ap (from_be_bytes w32) is ∙ from_be_bytes-to_be_bytes_4 bits within

-- the number of 48 bits that an address and a port were made of
pub number_back : (ip : Ipv4Addr) (number : ℕ) → number / 65536 < 2 ^ 32 → IsIpv4OfBits ip (number / 65536) → ipv4_bits ip * 65536 + number % 65536 ≡ number
number_back ip number within is =
    let bits = bits_back ip (number / 65536) within is in
    omega (arith, bits)
