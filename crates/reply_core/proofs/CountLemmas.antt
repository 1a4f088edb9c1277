-- Numbers of 16 bits.
use Rattle.std.proofs.Common.{◌≡◌, ℕ, ◌+◌, ◌%◌, ◌^◌, List, ◌++◌, length, arith, length-append}
use Rattle.std.proofs.Math.Nat.{add-mod}
use Rattle.byteorder.specs.Endian.{big_bytes}
use Rattle.reply_core.specs.Count.{count16}

-- two octets hold the low 16 bits
pub big_bytes-low16 : (number : ℕ) → big_bytes 2 (number % 2 ^ 16) ≡ big_bytes 2 number
big_bytes-low16 number = grind arith

pub count16-append : {T : Type 0} (first second : List T) → count16 (first ++ second) ≡ (count16 first + count16 second) % 2 ^ 16
count16-append first second = rw length-append (add-mod (length first) (length second) (2 ^ 16))
