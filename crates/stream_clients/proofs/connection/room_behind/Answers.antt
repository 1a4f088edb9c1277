use Rattle.std.proofs.Common.{ℕ, ◌<◌, arith, inl, inr}
use Rattle.byteorder.specs.Endian.{big_number}
use Rattle.byteorder.specs.Numbers.{big_from-lt}
use Rattle.stream_clients.proofs.connection.room_behind.Goals as goal

pub returns-clause-some : goal.returns-clause-some
returns-clause-some c part =
    let small : big_number 2 c.args.octets.now < 65536 = big_from-lt 0 2 c.args.octets.now (λ (k : ℕ). omega (arith, c.type_inv.octets k)) in
    elim part [ inl few ↦ omega (arith, few) | inr more ↦ omega (arith, small, more.1) ]
