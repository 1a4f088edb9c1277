use Rattle.std.proofs.Common.{◌==◌, ℕ, length, sym, arith, rules}
use Rattle.std.proofs.lemmas.List.Sums.{position_or_len_is}
use Rattle.command_line.proofs.name_text.first_dot.Goals as goal

pub returns-in-Some : goal.returns-in-Some
returns-in-Some c = sym (position_or_len_is (λ (octet : ℕ). octet == 46) c.args.octets.now c.in-Some.place 0 (search rules) (search rules) (search rules))

pub returns-in-None : goal.returns-in-None
returns-in-None c = sym (position_or_len_is (λ (octet : ℕ). octet == 46) c.args.octets.now (length c.args.octets.now) 0 (omega arith) (search rules) (search rules))
