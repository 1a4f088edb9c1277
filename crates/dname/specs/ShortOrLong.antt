-- No public clause cites this module: octets that lie in a value itself or in one block of memory.
use Rattle.std.specs.Prelude.{ℕ, List}
use Rattle.dname.specs.declared.stored_octets.ShortOrLong.{ShortOrLong}
use Rattle.dname.specs.declared.stored_octets.ShortOrLong.TheVariants.{Short, Long}

abbrev pub octets_in : ShortOrLong → List ℕ
octets_in (Short octets) = octets
octets_in (Long octets) = octets.items
