-- The hash of an owner name (RFC 5155, section 5). A name is the list of its labels, lowered.
use Rattle.std.specs.Prelude.{ℕ, zero, suc, List, ◌++◌}
use Rattle.sha1.specs.Sha1.{sha1}
use Rattle.dname.specs.Name.{Label, wire_of}

-- IH(salt, x, k), where H is SHA-1: the octets and the salt are hashed, and then k times the last hash and the salt
unfoldable pub iterated_hash : List ℕ → List ℕ → ℕ → List ℕ
iterated_hash salt octets zero = sha1 (octets ++ salt)
iterated_hash salt octets (suc iterations) = sha1 (iterated_hash salt octets iterations ++ salt)

-- the hash of a name: that of its lowered wire form
abbrev pub hash_of : List Label → List ℕ → ℕ → List ℕ
hash_of name salt iterations = iterated_hash salt (wire_of name) iterations
