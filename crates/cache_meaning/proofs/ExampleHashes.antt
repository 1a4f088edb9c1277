-- The hashes of the names in the examples, without salt and with one round.
use Rattle.std.proofs.Common.{◌≡◌, ℕ, List, [], ◌∷◌, refl}
use Rattle.sha1.specs.Sha1.{first_words, schedule, rounds, compress, hash_after, digest_bytes, sha1}
use Rattle.dname.specs.Name.{asterisk}
use Rattle.nsec3_hash.specs.IteratedHash.{iterated_hash, hash_of}
use Rattle.cache_meaning.specs.Examples.{example, a_example, d_example, example_hash, a_hash}

abbrev d_hash : List ℕ
d_hash = 21 ∷ 44 ∷ 143 ∷ 189 ∷ 97 ∷ 239 ∷ 108 ∷ 22 ∷ 11 ∷ 129 ∷ 201 ∷ 148 ∷ 168 ∷ 114 ∷ 70 ∷ 141 ∷ 61 ∷ 64 ∷ 63 ∷ 156 ∷ []

abbrev wildcard_hash : List ℕ
wildcard_hash = 74 ∷ 102 ∷ 168 ∷ 231 ∷ 78 ∷ 113 ∷ 158 ∷ 37 ∷ 248 ∷ 23 ∷ 60 ∷ 138 ∷ 204 ∷ 242 ∷ 198 ∷ 202 ∷ 248 ∷ 110 ∷ 228 ∷ 5 ∷ []

pub of_apex : hash_of example [] 0 ≡ example_hash
unfolding first_words schedule rounds compress hash_after digest_bytes sha1 iterated_hash
of_apex = refl

pub of_a : hash_of a_example [] 0 ≡ a_hash
unfolding first_words schedule rounds compress hash_after digest_bytes sha1 iterated_hash
of_a = refl

pub of_d : hash_of d_example [] 0 ≡ d_hash
unfolding first_words schedule rounds compress hash_after digest_bytes sha1 iterated_hash
of_d = refl

pub of_wildcard : hash_of (asterisk ∷ example) [] 0 ≡ wildcard_hash
unfolding first_words schedule rounds compress hash_after digest_bytes sha1 iterated_hash
of_wildcard = refl
