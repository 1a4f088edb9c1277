-- The hashes of names written out, computed by the standard's definition: of which zone the NSEC3 records are true, which
-- names are free of clashes there, and what is proved.
use Rattle.std.proofs.Common.{[], ◌∷◌, refl}
use Rattle.sha1.specs.Sha1.{first_words, schedule, rounds, compress, hash_after, digest_bytes, sha1}
use Rattle.nsec3_hash.specs.IteratedHash.{iterated_hash}
use Rattle.dname.specs.declared.types.TheConstants.{A_TYPE, TXT_TYPE}
use Rattle.denial_records.specs.declared.record.Record.TheVariants.{Nsec3, Set}
use Rattle.denial_records.specs.declared.verdict.Kind.TheVariants as kinds
use Rattle.zone_meaning.specs.Examples.{example, a_example, w_example, star_w_example}
use Rattle.zone_meaning.specs.Hashed.{IsConsistentNsec3, IsClashFree}
use Rattle.zone_meaning.proofs.HashedTests.{nsec3_by_tests, clash_free_by_tests}
use Rattle.cache_meaning.specs.Held.{parameters_of}
use Rattle.cache_meaning.specs.Evidence.{hash_by}
use Rattle.soundness.specs.True.{nsec3_part}
use Rattle.soundness.specs.Examples.{soa}
use Rattle.soundness.specs.HashedExamples.{hashed_zone, c_example, x_w_example, at_example, at_a, at_star_w, at_w, opted_out_at_a, hashed_denied, hashed_answered, star_w_set, hashed_held}
use Rattle.soundness.proofs.ExampleLemmas.{Proves}

-- ---- true records

pub true_at_example : IsConsistentNsec3 hashed_zone (nsec3_part at_example)
unfolding iterated_hash first_words schedule rounds compress hash_after digest_bytes sha1
true_at_example = nsec3_by_tests hashed_zone (nsec3_part at_example) example refl refl refl refl refl

pub true_at_a : IsConsistentNsec3 hashed_zone (nsec3_part at_a)
unfolding iterated_hash first_words schedule rounds compress hash_after digest_bytes sha1
true_at_a = nsec3_by_tests hashed_zone (nsec3_part at_a) a_example refl refl refl refl refl

pub true_at_star_w : IsConsistentNsec3 hashed_zone (nsec3_part at_star_w)
unfolding iterated_hash first_words schedule rounds compress hash_after digest_bytes sha1
true_at_star_w = nsec3_by_tests hashed_zone (nsec3_part at_star_w) star_w_example refl refl refl refl refl

pub true_at_w : IsConsistentNsec3 hashed_zone (nsec3_part at_w)
unfolding iterated_hash first_words schedule rounds compress hash_after digest_bytes sha1
true_at_w = nsec3_by_tests hashed_zone (nsec3_part at_w) w_example refl refl refl refl refl

pub true_opted_out_at_a : IsConsistentNsec3 hashed_zone (nsec3_part opted_out_at_a)
unfolding iterated_hash first_words schedule rounds compress hash_after digest_bytes sha1
true_opted_out_at_a = nsec3_by_tests hashed_zone (nsec3_part opted_out_at_a) a_example refl refl refl refl refl

-- ---- no clashes

pub clash_free_a_example : IsClashFree hashed_zone (hash_by (parameters_of at_a)) a_example
unfolding iterated_hash first_words schedule rounds compress hash_after digest_bytes sha1
clash_free_a_example = clash_free_by_tests hashed_zone (hash_by (parameters_of at_a)) a_example refl refl

pub clash_free_w_example : IsClashFree hashed_zone (hash_by (parameters_of at_a)) w_example
unfolding iterated_hash first_words schedule rounds compress hash_after digest_bytes sha1
clash_free_w_example = clash_free_by_tests hashed_zone (hash_by (parameters_of at_a)) w_example refl refl

pub clash_free_c_example : IsClashFree hashed_zone (hash_by (parameters_of at_a)) c_example
unfolding iterated_hash first_words schedule rounds compress hash_after digest_bytes sha1
clash_free_c_example = clash_free_by_tests hashed_zone (hash_by (parameters_of at_a)) c_example refl refl

pub clash_free_x_w_example : IsClashFree hashed_zone (hash_by (parameters_of at_a)) x_w_example
unfolding iterated_hash first_words schedule rounds compress hash_after digest_bytes sha1
clash_free_x_w_example = clash_free_by_tests hashed_zone (hash_by (parameters_of at_a)) x_w_example refl refl

-- ---- proofs

pub proves_a_txt : Proves hashed_held a_example TXT_TYPE (hashed_denied kinds.NoData (at_a ∷ []))
unfolding iterated_hash first_words schedule rounds compress hash_after digest_bytes sha1
proves_a_txt = refl

pub proves_w_a : Proves hashed_held w_example A_TYPE (hashed_denied kinds.NoData (at_w ∷ []))
unfolding iterated_hash first_words schedule rounds compress hash_after digest_bytes sha1
proves_w_a = refl

pub proves_opted_out : Proves (Set soa ∷ Nsec3 opted_out_at_a ∷ []) a_example TXT_TYPE (hashed_denied kinds.NoData (opted_out_at_a ∷ []))
unfolding iterated_hash first_words schedule rounds compress hash_after digest_bytes sha1
proves_opted_out = refl

pub proves_c_a : Proves hashed_held c_example A_TYPE (hashed_denied kinds.NxDomain (at_example ∷ at_a ∷ []))
unfolding iterated_hash first_words schedule rounds compress hash_after digest_bytes sha1
proves_c_a = refl

pub proves_x_w_a : Proves hashed_held x_w_example A_TYPE (hashed_answered star_w_set (at_w ∷ []))
unfolding iterated_hash first_words schedule rounds compress hash_after digest_bytes sha1
proves_x_w_a = refl

pub proves_x_w_txt : Proves hashed_held x_w_example TXT_TYPE (hashed_denied kinds.NoData (at_w ∷ at_star_w ∷ []))
unfolding iterated_hash first_words schedule rounds compress hash_after digest_bytes sha1
proves_x_w_txt = refl
