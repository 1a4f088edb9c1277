use Rattle.std.proofs.Common.{refl}
use Rattle.record_store.specs.Marks.{mixed, hash_of}
use Rattle.record_store_tests.proofs.counted.one_number.Goals as goal

pub returns-clause-one : goal.returns-clause-one
unfolding mixed hash_of
returns-clause-one c = refl

pub returns-clause-other : goal.returns-clause-other
unfolding mixed hash_of
returns-clause-other c = refl

pub returns-clause-one_owner : goal.returns-clause-one_owner
unfolding mixed hash_of
returns-clause-one_owner c = refl

pub returns-clause-other_owner : goal.returns-clause-other_owner
unfolding mixed hash_of
returns-clause-other_owner c = refl
