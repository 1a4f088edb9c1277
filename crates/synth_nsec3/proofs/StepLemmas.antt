-- Tests that hold, and records that cover.
use Rattle.std.proofs.Common.{◌≡◌, Bool, true, false, Option, None, refl}
use Rattle.std.specs.Prelude.{not, ◌&&◌, if◌then◌else◌}
use Rattle.std.specs.Option.{option_or}

-- both tests hold
pub where_both : {A : Type 0} (one other : Bool) (it : Option A) → one ≡ true → other ≡ true → it ≡ (if one && other then it else None)
where_both true true it first second = refl
where_both true false it first second = cc
where_both false other it first second = cc

-- a record that covers a name doesn't match it
pub at_cover : {A : Type 0} (matches spans denied : Bool) (own covered : Option A) → (not matches && not spans) ≡ true
    → covered ≡ option_or (if matches && denied then own else None) (if not matches && not spans then covered else None)
at_cover true spans denied own covered is = cc
at_cover false true denied own covered is = cc
at_cover false false denied own covered is = refl
