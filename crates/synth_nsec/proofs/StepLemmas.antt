-- The step of a record that covers a name.
use Rattle.std.proofs.Common.{◌≡◌, Bool, true, false, Option, None, refl}
use Rattle.std.specs.Prelude.{not, ◌&&◌, if◌then◌else◌}
use Rattle.std.specs.Option.{option_or}

-- a record that covers a name neither matches it nor shows it empty
pub at_cover : {A : Type 0} (matches empty denied : Bool) (own shown covered : Option A) → (not matches && not empty) ≡ true
    → (if not matches && not empty then covered else None) ≡ option_or (if matches && denied then own else None) (option_or (if not matches && empty then shown else None) (if not matches && not empty then covered else None))
at_cover true empty denied own shown covered is = cc
at_cover false true denied own shown covered is = cc
at_cover false false denied own shown covered is = refl
