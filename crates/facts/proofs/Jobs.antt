-- What each of several jobs gave that ran beside one another.
use Rattle.std.proofs.Common.{ℕ, ◌<◌, List, length, get_or, sym, subst}
use denote.Param.Members.{Shared}
use Rattle.std.specs.Fork.{GivesJobs}

-- what any job gives holds of what each gave
pub gives_each : {F J R : Type 0} (g : Shared F (J × Unit {0}) R) (f : F) (Q : J → R → Type 0) → ((j : J) (r : R) → g.post f (j, tt) r → Q j r) → (js : List J) (rs : List R) → GivesJobs g f js rs
    → (k : ℕ) (d : R) (e : J) → k < length js → Q (get_or js k e) (get_or rs k d)
gives_each g f Q says js rs gives k d e within =
    let one = (gives k d within).1 in
    subst (λ j. Q j (get_or rs k d)) (sym (one.job_is e)) (says one.job (get_or rs k d) one.call.met)
