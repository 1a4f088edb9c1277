-- When a verdict is sound.
use Rattle.std.specs.Prelude.{ℕ, List}
use Rattle.dname.specs.Name.{Label}
use Rattle.denial_records.specs.Proof.{Proof, Shows}
use Rattle.denial_records.specs.declared.verdict.Verdict.{Verdict}
use Rattle.soundness.specs.Sound.{IsSound}

-- the proof that the verdict shows is sound: every zone of which its records are true says so too
pub record IsSoundVerdict (name : List Label) (qtype : ℕ) (verdict : Verdict) : Type 0 where
  pub proof : Proof
  pub shows : Shows verdict proof
  pub sound : IsSound name qtype proof
