-- What a verdict says at a moment.
use Rattle.std.specs.Prelude.{◌≡◌, ℕ, Option, IfSome}
use Rattle.denial_records.specs.Proof.{Proof, Shows}
use Rattle.denial_records.specs.declared.verdict.Verdict.{Verdict}
use Rattle.cache_meaning.specs.Ttl.{ttl_of}

-- the verdict is the proof, with its TTL
pub record IsVerdict (now : ℕ) (proof : Proof) (verdict : Verdict) : Type 0 where
  pub shows : Shows verdict proof
  pub ttl_is : verdict.ttl ≡ ttl_of now proof

-- the verdict is the proof that there is
abbrev pub IsVerdictOf : ℕ → Option Proof → Verdict → Type 0
IsVerdictOf now found verdict = IfSome found (λ proof. IsVerdict now proof verdict)
