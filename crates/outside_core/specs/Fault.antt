-- How a count of faults goes on over a call that may fail.
use Rattle.std.specs.Prelude.{◌≡◌, ℕ, ◌+◌, ◌-◌, ◌^◌, ◌<◌, ◌⊎◌, min, Result, MatchResult}
use Rattle.outside_core.specs.declared.failed.Failed.{Failed}

-- one more, up to the last value of a count of 64 bits, where the count stays
abbrev pub next_count : ℕ → ℕ
next_count count = min (count + 1) (2 ^ 64 - 1)

-- the count rose, or stands at the last value of a count of 64 bits
abbrev pub Rose : ℕ → ℕ → Type 0
Rose before after = (before < after) ⊎ ((before ≡ 2 ^ 64 - 1) × (after ≡ 2 ^ 64 - 1))

-- a call that failed has made the count of faults rise, and any other leaves it as it was
abbrev pub HasCause : {T : Type 0} → ℕ → ℕ → Result T Failed → Type 0
HasCause before after result = MatchResult result (λ _. after ≡ before) (λ _. Rose before after)
