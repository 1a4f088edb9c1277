-- How long a kept record may still be used, in whole seconds.
use Rattle.std.specs.Prelude.{ℕ, ◌-◌, min}

-- the seconds left of a life that ends at a moment: never more than the life, and none from that moment on
abbrev pub time_left : ℕ → ℕ → ℕ → ℕ
time_left life expiry now = min life (expiry - now)
