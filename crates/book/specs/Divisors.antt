-- The greatest common divisor and the least common multiple of two numbers.
use Rattle.std.specs.Prelude.{ℕ, ◌*◌}
use Rattle.std.specs.Int.{◌∣◌}

-- g divides both, and what divides k * a and k * b divides k * g: at k = 1, every common divisor divides g
abbrev pub IsGcd : ℕ → ℕ → ℕ → Type 0
IsGcd a b g = (g ∣ a) × (g ∣ b) × ((k d : ℕ) → d ∣ (k * a) → d ∣ (k * b) → d ∣ (k * g))

-- l is a multiple of both that divides every common multiple
abbrev pub IsLcm : ℕ → ℕ → ℕ → Type 0
IsLcm a b l = (a ∣ l) × (b ∣ l) × ((m : ℕ) → a ∣ m → b ∣ m → l ∣ m)
