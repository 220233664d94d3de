-- The least solution of t = f t from 1 to a limit.
use Rattle.std.specs.Prelude.{◌≡◌, ℕ, zero, suc, ◌≤◌, cond, Some, None, Option, ◌==◌, ◌≢◌}

-- an answer is the least solution, or none where none exists up to the limit
abbrev pub Least : (ℕ → ℕ) → ℕ → Option ℕ → Type 0
Least f limit (Some t) = (1 ≤ t) × (t ≤ limit) × (t ≡ f t) × ((s : ℕ) → 1 ≤ s → s ≡ f s → t ≤ s)
Least f limit None = (s : ℕ) → 1 ≤ s → s ≤ limit → s ≢ f s

abbrev pub or_else : Option ℕ → Option ℕ → Option ℕ
or_else (Some t) other = Some t
or_else None other = other

-- that answer as a value
abbrev pub least_to : ℕ → (ℕ → ℕ) → Option ℕ
least_to zero f = None
least_to (suc n) f = or_else (least_to n f) (cond (suc n == f (suc n)) (Some (suc n)) None)
