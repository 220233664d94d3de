-- What every test owes, whatever its condition is.
use Rattle.std.specs.Prelude.{◌≡◌, ℕ, ◌<◌, ◌≤◌, Bool, true, false, List, [], ◌∷◌, length, Some, None, Option, slice_index}
use Rattle.book.specs.Keeping.{KeepsRules}
use Rattle.book.specs.Ledger.{Ledger, TaskRecord}
use Rattle.schedule.specs.Timed.{deadline_at, well_shaped}

-- as many times, nowhere longer and nowhere 0
abbrev pub Shorter : List ℕ → List ℕ → Type 0
Shorter [] [] = Unit {0}
Shorter [] (x ∷ xs) = ⊥
Shorter (y ∷ ys) [] = ⊥
Shorter (y ∷ ys) (x ∷ xs) = (1 ≤ y) × (y ≤ x) × Shorter ys xs

-- The laws of a test, over all ledgers that keep the rules of a book. `passes` is the test's meaning: yes or no to a ledger and
-- a list of times.
pub record Lawful (passes : Ledger → List ℕ → Bool) : Type 0 where
  pub shorter_passes : (l : Ledger) → KeepsRules l → (xs ys : List ℕ) → Shorter ys xs → passes l xs ≡ true → passes l ys ≡ true
  pub late_fails : (l : Ledger) → KeepsRules l → (xs : List ℕ) (place : ℕ) → place < length xs → deadline_at l.tasks place < slice_index xs place → passes l xs ≡ false
  pub misshapen_fails : (l : Ledger) → KeepsRules l → (xs : List ℕ) → well_shaped l.tasks xs ≡ false → passes l xs ≡ false

-- the answer is yes exactly when P
abbrev pub Exactly : Bool → Type 0 → Type 0
Exactly answer P = (answer ≡ true → P) × (P → answer ≡ true)

-- What a timing test tells of the task at a place, given whether the list passes: a time up to the deadline, or none where the
-- list does not pass or the place is past the last task.
abbrev pub Tells : Bool → List TaskRecord → ℕ → Option ℕ → Type 0
Tells passes ts place (Some t) = (passes ≡ true) × (place < length ts) × (t ≤ deadline_at ts place)
Tells passes ts place None = passes ≡ true → length ts ≤ place
