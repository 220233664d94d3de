-- Places in a table, whose numbers ascend.
use Rattle.std.specs.Prelude.{◌≡◌, ℕ, ◌<◌, ◌≤◌, Ok, Err, Result, slice_index}
use Rattle.book.specs.Held.{numbers}
use Rattle.book.specs.declared.table.Table.{Table}

-- the number at a place
abbrev pub number_at : Table → ℕ → ℕ
number_at t k = slice_index (numbers t.tasks t.count) k

-- the place between the numbers below n and those above it
abbrev pub Between : Table → ℕ → ℕ → Type 0
Between t n i = (i ≤ t.count) × ((k : ℕ) → k < i → number_at t k < n) × (i < t.count → n < number_at t i)

-- the place where the number n stands, or the one where it would go
abbrev pub Found : Table → ℕ → Result ℕ ℕ → Type 0
Found t n (Ok i) = (i < t.count) × (number_at t i ≡ n) × ((k : ℕ) → k < i → number_at t k < n)
Found t n (Err i) = Between t n i
