-- The rules of a row and of a table, place by place.
use Rattle.std.specs.Prelude.{ℕ, ◌+◌, ◌<◌, ◌≤◌, List, length, slice_index}

-- each of the first `count` times is 1 to 1,000,000 ticks
abbrev pub Within : List ℕ → ℕ → Type 0
Within times count = (k : ℕ) → k < count → (1 ≤ slice_index times k) × (slice_index times k ≤ 1000000)

-- none of the first `count` times exceeds the one before it
abbrev pub Falling : List ℕ → ℕ → Type 0
Falling times count = (k : ℕ) → k + 1 < count → slice_index times (k + 1) ≤ slice_index times k

-- each number is below the next
abbrev pub Ascending : List ℕ → Type 0
Ascending xs = (k : ℕ) → k + 1 < length xs → slice_index xs k < slice_index xs (k + 1)
