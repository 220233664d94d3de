-- Where the search for a response time may start: words of the inner contracts of fixed priority.
use Rattle.std.specs.Prelude.{◌≡◌, ℕ, ◌+◌, ◌≤◌, List, take, slice_index}
use Rattle.book.specs.Ledger.{TaskRecord}
use Rattle.schedule.specs.Demands.{requested}
use Rattle.schedule.specs.Timed.{timed}

-- the response demand of the task at a place, where the tasks before it are those of higher priority
abbrev pub demand_at : List TaskRecord → List ℕ → ℕ → ℕ → ℕ
demand_at ts xs place t = slice_index xs place + requested (timed (take place ts) (take place xs)) t

-- no solution at the place is below `longer` and the task's own time
abbrev pub NotBefore : List TaskRecord → List ℕ → ℕ → ℕ → Type 0
NotBefore ts xs place longer = (s : ℕ) → 1 ≤ s → s ≡ demand_at ts xs place s → longer + slice_index xs place ≤ s
