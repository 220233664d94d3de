-- Tasks beside the execution times that they are tested at.
use Rattle.std.specs.Prelude.{ℕ, Bool, ◌&&◌, List, [], ◌∷◌, map, length, ◌==◌, nat_lt, slice_index}
use Rattle.std.specs.List.{list_all}
use Rattle.book.specs.Ledger.{TaskRecord}

-- one task at one worst-case execution time; the smaller its number, the higher its priority
pub record Timed : Type 0 where
  pub number : ℕ
  pub period : ℕ
  pub deadline : ℕ
  pub time : ℕ

-- each task beside its time, in the order of the tasks
abbrev pub timed : List TaskRecord → List ℕ → List Timed
timed [] xs = []
timed (t ∷ ts) [] = []
timed (t ∷ ts) (x ∷ xs) = record { number = t.number; period = t.period; deadline = t.deadline; time = x } ∷ timed ts xs

-- no time is 0
abbrev pub nowhere_zero : List ℕ → Bool
nowhere_zero xs = list_all (λ x. nat_lt 0 x) xs

-- one time for each task, and none is 0
abbrev pub well_shaped : List TaskRecord → List ℕ → Bool
well_shaped ts xs = length xs == length ts && nowhere_zero xs

abbrev pub deadline_of : TaskRecord → ℕ
deadline_of t = t.deadline

-- the deadline of the task at a place, counted from 0
abbrev pub deadline_at : List TaskRecord → ℕ → ℕ
deadline_at ts place = slice_index (map deadline_of ts) place
