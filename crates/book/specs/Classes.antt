-- Partition classes, and what a class list asks of a book.
use Rattle.std.specs.Prelude.{ℕ, ◌+◌, ◌*◌, ◌/◌, Bool, not, ◌&&◌, List, [], ◌∷◌, map, length, sum, ◌==◌, nat_lt, slice_index}
use Rattle.std.specs.List.{list_all, zip}
use Rattle.book.specs.Checks.{Check}
use Rattle.book.specs.Hyperperiod.{hyperperiod}
use Rattle.book.specs.Ledger.{TaskRecord, period_of}
use Rattle.book.specs.declared.refusal.Refusal.TheVariants as r

-- the sizes of a partition of class 0 to 10, in sets
abbrev pub class_table : List ℕ
class_table = 0 ∷ 1 ∷ 2 ∷ 4 ∷ 8 ∷ 16 ∷ 32 ∷ 64 ∷ 128 ∷ 256 ∷ 512 ∷ []

-- the sets of a partition of this class
abbrev pub class_size : ℕ → ℕ
class_size class = slice_index class_table class

-- the execution time in a partition of this class, as a row gives it
abbrev pub time_at : List ℕ → ℕ → ℕ
time_at row class = slice_index row class

-- the list names one class of each task's row, in the order of the tasks
abbrev pub names : List TaskRecord → List ℕ → Bool
names ts cs = length cs == length ts && list_all (λ (p : TaskRecord × ℕ). nat_lt p.1 (length p.0.times)) (zip ts cs)

-- the sets that the partitions of the list take
abbrev pub sizes : List ℕ → List ℕ
sizes classes = map class_size classes

-- the execution times that the list's classes give
abbrev pub chosen_times : List TaskRecord → List ℕ → List ℕ
chosen_times ts cs = map (λ (p : TaskRecord × ℕ). time_at p.0.times p.1) (zip ts cs)

-- the sum over the tasks of the releases in `cycle` ticks, cycle / period, times the execution time
abbrev pub work_in : ℕ → List TaskRecord → List ℕ → ℕ
work_in cycle [] xs = 0
work_in cycle (t ∷ ts) [] = 0
work_in cycle (t ∷ ts) (x ∷ xs) = cycle / t.period * x + work_in cycle ts xs

-- the work of execution times in one hyperperiod
abbrev pub work : List TaskRecord → List ℕ → ℕ
work ts xs = work_in (hyperperiod (map period_of ts)) ts xs

-- the checks on a class list, in order: that it is one, and that it fits the cache
abbrev pub list_check : List TaskRecord → List ℕ → Check
list_check ts cs = (not (names ts cs), r.List)

abbrev pub fit_check : ℕ → List ℕ → Check
fit_check cache cs = (nat_lt cache (sum (sizes cs)), r.Overrun)
