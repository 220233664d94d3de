-- The ledger: what a book is meant to hold. It is worked out from the arguments of the calls alone, never from the book.
use Rattle.std.specs.Prelude.{ℕ, List, []}

-- One sporadic task: its number (the smaller, the higher its priority), its period (least ticks between releases), its
-- relative deadline, and its row: the worst-case execution time in a partition of class 0, class 1 and so on.
pub record TaskRecord : Type 0 where
  pub number : ℕ
  pub period : ℕ
  pub deadline : ℕ
  pub times : List ℕ

abbrev pub task_record : ℕ → ℕ → ℕ → List ℕ → TaskRecord
task_record n p d ts = record { number = n; period = p; deadline = d; times = ts }

-- The cache size in sets, and the tasks in ascending order of number.
pub record Ledger : Type 0 where
  pub cache : ℕ
  pub tasks : List TaskRecord

-- The ledger that begins with a cache size: no task.
abbrev pub begun : ℕ → Ledger
begun size = record { cache = size; tasks = [] }

abbrev pub number_of : TaskRecord → ℕ
number_of t = t.number

abbrev pub period_of : TaskRecord → ℕ
period_of t = t.period
