-- The rules that every book keeps at every moment, read on its ledger.
use Rattle.std.specs.Prelude.{◌≤◌, List, [], ◌∷◌, map, length}
use Rattle.book.specs.Hyperperiod.{hyperperiod}
use Rattle.book.specs.Ledger.{Ledger, TaskRecord, number_of, period_of}
use Rattle.book.specs.Rules.{Ascending, Falling, Within}

-- a task by itself
pub record TaskKeeps (t : TaskRecord) : Type 0 where
  pub number_from : 1 ≤ t.number
  pub number_to : t.number ≤ 255
  pub period_from : 1 ≤ t.period
  pub period_to : t.period ≤ 1000000
  pub deadline_from : 1 ≤ t.deadline
  pub deadline_to : t.deadline ≤ t.period
  pub row_from : 1 ≤ length t.times
  pub row_to : length t.times ≤ 11
  pub within : Within t.times (length t.times)
  pub falling : Falling t.times (length t.times)

abbrev pub AllKeep : List TaskRecord → Type 0
AllKeep [] = Unit {0}
AllKeep (t ∷ ts) = TaskKeeps t × AllKeep ts

-- a whole ledger
pub record KeepsRules (l : Ledger) : Type 0 where
  pub cache_from : 1 ≤ l.cache
  pub cache_to : l.cache ≤ 1024
  pub few : length l.tasks ≤ 16
  pub ascending : Ascending (map number_of l.tasks)
  pub cycle_to : hyperperiod (map period_of l.tasks) ≤ 10000000000
  pub tasks_keep : AllKeep l.tasks
