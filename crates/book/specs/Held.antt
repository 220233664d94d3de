-- What a row, a task and the slots of a table stand for in the ledger.
use Rattle.std.specs.Prelude.{◌≡◌, ℕ, List, [], ◌∷◌, map, take}
use Rattle.book.specs.Ledger.{TaskRecord, task_record}
use Rattle.book.specs.declared.new_task.NewTask.{NewTask}
use Rattle.book.specs.declared.row.Row.{Row}
use Rattle.book.specs.declared.task.Task.{Task}

-- the times of a row: its used slots
abbrev pub times_in : Row → List ℕ
times_in r = take r.count r.times

abbrev pub record_of : Task → TaskRecord
record_of t = task_record t.number t.period t.deadline (times_in t.row)

-- the record that a task is given by, before any rule is checked
abbrev pub given : NewTask → TaskRecord
given new = task_record new.number new.period new.deadline new.times.now

abbrev pub number_in : Task → ℕ
number_in t = t.number

abbrev pub period_in : Task → ℕ
period_in t = t.period

-- the numbers and the periods in the first `count` slots
abbrev pub numbers : List Task → ℕ → List ℕ
numbers tasks count = map number_in (take count tasks)

abbrev pub periods : List Task → ℕ → List ℕ
periods tasks count = map period_in (take count tasks)

-- the fields of a task in a line: its number, period, deadline and times
abbrev pub fields : Task → List ℕ
fields t = t.number ∷ t.period ∷ t.deadline ∷ times_in t.row

-- the fields of the task that stands in an unused slot
abbrev pub blank : List ℕ
blank = 1 ∷ 1 ∷ 1 ∷ 1 ∷ []

-- a task keeps all but its row
abbrev pub Kept : Task → Task → Type 0
Kept old new = (new.number ≡ old.number) × (new.period ≡ old.period) × (new.deadline ≡ old.deadline)
