-- Entering a task: the checks in their order, and where the task goes.
use Rattle.std.specs.Prelude.{ℕ, Bool, false, cond, ◌||◌, List, [], ◌∷◌, ◌++◌, map, length, Result, ◌==◌, nat_le, nat_lt}
use Rattle.std.specs.List.{list_any}
use Rattle.book.specs.Checks.{Check, judged, outside}
use Rattle.book.specs.Hyperperiod.{hyperperiod}
use Rattle.book.specs.Ledger.{TaskRecord, period_of}
use Rattle.book.specs.declared.refusal.Refusal.{Refusal}
use Rattle.book.specs.declared.refusal.Refusal.TheVariants as r

-- some time is not 1 to 1,000,000
abbrev pub any_outside : List ℕ → Bool
any_outside ts = list_any (outside 1 1000000) ts

-- some time exceeds the one before it, the first of them being after `before`
abbrev pub rises_after : ℕ → List ℕ → Bool
rises_after before [] = false
rises_after before (t ∷ ts) = nat_lt before t || rises_after t ts

-- some time of a row exceeds the one before it
abbrev pub rises : List ℕ → Bool
rises [] = false
rises (t ∷ ts) = rises_after t ts

-- a row: its length, the range of every time, then their order
abbrev pub row_checks : List ℕ → List Check
row_checks ts = (outside 1 11 (length ts), r.Class) ∷ (any_outside ts, r.Time) ∷ (rises ts, r.Rising) ∷ []

-- a task by itself
abbrev pub task_checks : TaskRecord → List Check
task_checks t =
    ((t.number == 0), r.Number) ∷ (outside 1 1000000 t.period, r.Period) ∷ (outside 1 t.period t.deadline, r.Deadline)
    ∷ row_checks t.times

-- one task more beside the others: their count, then the hyperperiod as it would be
abbrev pub room_checks : TaskRecord → List TaskRecord → List Check
room_checks t ts =
    (nat_le 16 (length ts), r.Full) ∷ (nat_lt 10000000000 (hyperperiod (t.period ∷ map period_of ts)), r.Cycle) ∷ []

-- a task beside the others: its number among theirs, then the room for it
abbrev pub clash_checks : Check → TaskRecord → List TaskRecord → List Check
clash_checks clash t ts = clash ∷ room_checks t ts

-- Every check on a new task, in order. `clash` is the check on its number among the others: it alone differs between
-- entering a task and reading one from a sheet.
abbrev pub enter_checks : Check → TaskRecord → List TaskRecord → List Check
enter_checks clash t ts = task_checks t ++ clash_checks clash t ts

-- the number is in the book
abbrev pub taken : ℕ → List TaskRecord → Bool
taken n [] = false
taken n (t ∷ ts) = t.number == n || taken n ts

-- before the first task of larger number, or last
abbrev pub entered : TaskRecord → List TaskRecord → List TaskRecord
entered t [] = t ∷ []
entered t (u ∷ us) = cond (nat_lt t.number u.number) (t ∷ u ∷ us) (u ∷ entered t us)

-- the number of the last task, 0 where there is none
abbrev pub last_number : List TaskRecord → ℕ
last_number [] = 0
last_number (t ∷ []) = t.number
last_number (t ∷ u ∷ us) = last_number (u ∷ us)

-- one task more among the others: the checks of its number, then of the room for it
abbrev pub enter_among : TaskRecord → List TaskRecord → Result (List TaskRecord) Refusal
enter_among t ts = judged (clash_checks (taken t.number ts, r.Taken) t ts) (entered t ts)

abbrev pub append_last : TaskRecord → List TaskRecord → Result (List TaskRecord) Refusal
append_last t ts = judged (clash_checks (nat_le t.number (last_number ts), r.Order) t ts) (ts ++ t ∷ [])

-- the tasks after one is entered among them, or the refusal
abbrev pub enter_tasks : TaskRecord → List TaskRecord → Result (List TaskRecord) Refusal
enter_tasks t ts = judged (enter_checks (taken t.number ts, r.Taken) t ts) (entered t ts)

-- the tasks after one is put behind them, or the refusal
abbrev pub append_tasks : TaskRecord → List TaskRecord → Result (List TaskRecord) Refusal
append_tasks t ts = judged (enter_checks (nat_le t.number (last_number ts), r.Order) t ts) (ts ++ t ∷ [])
