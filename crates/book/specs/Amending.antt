-- Amending one time of one task, and withdrawing a task.
use Rattle.std.specs.Prelude.{ℕ, cond, not, List, [], ◌∷◌, length, Result, ◌==◌, nat_le, slice_set}
use Rattle.book.specs.Checks.{Check, judged, outside}
use Rattle.book.specs.Entering.{rises, taken}
use Rattle.book.specs.Ledger.{TaskRecord, task_record}
use Rattle.book.specs.declared.refusal.Refusal.{Refusal}
use Rattle.book.specs.declared.refusal.Refusal.TheVariants as r

-- one time of a row: its class, its range, then the order of the row as it would be
abbrev pub amend_checks : List ℕ → ℕ → ℕ → List Check
amend_checks row class time =
    (nat_le (length row) class, r.Class) ∷ (outside 1 1000000 time, r.Time) ∷ (rises (slice_set row class time), r.Rising) ∷ []

-- the row of the task of this number, no time where there is none
abbrev pub row_of : ℕ → List TaskRecord → List ℕ
row_of n [] = []
row_of n (t ∷ ts) = cond (t.number == n) t.times (row_of n ts)

abbrev pub with_time : ℕ → ℕ → TaskRecord → TaskRecord
with_time class time t = task_record t.number t.period t.deadline (slice_set t.times class time)

-- the time put at the class of the task of this number
abbrev pub amended : ℕ → ℕ → ℕ → List TaskRecord → List TaskRecord
amended n class time [] = []
amended n class time (t ∷ ts) = cond (t.number == n) (with_time class time t ∷ ts) (t ∷ amended n class time ts)

-- the tasks after one time of one is amended, or the refusal
abbrev pub amend_tasks : ℕ → ℕ → ℕ → List TaskRecord → Result (List TaskRecord) Refusal
amend_tasks n class time ts =
    judged ((not (taken n ts), r.Unknown) ∷ amend_checks (row_of n ts) class time) (amended n class time ts)

-- the task of this number struck out
abbrev pub withdrawn : ℕ → List TaskRecord → List TaskRecord
withdrawn n [] = []
withdrawn n (t ∷ ts) = cond (t.number == n) ts (t ∷ withdrawn n ts)

-- the tasks after one is withdrawn, or the refusal
abbrev pub withdraw_tasks : ℕ → List TaskRecord → Result (List TaskRecord) Refusal
withdraw_tasks n ts = judged ((not (taken n ts), r.Unknown) ∷ []) (withdrawn n ts)
