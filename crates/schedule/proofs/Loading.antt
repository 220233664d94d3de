-- The loop that sums the work of a cycle, one task on.
use Rattle.std.proofs.Common.{◌≡◌, ℕ, ◌+◌, ◌*◌, ◌≤◌, List, [], ◌∷◌, length, ap, sym, subst, arith}
use Rattle.std.proofs.lemmas.List.{length-map}
use Rattle.book.specs.Classes.{work_in}
use Rattle.book.specs.Held.{record_of}
use Rattle.book.specs.Ledger.{TaskRecord}
use Rattle.schedule.specs.Deciding.{AllTimely, early_work}
use Rattle.schedule.specs.Pairs.{tasks_in, timed_in}
use Rattle.schedule.specs.Timed.{timed}
use Rattle.schedule.specs.declared.timed_tasks.TimedTasks.{TimedTasks}
use Rattle.schedule.proofs.Pairing.{Pairs, left, work_left}

-- What the loop has found: the sums so far make the whole ones with what is left, and each task that is left has room for the
-- largest share below their bounds.
abbrev pub LoadSoFar : TimedTasks → Pairs → ℕ → ℕ → ℕ → Type 0
LoadSoFar s it cycle work early =
    (work + work_left cycle it ≡ work_in cycle (tasks_in s) s.times.now)
    × (early + early_work cycle (left it) ≡ early_work cycle (timed_in s))
    × AllTimely (left it)
    × (work + 10000000000 * length (left it) ≤ 160000000000)
    × (early + 10000000000000000 * length (left it) ≤ 160000000000000000)

-- no more tasks stand beside a time than there are
timed_few : (ts : List TaskRecord) (xs : List ℕ) → length (timed ts xs) ≤ length ts
timed_few [] xs = omega arith
timed_few (t ∷ ts) [] = omega arith
timed_few (t ∷ ts) (x ∷ xs) = omega (arith, timed_few ts xs)

-- at the start nothing is summed yet
pub load_none : (s : TimedTasks) (it : Pairs) (cycle : ℕ) → left it ≡ timed_in s → work_left cycle it ≡ work_in cycle (tasks_in s) s.times.now → length s.tasks.now ≤ 16 → AllTimely (timed_in s)
    → LoadSoFar s it cycle 0 0
load_none s it cycle e w few timely =
    let long : length (left it) ≤ 16 = omega (arith, ap length e, timed_few (tasks_in s) s.times.now, length-map s.tasks.now record_of) in
    (omega arith, omega (arith, ap (early_work cycle) e), subst AllTimely (sym e) timely, omega arith, omega arith)
