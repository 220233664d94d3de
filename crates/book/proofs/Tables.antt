-- What a table answers where a task is put in, from what its slots then hold.
use Rattle.std.proofs.Common.{◌≡◌, ℕ, ◌<◌, ◌≤◌, List, [], ◌∷◌, map, length, take, Ok, Err, Result, sym, refl, ap, ◌∙◌, subst, arith}
use Rattle.std.specs.List.{insert, remove}
use Rattle.std.proofs.lemmas.Bool.{lt-leb, lt-ltb, le-ltb}
use Rattle.book.specs.Books.{records_in}
use Rattle.book.specs.Checks.{Did, judged}
use Rattle.book.specs.Divisors.{IsLcm}
use Rattle.book.specs.Entering.{room_checks, enter_among}
use Rattle.book.specs.Held.{number_in, numbers, period_in, record_of}
use Rattle.book.specs.Hyperperiod.{hyperperiod}
use Rattle.book.specs.Ledger.{period_of}
use Rattle.book.specs.Places.{Between, Found}
use Rattle.book.specs.Rules.{Ascending}
use Rattle.book.specs.declared.refusal.Refusal.{Refusal}
use Rattle.book.specs.declared.refusal.Refusal.TheVariants as r
use Rattle.book.specs.declared.table.Table.{Table}
use Rattle.book.specs.declared.task.Task.{Task}
use Rattle.book.proofs.Moves.{map_inserted, map_removed, ascending_inserted, ascending_removed}
use Rattle.book.proofs.Multiples.{hyperperiod_one_more}
use Rattle.book.proofs.Periods.{period_inserted, positive}
use Rattle.book.proofs.Places.{numbers_long, records_long, taken_there, taken_nowhere, entered_between}

-- the periods of the records are those of the tasks
pub record_periods : (ts : List Task) → map period_of (map record_of ts) ≡ map period_in ts
record_periods [] = refl
record_periods (t ∷ ts) = ap (λ ps. t.period ∷ ps) (record_periods ts)

-- the used slots
abbrev pub slots : Table → List Task
slots t = take t.count t.tasks

-- one task more: its numbers ascend, and its hyperperiod is the least common multiple
module _ (t : Table) (task : Task) (at cycle : ℕ) (b : Between t task.number at) (is : IsLcm task.period t.cycle cycle) where
  multiple : IsLcm task.period (hyperperiod (map period_in (slots t))) cycle
  multiple = subst (λ h. IsLcm task.period h cycle) t.cyclic.0 is

  pub cycle_is : cycle ≡ hyperperiod (task.period ∷ map period_of (records_in t))
  cycle_is =
      hyperperiod_one_more [] (map period_in (slots t)) task.period cycle (positive (task ∷ (slots t))) multiple
      ∙ ap (λ ps. hyperperiod (task.period ∷ ps)) (sym (record_periods (slots t)))

  pub inserted_ascends : (new : List Task) → new ≡ insert (slots t) at task → Ascending (map number_in new)
  inserted_ascends new e =
      subst Ascending (sym (ap (map number_in) e ∙ map_inserted number_in (slots t) at task))
      (ascending_inserted (numbers t.tasks t.count) at task.number (omega (arith, numbers_long t, b.0)) t.ascending b.1
      (λ h. b.2 (omega (arith, numbers_long t))))

  pub inserted_cycle : (new : List Task) → new ≡ insert (slots t) at task → cycle ≡ hyperperiod (map period_in new)
  inserted_cycle new e = period_inserted (slots t) at task cycle multiple ∙ ap (λ ts. hyperperiod (map period_in ts)) (sym e)

  -- the three answers
  pub room_cycle : {A : Type 0} (done : A) → t.count < 16 → 10000000000 < cycle → judged (room_checks (record_of task) (records_in t)) done ≡ Err r.Cycle
  room_cycle done few over =
      let h : 10000000000 < hyperperiod (task.period ∷ map period_of (records_in t)) = subst (λ x. 10000000000 < x) cycle_is over in
      rw (lt-leb 16 (length (records_in t)) (omega (arith, records_long t)), lt-ltb 10000000000 (hyperperiod (task.period ∷ map period_of (records_in t))) h)

  pub room_passes : {A : Type 0} (done : A) → t.count < 16 → cycle ≤ 10000000000 → judged (room_checks (record_of task) (records_in t)) done ≡ Ok done
  room_passes done few within =
      let h : hyperperiod (task.period ∷ map period_of (records_in t)) ≤ 10000000000 = subst (λ x. x ≤ 10000000000) cycle_is within in
      rw (lt-leb 16 (length (records_in t)) (omega (arith, records_long t)), le-ltb 10000000000 (hyperperiod (task.period ∷ map period_of (records_in t))) h)

  pub inserted_done : (new : List Task) → t.count < 16 → cycle ≤ 10000000000 → new ≡ insert (slots t) at task
      → judged (room_checks (record_of task) (records_in t)) (insert (records_in t) at (record_of task)) ≡ Ok (map record_of new)
  inserted_done new few within e =
      room_passes (insert (records_in t) at (record_of task)) few within ∙ ap Ok (sym (ap (map record_of) e ∙ map_inserted record_of (slots t) at task))

-- one task less: the numbers still ascend
pub removed_ascends : (t : Table) (at : ℕ) → at < t.count → (new : List Task) → new ≡ remove (slots t) at → Ascending (map number_in new)
removed_ascends t at lt new e =
    subst Ascending (sym (ap (map number_in) e ∙ map_removed number_in (slots t) at))
    (ascending_removed (numbers t.tasks t.count) at (omega (arith, numbers_long t)) t.ascending)

-- a clash of numbers decides, or leaves it to the room
pub enter_taken : (t : Table) (task : Task) (i : ℕ) → Found t task.number (Ok i) → enter_among (record_of task) (records_in t) ≡ Err r.Taken
enter_taken t task i f = rw (taken_there t task.number i f)

pub table_entered : (old new : Table) (task : Task) (i : ℕ) (res : Result (Unit {0}) Refusal) → Found old task.number (Err i)
    → Did records_in old new (judged (room_checks (record_of task) (records_in old)) (insert (records_in old) i (record_of task))) res
    → Did records_in old new (enter_among (record_of task) (records_in old)) res
table_entered old new task i res f d =
    let checks = room_checks (record_of task) (records_in old) in
    let e : judged checks (insert (records_in old) i (record_of task)) ≡ enter_among (record_of task) (records_in old) =
    ap (judged checks) (entered_between old i (record_of task) f) ∙ sym (rw (taken_nowhere old task.number i f)) in
    subst (λ answer. Did records_in old new answer res) e d
