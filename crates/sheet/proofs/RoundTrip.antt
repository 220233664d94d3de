-- The sheet of a ledger that keeps the rules is read back as that ledger.
use Rattle.std.proofs.Common.{◌≡◌, ℕ, zero, suc, ◌+◌, ◌*◌, ◌<◌, ◌≤◌, leb, List, [], ◌∷◌, ◌++◌, map, length, Ok, sym, refl, ap, ◌∙◌, subst, add-one, arith}
use native.Mathlib.Nat.{le_of_dvd}
use Rattle.std.proofs.lemmas.List.{append_assoc, append-nil, length-append, drop_at}
use Rattle.std.proofs.lemmas.Bool.{le-ltb, lt-leb, ne_eqb}
use Rattle.book.specs.Checks.{judged}
use Rattle.book.specs.Entering.{append_tasks, clash_checks, last_number, task_checks}
use Rattle.book.specs.Hyperperiod.{AllDivide, hyperperiod}
use Rattle.book.specs.Keeping.{AllKeep, KeepsRules, TaskKeeps}
use Rattle.book.specs.Ledger.{Ledger, TaskRecord, number_of, period_of}
use Rattle.book.specs.Rules.{Ascending}
use Rattle.book.specs.declared.refusal.Refusal.TheVariants as r
use Rattle.book.proofs.Answered.{passed_on}
use Rattle.book.proofs.Multiples.{AllPositive, hyperperiod_is, hyperperiod_pos}
use Rattle.book.proofs.Rows.{falling_not, outside_not, within_not}
use Rattle.sheet.specs.Encoding.{body_bytes, encode, record_bytes, records_bytes}
use Rattle.sheet.specs.Decoding.{decode, read_records}
use Rattle.sheet.specs.Reading.{loaded}
use Rattle.sheet.proofs.Records.{loaded_is}
use Rattle.sheet.proofs.Bytes.{body_long, good_length, value_two}

-- a task that keeps the rules passes its checks
task_passes : (t : TaskRecord) → TaskKeeps t → judged (task_checks t) t ≡ Ok t
task_passes t k =
    rw (
      ne_eqb t.number 0 (λ e. omega arith),
      outside_not 1 1000000 t.period k.period_from k.period_to,
      outside_not 1 t.period t.deadline k.deadline_from k.deadline_to,
      outside_not 1 11 (length t.times) k.row_from k.row_to,
      within_not t.times k.within,
      falling_not t.times k.falling,
    )

-- the last number of a front is below the next one
number_above : (ts : List TaskRecord) (u : TaskRecord) (us : List TaskRecord) → 1 ≤ u.number → Ascending (map number_of (ts ++ u ∷ us))
    → last_number ts < u.number
number_above [] u us pos h = pos
number_above (t ∷ []) u us pos h = h zero (omega arith)
number_above (t ∷ v ∷ ts) u us pos h = number_above (v ∷ ts) u us pos (λ k lt. rw add-one (rw add-one at (h (suc k) (omega arith))))

-- a task and those before it keep the rules where all do
keep_front : (ts : List TaskRecord) (u : TaskRecord) (us : List TaskRecord) → AllKeep (ts ++ u ∷ us) → AllKeep (u ∷ ts)
keep_front [] u us h = (h.0, tt)
keep_front (t ∷ ts) u us h = let f = keep_front ts u us h.1 in (f.0, (h.0, f.1))

-- a common multiple of all periods is one of a task's and of those before it
divide_front : (ts : List TaskRecord) (u : TaskRecord) (us : List TaskRecord) (m : ℕ) → AllDivide (map period_of (ts ++ u ∷ us)) m
    → AllDivide (map period_of (u ∷ ts)) m
divide_front [] u us m h = (h.0, tt)
divide_front (t ∷ ts) u us m h = let f = divide_front ts u us m h.1 in (f.0, (h.0, f.1))

-- the periods of tasks that keep the rules are positive
positive : (ts : List TaskRecord) → AllKeep ts → AllPositive (map period_of ts)
positive [] h = tt
positive (t ∷ ts) h = (h.0.period_from, positive ts h.1)

-- the hyperperiod of a task and those before it is at most that of all
cycle_front : (ts : List TaskRecord) (u : TaskRecord) (us : List TaskRecord) → AllKeep (ts ++ u ∷ us)
    → hyperperiod (map period_of (u ∷ ts)) ≤ hyperperiod (map period_of (ts ++ u ∷ us))
cycle_front ts u us h =
    let all : List ℕ = map period_of (ts ++ u ∷ us) in
    let pos = positive (ts ++ u ∷ us) h in
    le_of_dvd (hyperperiod_pos all pos)
    ((hyperperiod_is (map period_of (u ∷ ts)) (positive (u ∷ ts) (keep_front ts u us h))).1 (hyperperiod all)
    (divide_front ts u us (hyperperiod all) (hyperperiod_is all pos).0))

-- The tasks of a ledger that keeps the rules, split before one of them.
module _ (l : Ledger) (k : KeepsRules l) where
  -- the task is put behind those before it
  append_passes : (ts : List TaskRecord) (u : TaskRecord) (us : List TaskRecord) → l.tasks ≡ ts ++ u ∷ us → append_tasks u ts ≡ Ok (ts ++ u ∷ [])
  append_passes ts u us e =
      let keep = subst AllKeep e k.tasks_keep in
      let here = (keep_front ts u us keep).0 in
      let above = number_above ts u us here.number_from (subst (λ xs. Ascending (map number_of xs)) e k.ascending) in
      let few : length ts < 16 = omega (arith, k.few, simp length-append at (ap length e)) in
      let whole = subst (λ xs. hyperperiod (map period_of xs) ≤ 10000000000) e k.cycle_to in
      let cycle : hyperperiod (map period_of (u ∷ ts)) ≤ 10000000000 = omega (arith, cycle_front ts u us keep) in
      passed_on (task_checks u) (clash_checks (leb u.number (last_number ts), r.Order) u ts) u (ts ++ u ∷ []) u (task_passes u here)
      ∙ rw (lt-leb u.number (last_number ts) above, lt-leb 16 (length ts) few, le-ltb 10000000000 (hyperperiod (u.period ∷ map period_of ts)) cycle)

  -- its record passes every check
  record_passes : (ts : List TaskRecord) (u : TaskRecord) (us : List TaskRecord) (s : List ℕ) → l.tasks ≡ ts ++ u ∷ us
      → loaded (record_bytes u ++ s) ts ≡ Ok (ts ++ u ∷ [])
  record_passes ts u us s e =
      let keep = (keep_front ts u us (subst AllKeep e k.tasks_keep)).0 in
      loaded_is u (good_length (length u.times) keep.row_from keep.row_to) (omega arith) (omega arith) (λ i lt. omega (arith, keep.within i lt)) s ts
      ∙ append_passes ts u us e

  -- the records of the tasks that are left are read behind those before them
  read_all : (us ts : List TaskRecord) (most place : ℕ) → l.tasks ≡ ts ++ us → length (records_bytes us) ≤ most
      → read_records most place ts (records_bytes us) ≡ Ok l.tasks
  read_all [] ts zero place e le = ap Ok (sym (append-nil ts) ∙ sym e)
  read_all [] ts (suc most) place e le = ap Ok (sym (append-nil ts) ∙ sym e)
  read_all (u ∷ us) ts zero place e le = absurd (omega arith)
  read_all (u ∷ us) ts (suc most) place e le =
      let len : ℕ = 9 + 4 * length u.times in
      rw (record_passes ts u us (records_bytes us) e, drop_at (body_bytes u) (records_bytes us) len (body_long u))
      (read_all us (ts ++ u ∷ []) most (place + suc len) (e ∙ sym (append_assoc ts (u ∷ []) us))
      (omega (arith, length-append (body_bytes u) (records_bytes us))))

-- the sheet of a ledger that keeps the rules is read back as that ledger
pub round_trip : (l : Ledger) → KeepsRules l → decode (encode l) ≡ Ok l
round_trip l k =
    let long = length (encode l) in
    let some : long ≡ 0 → ⊥ = λ e. omega arith in
    let three : 3 ≤ long = omega arith in
    rw (
      value_two l.cache (records_bytes l.tasks) (omega arith),
      ne_eqb long 0 some,
      le-ltb long 3 three,
      outside_not 1 1024 l.cache k.cache_from k.cache_to,
      read_all l k l.tasks [] long 3 refl (omega arith),
    )
