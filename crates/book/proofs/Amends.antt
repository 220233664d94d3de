-- What a table answers where one task is amended or withdrawn.
use Rattle.std.proofs.Common.{◌≡◌, ℕ, zero, suc, ◌<◌, List, [], ◌∷◌, map, length, get_or, take, set, Ok, Err, Result, sym, refl, ap, ◌∙◌, subst, arith}
use Rattle.std.specs.List.{remove}
use Rattle.std.proofs.lemmas.List.{get_or-take, map-set, set-get_or, take-map}
use Rattle.std.proofs.lemmas.Bool.{eq-eqb, ne_eqb}
use Rattle.book.specs.Amending.{amend_checks, amend_tasks, amended, row_of, with_time, withdraw_tasks}
use Rattle.book.specs.Books.{records_in}
use Rattle.book.specs.Checks.{Did, judged}
use Rattle.book.specs.Held.{number_in, numbers, period_in, periods, record_of}
use Rattle.book.specs.Hyperperiod.{hyperperiod}
use Rattle.book.specs.Ledger.{TaskRecord}
use Rattle.book.specs.Places.{Found}
use Rattle.book.specs.Rules.{Ascending}
use Rattle.book.specs.declared.refusal.Refusal.{Refusal}
use Rattle.book.specs.declared.refusal.Refusal.TheVariants as r
use Rattle.book.specs.declared.table.Table.{Table}
use Rattle.book.specs.declared.task.Task.{Task}
use Rattle.book.proofs.Answered.{done_by, judged_by}
use Rattle.book.proofs.Moves.{withdrawn_at}
use Rattle.book.proofs.Places.{long, taken_there, taken_nowhere}
use Rattle.book.proofs.Rows.{take_set_in}
use Rattle.book.proofs.Same.{table_same}

-- a write to one slot that keeps what f reads keeps it in every front
keeps : {Y : Type 0} (f : Task → Y) (ts : List Task) (i : ℕ) (d t : Task) → f t ≡ f (get_or ts i d) → map f (set ts i t) ≡ map f ts
keeps f [] i d t e = refl
keeps f (x ∷ xs) zero d t e = ap (λ y. y ∷ map f xs) e
keeps f (x ∷ xs) (suc i) d t e = ap (λ ys. f x ∷ ys) (keeps f xs i d t e)

front_keeps : {Y : Type 0} (f : Task → Y) (ts : List Task) (n i : ℕ) (d t : Task) → f t ≡ f (get_or ts i d) → map f (take n (set ts i t)) ≡ map f (take n ts)
front_keeps f ts n i d t e = sym (take-map f n (set ts i t)) ∙ ap (take n) (keeps f ts i d t e) ∙ take-map f n ts

pub ascending_keeps : (ts : List Task) (n i : ℕ) (d t : Task) → t.number ≡ (get_or ts i d).number → Ascending (numbers ts n) → Ascending (numbers (set ts i t) n)
ascending_keeps ts n i d t e h = subst Ascending (sym (front_keeps number_in ts n i d t e)) h

pub cycle_keeps : (ts : List Task) (n i h : ℕ) (d t : Task) → t.period ≡ (get_or ts i d).period → h ≡ hyperperiod (periods ts n) → h ≡ hyperperiod (periods (set ts i t) n)
cycle_keeps ts n i h d t e is = is ∙ ap hyperperiod (sym (front_keeps period_in ts n i d t e))

-- the task of a number is the first that has it
row_at : (xs : List Task) (i : ℕ) (d : Task) (n : ℕ) → i < length xs → get_or (map number_in xs) i 0 ≡ n
    → ((k : ℕ) → k < i → get_or (map number_in xs) k 0 < n) → row_of n (map record_of xs) ≡ (record_of (get_or xs i d)).times
row_at [] i d n lt e below = absurd (omega arith)
row_at (x ∷ xs) zero d n lt e below = rw (eq-eqb x.number n e)
row_at (x ∷ xs) (suc i) d n lt e below =
    let ne : x.number ≡ n → ⊥ = λ q. omega (arith, below zero (omega arith)) in
    rw (ne_eqb x.number n ne) (row_at xs i d n (omega arith) e (λ k h. below (suc k) (omega arith)))

amended_at : (xs : List Task) (i : ℕ) (d : Task) (n class time : ℕ) → i < length xs → get_or (map number_in xs) i 0 ≡ n
    → ((k : ℕ) → k < i → get_or (map number_in xs) k 0 < n)
    → amended n class time (map record_of xs) ≡ set (map record_of xs) i (with_time class time (record_of (get_or xs i d)))
amended_at [] i d n class time lt e below = refl
amended_at (x ∷ xs) zero d n class time lt e below = rw (eq-eqb x.number n e)
amended_at (x ∷ xs) (suc i) d n class time lt e below =
    let ne : x.number ≡ n → ⊥ = λ q. omega (arith, below zero (omega arith)) in
    rw (ne_eqb x.number n ne)
    (ap (λ rs. record_of x ∷ rs) (amended_at xs i d n class time (omega arith) e (λ k h. below (suc k) (omega arith))))

-- the table's answer from that of the task in the slot
module _ (old : Table) (i : ℕ) (d : Task) (n class time : ℕ) (f : Found old n (Ok i)) where
  inside : i < length (take old.count old.tasks)
  inside = omega (arith, long old, f.0)

  slot : get_or (take old.count old.tasks) i d ≡ get_or old.tasks i d
  slot = get_or-take old.count old.tasks i d f.0

  answer_is : amend_tasks n class time (records_in old)
      ≡ done_by (set (records_in old) i) (judged (amend_checks (record_of (get_or old.tasks i d)).times class time) (with_time class time (record_of (get_or old.tasks i d))))
  answer_is =
      let row : row_of n (records_in old) ≡ (record_of (get_or old.tasks i d)).times =
      row_at (take old.count old.tasks) i d n inside f.1 f.2 ∙ ap (λ (t : Task). (record_of t).times) slot in
      let done : amended n class time (records_in old) ≡ set (records_in old) i (with_time class time (record_of (get_or old.tasks i d))) =
      amended_at (take old.count old.tasks) i d n class time inside f.1 f.2
      ∙ ap (λ (t : Task). set (records_in old) i (with_time class time (record_of t))) slot in
      rw (taken_there old n i f)
      ((λ j. judged (amend_checks (row j) class time) (done j))
      ∙ judged_by (set (records_in old) i) (amend_checks (record_of (get_or old.tasks i d)).times class time) (with_time class time (record_of (get_or old.tasks i d))))

-- the records in the first `count` slots
abbrev records : List Task → ℕ → List TaskRecord
records tasks count = map record_of (take count tasks)

records_set : (ts : List Task) (n i : ℕ) (t : Task) → records (set ts i t) n ≡ set (records ts n) i (record_of t)
records_set ts n i t = ap (map record_of) (take_set_in n ts i t) ∙ map-set record_of (take n ts) i t

pub table_amended : (old new : Table) (i : ℕ) (d t : Task) (n class time : ℕ) (res : Result (Unit {0}) Refusal)
    → Found old n (Ok i) → new.tasks ≡ set old.tasks i t → new.count ≡ old.count → new.cycle ≡ old.cycle
    → Did record_of (get_or old.tasks i d) t
    (judged (amend_checks (record_of (get_or old.tasks i d)).times class time) (with_time class time (record_of (get_or old.tasks i d)))) res
    → Did records_in old new (amend_tasks n class time (records_in old)) res
table_amended old new i d t n class time (Ok u) f p q s h =
    answer_is old i d n class time f ∙ ap (done_by (set (records_in old) i)) h
    ∙ ap Ok (sym ((λ j. records (p j) (q j)) ∙ records_set old.tasks old.count i t))
table_amended old new i d t n class time (Err e) f p q s h = (
  answer_is old i d n class time f ∙ ap (done_by (set (records_in old) i)) h.0,
  table_same new old (p ∙ ap (set old.tasks i) h.1 ∙ set-get_or old.tasks i d) q s,
)

pub amend_unknown : (t : Table) (n class time i : ℕ) → Found t n (Err i) → amend_tasks n class time (records_in t) ≡ Err r.Unknown
amend_unknown t n class time i f = rw (taken_nowhere t n i f)

pub withdraw_unknown : (t : Table) (n i : ℕ) → Found t n (Err i) → withdraw_tasks n (records_in t) ≡ Err r.Unknown
withdraw_unknown t n i f = rw (taken_nowhere t n i f)

pub withdraw_done : (t : Table) (n i : ℕ) (new : List Task) → Found t n (Ok i) → new ≡ remove (take t.count t.tasks) i
    → withdraw_tasks n (records_in t) ≡ Ok (map record_of new)
withdraw_done t n i new f e =
    rw (taken_there t n i f)
    (ap Ok (sym (ap (map record_of) e ∙ withdrawn_at (take t.count t.tasks) i n (omega (arith, long t, f.0)) f.1 (λ k h q. omega (arith, f.2 k h)))))
