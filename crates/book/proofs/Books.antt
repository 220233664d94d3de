-- From what the table answers to what the book answers.
use Rattle.std.proofs.Common.{◌≡◌, ℕ, leb, List, [], ◌∷◌, ◌++◌, Ok, Err, Result, sym, ap, ◌∙◌, subst}
use Rattle.book.specs.Amending.{amend_tasks, withdraw_tasks}
use Rattle.book.specs.Books.{amend_answer, append_answer, enter_answer, holds, records_in, with_tasks, withdraw_answer}
use Rattle.book.specs.Checks.{Check, Did, Made, judged}
use Rattle.book.specs.Entering.{append_last, clash_checks, enter_among, enter_checks, entered, last_number, taken, task_checks}
use Rattle.book.specs.Held.{record_of}
use Rattle.book.specs.Ledger.{TaskRecord}
use Rattle.book.specs.declared.book.Book.{Book}
use Rattle.book.specs.declared.refusal.Refusal.{Refusal}
use Rattle.book.specs.declared.refusal.Refusal.TheVariants as r
use Rattle.book.specs.declared.task.Task.{Task}
use Rattle.book.proofs.Answered.{done_same, passed_on}
use Rattle.book.proofs.Same.{book_same}

-- a book keeps its cache size, so it answers as its table does
pub book_did : (old new : Book) (answer : Result (List TaskRecord) Refusal) (r : Result (Unit {0}) Refusal) → new.cache ≡ old.cache
    → Did records_in old.table new.table answer r → Did holds old new (with_tasks (holds old) answer) r
book_did old new answer (Ok u) p d =
    ap (with_tasks (holds old)) d ∙ (λ j. Ok (record { cache = sym p j; tasks = records_in new.table }))
book_did old new answer (Err e) p d = (ap (with_tasks (holds old)) d.0, book_same new old p d.1)

pub book_amended : (old new : Book) (n class time : ℕ) (r : Result (Unit {0}) Refusal) → new.cache ≡ old.cache
    → Did records_in old.table new.table (amend_tasks n class time (records_in old.table)) r
    → Did holds old new (amend_answer (holds old) n class time) r
book_amended old new n class time r p d = book_did old new (amend_tasks n class time (records_in old.table)) r p d

pub book_withdrawn : (old new : Book) (n : ℕ) (r : Result (Unit {0}) Refusal) → new.cache ≡ old.cache
    → Did records_in old.table new.table (withdraw_tasks n (records_in old.table)) r
    → Did holds old new (withdraw_answer (holds old) n) r
book_withdrawn old new n r p d = book_did old new (withdraw_tasks n (records_in old.table)) r p d

-- A task more, whatever the check on its number and its place: one that passes its own checks leaves the answer to those
-- beside the others, and one that they refuse is refused.
module _ (clash : TaskRecord → List TaskRecord → Check) (placed : TaskRecord → List TaskRecord → List TaskRecord) where
  abbrev pub among : TaskRecord → List TaskRecord → Result (List TaskRecord) Refusal
  among t ts = judged (clash_checks (clash t ts) t ts) (placed t ts)

  abbrev pub taken_in : TaskRecord → List TaskRecord → Result (List TaskRecord) Refusal
  taken_in t ts = judged (enter_checks (clash t ts) t ts) (placed t ts)

  pub book_took : (old new : Book) (t : TaskRecord) (task : Task) (r : Result (Unit {0}) Refusal) → new.cache ≡ old.cache
      → Made record_of (judged (task_checks t) t) (Ok task) → Did records_in old.table new.table (among (record_of task) (records_in old.table)) r
      → Did holds old new (with_tasks (holds old) (taken_in t (records_in old.table))) r
  book_took old new t task r p m d =
      let ts = records_in old.table in
      let e : among (record_of task) ts ≡ taken_in t ts =
      ap (λ u. among u ts) (done_same (task_checks t) t (record_of task) m)
      ∙ sym (passed_on (task_checks t) (clash_checks (clash t ts) t ts) t (placed t ts) (record_of task) m) in
      book_did old new (taken_in t ts) r p (subst (λ a. Did records_in old.table new.table a r) e d)

-- the two ways of taking a task in
abbrev pub by_number : TaskRecord → List TaskRecord → Check
by_number t ts = (taken t.number ts, r.Taken)

abbrev pub by_order : TaskRecord → List TaskRecord → Check
by_order t ts = (leb t.number (last_number ts), r.Order)

abbrev pub behind : TaskRecord → List TaskRecord → List TaskRecord
behind t ts = ts ++ t ∷ []

pub book_entered : (old new : Book) (t : TaskRecord) (task : Task) (res : Result (Unit {0}) Refusal) → new.cache ≡ old.cache
    → Made record_of (judged (task_checks t) t) (Ok task) → Did records_in old.table new.table (enter_among (record_of task) (records_in old.table)) res
    → Did holds old new (enter_answer (holds old) t) res
book_entered = book_took by_number entered

pub book_appended : (old new : Book) (t : TaskRecord) (task : Task) (res : Result (Unit {0}) Refusal) → new.cache ≡ old.cache
    → Made record_of (judged (task_checks t) t) (Ok task) → Did records_in old.table new.table (append_last (record_of task) (records_in old.table)) res
    → Did holds old new (append_answer (holds old) t) res
book_appended = book_took by_order behind
