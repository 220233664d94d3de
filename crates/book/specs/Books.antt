-- What a book holds, and what each call that changes one answers.
use Rattle.std.specs.Prelude.{ℕ, List, [], ◌∷◌, map, take, Ok, Err, Result}
use Rattle.book.specs.Amending.{amend_tasks, withdraw_tasks}
use Rattle.book.specs.Checks.{judged, outside}
use Rattle.book.specs.Entering.{append_tasks, enter_tasks}
use Rattle.book.specs.Held.{record_of}
use Rattle.book.specs.Ledger.{Ledger, TaskRecord, begun}
use Rattle.book.specs.declared.book.Book.{Book}
use Rattle.book.specs.declared.refusal.Refusal.{Refusal}
use Rattle.book.specs.declared.refusal.Refusal.TheVariants as r
use Rattle.book.specs.declared.table.Table.{Table}
use Rattle.book.specs.declared.task.Task.{Task}

-- the tasks in a table: its used slots
abbrev pub used : Table → List Task
used t = take t.count t.tasks

-- the records in a table
abbrev pub records_in : Table → List TaskRecord
records_in t = map record_of (used t)

-- the ledger that a book stands for
abbrev pub holds : Book → Ledger
holds b = record { cache = b.cache; tasks = records_in b.table }

-- the same ledger with other tasks, where there is no refusal
abbrev pub with_tasks : Ledger → Result (List TaskRecord) Refusal → Result Ledger Refusal
with_tasks l (Ok ts) = Ok (record { cache = l.cache; tasks = ts })
with_tasks l (Err e) = Err e

-- make: an empty ledger of this cache size
abbrev pub make_answer : ℕ → Result Ledger Refusal
make_answer size = judged ((outside 1 1024 size, r.Cache) ∷ []) (begun size)

-- enter: one task more, in its place
abbrev pub enter_answer : Ledger → TaskRecord → Result Ledger Refusal
enter_answer l t = with_tasks l (enter_tasks t l.tasks)

-- append: one task more, behind the others
abbrev pub append_answer : Ledger → TaskRecord → Result Ledger Refusal
append_answer l t = with_tasks l (append_tasks t l.tasks)

-- amend: one time of one task
abbrev pub amend_answer : Ledger → ℕ → ℕ → ℕ → Result Ledger Refusal
amend_answer l number class time = with_tasks l (amend_tasks number class time l.tasks)

-- withdraw: one task less
abbrev pub withdraw_answer : Ledger → ℕ → Result Ledger Refusal
withdraw_answer l number = with_tasks l (withdraw_tasks number l.tasks)
