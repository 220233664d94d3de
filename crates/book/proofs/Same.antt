-- Two values of a struct with ghost fields are equal where their other fields are.
use Rattle.std.proofs.Common.{◌≡◌}
use denote.Struct.Record.{values_one}
use Rattle.book.specs.declared.book.Book.{Book}
use Rattle.book.specs.declared.row.Row.{Row}
use Rattle.book.specs.declared.table.Table.{Table}
use Rattle.book.specs.declared.task.Task.{Task}
use Rattle.book.specs.contracts.book.Book as book
use Rattle.book.specs.contracts.row.Row as row
use Rattle.book.specs.contracts.table.Table as table
use Rattle.book.specs.contracts.task.Task as task

pub row_same : (a b : Row) → a.times ≡ b.times → a.count ≡ b.count → a ≡ b
row_same a b p q = values_one row.struct row.the_propositions a b (λ i. (p i, (q i, tt)))

pub task_same : (a b : Task) → a.number ≡ b.number → a.period ≡ b.period → a.deadline ≡ b.deadline → a.row ≡ b.row → a ≡ b
task_same a b p q r s = values_one task.struct (task.the_propositions (row.the_row).coded) a b (λ i. (p i, (q i, (r i, (s i, tt)))))

pub table_same : (a b : Table) → a.tasks ≡ b.tasks → a.count ≡ b.count → a.cycle ≡ b.cycle → a ≡ b
table_same a b p q r = values_one table.struct (table.the_propositions (task.the_row).coded) a b (λ i. (p i, (q i, (r i, tt))))

pub book_same : (a b : Book) → a.cache ≡ b.cache → a.table ≡ b.table → a ≡ b
book_same a b p q = values_one book.struct (book.the_propositions (table.the_row).coded) a b (λ i. (p i, (q i, tt)))
