-- A book is known by its ledger: two books that hold the same ledger are the same book.
use Rattle.std.proofs.Common.{◌≡◌, ℕ, List, [], ◌∷◌, map, take, drop, sym, refl, ap, ◌∙◌, arith}
use Rattle.std.proofs.lemmas.List.{length-take-le, take-append-drop}
use Rattle.book.specs.Books.{holds, records_in}
use Rattle.book.specs.Held.{fields, record_of, times_in}
use Rattle.book.specs.Hyperperiod.{hyperperiod}
use Rattle.book.specs.Ledger.{period_of}
use Rattle.book.specs.declared.book.Book.{Book}
use Rattle.book.specs.declared.row.Row.{Row}
use Rattle.book.specs.declared.table.Table.{Table}
use Rattle.book.specs.declared.task.Task.{Task}
use Rattle.book.proofs.Keeps.{cycle_held}
use Rattle.book.proofs.Places.{records_long}
use Rattle.book.proofs.Same.{book_same, row_same, table_same, task_same}

-- lists are equal where a function that tells their elements apart gives the same list
map_injective : {X Y : Type 0} (f : X → Y) → ((x y : X) → f x ≡ f y → x ≡ y) → (xs ys : List X) → map f xs ≡ map f ys → xs ≡ ys
map_injective f apart [] [] e = refl
map_injective f apart [] (y ∷ ys) e = cc
map_injective f apart (x ∷ xs) [] e = cc
map_injective f apart (x ∷ xs) (y ∷ ys) e =
    let here = apart x y (cc) in
    let rest = map_injective f apart xs ys (cc) in
    cc

-- lists are equal where their fronts and what stands behind are
halves_same : {X : Type 0} (m n : ℕ) (xs ys : List X) → take m xs ≡ take n ys → drop m xs ≡ drop n ys → xs ≡ ys
halves_same m n xs ys front rest = cc (take-append-drop m xs, take-append-drop n ys)

-- a row is known by its times
row_from_times : (a b : Row) → times_in a ≡ times_in b → a ≡ b
row_from_times a b e =
    let long_a = length-take-le a.count a.times (omega arith) in
    let long_b = length-take-le b.count b.times (omega arith) in
    let counts : a.count ≡ b.count = cc in
    let rest : drop a.count a.times ≡ drop b.count b.times = cc in
    row_same a b (halves_same a.count b.count a.times b.times e rest) counts

-- a task is known by its record
task_from_record : (a b : Task) → record_of a ≡ record_of b → a ≡ b
task_from_record a b e = task_same a b (λ i. (e i).number) (λ i. (e i).period) (λ i. (e i).deadline) (row_from_times a.row b.row (λ i. (e i).times))

-- a task is known by its fields in a line
task_from_fields : (a b : Task) → fields a ≡ fields b → a ≡ b
task_from_fields a b e = task_same a b (cc) (cc) (cc) (row_from_times a.row b.row (cc))

-- a table is known by its records
table_from_records : (a b : Table) → records_in a ≡ records_in b → a ≡ b
table_from_records a b e =
    let counts : a.count ≡ b.count = cc (records_long a, records_long b) in
    let front = map_injective record_of task_from_record (take a.count a.tasks) (take b.count b.tasks) e in
    let rest = map_injective fields task_from_fields (drop a.count a.tasks) (drop b.count b.tasks) (cc) in
    table_same a b (halves_same a.count b.count a.tasks b.tasks front rest) counts
    (cycle_held a ∙ ap (λ rs. hyperperiod (map period_of rs)) e ∙ sym (cycle_held b))

-- two books that hold the same ledger are the same book
pub held_same : (a b : Book) → holds a ≡ holds b → a ≡ b
held_same a b e = book_same a b (λ i. (e i).cache) (table_from_records a.table b.table (λ i. (e i).tasks))
