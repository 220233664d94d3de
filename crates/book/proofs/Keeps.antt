-- Every book keeps the rules: what its ghost fields say of the slots, said of the ledger.
use Rattle.std.proofs.Common.{◌≡◌, ◌≤◌, List, [], ◌∷◌, map, length, sym, refl, ap, ◌∙◌, subst, arith}
use Rattle.std.proofs.lemmas.List.{length-take-le}
use Rattle.book.specs.Books.{holds, records_in}
use Rattle.book.specs.Held.{number_in, periods, record_of, times_in}
use Rattle.book.specs.Hyperperiod.{IsHyperperiod, hyperperiod}
use Rattle.book.specs.Keeping.{AllKeep, KeepsRules, TaskKeeps}
use Rattle.book.specs.Ledger.{number_of, period_of}
use Rattle.book.specs.Rules.{Ascending}
use Rattle.book.specs.declared.book.Book.{Book}
use Rattle.book.specs.declared.row.Row.{Row}
use Rattle.book.specs.declared.table.Table.{Table}
use Rattle.book.specs.declared.task.Task.{Task}
use Rattle.book.proofs.Multiples.{hyperperiod_is}
use Rattle.book.proofs.Periods.{positive}
use Rattle.book.proofs.Places.{records_long}
use Rattle.book.proofs.Rows.{take_falling, take_within}
use Rattle.book.proofs.Tables.{record_periods, slots}

row_long : (r : Row) → length (times_in r) ≡ r.count
row_long r = length-take-le r.count r.times (omega (arith, r.sized))

task_keeps : (t : Task) → TaskKeeps (record_of t)
task_keeps t =
    let few : t.row.count ≤ length t.row.times = omega (arith, t.row.sized) in
    record {
      number_from = t.numbered.0;
      number_to = t.numbered.1;
      period_from = omega (arith, t.timed);
      period_to = t.timed.2;
      deadline_from = t.timed.0;
      deadline_to = t.timed.1;
      row_from = omega (arith, row_long t.row, t.row.sized);
      row_to = omega (arith, row_long t.row, t.row.sized);
      within = take_within t.row.times t.row.count few t.row.within;
      falling = take_falling t.row.times t.row.count few t.row.falling;
    }

-- every list of tasks keeps the rules of tasks
pub all_keep : (ts : List Task) → AllKeep (map record_of ts)
all_keep [] = tt
all_keep (t ∷ ts) = (task_keeps t, all_keep ts)

record_numbers : (ts : List Task) → map number_of (map record_of ts) ≡ map number_in ts
record_numbers [] = refl
record_numbers (t ∷ ts) = ap (λ ns. t.number ∷ ns) (record_numbers ts)

-- the kept hyperperiod, as the ledger has it
pub cycle_held : (t : Table) → t.cycle ≡ hyperperiod (map period_of (records_in t))
cycle_held t = t.cyclic.0 ∙ ap hyperperiod (sym (record_periods (slots t)))

pub cycle_law : (t : Table) → IsHyperperiod (map period_of (records_in t)) t.cycle
cycle_law t =
    subst (λ h. IsHyperperiod (map period_of (records_in t)) h) (sym (cycle_held t))
    (subst (λ ps. IsHyperperiod ps (hyperperiod ps)) (sym (record_periods (slots t))) (hyperperiod_is (periods t.tasks t.count) (positive (slots t))))

pub book_keeps : (b : Book) → KeepsRules (holds b)
book_keeps b =
    let t = b.table in
    record {
      cache_from = b.sized.0;
      cache_to = b.sized.1;
      few = omega (arith, records_long t, t.few);
      ascending = subst Ascending (sym (record_numbers (slots t))) t.ascending;
      cycle_to = omega (arith, cycle_held t, t.cyclic);
      tasks_keep = all_keep (slots t);
    }
