use Rattle.std.proofs.Common.{ℕ, length, nat_lt, map, rules, ap, ◌∙◌}
use borrow.Author.Tests.{tests}
use Rattle.std.proofs.lemmas.Iterator.{YieldsList-from_slice, YieldsList-from_zip}
use Rattle.std.proofs.lemmas.Iterator.Search.{all_from_yields_List}
use Rattle.book.specs.Classes.{names}
use Rattle.book.specs.Held.{record_of, times_in}
use Rattle.book.specs.declared.task.Task.{Task}
use Rattle.book.proofs.ClassLists.{names_of}
use Rattle.book.proofs.table.Table.names_each.Goals as goal

pub returns-then-classes-tasks : goal.returns-then-classes-tasks
returns-then-classes-tasks c =
    let ts = c.tasks-tasks.result.now in
    let cs = c.args.classes.now in
    names_of ts cs c.all.result c.if-classes-tasks.true
    (all_from_yields_List (λ (p : Task × ℕ). nat_lt p.1 (length (times_in p.0.row))) c.all.new.self _ c.all.result c.all.ensures.ran
    (YieldsList-from_zip (YieldsList-from_slice ts cc) (YieldsList-from_slice cs cc)) (λ x b q k. search (rules, tests)))
    ∙ ap (λ us. names (map record_of us) cs) c.tasks-tasks.ensures
