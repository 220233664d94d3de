use Rattle.std.proofs.Common.{◌≡◌, ◌+◌, ◌*◌, ◌≤◌, length}
use Rattle.book.specs.Books.{used}
use Rattle.book.proofs.ClassLists.{work_left}
use Rattle.book.proofs.table.Table.total_work.Given as goal

-- the sum so far and the work of what is left to look at are all of the work
abbrev pub invariant-loop-task : goal.invariant-loop-task
invariant-loop-task l =
    (l.sum + work_left l.self.cycle l.task-iterator.a.rest.now l.task-iterator.b.rest.now ≡ work_left l.self.cycle (used l.self) l.classes)
    × (l.sum + 10000000000000000 * length l.task-iterator.a.rest.now ≤ 160000000000000000)
