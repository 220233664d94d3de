use Rattle.std.proofs.Common.{◌≡◌, ◌+◌, ◌*◌, ◌≤◌, ◌++◌, take}
use Rattle.report.specs.Held.{text_in}
use Rattle.report.proofs.Puts.{lines_of}
use Rattle.report.proofs.describe.put_tasks.Given as goal

abbrev pub invariant-loop-task : goal.invariant-loop-task
invariant-loop-task l =
    (text_in l.text ≡ text_in l.initial.text ++ lines_of (take l.task-index l.tasks)) × (l.text.count ≤ l.initial.text.count + 400 * l.task-index)
