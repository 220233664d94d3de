use Rattle.std.proofs.Common.{◌≤◌, rules}
use Rattle.std.proofs.lemmas.Result.{err_from_is_err_and}
use Rattle.book.proofs.Tasks.{row_refused}
use Rattle.book.proofs.task_edits.TaskTryFromNewTask.try_from.Goals as goal

pub returns-in_err-row : goal.returns-in_err-row
returns-in_err-row c =
    let new = c.args.new in
    let p = err_from_is_err_and c.from_residual.result c.from_residual.ensures.1 in
    let period : (1 ≤ new.period) × (new.period ≤ 1000000) = search rules in
    let deadline : (1 ≤ new.deadline) × (new.deadline ≤ new.period) = search rules in
    rw (p.1, p.2)
    (row_refused new.number new.period new.deadline new.times.now _ c.if-new-eq0.false period.0 period.1 deadline.0 deadline.1 c.in_err-row.ensures)
