use Rattle.std.proofs.Common.{arith}
use Rattle.report.specs.Held.{text_in}
use Rattle.report.proofs.Puts.{line_of, lines_joins, lines_of, lines_one, puts_more}
use Rattle.report.proofs.describe.put_tasks.Goals as goal

pub loop-task-preserved : goal.loop-task-preserved
loop-task-preserved c = (
  puts_more lines_of line_of lines_joins lines_one c.args.tasks.now c.loop-task.task-index c.task-item.result (text_in c.args.text.now)
      (text_in c.loop-task.text) (text_in c.put_task.new.text) (omega arith) c.task-item.is c.loop-task.invariant.0 c.put_task.ensures.after,
  omega (arith, c.loop-task.invariant.1, c.put_task.ensures.few),
)
