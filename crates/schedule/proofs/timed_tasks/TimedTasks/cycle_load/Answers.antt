use Rattle.std.proofs.Common.{ap, arith, rules}
use Rattle.schedule.specs.Deciding.{early_work}
use Rattle.schedule.proofs.Loading.{load_none}
use Rattle.schedule.proofs.Pairing.{left_none, work_none}
use Rattle.schedule.proofs.timed_tasks.TimedTasks.cycle_load.Goals as goal

pub loop-task-init : goal.loop-task-init
loop-task-init c = load_none c.args.self c.into_iter-task-iterator.result c.args.cycle (search rules) (search rules) c.requires.few c.requires.timely

pub returns-clause-work : goal.returns-clause-work
returns-clause-work c =
    omega (arith, c.loop-task.invariant.0, work_none c.loop-task.task-iterator c.next.new.self _ c.next.ensures.steps c.args.cycle c.in-None.is)

pub returns-clause-early : goal.returns-clause-early
returns-clause-early c =
    omega (arith, c.loop-task.invariant.1, ap (early_work c.args.cycle) (left_none c.loop-task.task-iterator c.next.new.self _ c.next.ensures.steps c.in-None.is))
