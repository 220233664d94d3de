use Rattle.std.proofs.Common.{ap, arith}
use Rattle.schedule.specs.Demands.{requested}
use Rattle.schedule.proofs.Pairing.{left_none}
use Rattle.schedule.proofs.timed_tasks.TimedTasks.work_requested.Goals as goal

pub returns : goal.returns
returns c =
    let done = ap (λ ks. requested ks c.args.t) (left_none c.loop-task.task-iterator c.next.new.self _ c.next.ensures.steps c.in-None.is) in
    (omega arith, omega arith)
