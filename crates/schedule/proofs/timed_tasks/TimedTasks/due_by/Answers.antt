use Rattle.std.proofs.Common.{ap, arith}
use Rattle.schedule.specs.Demands.{processor_demand}
use Rattle.schedule.proofs.Demanding.{due_more}
use Rattle.schedule.proofs.Pairing.{left_more, left_none}
use Rattle.schedule.proofs.timed_tasks.TimedTasks.due_by.Goals as goal

pub loop-task-preserved-then-deadline-last : goal.loop-task-preserved-then-deadline-last
loop-task-preserved-then-deadline-last c =
    let k = c.in-Some.task in
    let first = left_more c.loop-task.task-iterator c.next.new.self _ c.next.ensures.steps k c.in-Some.time c.in-Some.is c.from.result c.from.ensures c.from-period.result c.from-deadline.result c.from-period.ensures c.from-deadline.ensures in
    due_more _ _ _ _ _ _ _ c.loop-task.invariant first (omega (arith, c.if-deadline-last.true)) (omega (arith, c.from-period.ensures, k.now.timed)) _ c.max-latest.ensures

pub returns-clause-work : goal.returns-clause-work
returns-clause-work c =
    let done = ap (λ ks. processor_demand ks c.args.last) (left_none c.loop-task.task-iterator c.next.new.self _ c.next.ensures.steps c.in-None.is) in
    omega (arith, c.loop-task.invariant.0)
