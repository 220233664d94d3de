use Rattle.std.proofs.Common.{◌≡◌, ◌+◌, ◌^◌, ◌<◌}
use Rattle.schedule.specs.Demands.{requested}
use Rattle.schedule.specs.Pairs.{timed_in}
use Rattle.schedule.proofs.Pairing.{left}
use Rattle.schedule.proofs.timed_tasks.TimedTasks.work_requested.Given as goal

-- the sum so far and what the tasks that are left request make the whole
abbrev pub invariant-loop-task : goal.invariant-loop-task
invariant-loop-task l = (l.sum + requested (left l.task-iterator) l.t ≡ l.own + requested (timed_in l.self) l.t) × (l.sum < 2 ^ 64)
