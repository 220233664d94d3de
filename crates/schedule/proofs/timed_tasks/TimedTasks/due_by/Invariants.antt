use Rattle.schedule.specs.Pairs.{timed_in}
use Rattle.schedule.proofs.Demanding.{DueSoFar}
use Rattle.schedule.proofs.Pairing.{left}
use Rattle.schedule.proofs.timed_tasks.TimedTasks.due_by.Given as goal

abbrev pub invariant-loop-task : goal.invariant-loop-task
invariant-loop-task l = DueSoFar (timed_in l.self) (left l.task-iterator) l.last l.work l.latest
