use Rattle.schedule.proofs.Loading.{LoadSoFar}
use Rattle.schedule.proofs.timed_tasks.TimedTasks.cycle_load.Given as goal

abbrev pub invariant-loop-task : goal.invariant-loop-task
invariant-loop-task l = LoadSoFar l.self l.task-iterator l.cycle l.work l.early
