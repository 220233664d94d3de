use Rattle.std.proofs.Common.{◌≡◌}
use Rattle.book.specs.Held.{periods}
use Rattle.book.specs.Hyperperiod.{hyperperiod}
use Rattle.book.proofs.slots.hyperperiod.Given as goal

abbrev pub invariant-loop-task : goal.invariant-loop-task
invariant-loop-task l = l.whole ≡ hyperperiod (periods l.tasks l.task-index)
