use Rattle.std.proofs.Common.{ℕ, ◌<◌, ◌≤◌}
use Rattle.schedule.specs.Demands.{processor_demand}
use Rattle.schedule.specs.Pairs.{timed_in}
use Rattle.schedule.proofs.timed_tasks.TimedTasks.is_met_before.Given as goal

-- the demand is met from t to the end
abbrev pub invariant-loop-t : goal.invariant-loop-t
invariant-loop-t l = (l.t ≤ l.end) × ((u : ℕ) → l.t ≤ u → u < l.end → processor_demand (timed_in l.self) u ≤ u)

abbrev pub decreases-loop-t : goal.decreases-loop-t
decreases-loop-t l = l.t
