use Rattle.std.proofs.Common.{◌≡◌, ℕ, ◌+◌, ◌-◌, ◌≤◌}
use Rattle.schedule.specs.Pairs.{tasks_in}
use Rattle.schedule.proofs.demand.least_solution_from.Given as goal

-- no solution lies below t
abbrev pub invariant-loop-t : goal.invariant-loop-t
invariant-loop-t g l = (1 ≤ l.t) × ((s : ℕ) → 1 ≤ s → s ≡ g.D.Demand.asked l.demand (tasks_in l.timed) l.timed.times.now s → l.t ≤ s)

abbrev pub decreases-loop-t : goal.decreases-loop-t
decreases-loop-t g l = l.limit + 1 - l.t
