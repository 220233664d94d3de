use Rattle.std.proofs.Common.{◌≡◌, ◌≤◌, drop, is_some}
use Rattle.std.specs.List.{list_all}
use Rattle.schedule.specs.FixedPriority.{response}
use Rattle.schedule.specs.Interference.{NotBefore}
use Rattle.schedule.specs.Pairs.{tasks_in, timed_in}
use Rattle.schedule.proofs.fixed_priority.FixedPriorityTest.ask.Given as goal

-- the tasks from the place on decide, and the task at it responds later than the longest response so far
abbrev pub invariant-loop-place : goal.invariant-loop-place
invariant-loop-place l =
    let ks = timed_in l.timed in
    (list_all (λ k. is_some (response ks k)) ks ≡ list_all (λ k. is_some (response ks k)) (drop l.place ks)) × (l.longest ≤ 1000000)
    × NotBefore (tasks_in l.timed) l.timed.times.now l.place l.longest
