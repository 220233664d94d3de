use Rattle.std.proofs.Common.{◌≡◌, ◌++◌, map, take, drop}
use Rattle.schedule.proofs.change.change_all.Given as goal

-- the times in front are changed, those behind are as they were
abbrev pub invariant-loop-time : goal.invariant-loop-time
invariant-loop-time g l = l.times ≡ map (g.C.Change.changed l.change) (take l.time-index l.initial.times) ++ drop l.time-index l.initial.times
