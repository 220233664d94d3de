-- How the earliest-deadline test is decided without looking at every instant: words of its inner functions' contracts.
use Rattle.std.specs.Prelude.{ℕ, ◌+◌, ◌-◌, ◌*◌, ◌/◌, ◌<◌, ◌≤◌, List, [], ◌∷◌, Some, None, Option}
use Rattle.book.specs.Classes.{work_in}
use Rattle.book.specs.Ledger.{TaskRecord}
use Rattle.schedule.specs.Demands.{processor_demand}
use Rattle.schedule.specs.EarliestDeadline.{DemandMet}
use Rattle.schedule.specs.Timed.{Timed, timed}

-- no time exceeds its deadline
abbrev pub AllTimely : List Timed → Type 0
AllTimely [] = Unit {0}
AllTimely (k ∷ ks) = (k.time ≤ k.deadline) × AllTimely ks

-- the demand is met at every instant before the end
abbrev pub MetBefore : List Timed → ℕ → Type 0
MetBefore ks end = (t : ℕ) → 1 ≤ t → t < end → processor_demand ks t ≤ t

-- meeting the demand before the end is meeting it at every instant
abbrev pub Suffices : List Timed → ℕ → Type 0
Suffices ks end = MetBefore ks end → DemandMet ks

-- the work of a cycle, each task's share of it times the ticks by which its deadline comes before its period's end
abbrev pub early_work : ℕ → List Timed → ℕ
early_work cycle [] = 0
early_work cycle (k ∷ ks) = (k.period - k.deadline) * (cycle / k.period * k.time) + early_work cycle ks

-- an end up to the cycle whose instants suffice; or none, and the work of the cycle exceeds it
abbrev pub Horizon : List TaskRecord → List ℕ → ℕ → Option ℕ → Type 0
Horizon ts xs cycle (Some end) = (1 ≤ end) × (end ≤ cycle) × Suffices (timed ts xs) end
Horizon ts xs cycle None = cycle < work_in cycle ts xs
