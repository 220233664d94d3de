-- What tasks ask of the processor: the work that they can release in t ticks, and the work that can be due by t.
use Rattle.std.specs.Prelude.{ℕ, ◌+◌, ◌-◌, ◌*◌, ◌/◌, cond, List, [], ◌∷◌, nat_le}
use Rattle.schedule.specs.Timed.{Timed}

-- the most jobs that a task of this period releases in t ticks: t / period, rounded up
unfoldable pub releases : ℕ → ℕ → ℕ
releases t period = (t + (period - 1)) / period

-- the work that the tasks release in t ticks, at most: the sum of releases times execution time
abbrev pub requested : List Timed → ℕ → ℕ
requested [] t = 0
requested (k ∷ ks) t = releases t k.period * k.time + requested ks t

-- the most jobs of a task that are both released and due within t ticks: (t - deadline) / period, rounded down, and one more
unfoldable pub dues : ℕ → ℕ → ℕ → ℕ
dues t deadline period = cond (nat_le deadline t) ((t - deadline) / period + 1) 0

-- the processor demand of t ticks: the sum of the jobs due times execution time, over the tasks with deadline ≤ t
abbrev pub processor_demand : List Timed → ℕ → ℕ
processor_demand [] t = 0
processor_demand (k ∷ ks) t = dues t k.deadline k.period * k.time + processor_demand ks t
