-- How the earliest-deadline test is decided: the loop over the tasks, and the way down from an end.
use Rattle.std.proofs.Common.{◌≡◌, ℕ, ◌+◌, ◌-◌, ◌*◌, ◌/◌, ◌<◌, ◌≤◌, max, List, ◌∷◌, ap, ◌∙◌, ⊎_elim, mul-le-mul_right, div-add-mod', arith}
use Rattle.std.proofs.lemmas.Bool.{cases_lt}
use Rattle.book.proofs.Keeps.{all_keep}
use Rattle.schedule.specs.Deciding.{MetBefore}
use Rattle.schedule.specs.Demands.{dues, processor_demand}
use Rattle.schedule.specs.Pairs.{tasks_in, timed_in}
use Rattle.schedule.specs.Timed.{Timed}
use Rattle.schedule.specs.declared.timed_tasks.TimedTasks.{TimedTasks}
use Rattle.schedule.specs.Lemmas.Counts.{dues_reach, dues_some}
use Rattle.schedule.specs.Lemmas.Sums.{demand_grows, demand_none, formed}

-- What the loop has found of the whole list: the work that is due by the last instant, where that of the tasks that are left is
-- added, and an instant by which it is due.
abbrev pub DueSoFar : List Timed → List Timed → ℕ → ℕ → ℕ → Type 0
DueSoFar whole left last work latest =
    (work + processor_demand left last ≡ processor_demand whole last) × (latest ≤ last)
    × ((u : ℕ) → latest ≤ u → work + processor_demand left u ≤ processor_demand whole u)

-- one task on, whose deadline is by the last instant
pub due_more : (whole left later : List Timed) (last work latest : ℕ) (k : Timed) → DueSoFar whole left last work latest → left ≡ k ∷ later → k.deadline ≤ last → 1 ≤ k.period → (latest' : ℕ)
    → latest' ≡ max latest ((last - k.deadline) / k.period * k.period + k.deadline) → DueSoFar whole later last (work + ((last - k.deadline) / k.period + 1) * k.time) latest'
due_more whole left later last work latest k inv first due some latest' is =
    let q = (last - k.deadline) / k.period in
    let d = div-add-mod' (last - k.deadline) k.period in
    let more : (u : ℕ) → processor_demand left u ≡ dues u k.deadline k.period * k.time + processor_demand later u = (λ u. ap (λ ks. processor_demand ks u) first) in
    let count : dues last k.deadline k.period * k.time ≡ (q + 1) * k.time = ap (λ n. n * k.time) (dues_some last k.deadline k.period due) in
    let reach : (u : ℕ) → latest' ≤ u → (q + 1) * k.time ≤ dues u k.deadline k.period * k.time =
    (λ u le. mul-le-mul_right k.time (omega (arith, dues_reach u k.deadline k.period q some (omega arith)))) in
    (omega (arith, more last, inv.0, count), omega (arith, inv.1), λ u le. omega (arith, more u, inv.2 u (omega arith), reach u le))

-- The way down: more work is due by an instant than there are ticks, so the demand is not met before the end.
pub not_met : (s : TimedTasks) (end latest work : ℕ) → latest < end → work ≤ processor_demand (timed_in s) latest → latest < work → MetBefore (timed_in s) end → ⊥
not_met s end latest work lt steady less met =
    ⊎_elim
    (λ (some : 0 < latest). absurd (omega (arith, met latest some lt)))
    (λ (none : latest ≤ 0). let e : latest ≡ 0 = omega arith in
    let z : processor_demand (timed_in s) latest ≡ 0 = ap (processor_demand (timed_in s)) e ∙ demand_none (timed_in s) (formed (tasks_in s) s.times.now (all_keep s.tasks.now)) in
    absurd (omega arith))
    (cases_lt 0 latest)

-- Every instant from the work due by t - 1 up to t is met.
pub met_down : (ks : List Timed) (end t work : ℕ) → work ≡ processor_demand ks (t - 1) → ((u : ℕ) → t ≤ u → u < end → processor_demand ks u ≤ u)
    → (u : ℕ) → work ≤ u → u < end → processor_demand ks u ≤ u
met_down ks end t work is above u le lt =
    ⊎_elim
    (λ (l : u < t). omega (arith, demand_grows ks u (t - 1) (omega arith)))
    (λ (l : t ≤ u). above u l lt)
    (cases_lt u t)
