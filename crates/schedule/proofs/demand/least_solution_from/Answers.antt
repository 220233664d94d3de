use Rattle.std.proofs.Common.{ℕ, ◌<◌, ◌≤◌, ⊎_elim, arith}
use Rattle.std.proofs.lemmas.Bool.{cases_lt}
use Rattle.schedule.specs.Lemmas.Solutions.{below_some}
use Rattle.schedule.specs.Pairs.{tasks_in}
use Rattle.schedule.proofs.demand.least_solution_from.Goals as goal

pub loop-t-smaller : goal.loop-t-smaller
loop-t-smaller g c =
    let d = c.args.demand.now in
    let ts = tasks_in c.args.timed in
    let xs = c.args.timed.times.now in
    let f : ℕ → ℕ = g.D.Demand.asked d ts xs in
    let met = g.met.D.Demand in
    let t = c.loop-t.t in
    ⊎_elim
    (λ (l : t < c.in_ok-next.next). omega arith)
    (λ (l : c.in_ok-next.next ≤ t).
    let b = below_some f (met.some d ts xs) (met.grows d ts xs) t c.loop-t.invariant.0 (omega (arith, c.in_ok-next.ensures.1)) in
    absurd (omega (arith, b.2, c.in_ok-next.ensures.1, c.loop-t.invariant.1 b.0 b.1 b.3, c.if-next-t.false)))
    (cases_lt t c.in_ok-next.next)
