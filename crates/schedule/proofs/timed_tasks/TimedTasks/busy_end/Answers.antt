use Rattle.std.proofs.Common.{ℕ, max, Some, None, Option, unwrap_or, sym, subst, arith}
use Rattle.book.proofs.Keeps.{all_keep}
use Rattle.schedule.specs.Deciding.{Suffices}
use Rattle.schedule.specs.Demands.{requested}
use Rattle.schedule.specs.Least.{Least}
use Rattle.schedule.specs.Pairs.{tasks_in, timed_in}
use Rattle.schedule.specs.declared.timed_tasks.TimedTasks.{TimedTasks}
use Rattle.schedule.specs.Lemmas.Sums.{enough, formed}
use Rattle.schedule.proofs.timed_tasks.TimedTasks.busy_end.Goals as goal

busy_suffices : (s : TimedTasks) (limit : ℕ) (r : Option ℕ) → Least (λ t. max 1 (requested (timed_in s) t)) limit r → Suffices (timed_in s) limit → Suffices (timed_in s) (unwrap_or r limit)
busy_suffices s limit (Some busy) l whole =
    λ met. enough (timed_in s) (formed (tasks_in s) s.times.now (all_keep s.tasks.now)) busy l.0 (omega (arith, l.2)) met
busy_suffices s limit None l whole = whole

pub returns-clause-suffices : goal.returns-clause-suffices
returns-clause-suffices c =
    let s = c.args.self in
    let limit = c.args.limit in
    subst (λ n. Suffices (timed_in s) limit → Suffices (timed_in s) n) (sym c.unwrap_or.ensures) (busy_suffices s limit c.least_solution.result c.least_solution.ensures)
