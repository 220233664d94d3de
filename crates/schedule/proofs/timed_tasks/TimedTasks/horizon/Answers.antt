use Rattle.std.proofs.Common.{◌≡◌, ◌+◌, ◌-◌, ◌/◌, min, ap, ◌∙◌, arith}
use Rattle.book.proofs.Keeps.{all_keep}
use Rattle.book.specs.Classes.{work_in}
use Rattle.schedule.specs.Deciding.{early_work}
use Rattle.schedule.specs.Pairs.{tasks_in, timed_in}
use Rattle.schedule.specs.Lemmas.Bounds.{cycle_suffices, limit_suffices}
use Rattle.schedule.proofs.timed_tasks.TimedTasks.horizon.Goals as goal

pub returns-then-load-cycle-2 : goal.returns-then-load-cycle-2
returns-then-load-cycle-2 c =
    let s = c.args.self in
    let b = c.busy_end.ensures in (
      b.some,
      b.within,
      b.suffices (cycle_suffices (tasks_in s) s.times.now (all_keep s.tasks.now) c.args.cycle c.requires.divides c.requires.some
          (omega (arith, c.cycle_load-load.ensures.work, c.if-load-cycle.false))),
    )

pub returns : goal.returns
returns c =
    let b = c.busy_end-2.ensures in
    let load = c.cycle_load-load in
    let s = c.args.self in
    let rs = tasks_in s in
    let xs = s.times.now in
    let limit = c.min-limit.result in
    let is : limit ≡ min c.args.cycle (early_work c.args.cycle (timed_in s) / (c.args.cycle - work_in c.args.cycle rs xs) + 1) =
    c.min-limit.ensures ∙ ap (λ n. min c.args.cycle (n / (c.args.cycle - load.result.work) + 1)) load.ensures.early
    ∙ ap (λ n. min c.args.cycle (early_work c.args.cycle (timed_in s) / (c.args.cycle - n) + 1)) load.ensures.work in (
      b.some,
      omega (arith, b.within, c.min-limit.ensures),
      b.suffices (limit_suffices rs xs (all_keep s.tasks.now) c.args.cycle c.requires.divides c.requires.some (omega (arith, load.ensures.work, c.if-load-cycle.false, c.if-load-cycle-2.false)) limit is),
    )
