use Rattle.std.proofs.Common.{◌-◌, arith}
use Rattle.std.proofs.lemmas.Bool.{false≢true}
use Rattle.schedule.specs.Pairs.{timed_in}
use Rattle.schedule.specs.Lemmas.Sums.{demand_grows}
use Rattle.schedule.proofs.Demanding.{met_down, not_met}
use Rattle.schedule.proofs.timed_tasks.TimedTasks.is_met_before.Goals as goal

pub due_by-due-requires-clause-fits : goal.due_by-due-requires-clause-fits
due_by-due-requires-clause-fits c =
    omega (arith, demand_grows (timed_in c.args.self) (c.loop-t.t - 1) c.args.end (omega (arith, c.loop-t.invariant.0)), c.requires.fits)

pub returns-then-due : goal.returns-then-due
returns-then-due c =
    let d = c.due_by-due in (
      λ e. absurd (false≢true e),
      λ h. absurd (not_met c.args.self c.args.end d.result.latest d.result.work (omega (arith, d.ensures.within, c.loop-t.invariant.0)) d.ensures.steady c.if-due.true h),
    )

pub loop-t-preserved : goal.loop-t-preserved
loop-t-preserved c =
    let d = c.due_by-due in (
      omega (arith, d.ensures.within, c.loop-t.invariant.0, c.if-due.false),
      met_down (timed_in c.args.self) c.args.end c.loop-t.t d.result.work d.ensures.work c.loop-t.invariant.1,
    )
