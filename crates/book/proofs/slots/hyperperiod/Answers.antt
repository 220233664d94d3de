use Rattle.std.proofs.Common.{sym, arith}
use Rattle.book.proofs.Multiples.{hyperperiod_none}
use Rattle.book.proofs.Periods.{period_front, period_more}
use Rattle.book.proofs.slots.hyperperiod.Goals as goal

pub loop-task-init : goal.loop-task-init
loop-task-init c = sym hyperperiod_none

pub lcm-whole-requires : goal.lcm-whole-requires
lcm-whole-requires c =
    let t = c.task-item.result in
    record {
      some = omega (arith, t.timed);
      short = omega (arith, t.timed);
      within = omega (arith, c.loop-task.invariant, period_front c.args.tasks.now c.loop-task.task-index, c.requires);
    }

pub loop-task-preserved : goal.loop-task-preserved
loop-task-preserved c =
    period_more c.args.tasks.now c.loop-task.task-index c.task-item.result c.loop-task.whole c.lcm-whole.result
    (omega arith) c.task-item.is c.loop-task.invariant c.lcm-whole.ensures
