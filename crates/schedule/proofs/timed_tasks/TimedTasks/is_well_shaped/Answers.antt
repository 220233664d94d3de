use Rattle.std.proofs.Common.{rules, ltb, arith}
use Rattle.std.proofs.lemmas.Grind.{common_steps}
use Rattle.std.proofs.lemmas.Iterator.{YieldsList-from_slice}
use Rattle.std.proofs.lemmas.Iterator.Search.{all_from_yields_List}
use borrow.Author.Tests.{tests}
use Rattle.schedule.proofs.timed_tasks.TimedTasks.is_well_shaped.Goals as goal

pub returns-then-self : goal.returns-then-self
returns-then-self c =
    let e = all_from_yields_List (ltb 0) c.all.new.self _ c.all.result c.all.ensures.ran (YieldsList-from_slice c.args.self.times.now cc) (λ x b q k. search (rules, tests)) in
    grind (arith, common_steps)
