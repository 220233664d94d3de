use Rattle.std.proofs.Common.{rules, subst, sym}
use Rattle.std.proofs.lemmas.Iterator.{YieldsList-from_slice, YieldsList-from_zip}
use Rattle.std.proofs.lemmas.Iterator.Search.{all_from_yields_List}
use borrow.Author.Tests.{tests}
use Rattle.schedule.specs.Deciding.{AllTimely}
use Rattle.schedule.specs.Laws.{Exactly}
use Rattle.schedule.specs.Pairs.{timed_in}
use Rattle.schedule.proofs.Shaping.{timely, timely_is}
use Rattle.schedule.proofs.timed_tasks.TimedTasks.is_timely.Goals as goal

pub returns : goal.returns
returns c =
    let s = c.args.self in
    let e = all_from_yields_List timely c.all.new.self _ c.all.result c.all.ensures.ran (YieldsList-from_zip (YieldsList-from_slice s.tasks.now cc) (YieldsList-from_slice s.times.now cc)) (λ x b q k. search (rules, tests)) in
    subst (λ b. Exactly b (AllTimely (timed_in s))) (sym e) (timely_is s.tasks.now s.times.now)
