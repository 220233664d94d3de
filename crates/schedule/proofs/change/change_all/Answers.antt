use Rattle.std.proofs.Common.{arith}
use Rattle.std.proofs.lemmas.Grind.{common_steps}
use Rattle.std.proofs.lemmas.List.Edits.{map_over_more}
use Rattle.schedule.proofs.change.change_all.Goals as goal

pub loop-time-preserved : goal.loop-time-preserved
loop-time-preserved g c = grind (arith, common_steps, map_over_more (g.C.Change.changed c.args.change.now))
