use Rattle.schedule.proofs.Pairing.{both_cut}
use Rattle.schedule.proofs.timed_tasks.TimedTasks.paired.Goals as goal

pub returns : goal.returns
returns c = both_cut c.args.self.tasks.now c.args.self.times.now c.min-count.result c.min-count.ensures
