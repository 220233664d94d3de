use Rattle.schedule.specs.Lemmas.Layered.{layered_lawful}
use Rattle.schedule.proofs.layer.LayerTest.ask.Goals as goal

pub returns-then-not-hand_below-clause-lawful : goal.returns-then-not-hand_below-clause-lawful
returns-then-not-hand_below-clause-lawful g c =
    let layer = c.args.self.now in
    layered_lawful (g.C.Change.changed layer.change) (g.met.C.Change.keeps_order layer.change) (g.met.C.Change.never_shortens layer.change) (g.T.Test.passes layer.below)
    (g.met.T.Test.lawful layer.below)

pub returns-clause-lawful : goal.returns-clause-lawful
returns-clause-lawful g c =
    let layer = c.args.self.now in
    layered_lawful (g.C.Change.changed layer.change) (g.met.C.Change.keeps_order layer.change) (g.met.C.Change.never_shortens layer.change) (g.T.Test.passes layer.below)
    c.ask.ensures.lawful
