use Rattle.schedule.specs.Lemmas.Layered.{passes_handed_more, stays_some, tells_handed_more}
use Rattle.schedule.proofs.pile.LayerPile.hand_down.Goals as goal

pub returns-clause-passes : goal.returns-clause-passes
returns-clause-passes g c =
    let layer = c.args.self.now in
    let change = g.C.Change.changed layer.change in
    let some = stays_some change (g.met.C.Change.keeps_order layer.change) (g.met.C.Change.never_shortens layer.change) in
    passes_handed_more change some (g.P.Pile.layers layer.below) (g.P.Test.passes layer.below) c.hand_down.ensures.passes

pub returns-clause-tells : goal.returns-clause-tells
returns-clause-tells g c =
    let layer = c.args.self.now in
    let change = g.C.Change.changed layer.change in
    let some = stays_some change (g.met.C.Change.keeps_order layer.change) (g.met.C.Change.never_shortens layer.change) in
    tells_handed_more change some (g.P.Pile.layers layer.below) (g.P.TimingTest.told layer.below) c.hand_down.ensures.tells
