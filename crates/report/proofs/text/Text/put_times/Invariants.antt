use Rattle.std.proofs.Common.{◌≡◌, ◌+◌, ◌*◌, ◌≤◌, ◌++◌, take}
use Rattle.report.specs.Held.{text_in}
use Rattle.report.specs.Texts.{spaced}
use Rattle.report.proofs.text.Text.put_times.Given as goal

abbrev pub invariant-loop-time : goal.invariant-loop-time
invariant-loop-time l =
    (text_in l.self ≡ text_in l.initial.self ++ spaced (take l.time-index l.times)) × (l.self.count ≤ l.initial.self.count + 21 * l.time-index)
