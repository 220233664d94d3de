use Rattle.std.proofs.Common.{take}
use Rattle.sheet.specs.Encoding.{time_bytes}
use Rattle.sheet.specs.Reading.{Took}
use Rattle.sheet.proofs.reader.Reader.times.Given as goal

abbrev pub invariant-loop-time : goal.invariant-loop-time
invariant-loop-time l = Took l.initial.self l.self (time_bytes (take l.time-index l.times))
