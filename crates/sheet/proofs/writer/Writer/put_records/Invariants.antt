use Rattle.std.proofs.Common.{map, take}
use Rattle.book.specs.Held.{record_of}
use Rattle.sheet.specs.Encoding.{records_bytes}
use Rattle.sheet.specs.Putting.{Puts}
use Rattle.sheet.proofs.writer.Writer.put_records.Given as goal

abbrev pub invariant-loop-task : goal.invariant-loop-task
invariant-loop-task l = Puts l.initial.self l.self (records_bytes (map record_of (take l.task-index l.tasks)))
