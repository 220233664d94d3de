use Rattle.std.proofs.Common.{rules, arith, ◌≡◌, length}
use Rattle.std.proofs.lemmas.Grind.{common_steps}
use Rattle.book.specs.Ledger.{TaskRecord, task_record}
use Rattle.sheet.specs.Encoding.{record_bytes}
use Rattle.sheet.specs.Reading.{Took}
use Rattle.sheet.proofs.Records.{record_loaded}
use Rattle.sheet.proofs.read.load_record.Goals as goal

pub returns : goal.returns
returns c =
    let t : TaskRecord = task_record c.in_ok-number.number c.in_ok-period.period c.in_ok-deadline.deadline c.times.new.times in
    let count = c.in_ok-count.ensures in
    let number = c.in_ok-number.ensures in
    let period = c.in_ok-period.ensures in
    let deadline = c.in_ok-deadline.ensures in
    let times = c.in_ok-times.ensures in
    let long : c.in_ok-count.count ≡ length t.times = grind (arith, common_steps) in
    let took : Took c.args.reader.now c.times.new.self (record_bytes t) = (cc, cc) in
    record_loaded t (rw (← long) count.0) (omega arith) (omega arith) (search rules) c.args.book.now c.append.new.self
    c.args.reader.now c.times.new.self c.append.result c.placed.result took c.append.ensures c.placed.ensures
