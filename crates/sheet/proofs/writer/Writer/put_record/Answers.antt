use Rattle.std.proofs.Common.{◌+◌, ◌*◌, [], ◌∷◌, ◌++◌, List, ℕ, length, arith}
use Rattle.book.specs.Held.{times_in}
use Rattle.sheet.specs.Encoding.{four_bytes, time_bytes}
use Rattle.sheet.proofs.Writes.{puts_on}
use Rattle.sheet.proofs.writer.Writer.put_record.Goals as goal

pub returns : goal.returns
returns c =
    let t = c.args.task.now in
    let row = c.times-times.ensures in
    let front : List ℕ = (9 + 4 * length (times_in t.row)) ∷ t.number ∷ [] in
    let one = rw row at c.put.ensures in
    let two = rw c.to_be_bytes.ensures at c.put-2.ensures in
    let three = rw c.to_be_bytes-2.ensures at c.put-3.ensures in
    let four = rw row at c.put_times.ensures in
    puts_on c.args.self.now c.put-3.new.self c.put_times.new.self (front ++ four_bytes t.period ++ four_bytes t.deadline) (time_bytes (times_in t.row)) (omega arith)
    (puts_on c.args.self.now c.put-2.new.self c.put-3.new.self (front ++ four_bytes t.period) (four_bytes t.deadline) (omega arith)
    (puts_on c.args.self.now c.put.new.self c.put-2.new.self front (four_bytes t.period) (omega arith) one two) three) four
