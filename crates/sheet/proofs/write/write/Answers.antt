use Rattle.std.proofs.Common.{[], ◌∷◌, refl, ◌∙◌, arith, rules}
use Rattle.book.specs.Books.{holds}
use Rattle.sheet.specs.Encoding.{records_bytes, two_bytes}
use Rattle.sheet.specs.Putting.{Puts}
use Rattle.sheet.specs.declared.writer.Writer.{Writer}
use Rattle.sheet.proofs.Loads.{written_loads}
use Rattle.sheet.proofs.Writes.{puts_on, write_done}
use Rattle.sheet.proofs.write.write.Goals as goal

pub returns-then-buffer-sheet_length-clause-loads : goal.returns-then-buffer-sheet_length-clause-loads
returns-then-buffer-sheet_length-clause-loads c = written_loads c.args.book.now

pub returns-clause-loads : goal.returns-clause-loads
returns-clause-loads c = written_loads c.args.book.now

pub returns-clause-answer : goal.returns-clause-answer
returns-clause-answer c =
    let l = holds c.args.book.now in
    let buffer = c.args.buffer.now in
    let start : Writer = record { buffer = record c.put.new.self.buffer { now = buffer }; at = 0 } in
    let version = c.put.ensures in
    let size = rw (c.to_be_bytes.ensures, c.cache_size.ensures) at c.put-2.ensures in
    let held = c.tasks.ensures.value in
    let put = c.put_records.ensures in
    let records : Puts c.put-2.new.self c.put_records.new.self (records_bytes l.tasks) = (cc, cc, cc) in
    let out = puts_on start c.put-2.new.self c.put_records.new.self (1 ∷ two_bytes l.cache) (records_bytes l.tasks) (omega arith)
    (puts_on start c.put.new.self c.put-2.new.self (1 ∷ []) (two_bytes l.cache) (omega arith) (refl, version.1, version.2) size) records in
    write_done l buffer _ c.put_records.new.self.at (omega arith) (omega arith) (search rules ∙ out.1)
