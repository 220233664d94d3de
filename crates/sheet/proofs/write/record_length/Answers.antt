use Rattle.std.proofs.Common.{arith, ap, length}
use Rattle.book.specs.Held.{record_of}
use Rattle.sheet.proofs.Bytes.{body_long}
use Rattle.sheet.proofs.write.record_length.Goals as goal

pub returns : goal.returns
returns c = omega (arith, ap length c.times.ensures, body_long (record_of c.args.task.now))
