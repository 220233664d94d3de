use Rattle.std.proofs.Common.{get_or, arith}
use Rattle.std.proofs.lemmas.List.{get_or_default}
use Rattle.sheet.specs.Encoding.{four_bytes, time_bytes}
use Rattle.sheet.proofs.Bytes.{times_append}
use Rattle.sheet.proofs.Writes.{times_one, turn_puts, turn_room}
use Rattle.sheet.proofs.writer.Writer.put_times.Goals as goal

pub put-requires : goal.put-requires
put-requires c =
    let ts = c.args.times.now in
    let i = c.loop-time.time-index in
    let t = get_or ts i 0 in
    rw c.to_be_bytes.ensures
    (turn_room time_bytes four_bytes times_append times_one c.args.self.now c.loop-time.self ts i t (omega arith) (get_or_default ts i 0 t (omega arith))
    c.requires c.loop-time.invariant)

pub loop-time-preserved : goal.loop-time-preserved
loop-time-preserved c =
    let ts = c.args.times.now in
    let i = c.loop-time.time-index in
    let t = get_or ts i 0 in
    turn_puts time_bytes four_bytes times_append times_one c.args.self.now c.loop-time.self c.put.new.self ts i t (omega arith)
    (get_or_default ts i 0 t (omega arith)) c.requires c.loop-time.invariant (rw c.to_be_bytes.ensures at c.put.ensures)
