use Rattle.std.proofs.Common.{arith}
use Rattle.sheet.proofs.Writes.{task_bytes, tasks_append, tasks_bytes, tasks_one, turn_puts, turn_room}
use Rattle.sheet.proofs.writer.Writer.put_records.Goals as goal

pub put_record-requires : goal.put_record-requires
put_record-requires c =
    turn_room tasks_bytes task_bytes tasks_append tasks_one c.args.self.now c.loop-task.self c.args.tasks.now c.loop-task.task-index c.task-item.result
    (omega arith) c.task-item.is c.requires c.loop-task.invariant

pub loop-task-preserved : goal.loop-task-preserved
loop-task-preserved c =
    turn_puts tasks_bytes task_bytes tasks_append tasks_one c.args.self.now c.loop-task.self c.put_record.new.self c.args.tasks.now
    c.loop-task.task-index c.task-item.result (omega arith) c.task-item.is c.requires c.loop-task.invariant c.put_record.ensures
