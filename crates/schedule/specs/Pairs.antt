-- What tasks beside their execution times stand for.
use Rattle.std.specs.Prelude.{List, map}
use Rattle.book.specs.Held.{record_of}
use Rattle.book.specs.Ledger.{TaskRecord}
use Rattle.schedule.specs.Timed.{Timed, timed}
use Rattle.schedule.specs.declared.timed_tasks.TimedTasks.{TimedTasks}

abbrev pub tasks_in : TimedTasks → List TaskRecord
tasks_in s = map record_of s.tasks.now

abbrev pub timed_in : TimedTasks → List Timed
timed_in s = timed (tasks_in s) s.times.now
