use Rattle.std.proofs.Common.{◌≡◌, map, sym, ap, ◌∙◌, arith}
use Rattle.std.proofs.lemmas.Slice.Zip.{either_empty_from_Zip}
use Rattle.book.specs.Books.{records_in, used}
use Rattle.book.specs.Classes.{chosen_times, work_in}
use Rattle.book.specs.Hyperperiod.{hyperperiod}
use Rattle.book.specs.Ledger.{period_of}
use Rattle.book.proofs.ClassLists.{work_end, work_left}
use Rattle.book.proofs.Tables.{record_periods}
use Rattle.book.proofs.table.Table.total_work.Goals as goal

pub returns : goal.returns
returns c =
    let t = c.args.self.now in
    let cs = c.args.classes.now in
    let left = either_empty_from_Zip c.loop-task.task-iterator c.next.new.self c.next.result c.in-None.is c.next.ensures.steps in
    let all : c.loop-task.sum ≡ work_left t.cycle (used t) cs = omega (arith, c.loop-task.invariant.0, work_end t.cycle _ _ left) in
    let cycle : t.cycle ≡ hyperperiod (map period_of (records_in t)) = t.cyclic.0 ∙ ap hyperperiod (sym (record_periods (used t))) in
    all ∙ ap (λ h. work_in h (records_in t) (chosen_times (records_in t) cs)) cycle
