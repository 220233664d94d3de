use Rattle.std.proofs.Common.{refl, sym, ◌∙◌}
use Rattle.std.proofs.lemmas.List.{length-map}
use Rattle.std.proofs.lemmas.Result.{err_from_is_err_and}
use Rattle.book.specs.Books.{records_in, used}
use Rattle.book.specs.Held.{record_of}
use Rattle.book.proofs.ClassLists.{names_long}
use Rattle.book.proofs.ListCalls.{list_passed, times_put, times_refused}
use Rattle.book.proofs.book.Book.list_times.Goals as goal

pub returns-in_err-count : goal.returns-in_err-count
returns-in_err-count c =
    let p = err_from_is_err_and c.from_residual.result c.from_residual.ensures.1 in
    rw (p.1, p.2) (times_refused (records_in c.args.self.now.table) c.args.classes.now c.args.buffer.now _ (sym c.in_err-count.ensures), refl)

pub put_times-requires : goal.put_times-requires
put_times-requires c =
    let b = c.args.self.now in
    let passed = list_passed (records_in b.table) c.args.classes.now c.args.buffer.now c.in_ok-count.count (sym c.in_ok-count.ensures) in
    record { named = sym (length-map (used b.table) record_of) ∙ sym (names_long (records_in b.table) c.args.classes.now passed.0); room = passed.1.1 }

pub returns : goal.returns
returns c =
    let ts = records_in c.args.self.now.table in
    let cs = c.args.classes.now in
    let passed = list_passed ts cs c.args.buffer.now c.in_ok-count.count (sym c.in_ok-count.ensures) in
    times_put ts cs c.args.buffer.now c.put_times.new.buffer _ c.args.buffer.now passed.0 passed.1.0 passed.1.1 c.put_times.ensures
