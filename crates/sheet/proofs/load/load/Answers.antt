use Rattle.std.proofs.lemmas.Result.{err_from_is_err_and}
use Rattle.sheet.proofs.Loads.{loads_itself, refused_unwritten}
use Rattle.sheet.proofs.load.load.Goals as goal

pub returns-in_err-book-clause-written : goal.returns-in_err-book-clause-written
returns-in_err-book-clause-written c =
    let p = err_from_is_err_and c.from_residual.result c.from_residual.ensures.1 in
    rw p.1 (refused_unwritten c.args.sheet.now _ c.in_err-book.ensures)

pub returns-in_err-book-clause-itself : goal.returns-in_err-book-clause-itself
returns-in_err-book-clause-itself c = λ b w. absurd (refused_unwritten c.args.sheet.now _ c.in_err-book.ensures b w)

pub returns-clause-itself : goal.returns-clause-itself
returns-clause-itself c = λ b. loads_itself c.args.sheet.now c.in_ok-book.field-0 b c.in_ok-book.ensures.0
