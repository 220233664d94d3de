use Rattle.book.proofs.Keeps.{cycle_held, cycle_law}
use Rattle.book.proofs.book.Book.hyperperiod.Goals as goal

pub returns : goal.returns
returns c =
    let t = c.args.self.now.table in
    record { value = cycle_held t; law = cycle_law t; bound = t.cyclic.1 }
