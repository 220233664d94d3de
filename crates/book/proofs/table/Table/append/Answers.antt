use Rattle.std.proofs.Common.{◌≡◌, true, nat_lt, rules}
use Rattle.std.proofs.lemmas.Bool.{ltb-true}
use Rattle.book.specs.Books.{records_in}
use Rattle.book.specs.Entering.{last_number}
use Rattle.book.proofs.Places.{behind_last}
use Rattle.book.proofs.table.Table.append.Goals as goal

pub insert-requires : goal.insert-requires
insert-requires c =
    let t = c.args.self.now in
    let yes-behind : nat_lt (last_number (records_in t)) c.args.task.number ≡ true = search rules in
    behind_last t c.args.task.number (ltb-true (last_number (records_in t)) c.args.task.number yes-behind)
