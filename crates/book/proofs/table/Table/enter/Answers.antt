use Rattle.std.proofs.Common.{refl, rules}
use Rattle.book.proofs.Tables.{enter_taken, table_entered}
use Rattle.book.proofs.table.Table.enter.Goals as goal

pub returns-in_default : goal.returns-in_default
returns-in_default c = (enter_taken c.args.self.now c.args.task c.in_default.field-0 c.in_default.ensures, refl)

pub returns : goal.returns
returns c = search (rules, table_entered)
