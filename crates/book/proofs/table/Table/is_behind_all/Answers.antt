use Rattle.std.proofs.Common.{◌-◌, List, length, rules, ap, ◌∙◌}
use borrow.Author.Tests.{tests}
use Rattle.std.specs.List.{slice_get}
use Rattle.book.specs.declared.task.Task.{Task}
use Rattle.book.specs.Books.{used}
use Rattle.book.proofs.Places.{behind_all}
use Rattle.book.proofs.table.Table.is_behind_all.Goals as goal

pub returns : goal.returns
returns c =
    let t = c.args.self.now in
    behind_all (used t) c.args.number c.last.result c.is_none_or.result _
    (c.last.ensures.value ∙ ap (λ (ts : List Task). slice_get ts (length ts - 1)) c.tasks.ensures) c.requires c.is_none_or.ensures (λ x p. search (rules, tests))
