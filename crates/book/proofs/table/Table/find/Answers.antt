use Rattle.std.proofs.Common.{List, length, rules, subst}
use borrow.Author.Tests.{tests}
use Rattle.std.proofs.lemmas.List.Sorted.{answers_always}
use Rattle.std.specs.List.Sorted.{IsBinarySearchResult, IsSearchInRange}
use Rattle.std.specs.Ordering.{nat_cmp}
use Rattle.book.specs.declared.task.Task.{Task}
use Rattle.book.proofs.Searches.{found}
use Rattle.book.proofs.table.Table.find.Goals as goal

pub returns : goal.returns
returns c =
    let search_is = c.binary_search_by_key.ensures in
    let r = c.binary_search_by_key.result in
    found c.args.self.now c.args.number r
    (subst (λ (ts : List Task). IsSearchInRange r (length ts)) c.tasks.ensures search_is.bound)
    (subst (λ (ts : List Task). IsBinarySearchResult (λ u. nat_cmp u.number c.args.number) ts r) c.tasks.ensures
    (search_is.position (λ u. u.number) (answers_always _ _ _ (λ f a r f' k. search (rules, tests)))))
