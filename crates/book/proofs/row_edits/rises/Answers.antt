use Rattle.std.proofs.Common.{nat_le, rules}
use borrow.Author.Tests.{tests}
use Rattle.std.proofs.lemmas.List.Sorted.{answers_always}
use Rattle.book.proofs.Rows.{falls_or_rises}
use Rattle.book.proofs.row_edits.rises.Goals as goal

pub returns : goal.returns
returns c =
    falls_or_rises c.args.times.now c.is_sorted_by.result
    (c.is_sorted_by.ensures.cases (λ x y. nat_le y x) (answers_always _ _ _ (λ f a r f' k. search (rules, tests))))
