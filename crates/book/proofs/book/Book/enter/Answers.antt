use Rattle.std.proofs.Common.{rules}
use Rattle.book.proofs.Books.{book_entered}
use Rattle.book.proofs.book.Book.enter.Goals as goal

pub returns : goal.returns
returns c = let made = c.in_ok-task.ensures in search (rules, book_entered)
