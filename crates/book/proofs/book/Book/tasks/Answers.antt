use Rattle.book.proofs.Keeps.{book_keeps}
use Rattle.book.proofs.book.Book.tasks.Goals as goal

pub returns-clause-keeps : goal.returns-clause-keeps
returns-clause-keeps c = book_keeps c.args.self.now
