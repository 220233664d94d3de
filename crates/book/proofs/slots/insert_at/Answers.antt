use Rattle.std.proofs.Common.{arith}
use Rattle.book.proofs.Turns.{insert_eq, insert_rest}
use Rattle.book.proofs.slots.insert_at.Goals as goal

pub returns : goal.returns
returns c =
    let xs = c.args.tasks.now in
    let ys = c.rotate_right.new.self in
    record {
      front = insert_eq xs ys c.args.count c.args.at c.args.task (omega arith) (omega arith) c.rotate_right.ensures.after;
      rest = insert_rest xs ys c.args.count c.args.at c.args.task (omega arith) (omega arith) c.rotate_right.ensures.len;
    }
