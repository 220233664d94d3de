use Rattle.std.proofs.Common.{arith}
use Rattle.book.specs.Held.{blank, fields}
use Rattle.book.proofs.Turns.{remove_front, remove_rest}
use Rattle.book.proofs.slots.remove_at.Goals as goal

pub returns : goal.returns
returns c =
    let xs = c.args.tasks.now in
    let ys = c.rotate_left.new.self in
    record {
      front = remove_front xs ys c.args.count c.args.at c.blank.result (omega arith) (omega arith) c.rotate_left.ensures.after;
      rest = remove_rest fields xs ys c.args.count c.args.at c.blank.result blank (omega arith) (omega arith) c.rotate_left.ensures.len c.blank.ensures;
    }
