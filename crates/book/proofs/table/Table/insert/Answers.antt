use Rattle.std.proofs.Common.{refl, arith, rules}
use Rattle.book.specs.Held.{blank, fields}
use Rattle.book.proofs.Moves.{spare_less}
use Rattle.book.proofs.Tables.{room_cycle, inserted_ascends, inserted_cycle, inserted_done}
use Rattle.book.proofs.table.Table.insert.Goals as goal

pub returns-then-cycle-gt-LONGEST_CYCLE : goal.returns-then-cycle-gt-LONGEST_CYCLE
returns-then-cycle-gt-LONGEST_CYCLE c =
    (room_cycle c.args.self.now c.args.task c.args.at c.lcm-cycle.result c.requires c.lcm-cycle.ensures _ (omega arith) (omega arith), refl)

pub invariant_of-self : goal.invariant_of-self
invariant_of-self c =
    let t = c.args.self.now in
    let new = c.insert_at.new.tasks in
    let front = c.insert_at.ensures.front in record {
      few = search rules;
      ascending = inserted_ascends t c.args.task c.args.at c.lcm-cycle.result c.requires c.lcm-cycle.ensures _ front;
      cyclic = (inserted_cycle t c.args.task c.args.at c.lcm-cycle.result c.requires c.lcm-cycle.ensures _ front, omega arith);
      spare = spare_less fields t.tasks new t.count blank t.spare c.insert_at.ensures.rest;
    }

pub returns : goal.returns
returns c =
    inserted_done c.args.self.now c.args.task c.args.at c.lcm-cycle.result c.requires c.lcm-cycle.ensures _ (omega arith) (omega arith)
    c.insert_at.ensures.front
