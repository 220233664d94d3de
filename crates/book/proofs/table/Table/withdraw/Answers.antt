use Rattle.std.proofs.Common.{map, drop, refl, arith, rules}
use Rattle.book.specs.Held.{blank, fields}
use Rattle.book.proofs.Amends.{withdraw_done, withdraw_unknown}
use Rattle.book.proofs.Moves.{spare_more}
use Rattle.book.proofs.Periods.{left_within}
use Rattle.book.proofs.Tables.{removed_ascends}
use Rattle.book.proofs.table.Table.withdraw.Goals as goal

pub returns-in_default : goal.returns-in_default
returns-in_default c = (withdraw_unknown c.args.self.now c.args.number c.in_default.field-0 c.in_default.ensures, refl)

pub hyperperiod-self-requires : goal.hyperperiod-self-requires
hyperperiod-self-requires c =
    let t = c.args.self.now in
    left_within t.tasks c.remove_at.new.tasks t.count c.in-Ok.at (omega (arith, t.few)) c.in-Ok.ensures.0 c.remove_at.ensures.front (omega (arith, t.cyclic))

pub invariant_of-self : goal.invariant_of-self
invariant_of-self c =
    let t = c.args.self.now in
    let done = c.remove_at.ensures in
    let found = c.in-Ok.ensures in record {
      few = search rules;
      ascending = removed_ascends t c.in-Ok.at found.0 _ done.front;
      cyclic = (c.hyperperiod-self.ensures, omega (arith, c.hyperperiod-self.ensures, left_within t.tasks c.remove_at.new.tasks t.count c.in-Ok.at (omega (arith, t.few)) found.0 done.front (omega (arith, t.cyclic))));
      spare = spare_more blank t.count _ (map fields (drop t.count t.tasks)) (omega (arith, found.0)) (omega (arith, t.few)) done.rest t.spare;
    }

pub returns : goal.returns
returns c =
    withdraw_done c.args.self.now c.args.number c.in-Ok.at _ c.in-Ok.ensures c.remove_at.ensures.front
