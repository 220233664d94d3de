use Rattle.std.proofs.Common.{replicate, sym, ap, arith}
use Rattle.book.proofs.Multiples.{hyperperiod_none}
use Rattle.book.proofs.table.Table.empty.Goals as goal

pub invariant_of-result : goal.invariant_of-result
invariant_of-result c = record {
  few = (omega arith, omega arith);
  ascending = λ k h. omega arith;
  cyclic = (sym hyperperiod_none, omega arith);
  spare = ap (replicate 16) c.blank.ensures;
}
