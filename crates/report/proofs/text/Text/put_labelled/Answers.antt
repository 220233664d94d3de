use Rattle.std.proofs.Common.{decimal, arith}
use Rattle.report.specs.Held.{text_in}
use Rattle.report.proofs.Puts.{number_short, two_puts}
use Rattle.report.proofs.text.Text.put_labelled.Goals as goal

pub put_number-requires : goal.put_number-requires
put_number-requires c = omega (arith, c.requires, c.put.ensures.count, number_short c.args.n (omega arith))

pub returns : goal.returns
returns c =
    record {
      after =
          two_puts (text_in c.args.self.now) (text_in c.put.new.self) (text_in c.put_number.new.self) c.args.label.now (decimal c.args.n)
          c.put.ensures.after c.put_number.ensures.after;
      few = omega (arith, c.put.ensures.count, c.put_number.ensures.count, number_short c.args.n (omega arith));
    }
