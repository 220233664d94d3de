use Rattle.std.proofs.Common.{Ok, sym, refl, ap, ◌∙◌, arith, rules}
use Rattle.std.proofs.Common.{◌≡◌, false}
use Rattle.book.specs.Checks.{outside}
use Rattle.book.proofs.Rows.{inside_from, amend_above, amend_below, amend_done, take_set_in}
use Rattle.book.proofs.row.Row.amend.Goals as goal

pub returns-then-time-self : goal.returns-then-time-self
returns-then-time-self c =
    let s = c.args.self.now in
    let o : outside 1 1000000 c.args.time ≡ false = search rules in
    let range = inside_from 1 1000000 c.args.time o in (
      amend_above s.times s.count c.args.class c.args.time (omega arith) _ (omega arith) range.0 range.1 (omega arith) c.if-time-self.true,
      refl,
    )

pub returns-then-self-class : goal.returns-then-self-class
returns-then-self-class c =
    let s = c.args.self.now in
    let o : outside 1 1000000 c.args.time ≡ false = search rules in
    let range = inside_from 1 1000000 c.args.time o in (
      amend_below s.times s.count c.args.class c.args.time (omega arith) _ (omega arith) range.0 range.1 (omega arith) c.if-self-class.true,
      refl,
    )

pub returns : goal.returns
returns c =
    let s = c.args.self.now in
    let o : outside 1 1000000 c.args.time ≡ false = search rules in
    let range = inside_from 1 1000000 c.args.time o in
    amend_done s.times s.count c.args.class c.args.time (omega arith) _ (omega arith) range.0 range.1 (search rules) (search rules) s.falling
    ∙ ap Ok (sym (take_set_in s.count s.times c.args.class c.args.time))
