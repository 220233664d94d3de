use Rattle.book.proofs.Multiples.{gcd_base, gcd_step}
use Rattle.book.proofs.multiple.+gcd.Goals as goal

pub returns-then-b-eq0 : goal.returns-then-b-eq0
returns-then-b-eq0 t c = gcd_base c.args.a c.args.b c.if-b-eq0.true

pub returns-else-b-eq0 : goal.returns-else-b-eq0
returns-else-b-eq0 t c = gcd_step c.args.a c.args.b c.gcd.result c.if-b-eq0.false c.gcd.ensures
