use Rattle.std.proofs.Common.{◌*◌, ◌/◌, subst, arith}
use Rattle.book.specs.Divisors.{IsLcm}
use Rattle.book.proofs.Multiples.{gcd_pos, lcm_is}
use Rattle.book.proofs.multiple.lcm.Goals as goal

pub nonzero_div-result : goal.nonzero_div-result
nonzero_div-result c = gcd_pos c.from-period.result c.args.whole c.gcd.result (omega arith) c.gcd.ensures

pub returns : goal.returns
returns c =
    let p = c.from-period.result in
    subst (λ n. IsLcm n c.args.whole (p / c.gcd.result * c.args.whole)) c.from-period.ensures (lcm_is p c.args.whole c.gcd.result (omega arith) c.gcd.ensures)
