use Rattle.std.proofs.Common.{◌≡◌, take, ap, ◌∙◌, arith}
use Rattle.std.proofs.lemmas.List.{take_all}
use Rattle.std.proofs.lemmas.Result.{err_from_is_err_and}
use Rattle.sheet.proofs.Bytes.{time_bytes_long}
use Rattle.sheet.proofs.Times.{times_cut, times_more}
use Rattle.sheet.specs.Reading.{fault}
use Rattle.book.specs.declared.refusal.Refusal.TheVariants as r
use Rattle.sheet.proofs.reader.Reader.times.Goals as goal

pub returns-in_err-time : goal.returns-in_err-time
returns-in_err-time c =
    let inv = c.loop-time.invariant in
    let cut = c.in_err-time.ensures in
    let p = err_from_is_err_and c.from_residual.result c.from_residual.ensures.1 in
    rw (p.1, p.2)
    (omega (arith, times_cut _ _ c.loop-time.times c.loop-time.time-index (omega arith) inv.0 cut.0), cut.1 ∙ ap (fault r.Cut) inv.1)

pub loop-time-preserved : goal.loop-time-preserved
loop-time-preserved c =
    let inv = c.loop-time.invariant in
    let one = c.in_ok-time.ensures in
    (times_more _ _ c.loop-time.times c.loop-time.time-index (omega arith) inv.0 _ _ one.1.0, one.1.1 ∙ inv.1)

pub returns : goal.returns
returns c =
    let all : take c.loop-time.time-index c.loop-time.times ≡ c.loop-time.times = take_all _ _ (omega arith) in
    (omega (arith, time_bytes_long c.loop-time.times), rw all at c.loop-time.invariant)
