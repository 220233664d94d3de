use Rattle.std.proofs.Common.{◌∷◌, get_or, decimal, arith}
use Rattle.std.proofs.lemmas.List.{get_or_default}
use Rattle.report.specs.Held.{text_in}
use Rattle.report.specs.Texts.{spaced}
use Rattle.report.proofs.Puts.{puts_more, spaced_joins, spaced_one}
use Rattle.report.proofs.text.Text.put_times.Goals as goal

pub loop-time-preserved : goal.loop-time-preserved
loop-time-preserved c =
    let ts = c.args.times.now in
    let i = c.loop-time.time-index in (
      puts_more spaced (λ x. 32 ∷ decimal x) spaced_joins spaced_one ts i (get_or ts i 0) (text_in c.args.self.now) (text_in c.loop-time.self)
          (text_in c.put_labelled.new.self) (omega arith) (get_or_default ts i 0 (get_or ts i 0) (omega arith)) c.loop-time.invariant.0 c.put_labelled.ensures.after,
      omega (arith, c.loop-time.invariant.1, c.put_labelled.ensures.few),
    )
