-- What a change of either kind does to a time.
use Rattle.std.specs.Prelude.{ℕ}
use Rattle.schedule.specs.Layers.{charged, widened}
use Rattle.schedule.specs.declared.any_change.AnyChange.{AnyChange}
use Rattle.schedule.specs.declared.any_change.AnyChange.TheVariants as any

abbrev pub changed_by : AnyChange → ℕ → ℕ
changed_by (any.Charge c) x = charged c.ticks x
changed_by (any.Margin m) x = widened m.thousandths x
