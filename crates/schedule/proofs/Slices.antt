-- The tasks that a book lends keep the rules that its ledger keeps.
use Rattle.std.proofs.Common.{◌≡◌, ℕ, ◌<◌, ◌≤◌, List, map, length, sym, ap, subst, arith}
use Rattle.std.proofs.lemmas.List.{length-map}
use Rattle.book.specs.Held.{record_of}
use Rattle.book.specs.Keeping.{KeepsRules}
use Rattle.book.specs.Ledger.{Ledger, number_of}
use Rattle.book.specs.Rules.{Ascending}
use Rattle.book.specs.declared.task.Task.{Task}

module _ (ts : List Task) (l : Ledger) (lent : map record_of ts ≡ l.tasks) (keeps : KeepsRules l) where
  pub slice_ascends : Ascending (map number_of (map record_of ts))
  slice_ascends = subst (λ rs. Ascending (map number_of rs)) (sym lent) keeps.ascending

  pub slice_few : length ts ≤ 16
  slice_few = omega (arith, length-map ts record_of, ap length lent, keeps.few)

-- a place among the tasks is one among their records
pub slice_here : (ts : List Task) (place : ℕ) → place < length ts → place < length (map record_of ts)
slice_here ts place lt = omega (arith, length-map ts record_of)

pub slice_past : (ts : List Task) (place : ℕ) → length ts ≤ place → length (map record_of ts) ≤ place
slice_past ts place le = omega (arith, length-map ts record_of)
