-- A task whose row is amended.
use Rattle.std.proofs.Common.{◌≡◌, ℕ, ◌≤◌, List, [], Err}
use Rattle.book.specs.Checks.{judged}
use Rattle.book.specs.Entering.{row_checks, task_checks}
use Rattle.book.specs.Ledger.{task_record}
use Rattle.book.specs.declared.refusal.Refusal.{Refusal}
use Rattle.std.proofs.lemmas.Bool.{ne_eqb}
use Rattle.book.proofs.Answered.{refused_by}
use Rattle.book.proofs.Rows.{outside_not}

-- a row that is refused refuses the task, whose other parts passed
pub row_refused : (n p d : ℕ) (ts : List ℕ) (e : Refusal) → (n ≡ 0 → ⊥) → 1 ≤ p → p ≤ 1000000 → 1 ≤ d → d ≤ p → judged (row_checks ts) ts ≡ Err e
    → judged (task_checks (task_record n p d ts)) (task_record n p d ts) ≡ Err e
row_refused n p d ts e some p-lo p-hi d-lo d-hi h =
    rw (ne_eqb n 0 some, outside_not 1 1000000 p p-lo p-hi, outside_not 1 p d d-lo d-hi) (refused_by (row_checks ts) [] ts (task_record n p d ts) e h)
