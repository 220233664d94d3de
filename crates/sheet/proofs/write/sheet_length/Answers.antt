use Rattle.std.proofs.Common.{◌≡◌, ◌+◌, ◌≤◌, length, ap, ◌∙◌, arith, rules}
use Rattle.std.specs.List.{sum_by}
use Rattle.book.specs.Books.{holds}
use Rattle.book.specs.Held.{record_of}
use Rattle.sheet.specs.Encoding.{encode, record_bytes}
use Rattle.sheet.proofs.Writes.{sheet_long, sheet_short}
use Rattle.sheet.proofs.write.sheet_length.Goals as goal
use Rattle.sheet.proofs.write.sheet_length.Goals.{After-sum}

pub sum-requires-clause-fits : goal.sum-requires-clause-fits
sum-requires-clause-fits c =
    let short = sheet_short (holds c.args.book.now) c.tasks.result.now c.tasks.ensures.value c.tasks.ensures.keeps in
    search rules

-- the sum is that of the records, and small
total : (c : After-sum) → (3 + c.sum.result ≡ length (encode (holds c.args.book.now))) × (c.sum.result ≤ 864)
total c =
    let sum : c.sum.result ≡ sum_by (λ t. length (record_bytes (record_of t))) c.tasks.result.now = search rules in (
      ap (λ n. 3 + n) sum ∙ sheet_long (holds c.args.book.now) c.tasks.result.now c.tasks.ensures.value,
      omega (arith, sheet_short (holds c.args.book.now) c.tasks.result.now c.tasks.ensures.value c.tasks.ensures.keeps),
    )

pub overflow_add-result : goal.overflow_add-result
overflow_add-result c = record { fits = omega (arith, total c) }

pub returns : goal.returns
returns c = record { value = (total c).0; bound = omega (arith, total c) }
