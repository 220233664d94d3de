-- One record more: what its readers took off the bytes is the record that the definition reads there.
use Rattle.std.proofs.Common.{◌≡◌, ℕ, ◌+◌, ◌*◌, ◌<◌, ◌≤◌, false, List, ◌++◌, length, get_or, Ok, Err, Result, sym, ap, ◌∙◌, arith}
use Rattle.std.proofs.lemmas.List.{length-append}
use Rattle.std.proofs.lemmas.Bool.{le-ltb}
use Rattle.book.specs.Books.{append_answer, holds, with_tasks}
use Rattle.book.specs.Checks.{Did}
use Rattle.book.specs.Entering.{append_tasks}
use Rattle.book.specs.Ledger.{Ledger, TaskRecord}
use Rattle.book.specs.declared.book.Book.{Book}
use Rattle.book.specs.declared.refusal.Refusal.{Refusal}
use Rattle.sheet.specs.Decoding.{bad_length, placed}
use Rattle.sheet.specs.Encoding.{body_bytes, record_bytes}
use Rattle.sheet.specs.Reading.{RecordLoaded, Took, first_record, loaded}
use Rattle.sheet.specs.declared.fault.Fault.{Fault}
use Rattle.sheet.specs.declared.reader.Reader.{Reader}
use Rattle.sheet.proofs.Bytes.{body_long, record_reads}

-- what a ledger with other tasks says of the tasks
with_ok : (l m : Ledger) (a : Result (List TaskRecord) Refusal) → with_tasks l a ≡ Ok m → (a ≡ Ok m.tasks) × (m.cache ≡ l.cache)
with_ok l m (Ok ts) e =
    let same : record { cache = l.cache; tasks = ts } ≡ m = cc in
    (ap Ok (λ j. (same j).tasks), λ j. (sym same j).cache)
with_ok l m (Err q) e = cc

with_err : (l : Ledger) (a : Result (List TaskRecord) Refusal) (q : Refusal) → with_tasks l a ≡ Err q → a ≡ Err q
with_err l (Ok ts) q e = cc
with_err l (Err p) q e = cc

module _ (t : TaskRecord) (good : bad_length (9 + 4 * length t.times) ≡ false) (period : t.period < 4294967296) (deadline : t.deadline < 4294967296)
    (times : (k : ℕ) → k < length t.times → get_or t.times k 0 < 4294967296) where
  record_is : (rest : List ℕ) → first_record (record_bytes t ++ rest) ≡ t
  record_is rest = record_reads t rest period deadline times

  -- its checks are those of a task that is put behind the others
  pub loaded_is : (rest : List ℕ) (ts : List TaskRecord) → loaded (record_bytes t ++ rest) ts ≡ append_tasks t ts
  loaded_is rest ts =
      let whole : 9 + 4 * length t.times ≤ length (body_bytes t ++ rest) = omega (arith, length-append (body_bytes t) rest, body_long t) in
      rw (good, le-ltb (length (body_bytes t ++ rest)) (9 + 4 * length t.times) whole) (ap (λ u. append_tasks u ts) (record_is rest))

  -- the book's answer, with its place
  pub record_loaded : (book book' : Book) (old new : Reader) (a : Result (Unit {0}) Refusal) (b : Result (Unit {0}) Fault) → Took old new (record_bytes t)
      → Did holds book book' (append_answer (holds book) t) a → b ≡ placed new.place a → RecordLoaded book book' old new b
  record_loaded book book' old new (Ok v) b took did e =
      let w = with_ok (holds book) (holds book') (append_tasks t (holds book).tasks) did in
      let is : first_record old.bytes.now ≡ t = ap first_record took.0 ∙ record_is new.bytes.now in
      rw e (
        ap (λ s. loaded s (holds book).tasks) took.0 ∙ loaded_is new.bytes.now (holds book).tasks ∙ w.0,
        w.1,
        (took.0 ∙ ap (λ u. record_bytes u ++ new.bytes.now) (sym is), took.1),
      )
  record_loaded book book' old new (Err q) b took did e =
      rw (e, took.0, took.1)
      (λ some. ap (placed old.place) (loaded_is new.bytes.now (holds book).tasks ∙ with_err (holds book) (append_tasks t (holds book).tasks) q did.0))
