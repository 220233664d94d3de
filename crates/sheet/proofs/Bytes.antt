-- What is written as bytes is read back.
use Rattle.std.proofs.Common.{◌≡◌, ℕ, zero, suc, ◌+◌, ◌*◌, ◌/◌, ◌%◌, ◌<◌, ◌≤◌, false, List, [], ◌∷◌, ◌++◌, length, get_or, sym, refl, ap, arith}
use native.Mathlib.Nat.{div-div-eq-div-mul}
use Rattle.std.proofs.lemmas.List.{append_assoc}
use Rattle.std.proofs.lemmas.Bool.{or_from, eq-eqb, not_from_true}
use Rattle.book.specs.Ledger.{TaskRecord}
use Rattle.book.proofs.Rows.{outside_not}
use Rattle.sheet.specs.Encoding.{two_bytes, four_bytes, time_bytes, body_bytes, record_bytes, records_bytes}
use Rattle.sheet.specs.Decoding.{value2, value4, values, time_count, bad_length, record_at}

-- a number of two bytes is read back
pub value_two : (n : ℕ) (s : List ℕ) → n < 65536 → value2 (two_bytes n ++ s) ≡ n
value_two n s h = omega arith

-- a number of four bytes is read back
pub value_four : (n : ℕ) (s : List ℕ) → n < 4294967296 → value4 (four_bytes n ++ s) ≡ n
value_four n s h =
    let x : n / 65536 * 65536 + n / 256 % 256 * 256 + n % 256 ≡ n = omega (arith, div-div-eq-div-mul n 256 256) in
    let y : n / 16777216 * 256 + n / 65536 % 256 ≡ n / 65536 = omega (arith, div-div-eq-div-mul n 65536 256) in
    let z : n / 16777216 % 256 ≡ n / 16777216 = omega arith in
    omega arith

-- the times are read back
pub values_times : (ts s : List ℕ) → ((k : ℕ) → k < length ts → get_or ts k 0 < 4294967296) → values (length ts) (time_bytes ts ++ s) ≡ ts
values_times [] s h = refl
values_times (t ∷ ts) s h = rw (value_four t (time_bytes ts ++ s) (h zero (omega arith)), values_times ts s (λ k lt. h (suc k) (omega arith)))

-- a time takes four bytes
pub time_bytes_long : (ts : List ℕ) → length (time_bytes ts) ≡ 4 * length ts
time_bytes_long [] = refl
time_bytes_long (t ∷ ts) = omega (arith, time_bytes_long ts)

pub times_append : (ts us : List ℕ) → time_bytes (ts ++ us) ≡ time_bytes ts ++ time_bytes us
times_append [] us = refl
times_append (t ∷ ts) us = ap (λ zs. four_bytes t ++ zs) (times_append ts us)

-- what follows the length byte is as long as it says
pub body_long : (t : TaskRecord) → length (body_bytes t) ≡ 9 + 4 * length t.times
body_long t = omega (arith, time_bytes_long t.times)

-- the length byte says how many times there are
pub time_count_is : (k : ℕ) → time_count (9 + 4 * k) ≡ k
time_count_is k = omega arith

-- the length byte of a row of 1 to 11 times is good
pub good_length : (k : ℕ) → 1 ≤ k → k ≤ 11 → bad_length (9 + 4 * k) ≡ false
good_length k p q = rw time_count_is (or_from _ _ (outside_not 1 11 k p q) (not_from_true _ (eq-eqb (9 + 4 * k) (9 + 4 * k) refl)))

-- a record is read back
pub record_reads : (t : TaskRecord) (s : List ℕ) → t.period < 4294967296 → t.deadline < 4294967296
    → ((k : ℕ) → k < length t.times → get_or t.times k 0 < 4294967296) → record_at (9 + 4 * length t.times) (body_bytes t ++ s) ≡ t
record_reads t s p d h =
    let e = time_count_is (length t.times) in
    let x = value_four t.period (four_bytes t.deadline ++ time_bytes t.times ++ s) p in
    let y = value_four t.deadline (time_bytes t.times ++ s) d in
    let z = values_times t.times s h in
    rw (e, x, y, z)

-- the records of two lists stand one after another
pub records_append : (ts us : List TaskRecord) → records_bytes (ts ++ us) ≡ records_bytes ts ++ records_bytes us
records_append [] us = refl
records_append (t ∷ ts) us = rw (records_append ts us) (sym (append_assoc (record_bytes t) (records_bytes ts) (records_bytes us)))
