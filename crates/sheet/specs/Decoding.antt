-- What loading a sheet answers: a ledger, or the first fault and its place.
use Rattle.std.specs.Prelude.{ℕ, zero, suc, ◌+◌, ◌-◌, ◌*◌, ◌/◌, Bool, not, ◌||◌, List, [], ◌∷◌, ◌++◌, length, drop, Ok, Err, Result, ◌==◌, nat_le, nat_lt, slice_index}
use Rattle.book.specs.Checks.{Check, judged, outside}
use Rattle.book.specs.Entering.{enter_checks, last_number}
use Rattle.book.specs.Ledger.{Ledger, TaskRecord, task_record}
use Rattle.book.specs.declared.refusal.Refusal.{Refusal}
use Rattle.book.specs.declared.refusal.Refusal.TheVariants as r
use Rattle.sheet.specs.declared.fault.Fault.{Fault}

-- the number in the first two bytes, and in the first four
abbrev pub value2 : List ℕ → ℕ
value2 s = slice_index s 0 * 256 + slice_index s 1

abbrev pub value4 : List ℕ → ℕ
value4 s = slice_index s 0 * 16777216 + slice_index s 1 * 65536 + slice_index s 2 * 256 + slice_index s 3

-- k numbers of four bytes
abbrev pub values : ℕ → List ℕ → List ℕ
values zero s = []
values (suc k) s = value4 s ∷ values k (drop 4 s)

-- how many times a record of this length byte has
abbrev pub time_count : ℕ → ℕ
time_count len = (len - 9) / 4

-- the length byte is not 9 + 4k for a k from 1 to 11
abbrev pub bad_length : ℕ → Bool
bad_length len = outside 1 11 (time_count len) || not (len == 9 + 4 * time_count len)

-- the record in the bytes behind its length byte
abbrev pub record_at : ℕ → List ℕ → TaskRecord
record_at len s = task_record (slice_index s 0) (value4 (drop 1 s)) (value4 (drop 5 s)) (values (time_count len) (drop 9 s))

-- the checks on the head: there is a byte, the version, there are three bytes, the cache size
abbrev pub head_checks : List ℕ → List Check
head_checks s =
    ((length s == 0), r.Cut) ∷ (not (slice_index s 0 == 1), r.Version) ∷ (nat_lt (length s) 3, r.Cut)
    ∷ (outside 1 1024 (value2 (drop 1 s)), r.Cache) ∷ []

-- the checks on a record behind the tasks read so far: its length byte, that it is whole, then those of a task that is entered,
-- but that its number has to be above the one before it
abbrev pub record_checks : ℕ → List ℕ → List TaskRecord → List Check
record_checks len s ts =
    (bad_length len, r.Length) ∷ (nat_lt (length s) len, r.Cut)
    ∷ enter_checks (nat_le (record_at len s).number (last_number ts), r.Order) (record_at len s) ts

-- a refusal, with its place
abbrev pub placed : {A : Type 0} → ℕ → Result A Refusal → Result A Fault
placed place (Ok x) = Ok x
placed place (Err e) = Err (record { refusal = e; place = place })

-- what comes next, where there is no fault
abbrev pub and_then : {A B : Type 0} → Result A Fault → (A → Result B Fault) → Result B Fault
and_then (Ok x) next = next x
and_then (Err f) next = Err f

-- the records from a place on, behind the tasks read so far; at most `most` of them, and a sheet has fewer records than bytes
abbrev pub read_records : ℕ → ℕ → List TaskRecord → List ℕ → Result (List TaskRecord) Fault
read_records zero place ts s = Ok ts
read_records (suc most) place ts [] = Ok ts
read_records (suc most) place ts (len ∷ s) =
    and_then (placed place (judged (record_checks len s ts) (ts ++ record_at len s ∷ [])))
    (λ more. read_records most (place + suc len) more (drop len s))

-- the whole sheet
abbrev pub decode : List ℕ → Result Ledger Fault
decode s =
    and_then (placed 0 (judged (head_checks s) (value2 (drop 1 s))))
    (λ size. and_then (read_records (length s) 3 [] (drop 3 s)) (λ ts. Ok (record { cache = size; tasks = ts })))
