-- What a reader takes off the front of the bytes that are left, or the fault that it gives.
use Rattle.std.specs.Prelude.{◌≡◌, ℕ, ◌+◌, ◌*◌, ◌<◌, true, false, List, [], ◌∷◌, ◌++◌, length, drop, Ok, Err, Result, slice_index}
use Rattle.book.specs.Books.{holds}
use Rattle.book.specs.Checks.{judged}
use Rattle.book.specs.Ledger.{TaskRecord}
use Rattle.book.specs.declared.book.Book.{Book}
use Rattle.book.specs.declared.refusal.Refusal.{Refusal}
use Rattle.book.specs.declared.refusal.Refusal.TheVariants as r
use Rattle.sheet.specs.Decoding.{bad_length, decode, head_checks, placed, record_at, record_checks}
use Rattle.sheet.specs.Encoding.{encode, record_bytes, two_bytes}
use Rattle.sheet.specs.declared.fault.Fault.{Fault}
use Rattle.sheet.specs.declared.reader.Reader.{Reader}

abbrev pub fault : Refusal → ℕ → Fault
fault e place = record { refusal = e; place = place }

-- these bytes are taken off the front, and the place stays
abbrev pub Took : Reader → Reader → List ℕ → Type 0
Took old new bytes = (old.bytes.now ≡ bytes ++ new.bytes.now) × (new.place ≡ old.place)

-- a value of so many bytes, or there are fewer
abbrev pub Takes : {A : Type 0} → Reader → Reader → ℕ → (A → List ℕ) → Result A Fault → Type 0
Takes old new size bytes (Ok x) = (length (bytes x) ≡ size) × Took old new (bytes x)
Takes old new size bytes (Err f) = (length old.bytes.now < size) × (f ≡ fault r.Cut old.place)

-- how many times a record has, by its length byte
abbrev pub CountRead : Reader → Reader → Result ℕ Fault → Type 0
CountRead old new (Ok count) = (bad_length (9 + 4 * count) ≡ false) × Took old new ((9 + 4 * count) ∷ [])
CountRead old new (Err f) = 0 < length old.bytes.now → (bad_length (slice_index old.bytes.now 0) ≡ true) × (f ≡ fault r.Length old.place)

-- the cache size of a sheet; whether it is in range is for the book to say
abbrev pub SizeRead : Reader → Reader → Result ℕ Fault → Type 0
SizeRead old new (Ok size) = (size < 65536) × Took old new (1 ∷ two_bytes size)
SizeRead old new (Err f) = placed old.place (judged {A = Unit {0}} (head_checks old.bytes.now) tt) ≡ Err f

-- the record in front of some bytes, and the tasks of a book with it
abbrev pub first_record : List ℕ → TaskRecord
first_record s = record_at (slice_index s 0) (drop 1 s)

abbrev pub loaded : List ℕ → List TaskRecord → Result (List TaskRecord) Refusal
loaded s ts = judged (record_checks (slice_index s 0) (drop 1 s) ts) (ts ++ first_record s ∷ [])

-- one record more in a book, or the first fault
abbrev pub RecordLoaded : Book → Book → Reader → Reader → Result (Unit {0}) Fault → Type 0
RecordLoaded book book' old new (Ok u) =
    (loaded old.bytes.now (holds book).tasks ≡ Ok (holds book').tasks) × ((holds book').cache ≡ (holds book).cache)
    × Took old new (record_bytes (first_record old.bytes.now))
RecordLoaded book book' old new (Err f) = 0 < length old.bytes.now → placed old.place (loaded old.bytes.now (holds book).tasks) ≡ Err f

-- the book of a whole sheet
abbrev pub SheetRead : List ℕ → Result Book Fault → Type 0
SheetRead s (Ok b) = (decode s ≡ Ok (holds b)) × (s ≡ encode (holds b))
SheetRead s (Err f) = decode s ≡ Err f
