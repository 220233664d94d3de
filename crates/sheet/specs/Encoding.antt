-- The sheet of a ledger. A number of more than one byte has its highest byte first.
use Rattle.std.specs.Prelude.{ℕ, ◌+◌, ◌*◌, ◌/◌, ◌%◌, List, [], ◌∷◌, ◌++◌, length}
use Rattle.book.specs.Ledger.{Ledger, TaskRecord}

abbrev pub two_bytes : ℕ → List ℕ
two_bytes n = n / 256 % 256 ∷ n % 256 ∷ []

abbrev pub four_bytes : ℕ → List ℕ
four_bytes n = n / 16777216 % 256 ∷ n / 65536 % 256 ∷ n / 256 % 256 ∷ n % 256 ∷ []

abbrev pub time_bytes : List ℕ → List ℕ
time_bytes [] = []
time_bytes (t ∷ ts) = four_bytes t ++ time_bytes ts

-- the number in one byte, the period, the deadline and the times in four bytes each
abbrev pub body_bytes : TaskRecord → List ℕ
body_bytes t = t.number ∷ (four_bytes t.period ++ (four_bytes t.deadline ++ time_bytes t.times))

-- a record is led by a byte that counts the bytes after it
abbrev pub record_bytes : TaskRecord → List ℕ
record_bytes t = (9 + 4 * length t.times) ∷ body_bytes t

abbrev pub records_bytes : List TaskRecord → List ℕ
records_bytes [] = []
records_bytes (t ∷ ts) = record_bytes t ++ records_bytes ts

-- the version 1, the cache size in two bytes, then the records to the end
abbrev pub encode : Ledger → List ℕ
encode l = 1 ∷ (two_bytes l.cache ++ records_bytes l.tasks)
