-- Bytes put into a buffer, and what loading and writing promise of each other.
use Rattle.std.specs.Prelude.{◌≡◌, ℕ, ◌+◌, List, ◌++◌, length, take, drop, Ok, Err, Result, ◌≢◌}
use Rattle.book.specs.Books.{holds}
use Rattle.book.specs.declared.book.Book.{Book}
use Rattle.sheet.specs.Encoding.{encode}
use Rattle.sheet.specs.declared.fault.Fault.{Fault}

-- the buffer with these bytes from a place on
abbrev pub over : List ℕ → ℕ → List ℕ → List ℕ
over buffer at bytes = take at buffer ++ (bytes ++ drop (at + length bytes) buffer)

-- a sheet loads exactly when it is what write gives for some book
abbrev pub LoadsWritten : List ℕ → Book → Result (Unit {0}) Fault → Type 0
LoadsWritten sheet new (Ok u) = sheet ≡ encode (holds new)
LoadsWritten sheet new (Err f) = (b : Book) → sheet ≢ encode (holds b)

-- a written book loads as itself, whole
abbrev pub LoadsItself : List ℕ → Book → Type 0
LoadsItself sheet new = (b : Book) → sheet ≡ encode (holds b) → new ≡ b
