use Rattle.std.proofs.Common.{◌≡◌, ◌-◌, ◌++◌, length}
use Rattle.book.specs.Books.{holds}
use Rattle.sheet.specs.Decoding.{decode}
use Rattle.sheet.specs.Encoding.{encode}
use Rattle.sheet.proofs.Sheets.{decoded_from}
use Rattle.sheet.proofs.read.read_sheet.Given as goal

abbrev pub invariant-loop-reader : goal.invariant-loop-reader
invariant-loop-reader l =
    let left = l.reader.bytes.now in
    (decoded_from (holds l.book) (length l.sheet - length left) left ≡ decode l.sheet) × (l.sheet ≡ encode (holds l.book) ++ left)

abbrev pub decreases-loop-reader : goal.decreases-loop-reader
decreases-loop-reader l = length l.reader.bytes.now
