-- What is written loads, and nothing else does.
use Rattle.std.proofs.Common.{◌≡◌, ℕ, List, Ok, Err, ap, ◌∙◌}
use Rattle.book.specs.Books.{holds}
use Rattle.book.specs.declared.book.Book.{Book}
use Rattle.book.proofs.Injective.{held_same}
use Rattle.book.proofs.Keeps.{book_keeps}
use Rattle.sheet.specs.Decoding.{decode}
use Rattle.sheet.specs.Encoding.{encode}
use Rattle.sheet.specs.declared.fault.Fault.{Fault}
use Rattle.sheet.proofs.RoundTrip.{round_trip}

-- every written book loads as its ledger
pub written_loads : (b : Book) → decode (encode (holds b)) ≡ Ok (holds b)
written_loads b = round_trip (holds b) (book_keeps b)

-- a sheet that is refused was written for no book
pub refused_unwritten : (s : List ℕ) (f : Fault) → decode s ≡ Err f → (b : Book) → s ≡ encode (holds b) → ⊥
refused_unwritten s f e b w =
    let loads : decode s ≡ Ok (holds b) = ap decode w ∙ written_loads b in
    cc

-- a sheet loads as the book that it was written for
pub loads_itself : (s : List ℕ) (new b : Book) → decode s ≡ Ok (holds new) → s ≡ encode (holds b) → new ≡ b
loads_itself s new b e w =
    let loads : decode s ≡ Ok (holds b) = ap decode w ∙ written_loads b in
    let same : holds new ≡ holds b = cc in
    held_same new b same
