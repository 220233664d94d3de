-- The loop over the records of a sheet, one record at a time.
use Rattle.std.proofs.Common.{◌≡◌, ℕ, zero, suc, ◌+◌, ◌-◌, ◌*◌, ◌<◌, ◌≤◌, List, [], ◌∷◌, ◌++◌, length, get_or, drop, Ok, Err, Result, sym, refl, ap, ◌∙◌, arith}
use Rattle.std.proofs.lemmas.List.{append_assoc, append-nil, drop_at, length-append, length-drop}
use Rattle.std.proofs.lemmas.Bool.{le-ltb, ne_eqb}
use Rattle.book.specs.Books.{holds, make_answer}
use Rattle.book.specs.Checks.{Did, judged, outside}
use Rattle.book.specs.Ledger.{Ledger, TaskRecord, begun}
use Rattle.book.specs.declared.book.Book.{Book}
use Rattle.book.specs.declared.refusal.Refusal.{Refusal}
use Rattle.book.specs.declared.refusal.Refusal.TheVariants as r
use Rattle.book.proofs.Answered.{done_same, passed_on}
use Rattle.sheet.specs.Decoding.{and_then, decode, head_checks, placed, read_records, record_at, record_checks, value2}
use Rattle.sheet.specs.Encoding.{body_bytes, encode, record_bytes, records_bytes, two_bytes}
use Rattle.sheet.specs.Reading.{first_record, loaded}
use Rattle.sheet.specs.declared.fault.Fault.{Fault}
use Rattle.sheet.proofs.Bytes.{body_long, records_append, value_two}

-- what the sheet gives from a place on, where the ledger holds what was read before it
abbrev pub decoded_from : Ledger → ℕ → List ℕ → Result Ledger Fault
decoded_from l place s = and_then (read_records (length s) place l.tasks s) (λ ts. Ok (record { cache = l.cache; tasks = ts }))

then_same : {A B : Type 0} (a : Result A Fault) (F G : A → Result B Fault) → ((x : A) → F x ≡ G x) → and_then a F ≡ and_then a G
then_same (Ok x) F G h = h x
then_same (Err f) F G h = refl

-- more turns than bytes change nothing
read_more : (f g place : ℕ) (ts : List TaskRecord) (s : List ℕ) → length s ≤ f → length s ≤ g → read_records f place ts s ≡ read_records g place ts s
read_more zero zero place ts s p q = refl
read_more zero (suc g) place ts [] p q = refl
read_more zero (suc g) place ts (b ∷ s) p q = absurd (omega arith)
read_more (suc f) zero place ts [] p q = refl
read_more (suc f) zero place ts (b ∷ s) p q = absurd (omega arith)
read_more (suc f) (suc g) place ts [] p q = refl
read_more (suc f) (suc g) place ts (b ∷ s) p q =
    then_same (placed place (judged (record_checks b s ts) (ts ++ record_at b s ∷ []))) _ _
    (λ more. read_more f g (place + suc b) more (drop b s) (omega (arith, length-drop b s)) (omega (arith, length-drop b s)))

-- what is left behind a record
rest_is : (len : ℕ) (s rest : List ℕ) (t : TaskRecord) → len ∷ s ≡ record_bytes t ++ rest → (rest ≡ drop len s) × (length s ≡ len + length rest)
rest_is len s rest t e =
    let size : len ≡ 9 + 4 * length t.times = cc in
    let body : s ≡ body_bytes t ++ rest = cc in (
      sym (ap (drop len) body ∙ drop_at (body_bytes t) rest len (body_long t ∙ sym size)),
      omega (arith, ap length body, length-append (body_bytes t) rest, body_long t),
    )

-- one record more
one_more : (old new : Ledger) (len place : ℕ) (s rest : List ℕ) → loaded (len ∷ s) old.tasks ≡ Ok new.tasks → new.cache ≡ old.cache
    → len ∷ s ≡ record_bytes (first_record (len ∷ s)) ++ rest → decoded_from old place (len ∷ s) ≡ decoded_from new (place + suc len) rest
one_more old new len place s rest e c b =
    let d = rest_is len s rest (first_record (len ∷ s)) b in
    let stay : Result (List TaskRecord) Fault → Result Ledger Fault = λ a. and_then a (λ ts. Ok (record { cache = old.cache; tasks = ts })) in
    ap (λ a. stay (and_then (placed place a) (λ more. read_records (length s) (place + suc len) more (drop len s)))) e
    ∙ ap (λ zs. stay (read_records (length s) (place + suc len) new.tasks zs)) (sym d.0)
    ∙ ap stay (read_more (length s) (length rest) (place + suc len) new.tasks rest (omega (arith, d.1)) (omega arith))
    ∙ ap (λ size. and_then (read_records (length rest) (place + suc len) new.tasks rest) (λ ts. Ok (record { cache = size; tasks = ts }))) (sym c)

-- the bytes so far are those of the ledger so far
bytes_more : (old new : Ledger) (s rest sheet : List ℕ) → loaded s old.tasks ≡ Ok new.tasks → new.cache ≡ old.cache → s ≡ record_bytes (first_record s) ++ rest
    → sheet ≡ encode old ++ s → sheet ≡ encode new ++ rest
bytes_more old new s rest sheet e c b inv =
    let one = first_record s in
    let tasks : new.tasks ≡ old.tasks ++ one ∷ [] = done_same (record_checks (get_or s 0 0) (drop 1 s) old.tasks) (old.tasks ++ one ∷ []) new.tasks e in
    let bytes : records_bytes new.tasks ≡ records_bytes old.tasks ++ record_bytes one =
    ap records_bytes tasks ∙ records_append old.tasks (one ∷ []) ∙ ap (λ zs. records_bytes old.tasks ++ zs) (append-nil (record_bytes one)) in
    let whole : encode new ≡ encode old ++ record_bytes one = (λ j. 1 ∷ (two_bytes (c j) ++ bytes j)) in
    inv ∙ ap (λ zs. encode old ++ zs) b ∙ sym (append_assoc (encode old) (record_bytes one) rest) ∙ ap (λ zs. zs ++ rest) (sym whole)

abbrev records_of : List ℕ → ℕ → Result Ledger Fault
records_of s size = and_then (read_records (length s) 3 [] (drop 3 s)) (λ ts. Ok (record { cache = size; tasks = ts }))

-- a whole head leaves the answer to the cache size, and then to the records
module _ (s rest : List ℕ) (size : ℕ) (split : s ≡ 1 ∷ (two_bytes size ++ rest)) (small : size < 65536) where
  head_is : {A : Type 0} (done : A) → judged (head_checks s) done ≡ judged ((outside 1 1024 size, r.Cache) ∷ []) done
  head_is done =
      let tail : List ℕ = two_bytes size ++ rest in
      ap (λ zs. judged (head_checks zs) done) split
      ∙ rw (ne_eqb (length (1 ∷ tail)) 0 (λ z. omega arith), le-ltb (length (1 ∷ tail)) 3 (omega arith))
      (ap (λ n. judged ((outside 1 1024 n, r.Cache) ∷ []) done) (value_two size rest small))

  size_is : value2 (drop 1 s) ≡ size
  size_is = ap (λ zs. value2 (drop 1 zs)) split ∙ value_two size rest small

  begins : (l : Ledger) → make_answer size ≡ Ok l → (decode s ≡ decoded_from l 3 rest) × (s ≡ encode l ++ rest) × (length s ≡ 3 + length rest)
  begins l m =
      let start : l ≡ begun size = done_same ((outside 1 1024 size, r.Cache) ∷ []) (begun size) l m in
      let long : length s ≡ 3 + length rest = ap length split ∙ omega arith in (
        ap (λ a. and_then (placed 0 a) (records_of s))
            (head_is (value2 (drop 1 s)) ∙ passed_on ((outside 1 1024 size, r.Cache) ∷ []) [] (begun size) (value2 (drop 1 s)) l m)
            ∙ ap (records_of s) size_is
            ∙ ap (λ zs. and_then (read_records (length s) 3 [] (drop 3 zs)) (λ ts. Ok (record { cache = size; tasks = ts }))) split
            ∙ ap (λ a. and_then a (λ ts. Ok (record { cache = size; tasks = ts }))) (read_more (length s) (length rest) 3 [] rest (omega arith) (omega arith))
            ∙ ap (λ k. decoded_from k 3 rest) (sym start),
        split ∙ ap (λ k. encode k ++ rest) (sym start),
        long,
      )

  pub head_passes : (a : Result (Unit {0}) Refusal) (old new : Book) (u : Unit {0}) (place : ℕ) → Did holds old new (make_answer size) a → Ok u ≡ placed place a
      → (decoded_from (holds new) (length s - length rest) rest ≡ decode s) × (s ≡ encode (holds new) ++ rest)
  head_passes (Ok v) old new u place did e =
      let b = begins (holds new) did in
      let three : length s - length rest ≡ 3 = omega (arith, b.2) in
      (ap (λ place. decoded_from (holds new) place rest) three ∙ sym b.0, b.1)
  head_passes (Err q) old new u place did e = cc

-- one turn of the loop: a record that is loaded leaves the rest
pub turn_more : (old new : Ledger) (sheet left rest : List ℕ) → 0 < length left → decoded_from old (length sheet - length left) left ≡ decode sheet
    → sheet ≡ encode old ++ left → loaded left old.tasks ≡ Ok new.tasks → new.cache ≡ old.cache → left ≡ record_bytes (first_record left) ++ rest
    → (decoded_from new (length sheet - length rest) rest ≡ decode sheet) × (sheet ≡ encode new ++ rest)
turn_more old new sheet [] rest some from bytes e c b = absurd (omega arith)
turn_more old new sheet (len ∷ s) rest some from bytes e c b =
    let d = rest_is len s rest (first_record (len ∷ s)) b in
    let place = length sheet - length (len ∷ s) in
    let on : place + suc len ≡ length sheet - length rest = omega (arith, d.1, ap length bytes, length-append (encode old) (len ∷ s)) in (
      ap (λ p. decoded_from new p rest) (sym on) ∙ sym (one_more old new len place s rest e c b) ∙ from,
      bytes_more old new (len ∷ s) rest sheet e c b bytes,
    )
