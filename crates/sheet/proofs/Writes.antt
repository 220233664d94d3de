-- Bytes put into a buffer one part after the other.
use Rattle.std.proofs.Common.{◌≡◌, ℕ, ◌+◌, ◌*◌, ◌<◌, ◌≤◌, List, [], ◌∷◌, ◌++◌, map, length, get_or, take, drop, Ok, sym, refl, ap, ◌∙◌, arith}
use lib.Seq.{paste}
use Rattle.std.specs.List.{sum_by}
use Rattle.std.proofs.lemmas.List.Recursion.{is_sum_by}
use Rattle.std.proofs.lemmas.List.Edits.{paste_all, paste-paste}
use Rattle.std.proofs.lemmas.Bool.{le-ltb}
use Rattle.std.proofs.lemmas.List.{append-nil, drop_at, length-append, length-drop, length-map, length-take-le, map-append, take-append-drop, take_at, take_more}
use Rattle.book.specs.Checks.{Put, judged, short_check}
use Rattle.book.specs.Held.{record_of}
use Rattle.book.specs.Keeping.{KeepsRules}
use Rattle.book.specs.Ledger.{Ledger}
use Rattle.book.specs.declared.task.Task.{Task}
use Rattle.sheet.specs.Encoding.{encode, four_bytes, record_bytes, records_bytes, time_bytes}
use Rattle.sheet.specs.Writing.{over}
use Rattle.sheet.specs.Putting.{HasRoom, Puts}
use Rattle.sheet.specs.declared.writer.Writer.{Writer}
use Rattle.sheet.proofs.Bytes.{body_long, records_append}

-- one part behind another is both in one
over_over : (buffer : List ℕ) (at : ℕ) (xs ys : List ℕ) → at ≤ length buffer → over (over buffer at xs) (at + length xs) ys ≡ over buffer at (xs ++ ys)
over_over buffer at xs ys le =
    let one = paste_all buffer at xs (length xs) refl in
    let long : length xs + length ys ≡ length (xs ++ ys) = sym (length-append xs ys) in
    sym (paste_all (over buffer at xs) (at + length xs) ys (length ys) refl)
    ∙ ap (λ zs. paste zs (at + length xs) ys (length ys)) (sym one)
    ∙ paste-paste buffer at xs ys (length xs) (length ys) refl refl le
    ∙ ap (paste buffer at (xs ++ ys)) long
    ∙ paste_all buffer at (xs ++ ys) (length (xs ++ ys)) refl

-- the length stays
over_long : (buffer : List ℕ) (at : ℕ) (xs : List ℕ) → at + length xs ≤ length buffer → length (over buffer at xs) ≡ length buffer
over_long buffer at xs le =
    length-append (take at buffer) (xs ++ drop (at + length xs) buffer)
    ∙ omega (arith, length-append xs (drop (at + length xs) buffer), length-take-le at buffer (omega arith), length-drop (at + length xs) buffer)

-- what is left of the room
room_behind : (a b : Writer) (xs ys zs : List ℕ) → HasRoom a zs → length xs + length ys ≤ length zs → Puts a b xs → HasRoom b ys
room_behind a b xs ys zs room le p = omega (arith, ap length p.1, over_long a.buffer.now a.at xs (omega arith), p.2)

-- one part behind another is both in one
pub puts_on : (a b c : Writer) (xs ys : List ℕ) → a.at ≤ length a.buffer.now → Puts a b xs → Puts b c ys → Puts a c (xs ++ ys)
puts_on a b c xs ys le p q = (
  q.0 ∙ p.0,
  q.1 ∙ (λ j. over (p.1 j) (p.2 j) ys) ∙ over_over a.buffer.now a.at xs ys le,
  omega (arith, p.2, q.2, length-append xs ys),
)

-- what is put for each element of a list, one after the other
module _ {X : Type 0} (F : List X → List ℕ) (G : X → List ℕ) (joins : (xs ys : List X) → F (xs ++ ys) ≡ F xs ++ F ys) (one : (x : X) → F (x ∷ []) ≡ G x) where
  pub front_more : (xs : List X) (i : ℕ) (x : X) → i < length xs → x ≡ get_or xs i x → F (take (i + 1) xs) ≡ F (take i xs) ++ G x
  front_more xs i x lt e =
      ap F (take_more xs i x lt ∙ ap (λ y. take i xs ++ y ∷ []) (sym e)) ∙ joins (take i xs) (x ∷ []) ∙ ap (λ zs. F (take i xs) ++ zs) (one x)

  front_fits : (xs : List X) (i : ℕ) → length (F (take i xs)) ≤ length (F xs)
  front_fits xs i =
      omega (arith, ap (λ zs. length (F zs)) (take-append-drop i xs), ap length (joins (take i xs) (drop i xs)), length-append (F (take i xs)) (F (drop i xs)))

  -- there is room for the next element
  pub turn_room : (from now : Writer) (xs : List X) (i : ℕ) (x : X) → i < length xs → x ≡ get_or xs i x → HasRoom from (F xs) → Puts from now (F (take i xs)) → HasRoom now (G x)
  turn_room from now xs i x lt e room p =
      room_behind from now (F (take i xs)) (G x) (F xs) room
      (omega (arith, front_fits xs (i + 1), ap length (front_more xs i x lt e), length-append (F (take i xs)) (G x))) p

  -- one element more
  pub turn_puts : (from now new : Writer) (xs : List X) (i : ℕ) (x : X) → i < length xs → x ≡ get_or xs i x → HasRoom from (F xs) → Puts from now (F (take i xs))
      → Puts now new (G x) → Puts from new (F (take (i + 1) xs))
  turn_puts from now new xs i x lt e room p q =
      rw (front_more xs i x lt e) (puts_on from now new (F (take i xs)) (G x) (omega arith) p q)

pub times_one : (t : ℕ) → time_bytes (t ∷ []) ≡ four_bytes t
times_one t = refl

-- the records of tasks
abbrev pub tasks_bytes : List Task → List ℕ
tasks_bytes ts = records_bytes (map record_of ts)

abbrev pub task_bytes : Task → List ℕ
task_bytes t = record_bytes (record_of t)

pub tasks_append : (ts us : List Task) → tasks_bytes (ts ++ us) ≡ tasks_bytes ts ++ tasks_bytes us
tasks_append ts us = ap records_bytes (map-append record_of ts us) ∙ records_append (map record_of ts) (map record_of us)

pub tasks_one : (t : Task) → tasks_bytes (t ∷ []) ≡ task_bytes t
tasks_one t = append-nil (task_bytes t)

-- a sheet in the front of a buffer
over_front : (buffer xs : List ℕ) → over buffer 0 xs ≡ xs ++ drop (length xs) buffer
over_front buffer xs = let place : 0 + length xs ≡ length xs = omega arith in ap (λ k. xs ++ drop k buffer) place

-- a record of 1 to 11 times has at most 54 bytes
tasks_short : (ts : List Task) → length (tasks_bytes ts) ≤ 54 * length ts
tasks_short [] = omega arith
tasks_short (t ∷ ts) =
    omega (
      arith,
      tasks_short ts,
      length-append (task_bytes t) (tasks_bytes ts),
      body_long (record_of t),
      length-take-le t.row.count t.row.times (omega (arith, t.row.sized)),
      t.row.sized,
    )

-- the length of the sheet of a ledger that tasks hold, record by record
module _ (l : Ledger) (ts : List Task) (held : map record_of ts ≡ l.tasks) where
  records_long : sum_by (λ t. length (task_bytes t)) ts ≡ length (records_bytes l.tasks)
  records_long =
      sym (is_sum_by (λ us. length (tasks_bytes us)) (λ t. length (task_bytes t)) refl (λ t us. length-append (task_bytes t) (tasks_bytes us)) ts)
      ∙ ap (λ rs. length (records_bytes rs)) held

  pub sheet_long : 3 + sum_by (λ t. length (task_bytes t)) ts ≡ length (encode l)
  sheet_long = omega (arith, records_long)

  pub sheet_short : KeepsRules l → sum_by (λ t. length (task_bytes t)) ts ≤ 864
  sheet_short k = omega (arith, records_long, ap (λ rs. length (records_bytes rs)) held, tasks_short ts, length-map ts record_of, ap length held, k.few)

-- the answer of write
module _ (l : Ledger) (buffer : List ℕ) where
  pub write_done : (now : List ℕ) (n : ℕ) → n ≡ length (encode l) → n ≤ length buffer → now ≡ over buffer 0 (encode l)
      → Put buffer now (judged (short_check buffer (encode l) ∷ []) (encode l)) (Ok n)
  write_done now n long le e =
      let out = encode l in
      let whole : now ≡ out ++ drop (length out) buffer = e ∙ over_front buffer out in
      let fits : judged (short_check buffer out ∷ []) out ≡ Ok out = rw (le-ltb (length buffer) (length out) (omega arith)) in (
        fits ∙ ap Ok (sym (ap (take n) whole ∙ take_at out (drop (length out) buffer) n (sym long))),
        omega (arith, ap length whole, length-append out (drop (length out) buffer), length-drop (length out) buffer),
        ap (drop n) whole ∙ drop_at out (drop (length out) buffer) n (sym long) ∙ ap (λ k. drop k buffer) (sym long),
      )
