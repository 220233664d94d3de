-- Places in an ascending table, and what the ledger's list says of them.
use Rattle.std.proofs.Common.{◌≡◌, ℕ, zero, suc, ◌+◌, ◌-◌, ◌<◌, ◌≤◌, Bool, true, false, eqb, ltb, IsTrue, List, [], ◌∷◌, map, length, get_or, take, Some, None, Option, Ok, Err, sym, refl, ap, ◌∙◌, subst, inl, inr, arith}
use denote.Ref.{Bor}
use Rattle.std.specs.List.{insert, slice_get}
use Rattle.std.specs.Option.{MatchOption, option_copied}
use Rattle.std.proofs.lemmas.List.{length-map, length-take-le}
use Rattle.std.proofs.lemmas.Bool.{eq-eqb, ne_eqb, lt-ltb, le-ltb, or_left, or_right, or_from, cases_lt, cases_eq}
use Rattle.book.specs.Books.{records_in}
use Rattle.book.specs.Entering.{taken, entered, last_number}
use Rattle.book.specs.Held.{number_in, numbers, record_of}
use Rattle.book.specs.Ledger.{TaskRecord}
use Rattle.book.specs.Places.{Between, Found, number_at}
use Rattle.book.specs.Rules.{Ascending}
use Rattle.book.specs.declared.task.Task.{Task}
use Rattle.book.specs.declared.table.Table.{Table}

-- a table has as many tasks as it counts
pub long : (t : Table) → length (take t.count t.tasks) ≡ t.count
long t = length-take-le t.count t.tasks (omega (arith, t.few))

pub numbers_long : (t : Table) → length (numbers t.tasks t.count) ≡ t.count
numbers_long t = length-map (take t.count t.tasks) number_in ∙ long t

pub records_long : (t : Table) → length (records_in t) ≡ t.count
records_long t = length-map (take t.count t.tasks) record_of ∙ long t

-- in an ascending list a later number is larger
ascends_by : (xs : List ℕ) (i m : ℕ) → Ascending xs → i + suc m < length xs → get_or xs i 0 < get_or xs (i + suc m) 0
ascends_by xs i zero up lt = up i lt
ascends_by xs i (suc m) up lt =
    let step : i + suc m + 1 ≡ i + suc (suc m) = omega arith in
    let last : get_or xs (i + suc m) 0 < get_or xs (i + suc (suc m)) 0 = subst (λ j. get_or xs (i + suc m) 0 < get_or xs j 0) step (up (i + suc m) (omega arith)) in
    omega (arith, ascends_by xs i m up (omega arith))

pub ascends : (xs : List ℕ) (i k : ℕ) → Ascending xs → i < k → k < length xs → get_or xs i 0 < get_or xs k 0
ascends xs i k up lt h =
    let e : i + suc (k - suc i) ≡ k = omega arith in
    subst (λ j. get_or xs i 0 < get_or xs j 0) e (ascends_by xs i (k - suc i) up (omega arith))

-- a number between two neighbours stands nowhere
nowhere : (t : Table) (n at : ℕ) → Between t n at → (k : ℕ) → k < t.count → number_at t k ≡ n → ⊥
nowhere t n at b k h q =
    elim (cases_lt k at) [
      | inl c ↦ omega (arith, b.1 k c)
      | inr c ↦ elim (cases_eq at k) [
        | inl e ↦ omega (arith, b.2 (omega arith), ap (number_at t) e)
        | inr e ↦ omega (arith, b.2 (omega arith), ascends (numbers t.tasks t.count) at k t.ascending (omega arith) (omega (arith, numbers_long t)))
      ]
    ]

-- whether the ledger's list has a number
taken_at : (xs : List Task) (i n : ℕ) → i < length xs → get_or (map number_in xs) i 0 ≡ n → taken n (map record_of xs) ≡ true
taken_at [] i n lt e = absurd (omega arith)
taken_at (x ∷ xs) zero n lt e = or_left (eqb x.number n) (taken n (map record_of xs)) (eq-eqb x.number n e)
taken_at (x ∷ xs) (suc i) n lt e = or_right (eqb x.number n) (taken n (map record_of xs)) (taken_at xs i n (omega arith) e)

taken_not : (xs : List Task) (n : ℕ) → ((k : ℕ) → k < length xs → get_or (map number_in xs) k 0 ≡ n → ⊥) → taken n (map record_of xs) ≡ false
taken_not [] n h = refl
taken_not (x ∷ xs) n h =
    or_from (eqb x.number n) (taken n (map record_of xs)) (ne_eqb x.number n (h zero (omega arith)))
    (taken_not xs n (λ k l. h (suc k) (omega arith)))

pub taken_there : (t : Table) (n i : ℕ) → Found t n (Ok i) → taken n (records_in t) ≡ true
taken_there t n i f = taken_at (take t.count t.tasks) i n (omega (arith, long t, f.0)) f.1

pub taken_nowhere : (t : Table) (n i : ℕ) → Found t n (Err i) → taken n (records_in t) ≡ false
taken_nowhere t n i f = taken_not (take t.count t.tasks) n (λ k h. nowhere t n i f k (omega (arith, long t)))

-- put in between the smaller and the larger numbers: before the first of larger number, or last
entered_at : (xs : List Task) (i : ℕ) (r : TaskRecord) → i ≤ length xs → ((k : ℕ) → k < i → get_or (map number_in xs) k 0 < r.number)
    → (i < length xs → r.number < get_or (map number_in xs) i 0) → insert (map record_of xs) i r ≡ entered r (map record_of xs)
entered_at [] zero r le below above = refl
entered_at [] (suc i) r le below above = absurd (omega arith)
entered_at (x ∷ xs) zero r le below above = rw (lt-ltb r.number x.number (above (omega arith)))
entered_at (x ∷ xs) (suc i) r le below above =
    let before : x.number < r.number = below zero (omega arith) in
    rw (le-ltb r.number x.number (omega arith))
    (ap (λ rs. record_of x ∷ rs) (entered_at xs i r (omega arith) (λ k h. below (suc k) (omega arith)) (λ h. above (omega arith))))

pub entered_between : (t : Table) (i : ℕ) (r : TaskRecord) → Between t r.number i → insert (records_in t) i r ≡ entered r (records_in t)
entered_between t i r b =
    entered_at (take t.count t.tasks) i r (omega (arith, long t, b.0)) b.1 (λ h. b.2 (omega (arith, long t)))

-- the last number is that at the last place, and no number exceeds it
last_at : (xs : List Task) → last_number (map record_of xs) ≡ get_or (map number_in xs) (length xs - 1) 0
last_at [] = refl
last_at (x ∷ []) = refl
last_at (x ∷ y ∷ ys) =
    let step : suc (length (y ∷ ys) - 1) ≡ length (x ∷ y ∷ ys) - 1 = omega arith in
    last_at (y ∷ ys) ∙ ap (λ k. get_or (map number_in (x ∷ y ∷ ys)) k 0) step

pub last_slot : (t : Table) → last_number (records_in t) ≡ number_at t (t.count - 1)
last_slot t = last_at (take t.count t.tasks) ∙ ap (λ n. number_at t (n - 1)) (long t)

pub behind_last : (t : Table) (n : ℕ) → last_number (records_in t) < n → Between t n t.count
behind_last t n lt = (
  omega arith,
  (λ k h.
      elim (cases_eq k (t.count - 1)) [
        | inl e ↦ omega (arith, last_slot t, ap (number_at t) e)
        | inr e ↦ omega (arith, last_slot t, ascends (numbers t.tasks t.count) k (t.count - 1) t.ascending (omega arith) (omega (arith, numbers_long t)))
      ]),
  λ h. omega arith,
)

-- the last task, if there is one, has the last number
last_number_is : (xs : List Task) (o : Option Task) → o ≡ slice_get xs (length xs - 1) → MatchOption o (last_number (map record_of xs) ≡ 0) (λ t. last_number (map record_of xs) ≡ t.number)
last_number_is [] o e = rw e refl
last_number_is (x ∷ []) o e = rw e refl
last_number_is (x ∷ y ∷ ys) o e =
    let step : length (x ∷ y ∷ ys) - 1 ≡ suc (length (y ∷ ys) - 1) = omega arith in
    last_number_is (y ∷ ys) o (e ∙ ap (slice_get (x ∷ y ∷ ys)) step)

pub behind_all : (xs : List Task) (n : ℕ) (r : Option (Bor Task)) (b : Bool) (P : Bor Task → Type 0) → option_copied r ≡ slice_get xs (length xs - 1) → 1 ≤ n
    → MatchOption r (IsTrue b) P → ((x : Bor Task) → P x → b ≡ ltb x.now.number n) → b ≡ ltb (last_number (map record_of xs)) n
behind_all xs n None b P e one h at = h ∙ sym (lt-ltb (last_number (map record_of xs)) n (omega (arith, last_number_is xs None e)))
behind_all xs n (Some x) b P e one h at = at x h ∙ ap (λ k. ltb k n) (sym (last_number_is xs (Some x.now) e))
