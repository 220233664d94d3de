-- Lists of times by their shape: one time for each task, none 0, and shorter lists.
use Rattle.std.specs.Prelude.{◌≡◌, ℕ, zero, suc, ◌<◌, ◌≤◌, true, List, [], ◌∷◌, length, ◌==◌, nat_lt, slice_index, refl}
use Rattle.std.proofs.Common.{◌∙◌, arith}
use Rattle.std.proofs.lemmas.Bool.{and_parts, and_from, eqb-true, eq-eqb, ltb-true, lt-ltb}
use Rattle.book.specs.Keeping.{AllKeep}
use Rattle.book.specs.Ledger.{TaskRecord}
use Rattle.schedule.specs.Laws.{Shorter}
use Rattle.schedule.specs.Timed.{deadline_at, nowhere_zero, well_shaped}

-- a well-shaped list has one time for each task, and none is 0
pub shaped_parts : (ts : List TaskRecord) (xs : List ℕ) → well_shaped ts xs ≡ true → (length xs ≡ length ts) × (nowhere_zero xs ≡ true)
shaped_parts ts xs e =
    let w = and_parts (length xs == length ts) (nowhere_zero xs) e in
    (eqb-true (length xs) (length ts) w.0, w.1)

-- a list with one time for each task, none 0, is well shaped
pub shaped_from : (ts : List TaskRecord) (xs : List ℕ) → length xs ≡ length ts → nowhere_zero xs ≡ true → well_shaped ts xs ≡ true
shaped_from ts xs e z = and_from (length xs == length ts) (nowhere_zero xs) (eq-eqb (length xs) (length ts) e) z

-- a shorter list has as many times
pub shorter_long : (xs ys : List ℕ) → Shorter ys xs → length ys ≡ length xs
shorter_long [] [] w = refl
shorter_long [] (y ∷ ys) w = elim w [ ]
shorter_long (x ∷ xs) [] w = elim w [ ]
shorter_long (x ∷ xs) (y ∷ ys) w = let a = shorter_long xs ys w.2 in omega arith

-- no time of a shorter list is 0
pub shorter_nowhere : (xs ys : List ℕ) → Shorter ys xs → nowhere_zero ys ≡ true
shorter_nowhere [] [] w = refl
shorter_nowhere [] (y ∷ ys) w = elim w [ ]
shorter_nowhere (x ∷ xs) [] w = elim w [ ]
shorter_nowhere (x ∷ xs) (y ∷ ys) w = and_from (nat_lt 0 y) (nowhere_zero ys) (lt-ltb 0 y w.0) (shorter_nowhere xs ys w.2)

-- a shorter list than a well-shaped one is well shaped
pub shorter_shaped : (ts : List TaskRecord) (xs ys : List ℕ) → Shorter ys xs → well_shaped ts xs ≡ true → well_shaped ts ys ≡ true
shorter_shaped ts xs ys w e = shaped_from ts ys (shorter_long xs ys w ∙ (shaped_parts ts xs e).0) (shorter_nowhere xs ys w)

-- where no time is 0, the time at each place is at least 1
pub nowhere_zero_at : (xs : List ℕ) (i : ℕ) → nowhere_zero xs ≡ true → i < length xs → 1 ≤ slice_index xs i
nowhere_zero_at [] i e h = absurd (omega arith)
nowhere_zero_at (x ∷ xs) zero e h = ltb-true 0 x (and_parts (nat_lt 0 x) (nowhere_zero xs) e).0
nowhere_zero_at (x ∷ xs) (suc i) e h = nowhere_zero_at xs i (and_parts (nat_lt 0 x) (nowhere_zero xs) e).1 (omega arith)

-- no deadline is longer than 1,000,000 ticks
pub deadlines_short : (ts : List TaskRecord) → AllKeep ts → (place : ℕ) → deadline_at ts place ≤ 1000000
deadlines_short [] keep place = omega arith
deadlines_short (t ∷ ts) keep zero = omega (arith, keep.0.deadline_to, keep.0.period_to)
deadlines_short (t ∷ ts) keep (suc place) = deadlines_short ts keep.1 place
