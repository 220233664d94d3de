-- A loop over tasks beside their times: what it has left at each step.
use Rattle.std.proofs.Common.{◌≡◌, ℕ, List, [], ◌∷◌, map, length, take, min, Some, None, Option, Bor, refl, sym, ap, ◌∙◌, ⊎_elim, ◌<◌, ◌≤◌, arith}
use Rattle.std.proofs.lemmas.Bool.{cases_lt}
use Rattle.std.proofs.lemmas.List.{take_all}
use Rattle.std.proofs.lemmas.Slice.Zip.{Zip-more, either_empty_from_Zip}
use Rattle.std.proofs.lemmas.Iterator.{zips}
use Rattle.std.proofs.iter.Yields.{fronts}
use Rattle.std.specs.Iterator.Adapters.{zip_first, zip_second}
use Rattle.std.specs.Slice.Iter.{iter_rest}
use Rattle.std.specs.declared.iter.Zip.{Zip}
use Rattle.std.specs.declared.slice.Iter.{Iter}
use Rattle.book.specs.Classes.{work_in}
use Rattle.book.specs.Held.{record_of}
use Rattle.book.specs.Ledger.{TaskRecord}
use Rattle.book.specs.declared.task.Task.{Task}
use Rattle.schedule.specs.Timed.{Timed, timed}

-- the iterator of such a loop
abbrev pub Pairs : Type 0
Pairs = Zip (Iter Task) (Iter ℕ)

-- the tasks that are left, each beside its time
abbrev pub left : Pairs → List Timed
left it = timed (map record_of (iter_rest (zip_first it))) (iter_rest (zip_second it))

-- their work in a cycle
abbrev pub work_left : ℕ → Pairs → ℕ
work_left cycle it = work_in cycle (map record_of (iter_rest (zip_first it))) (iter_rest (zip_second it))

module _ (s t : Pairs) (r : Option (Bor Task × Bor ℕ)) (step : zips fronts fronts s r t) where
  -- a step takes the first of both lists; the loop may have read the fields into wider types
  module _ (k : Bor Task) (x : Bor ℕ) (is : r ≡ Some (k, x)) (time : ℕ) (timed_at : time ≡ x.now) where
    pub left_more : (period deadline : ℕ) → period ≡ k.now.period → deadline ≡ k.now.deadline
        → left s ≡ record { number = k.now.number; period = period; deadline = deadline; time = time } ∷ left t
    left_more period deadline e e' =
        let m = Zip-more s t r (k, x) is step in
        (λ i. timed (map record_of (m.0 i)) (m.1 i))
        ∙ (λ i. record { number = k.now.number; period = sym e i; deadline = sym e' i; time = sym timed_at i } ∷ left t)

  -- the loop ends where one of them is empty
  over_none : {Z : Type 0} (F : List TaskRecord → List ℕ → Z) (z : Z) → ((xs : List ℕ) → F [] xs ≡ z) → ((ts : List TaskRecord) → F ts [] ≡ z) → r ≡ None
      → F (map record_of (iter_rest (zip_first s))) (iter_rest (zip_second s)) ≡ z
  over_none F z tasks times is =
      ⊎_elim
      (λ (e : iter_rest (zip_first s) ≡ []). ap (λ us. F (map record_of us) (iter_rest (zip_second s))) e ∙ tasks (iter_rest (zip_second s)))
      (λ (e : iter_rest (zip_second s) ≡ []). ap (F (map record_of (iter_rest (zip_first s)))) e ∙ times (map record_of (iter_rest (zip_first s))))
      (either_empty_from_Zip s t r is step)

  pub left_none : r ≡ None → left s ≡ []
  left_none = over_none timed [] (λ xs. refl) no_times
    where
      no_times : (ts : List TaskRecord) → timed ts [] ≡ []
      no_times [] = refl
      no_times (k ∷ ts) = refl

  pub work_none : (cycle : ℕ) → r ≡ None → work_left cycle s ≡ 0
  work_none cycle = over_none (work_in cycle) 0 (λ xs. refl) no_work
    where
      no_work : (ts : List TaskRecord) → work_in cycle ts [] ≡ 0
      no_work [] = refl
      no_work (k ∷ ts) = refl

-- What has no partner does not count: neither list has to be longer than the other.
pub times_cut : (ts : List Task) (xs : List ℕ) → timed (map record_of ts) (take (length ts) xs) ≡ timed (map record_of ts) xs
times_cut [] xs = refl
times_cut (t ∷ ts) [] = refl
times_cut (t ∷ ts) (x ∷ xs) = ap (λ ks. record { number = t.number; period = t.period; deadline = t.deadline; time = x } ∷ ks) (times_cut ts xs)

pub tasks_cut : (ts : List Task) (xs : List ℕ) → timed (map record_of (take (length xs) ts)) xs ≡ timed (map record_of ts) xs
tasks_cut [] [] = refl
tasks_cut [] (x ∷ xs) = refl
tasks_cut (t ∷ ts) [] = refl
tasks_cut (t ∷ ts) (x ∷ xs) = ap (λ ks. record { number = t.number; period = t.period; deadline = t.deadline; time = x } ∷ ks) (tasks_cut ts xs)

pub both_cut : (ts : List Task) (xs : List ℕ) (n : ℕ) → n ≡ min (length ts) (length xs) → timed (map record_of (take n ts)) (take n xs) ≡ timed (map record_of ts) xs
both_cut ts xs n is =
    ⊎_elim
    (λ (l : length ts < length xs). let e : n ≡ length ts = omega (arith, l) in
    ap (λ us. timed (map record_of us) (take n xs)) (take_all n ts (omega arith)) ∙ ap (λ m. timed (map record_of ts) (take m xs)) e ∙ times_cut ts xs)
    (λ (l : length xs ≤ length ts). let e : n ≡ length xs = omega (arith, l) in
    ap (λ ys. timed (map record_of (take n ts)) ys) (take_all n xs (omega arith)) ∙ ap (λ m. timed (map record_of (take m ts)) xs) e ∙ tasks_cut ts xs)
    (cases_lt (length ts) (length xs))
