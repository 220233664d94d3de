-- The hyperperiod of tasks, as tasks come and go.
use Rattle.std.proofs.Common.{◌≡◌, ℕ, suc, ◌+◌, ◌-◌, ◌<◌, ◌≤◌, List, [], ◌∷◌, ◌++◌, map, length, get_or, take, drop, sym, ap, ◌∙◌, subst, arith, drop-cons}
use Rattle.std.specs.List.{insert, remove}
use Rattle.std.proofs.lemmas.List.{append-nil, length-take-le, map-append, map_more, take-append-drop}
use Rattle.book.specs.Divisors.{IsLcm}
use Rattle.book.specs.Held.{period_in, periods}
use Rattle.book.specs.Hyperperiod.{hyperperiod}
use Rattle.book.specs.declared.task.Task.{Task}
use Rattle.book.proofs.Multiples.{AllPositive, hyperperiod_one_more, hyperperiod_less, hyperperiod_front}

-- every period of a task is positive
pub positive : (ts : List Task) → AllPositive (map period_in ts)
positive [] = tt
positive (t ∷ ts) = (omega (arith, t.timed), positive ts)

-- the hyperperiod of a front, one task longer
pub period_more : (ts : List Task) (i : ℕ) (t : Task) (w l : ℕ) → i < length ts → t ≡ get_or ts i t → w ≡ hyperperiod (periods ts i)
    → IsLcm t.period w l → l ≡ hyperperiod (periods ts (i + 1))
period_more ts i t w l lt e h is =
    let one : periods ts (i + 1) ≡ periods ts i ++ t.period ∷ [] =
    map_more period_in ts i t lt ∙ ap (λ (u : Task). periods ts i ++ u.period ∷ []) (sym e) in
    let same : w ≡ hyperperiod (periods ts i ++ []) = h ∙ ap hyperperiod (sym (append-nil (periods ts i))) in
    hyperperiod_one_more (periods ts i) [] t.period l (subst AllPositive one (positive (take (i + 1) ts))) (subst (λ x. IsLcm t.period x l) same is)
    ∙ ap hyperperiod (sym one)

-- the hyperperiod of a front does not exceed the whole's
pub period_front : (ts : List Task) (i : ℕ) → hyperperiod (periods ts i) ≤ hyperperiod (map period_in ts)
period_front ts i =
    let e : periods ts i ++ map period_in (drop i ts) ≡ map period_in ts =
    sym (map-append period_in (take i ts) (drop i ts)) ∙ ap (map period_in) (take-append-drop i ts) in
    subst (λ xs. hyperperiod (periods ts i) ≤ hyperperiod xs) e
    (hyperperiod_front (periods ts i) (map period_in (drop i ts)) (subst AllPositive (sym e) (positive ts)))

-- one task put in, anywhere
pub period_inserted : (ts : List Task) (i : ℕ) (t : Task) (l : ℕ) → IsLcm t.period (hyperperiod (map period_in ts)) l
    → l ≡ hyperperiod (map period_in (insert ts i t))
period_inserted ts i t l is =
    let e : map period_in (insert ts i t) ≡ map period_in (take i ts) ++ t.period ∷ map period_in (drop i ts) =
    map-append period_in (take i ts) (t ∷ drop i ts) in
    let whole : map period_in ts ≡ map period_in (take i ts) ++ map period_in (drop i ts) =
    ap (map period_in) (sym (take-append-drop i ts)) ∙ map-append period_in (take i ts) (drop i ts) in
    hyperperiod_one_more (map period_in (take i ts)) (map period_in (drop i ts)) t.period l
    (subst AllPositive e (positive (insert ts i t)))
    (subst (λ xs. IsLcm t.period (hyperperiod xs) l) whole is)
    ∙ ap hyperperiod (sym e)

-- one task taken out
removed_from : (ts : List Task) (i : ℕ) (d : Task) → i < length ts → hyperperiod (map period_in (remove ts i)) ≤ hyperperiod (map period_in ts)
removed_from ts i d lt =
    let whole : map period_in (take i ts) ++ (get_or ts i d).period ∷ map period_in (drop (suc i) ts) ≡ map period_in ts =
    sym (map-append period_in (take i ts) (get_or ts i d ∷ drop (suc i) ts))
    ∙ ap (λ xs. map period_in (take i ts ++ xs)) (sym (drop-cons ts i d lt))
    ∙ ap (map period_in) (take-append-drop i ts) in
    let less : map period_in (remove ts i) ≡ map period_in (take i ts) ++ map period_in (drop (suc i) ts) =
    map-append period_in (take i ts) (drop (suc i) ts) in
    subst (λ xs. hyperperiod xs ≤ hyperperiod (map period_in ts)) (sym less)
    (subst (λ xs. hyperperiod (map period_in (take i ts) ++ map period_in (drop (suc i) ts)) ≤ hyperperiod xs) whole
    (hyperperiod_less (map period_in (take i ts)) (map period_in (drop (suc i) ts)) (get_or ts i d).period (subst AllPositive (sym whole) (positive ts))))

pub period_removed : (ts : List Task) (i : ℕ) → i < length ts → hyperperiod (map period_in (remove ts i)) ≤ hyperperiod (map period_in ts)
period_removed [] i lt = absurd (omega arith)
period_removed (t ∷ ts) i lt = removed_from (t ∷ ts) i t lt

-- the tasks that are left of a front of which one was taken out
pub left_within : (xs new : List Task) (n at : ℕ) → n ≤ length xs → at < n → take (n - 1) new ≡ remove (take n xs) at
    → hyperperiod (periods xs n) ≤ 10000000000 → hyperperiod (periods new (n - 1)) ≤ 10000000000
left_within xs new n at le lt e h =
    let inside : at < length (take n xs) = omega (arith, length-take-le n xs le) in
    subst (λ ts. hyperperiod (map period_in ts) ≤ 10000000000) (sym e) (omega (arith, period_removed (take n xs) at inside))
