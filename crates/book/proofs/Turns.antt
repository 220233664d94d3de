-- A turn of a part of a list puts an element in, or takes one out.
use Rattle.std.proofs.Common.{◌≡◌, ℕ, ◌+◌, ◌-◌, ◌<◌, ◌≤◌, List, [], ◌∷◌, ◌++◌, map, length, take, drop, set, sym, ap, ◌∙◌, add-one, arith}
use borrow.Rule.Slice.PartMut.{put_mid}
use Rattle.std.specs.List.{between, insert, remove}
use Rattle.std.proofs.lemmas.List.{append_assoc, take_more_set, drop-append-le, length_push, drop_at, take_at, take-set-le, take-take, length-take-le, length-drop, length-append, drop-drop, length-set, drop-set-lt, take-set, drop-set}
use Rattle.std.proofs.lemmas.List.Edits.{length-between}
use Rattle.std.proofs.lemmas.Slice.{between_is, take-put_mid, drop-put_mid}

turned : {X : Type 0} (q : List X) (x : X) → drop (length (q ++ x ∷ []) - 1) (q ++ x ∷ []) ++ take (length (q ++ x ∷ []) - 1) (q ++ x ∷ []) ≡ x ∷ q
turned q x =
    let e : length q ≡ length (q ++ x ∷ []) - 1 = omega (arith, length_push q x) in
    ap (λ zs. zs ++ take (length (q ++ x ∷ []) - 1) (q ++ x ∷ [])) (drop_at q (x ∷ []) (length (q ++ x ∷ []) - 1) e)
    ∙ ap (λ zs. x ∷ zs) (take_at q (x ∷ []) (length (q ++ x ∷ []) - 1) e)

-- the last of n + 1 places turned to the place `at`: put in among the first n
pub insert_eq : {X : Type 0} (xs ys : List X) (n at : ℕ) (x : X) → n < length xs → at ≤ n
    → ys ≡ drop (length (between at (n + 1) (set xs n x)) - 1) (between at (n + 1) (set xs n x)) ++ take (length (between at (n + 1) (set xs n x)) - 1) (between at (n + 1) (set xs n x))
    → take (n + 1) (put_mid at (n + 1 - at) (set xs n x) ys) ≡ insert (take n xs) at x
insert_eq xs ys n at x lt le e =
    let long : length (take n xs) ≡ n = length-take-le n xs (omega arith) in
    let part : between at (n + 1) (set xs n x) ≡ drop at (take n xs) ++ x ∷ [] =
    between_is (set xs n x) at (n + 1) ∙ ap (drop at) (take_more_set xs n x lt) ∙ drop-append-le at (take n xs) (x ∷ []) (omega arith) in
    let all : ys ≡ x ∷ drop at (take n xs) =
    e ∙ ap (λ p. drop (length p - 1) p ++ take (length p - 1) p) part ∙ turned (drop at (take n xs)) x in
    let size : n + 1 ≡ at + length ys = omega (arith, ap length all, length-drop at (take n xs)) in
    let set_long : at ≤ length (set xs n x) = simp length-set (omega arith) in
    take-put_mid at (n + 1 - at) (set xs n x) ys (n + 1) size set_long
    ∙ ap (λ zs. zs ++ ys) (take-set-le at xs n x le ∙ sym (take-take at n xs le))
    ∙ ap (λ zs. take at (take n xs) ++ zs) all

-- the place `at` of n turned to the end: taken out of the first n
remove_eq : {X : Type 0} (xs ys : List X) (n at : ℕ) → n ≤ length xs → at < n
    → ys ≡ drop 1 (between at n xs) ++ take 1 (between at n xs)
    → take (n - 1) (put_mid at (n - at) xs ys) ≡ remove (take n xs) at
remove_eq xs ys n at le lt e =
    let long : length (take n xs) ≡ n = length-take-le n xs le in
    let part : between at n xs ≡ drop at (take n xs) = between_is xs at n in
    let all : ys ≡ drop 1 (drop at (take n xs)) ++ take 1 (drop at (take n xs)) = e ∙ ap (λ p. drop 1 p ++ take 1 p) part in
    let d1 : length (drop at (take n xs)) ≡ n - at = length-drop at (take n xs) ∙ ap (λ z. z - at) long in
    let d2 : length (drop 1 (drop at (take n xs))) ≡ n - at - 1 = length-drop 1 (drop at (take n xs)) ∙ ap (λ z. z - 1) d1 in
    let t1 : length (take 1 (drop at (take n xs))) ≡ 1 = length-take-le 1 (drop at (take n xs)) (omega arith) in
    let size : n ≡ at + length ys = omega (arith, ap length all, length-append (drop 1 (drop at (take n xs))) (take 1 (drop at (take n xs)))) in
    let front : length (take at xs ++ drop 1 (drop at (take n xs))) ≡ n - 1 =
    length-append (take at xs) (drop 1 (drop at (take n xs))) ∙ omega (arith, length-take-le at xs (omega arith)) in
    sym (take-take (n - 1) n (put_mid at (n - at) xs ys) (omega arith))
    ∙ ap (take (n - 1)) (take-put_mid at (n - at) xs ys n size (omega arith))
    ∙ ap (λ zs. take (n - 1) (take at xs ++ zs)) all
    ∙ ap (take (n - 1)) (sym (append_assoc (take at xs) (drop 1 (drop at (take n xs))) (take 1 (drop at (take n xs)))))
    ∙ take_at (take at xs ++ drop 1 (drop at (take n xs))) (take 1 (drop at (take n xs))) (n - 1) front
    ∙ ap (λ zs. zs ++ drop 1 (drop at (take n xs))) (sym (take-take at n xs (omega arith)))
    ∙ ap (λ zs. take at (take n xs) ++ zs) (drop-drop 1 at (take n xs) ∙ ap (λ k. drop k (take n xs)) (add-one at))

pub remove_front : {X : Type 0} (xs ys : List X) (n at : ℕ) (b : X) → n ≤ length xs → at < n → ys ≡ drop 1 (between at n xs) ++ take 1 (between at n xs)
    → take (n - 1) (set (put_mid at (n - at) xs ys) (n - 1) b) ≡ remove (take n xs) at
remove_front xs ys n at b le lt e = take-set (put_mid at (n - at) xs ys) (n - 1) b ∙ remove_eq xs ys n at le lt e

-- what lies behind the places that were turned
pub insert_rest : {X : Type 0} (xs ys : List X) (n at : ℕ) (x : X) → n < length xs → at ≤ n → length ys ≡ length (between at (n + 1) (set xs n x))
    → drop (n + 1) (put_mid at (n + 1 - at) (set xs n x) ys) ≡ drop (n + 1) xs
insert_rest xs ys n at x lt le long =
    let set_long : n + 1 ≤ length (set xs n x) = simp length-set (omega arith) in
    let size : length ys ≡ n + 1 - at = long ∙ length-between (set xs n x) at (n + 1) set_long in
    drop-put_mid at (n + 1 - at) (set xs n x) ys (n + 1) (omega arith) (omega arith) size ∙ drop-set-lt (n + 1) xs n x (omega arith)

pub remove_rest : {X Y : Type 0} (f : X → Y) (xs ys : List X) (n at : ℕ) (b : X) (y : Y) → n ≤ length xs → at < n → length ys ≡ length (between at n xs) → f b ≡ y
    → map f (drop (n - 1) (set (put_mid at (n - at) xs ys) (n - 1) b)) ≡ y ∷ map f (drop n xs)
remove_rest f xs ys n at b y le lt long e =
    let size : length ys ≡ n - at = long ∙ length-between xs at n le in
    let zs = put_mid at (n - at) xs ys in
    let inside : n - 1 < length zs =
    omega (arith, length-append (take at xs) (ys ++ drop (n - at) (drop at xs)), length-append ys (drop (n - at) (drop at xs)), length-take-le at xs (omega arith)) in
    let one : n - 1 + 1 ≡ n = omega arith in
    ap (map f) (drop-set zs (n - 1) b inside)
    ∙ (λ j. e j ∷ map f (drop (one j) zs))
    ∙ ap (λ ws. y ∷ map f ws) (drop-put_mid at (n - at) xs ys n (omega arith) (omega arith) size)
