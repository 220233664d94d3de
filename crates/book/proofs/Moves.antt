-- A task put in or taken out: the numbers, the records and the unused slots.
use Rattle.std.proofs.Common.{◌≡◌, ℕ, zero, suc, ◌+◌, ◌-◌, ◌<◌, ◌≤◌, List, [], ◌∷◌, ◌++◌, map, length, get_or, take, drop, replicate, sym, ap, ◌∙◌, subst, inl, inr, arith}
use Rattle.std.specs.List.{insert, remove}
use Rattle.std.proofs.lemmas.List.{map-append, take-map, drop-map, drop-drop, drop-replicate}
use Rattle.std.proofs.lemmas.List.Edits.{length-insert, length-remove, get_or-insert_below, get_or-insert_at, get_or-insert_above, get_or-remove_below, get_or-remove_above}
use Rattle.std.proofs.lemmas.Bool.{eq-eqb, ne_eqb, cases_lt, cases_eq, cases_order}
use Rattle.book.specs.Amending.{withdrawn}
use Rattle.book.specs.Held.{number_in, record_of}
use Rattle.book.specs.Rules.{Ascending}
use Rattle.book.specs.declared.task.Task.{Task}

pub map_inserted : {X Y : Type 0} (f : X → Y) (xs : List X) (i : ℕ) (t : X) → map f (insert xs i t) ≡ insert (map f xs) i (f t)
map_inserted f xs i t =
    map-append f (take i xs) (t ∷ drop i xs)
    ∙ ap (λ zs. zs ++ f t ∷ map f (drop i xs)) (sym (take-map f i xs))
    ∙ ap (λ zs. take i (map f xs) ++ f t ∷ zs) (sym (drop-map f i xs))

pub map_removed : {X Y : Type 0} (f : X → Y) (xs : List X) (i : ℕ) → map f (remove xs i) ≡ remove (map f xs) i
map_removed f xs i =
    map-append f (take i xs) (drop (suc i) xs)
    ∙ ap (λ zs. zs ++ map f (drop (suc i) xs)) (sym (take-map f i xs))
    ∙ ap (λ zs. take i (map f xs) ++ zs) (sym (drop-map f (suc i) xs))

pub ascending_removed : (ys : List ℕ) (i : ℕ) → i < length ys → Ascending ys → Ascending (remove ys i)
ascending_removed ys i lt up k h =
    let long : length (remove ys i) + 1 ≡ length ys = length-remove ys i lt in
    elim (cases_lt (k + 1) i) [
      | inl a ↦ let b : k < i = omega arith in
          rw (get_or-remove_below ys i 0 k b lt) (rw (get_or-remove_below ys i 0 (k + 1) a lt) (up k (omega arith)))
      | inr a ↦ elim (cases_lt k i) [
        | inl b ↦ rw (get_or-remove_below ys i 0 k b lt) (rw (get_or-remove_above ys i 0 (k + 1) a lt) (omega (arith, up k (omega arith), up (k + 1) (omega arith))))
        | inr b ↦ rw (get_or-remove_above ys i 0 k b lt) (rw (get_or-remove_above ys i 0 (k + 1) a lt) (up (k + 1) (omega arith)))
      ]
    ]

pub ascending_inserted : (ys : List ℕ) (i n : ℕ) → i ≤ length ys → Ascending ys → ((k : ℕ) → k < i → get_or ys k 0 < n) → (i < length ys → n < get_or ys i 0) → Ascending (insert ys i n)
ascending_inserted ys i n le up below above k h =
    let long : length (insert ys i n) ≡ length ys + 1 = length-insert ys i n le in
    elim (cases_order (k + 1) i) [
      | inl a ↦ let b : k < i = omega arith in
          rw (get_or-insert_below ys i n 0 k b le) (subst (λ j. get_or ys k 0 < get_or (insert ys i n) j 0) (sym a) (rw (get_or-insert_at ys i n 0 le) (below k b)))
      | inr o ↦ elim o [
        | inl a ↦ let b : k < i = omega arith in
            rw (get_or-insert_below ys i n 0 k b le) (rw (get_or-insert_below ys i n 0 (k + 1) a le) (up k (omega arith)))
        | inr a ↦ let b : i ≤ k = omega arith in
            rw (get_or-insert_above ys i n 0 k b le)
            (elim (cases_eq k i) [
              | inl e ↦ subst (λ j. get_or (insert ys i n) j 0 < get_or ys j 0) (sym e) (rw (get_or-insert_at ys i n 0 le) (above (omega arith)))
              | inr e ↦ let c : i ≤ k - 1 = omega arith in
                  let step : k - 1 + 1 ≡ k = omega arith in
                  subst (λ j. get_or (insert ys i n) j 0 < get_or ys j 0) step (rw (get_or-insert_above ys i n 0 (k - 1) c le) (up (k - 1) (omega arith)))
            ])
      ]
    ]

-- the first task of a number taken out of its place is the task struck out
pub withdrawn_at : (xs : List Task) (i n : ℕ) → i < length xs → get_or (map number_in xs) i 0 ≡ n → ((k : ℕ) → k < i → get_or (map number_in xs) k 0 ≡ n → ⊥)
    → map record_of (remove xs i) ≡ withdrawn n (map record_of xs)
withdrawn_at [] i n lt e first = absurd (omega arith)
withdrawn_at (x ∷ xs) zero n lt e first = rw (eq-eqb x.number n e)
withdrawn_at (x ∷ xs) (suc i) n lt e first =
    rw (ne_eqb x.number n (first zero (omega arith)))
    (ap (λ rs. record_of x ∷ rs) (withdrawn_at xs i n (omega arith) e (λ k h. first (suc k) (omega arith))))

-- one unused slot less, and one more
pub spare_less : {X Y : Type 0} (f : X → Y) (xs ys : List X) (n : ℕ) (y : Y) → map f (drop n xs) ≡ replicate (16 - n) y → drop (n + 1) ys ≡ drop (n + 1) xs
    → map f (drop (n + 1) ys) ≡ replicate (16 - (n + 1)) y
spare_less f xs ys n y spare same =
    let size : 16 - n - 1 ≡ 16 - (n + 1) = omega arith in
    ap (map f) (same ∙ sym (drop-drop 1 n xs)) ∙ sym (drop-map f 1 (drop n xs)) ∙ ap (drop 1) spare ∙ drop-replicate 1 (16 - n) y
    ∙ ap (λ k. replicate k y) size

pub spare_more : {Y : Type 0} (y : Y) (n : ℕ) (zs ws : List Y) → 0 < n → n ≤ 16 → zs ≡ y ∷ ws → ws ≡ replicate (16 - n) y → zs ≡ replicate (16 - (n - 1)) y
spare_more y n zs ws pos few e spare =
    let size : suc (16 - n) ≡ 16 - (n - 1) = omega arith in
    e ∙ ap (λ vs. y ∷ vs) spare ∙ ap (λ k. replicate k y) size
