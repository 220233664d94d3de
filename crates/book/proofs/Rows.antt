-- The checks on a row, read place by place, and a row with one time changed.
use Rattle.std.proofs.Common.{◌≡◌, ℕ, zero, suc, ◌+◌, ◌-◌, ◌<◌, ◌≤◌, Bool, true, false, not, cond, leb, ltb, List, [], ◌∷◌, ◌++◌, length, get_or, take, drop, set, replicate, Ok, Err, sym, refl, ap, ◌∙◌, subst, add-one, arith}
use Rattle.std.proofs.lemmas.List.{get_or-set_same, get_or-set_other, get_or_append_left, get_or-take, length-append, length-drop, length-take-le, length-set, drop_at, drop-replicate}
use Rattle.std.proofs.lemmas.Bool.{lt-ltb, le-ltb, leb-false, leb-true, lt-leb, or_left, or_right, or_from, or_parts, ltb-false, cases_eq}
use Rattle.std.specs.List.{IsAllAdjacentAnswer}
use Rattle.book.specs.Rules.{Within, Falling}
use Rattle.book.specs.Checks.{outside, judged}
use Rattle.book.specs.Entering.{any_outside, rises, rises_after}
use Rattle.book.specs.Amending.{amend_checks}
use Rattle.book.specs.declared.refusal.Refusal.TheVariants as r

pub outside_not : (l h x : ℕ) → l ≤ x → x ≤ h → outside l h x ≡ false
outside_not l h x p q = or_from (ltb x l) (ltb h x) (le-ltb x l p) (le-ltb h x q)

pub inside_from : (l h x : ℕ) → outside l h x ≡ false → (l ≤ x) × (x ≤ h)
inside_from l h x e = let p = or_parts (ltb x l) (ltb h x) e in (ltb-false x l p.0, ltb-false h x p.1)

-- no time is outside exactly where each is within
pub within_not : (xs : List ℕ) → Within xs (length xs) → any_outside xs ≡ false
within_not [] w = refl
within_not (x ∷ xs) w =
    let p = w zero (omega arith) in
    or_from (outside 1 1000000 x) (any_outside xs) (outside_not 1 1000000 x p.0 p.1) (within_not xs (λ k h. w (suc k) (omega arith)))

pub within_from : (xs : List ℕ) → any_outside xs ≡ false → Within xs (length xs)
within_from [] e k h = absurd (omega arith)
within_from (x ∷ xs) e zero h = inside_from 1 1000000 x (or_parts (outside 1 1000000 x) (any_outside xs) e).0
within_from (x ∷ xs) e (suc k) h = within_from xs (or_parts (outside 1 1000000 x) (any_outside xs) e).1 k (omega arith)

-- one time above the one before it is enough
rises_after_at : (b : ℕ) (xs : List ℕ) (k : ℕ) → k < length xs → get_or (b ∷ xs) k 0 < get_or xs k 0 → rises_after b xs ≡ true
rises_after_at b [] k lt h = absurd (omega arith)
rises_after_at b (x ∷ xs) zero lt h = or_left (ltb b x) (rises_after x xs) (lt-ltb b x h)
rises_after_at b (x ∷ xs) (suc k) lt h = or_right (ltb b x) (rises_after x xs) (rises_after_at x xs k (omega arith) h)

pub rises_at : (xs : List ℕ) (k : ℕ) → k + 1 < length xs → get_or xs k 0 < get_or xs (k + 1) 0 → rises xs ≡ true
rises_at [] k lt h = absurd (omega arith)
rises_at (x ∷ xs) k lt h = rises_after_at x xs k (omega arith) (rw add-one at h)

-- no time rises exactly where the row is falling
falls_after : (b : ℕ) (xs : List ℕ) → ((k : ℕ) → k < length xs → get_or xs k 0 ≤ get_or (b ∷ xs) k 0) → rises_after b xs ≡ false
falls_after b [] f = refl
falls_after b (x ∷ xs) f =
    or_from (ltb b x) (rises_after x xs) (le-ltb b x (f zero (omega arith))) (falls_after x xs (λ k h. f (suc k) (omega arith)))

pub falling_not : (xs : List ℕ) → Falling xs (length xs) → rises xs ≡ false
falling_not [] f = refl
falling_not (x ∷ xs) f = falls_after x xs (λ k h. rw add-one at (f k (omega arith)))

after_falls : (b : ℕ) (xs : List ℕ) → rises_after b xs ≡ false → (k : ℕ) → k < length xs → get_or xs k 0 ≤ get_or (b ∷ xs) k 0
after_falls b [] e k h = absurd (omega arith)
after_falls b (x ∷ xs) e zero h = ltb-false b x (or_parts (ltb b x) (rises_after x xs) e).0
after_falls b (x ∷ xs) e (suc k) h = after_falls x xs (or_parts (ltb b x) (rises_after x xs) e).1 k (omega arith)

pub falling_from : (xs : List ℕ) → rises xs ≡ false → Falling xs (length xs)
falling_from [] e k h = absurd (omega arith)
falling_from (x ∷ xs) e k h = rw add-one (after_falls x xs e k (omega arith))

-- a row is sorted downwards, or some time rises
pub falls_or_rises : (xs : List ℕ) (r : Bool) → IsAllAdjacentAnswer (λ x y b. b ≡ leb y x) xs r → not r ≡ rises xs
falls_or_rises xs true h = sym (falling_not xs (λ k lt. leb-true (get_or xs (k + 1) 0) (get_or xs k 0) (sym (h k 0 lt))))
falls_or_rises xs false h = sym (rises_at xs h.0 h.1 (leb-false (get_or xs (h.0 + 1) 0) (get_or xs h.0 0) (sym (h.2 0))))

-- times in front of other slots keep the rules that they keep by themselves
module _ (ts front zs : List ℕ) (e : front ≡ ts) where
  pub front_within : any_outside ts ≡ false → Within (front ++ zs) (length ts)
  front_within h = subst (λ f. Within (f ++ zs) (length ts)) (sym e) (λ k lt. rw (get_or_append_left ts zs 0 k lt) (within_from ts h k lt))

  pub front_falling : rises ts ≡ false → Falling (front ++ zs) (length ts)
  front_falling h = subst (λ f. Falling (f ++ zs) (length ts)) (sym e)
      (λ k lt. rw (get_or_append_left ts zs 0 (k + 1) lt)
      (let less : k < length ts = omega arith in rw (get_or_append_left ts zs 0 k less) (falling_from ts h k lt)))

  pub front_spare : drop (length ts) (front ++ zs) ≡ zs
  front_spare = ap (λ f. drop (length ts) (f ++ zs)) e ∙ drop_at ts zs (length ts) refl

pub falling_set : (xs : List ℕ) (n i y : ℕ) → i < length xs → (0 < i → y ≤ get_or xs (i - 1) 0) → (i + 1 < n → get_or xs (i + 1) 0 ≤ y)
    → Falling xs n → Falling (set xs i y) n
falling_set xs n i y lt lo hi f k h = grind (arith, get_or-set_same, get_or-set_other, cases_eq k i, cases_eq (k + 1) i, f k h)

pub take_set_in : {X : Type 0} (n : ℕ) (xs : List X) (i : ℕ) (y : X) → take n (set xs i y) ≡ set (take n xs) i y
take_set_in zero xs i y = refl
take_set_in (suc n) [] i y = refl
take_set_in (suc n) (x ∷ xs) zero y = refl
take_set_in (suc n) (x ∷ xs) (suc i) y = ap (λ zs. x ∷ zs) (take_set_in n xs i y)

-- a row's rules hold of its times alone
pub take_falling : (xs : List ℕ) (n : ℕ) → n ≤ length xs → Falling xs n → Falling (take n xs) (length (take n xs))
take_falling xs n le f k h =
    let long : length (take n xs) ≡ n = length-take-le n xs le in
    let lt : k + 1 < n = omega arith in
    let less : k < n = omega arith in
    rw (get_or-take n xs (k + 1) 0 lt, get_or-take n xs k 0 less) (f k lt)

pub take_within : (xs : List ℕ) (n : ℕ) → n ≤ length xs → Within xs n → Within (take n xs) (length (take n xs))
take_within xs n le w k h =
    let long : length (take n xs) ≡ n = length-take-le n xs le in
    let lt : k < n = omega arith in
    rw (get_or-take n xs k 0 lt) (w k lt)

-- what an amendment of a row answers, from the tests that its neighbours give
module _ (xs : List ℕ) (n i y : ℕ) (le : n ≤ length xs) where
  long : length (take n xs) ≡ n
  long = length-take-le n xs le

  set_long : length (set (take n xs) i y) ≡ n
  set_long = length-set (take n xs) i y ∙ long

  amend_by : {A : Type 0} (done : A) (b : Bool) → i < n → 1 ≤ y → y ≤ 1000000 → rises (set (take n xs) i y) ≡ b
      → judged (amend_checks (take n xs) i y) done ≡ cond b (Err r.Rising) (Ok done)
  amend_by done b lt lo hi e =
      rw (long, lt-leb n i lt, outside_not 1 1000000 y lo hi, e)

  pub amend_above : {A : Type 0} (done : A) → i < n → 1 ≤ y → y ≤ 1000000 → 0 < i → get_or xs (i - 1) 0 < y
      → judged (amend_checks (take n xs) i y) done ≡ Err r.Rising
  amend_above done lt lo hi pos h =
      let inside : i < length (take n xs) = omega (arith, long) in
      let before : i - 1 < n = omega arith in
      let other : i - 1 ≡ i → ⊥ = λ z. omega arith in
      let step : i - 1 + 1 ≡ i = omega arith in
      let up : get_or (set (take n xs) i y) (i - 1) 0 < get_or (set (take n xs) i y) (i - 1 + 1) 0 =
      subst (λ j. get_or (set (take n xs) i y) (i - 1) 0 < get_or (set (take n xs) i y) j 0) (sym step)
      (rw (get_or-set_other (take n xs) i (i - 1) y 0 other, get_or-set_same (take n xs) i y 0 inside, get_or-take n xs (i - 1) 0 before) h) in
      amend_by done true lt lo hi (rises_at (set (take n xs) i y) (i - 1) (omega (arith, set_long)) up)

  pub amend_below : {A : Type 0} (done : A) → i < n → 1 ≤ y → y ≤ 1000000 → i + 1 < n → y < get_or xs (i + 1) 0
      → judged (amend_checks (take n xs) i y) done ≡ Err r.Rising
  amend_below done lt lo hi more h =
      let inside : i < length (take n xs) = omega (arith, long) in
      let other : i + 1 ≡ i → ⊥ = λ z. omega arith in
      let up : get_or (set (take n xs) i y) i 0 < get_or (set (take n xs) i y) (i + 1) 0 =
      rw (get_or-set_other (take n xs) i (i + 1) y 0 other, get_or-set_same (take n xs) i y 0 inside, get_or-take n xs (i + 1) 0 more) h in
      amend_by done true lt lo hi (rises_at (set (take n xs) i y) i (omega (arith, set_long)) up)

  pub amend_done : {A : Type 0} (done : A) → i < n → 1 ≤ y → y ≤ 1000000 → (0 < i → y ≤ get_or xs (i - 1) 0) → (i + 1 < n → get_or xs (i + 1) 0 ≤ y)
      → Falling xs n → judged (amend_checks (take n xs) i y) done ≡ Ok done
  amend_done done lt lo hi low high f =
      let keeps : Falling (take n (set xs i y)) (length (take n (set xs i y))) =
      take_falling (set xs i y) n (rw length-set le) (falling_set xs n i y (omega arith) low high f) in
      amend_by done false lt lo hi (ap rises (sym (take_set_in n xs i y)) ∙ falling_not (take n (set xs i y)) keeps)

-- the slots behind the times: as many ones as are left of eleven
pub front_long : (ts front : List ℕ) → front ≡ ts → length ts ≤ 11 → length (front ++ drop (length ts) (replicate 11 1)) ≡ 11
front_long ts front e h =
    let ones : List ℕ = replicate 11 1 in
    length-append front (drop (length ts) ones) ∙ omega (arith, ap length e, length-drop (length ts) ones)

pub front_ones : (ts front : List ℕ) → front ≡ ts → drop (length ts) (front ++ drop (length ts) (replicate 11 1)) ≡ replicate (11 - length ts) 1
front_ones ts front e = front_spare ts front (drop (length ts) (replicate 11 1)) e ∙ drop-replicate (length ts) 11 1
