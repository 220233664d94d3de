-- Least solutions of t = f t: that they exist, that there is one only, and how they move with f.
use Rattle.std.specs.Prelude.{◌≡◌, ℕ, zero, suc, ◌<◌, ◌≤◌, true, cond, is_some, Some, None, Option, ◌==◌, refl}
use Rattle.std.proofs.Common.{sym, ap, ◌∙◌, ⊎_elim, arith}
use Rattle.std.proofs.lemmas.Bool.{cases_lt, cases_eq, cond_both, eqb-true, eqb-false, false≢true}
use Rattle.schedule.specs.Least.{Least, or_else, least_to}

-- a growing f that is at most t at t has a solution at or below f t, for t up to n
below_within : (f : ℕ → ℕ) → ((t : ℕ) → 1 ≤ t → 1 ≤ f t) → ((s t : ℕ) → 1 ≤ s → s ≤ t → f s ≤ f t) → (n t : ℕ) → t ≤ n → 1 ≤ t → f t ≤ t → (s : ℕ) × (1 ≤ s) × (s ≤ f t) × (s ≡ f s)
below_within f some grows zero t b a h = absurd (omega arith)
below_within f some grows (suc n) t b a h =
    ⊎_elim
    (λ (e : t ≡ f t). (t, a, omega (arith, e), e))
    (λ ne. let r = below_within f some grows n (f t) (omega arith) (some t a) (grows (f t) t (some t a) h) in
    (r.0, r.1, omega (arith, r.2, grows (f t) t (some t a) h), r.3))
    (cases_eq t (f t))

-- a growing f that is at most t at t has a solution at or below f t
pub below_some : (f : ℕ → ℕ) → ((t : ℕ) → 1 ≤ t → 1 ≤ f t) → ((s t : ℕ) → 1 ≤ s → s ≤ t → f s ≤ f t) → (t : ℕ) → 1 ≤ t → f t ≤ t → (s : ℕ) × (1 ≤ s) × (s ≤ f t) × (s ≡ f s)
below_some f some grows t a h = below_within f some grows t t (omega arith) a h

-- from the answer up to a limit, the answer up to one more
least_step : (f : ℕ → ℕ) (n : ℕ) (r : Option ℕ) → Least f n r → Least f (suc n) (or_else r (cond (suc n == f (suc n)) (Some (suc n)) None))
least_step f n (Some t) h = (h.0, omega (arith, h.1), h.2, h.3)
least_step f n None h =
    cond_both (suc n == f (suc n)) (Some (suc n)) None (λ o. Least f (suc n) o)
    (λ e. (
      omega arith,
      omega arith,
      eqb-true (suc n) (f (suc n)) e,
      (λ s a b. ⊎_elim (λ (l : s < suc n). absurd (h s a (omega arith) b)) (λ l. l) (cases_lt s (suc n))),
    ))
    (λ e. (λ s a l b. ⊎_elim (λ (k : s < suc n). h s a (omega arith) b)
    (λ (k : suc n ≤ s). let q : s ≡ suc n = omega arith in eqb-false (suc n) (f (suc n)) e (sym q ∙ b ∙ ap f q)) (cases_lt s (suc n))))

-- the value that is worked out is the least solution
pub least_is : (n : ℕ) (f : ℕ → ℕ) → Least f n (least_to n f)
least_is zero f = λ s a l b. omega arith
least_is (suc n) f = least_step f n (least_to n f) (least_is n f)

-- there is one answer only
pub least_one : (f : ℕ → ℕ) (n : ℕ) (r q : Option ℕ) → Least f n r → Least f n q → r ≡ q
least_one f n (Some t) (Some u) h k = ap Some (omega (arith, h.3 u k.0 k.2, k.3 t h.0 h.2))
least_one f n (Some t) None h k = absurd (k t h.0 h.1 h.2)
least_one f n None (Some u) h k = absurd (h u k.0 k.1 k.2)
least_one f n None None h k = refl

-- functions that agree have the same least solution
pub least_same : (f g : ℕ → ℕ) (n : ℕ) (r : Option ℕ) → ((t : ℕ) → f t ≡ g t) → Least f n r → Least g n r
least_same f g n (Some t) e h = (h.0, h.1, h.2 ∙ e t, λ s a b. h.3 s a (b ∙ sym (e s)))
least_same f g n None e h = λ s a l b. h s a l (b ∙ sym (e s))

-- a least answer is some where a solution is
some_of : (f : ℕ → ℕ) (n : ℕ) (r : Option ℕ) → Least f n r → (t : ℕ) → 1 ≤ t → t ≤ n → t ≡ f t → is_some r ≡ true
some_of f n (Some u) h t a l e = refl
some_of f n None h t a l e = absurd (h t a l e)

-- a least answer that is some is a solution
of_some : (f : ℕ → ℕ) (n : ℕ) (r : Option ℕ) → Least f n r → is_some r ≡ true → (t : ℕ) × (1 ≤ t) × (t ≤ n) × (t ≡ f t)
of_some f n (Some t) h e = (t, h.0, h.1, h.2)
of_some f n None h e = absurd (false≢true e)

-- where some solution is, the least one is found
pub least_some_from : (n : ℕ) (f : ℕ → ℕ) (t : ℕ) → 1 ≤ t → t ≤ n → t ≡ f t → is_some (least_to n f) ≡ true
least_some_from n f t a l e = some_of f n (least_to n f) (least_is n f) t a l e

-- what is found is a solution
pub some_least : (n : ℕ) (f : ℕ → ℕ) → is_some (least_to n f) ≡ true → (t : ℕ) × (1 ≤ t) × (t ≤ n) × (t ≡ f t)
some_least n f e = of_some f n (least_to n f) (least_is n f) e

-- a function that is nowhere larger has a solution up to the limit too
pub least_shorter : (f g : ℕ → ℕ) (n : ℕ) → ((t : ℕ) → 1 ≤ t → 1 ≤ f t) → ((s t : ℕ) → 1 ≤ s → s ≤ t → f s ≤ f t) → ((t : ℕ) → f t ≤ g t) → is_some (least_to n g) ≡ true → is_some (least_to n f) ≡ true
least_shorter f g n some grows less e =
    let s = some_least n g e in
    let b : f s.0 ≤ s.0 = omega (arith, less s.0, s.3) in
    let r = below_some f some grows s.0 s.1 b in
    least_some_from n f r.0 r.1 (omega (arith, r.2, s.2, b)) r.3
