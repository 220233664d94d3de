-- Euclid's algorithm finds the greatest common divisor, which gives the least common multiple; and the hyperperiod is the least common multiple of all periods.
use Rattle.std.proofs.Common.{◌≡◌, ℕ, zero, suc, ◌+◌, ◌*◌, ◌/◌, ◌%◌, ◌<◌, ◌≤◌, true, false, eqb, List, [], ◌∷◌, ◌++◌, sym, refl, ap, ◌∙◌, subst, inl, inr, mod-lt, mul_assoc, mul_comm, mul-pos, mul-add, arith}
use Prim.Native.Nat.{◌∣◌}
use native.Mathlib.Nat.{mod-add-div, dvd_refl, dvd-zero, one-dvd, dvd_trans, dvd_antisymm, pos_of_dvd_of_pos, dvd-mod_iff, dvd_of_mod-eq-zero, mod-eq-zero_of_dvd, dvd-mul_left, dvd-mul_right, dvd-mul_right_of_dvd, dvd-add_iff_left, mul-div_cancel', div-mul_cancel, mul-dvd-mul_left, mul-dvd-mul_right, dvd_of_mul-dvd-mul_left}
use Rattle.std.proofs.lemmas.Bool.{eqb-true, eq-eqb, and_parts, and_from, both_ways, cond_both, cases_eq}
use Rattle.book.specs.Divisors.{IsGcd, IsLcm}
use Rattle.book.specs.Hyperperiod.{common, least_from, product, hyperperiod, AllDivide, IsHyperperiod}

-- every period is at least 1
abbrev pub AllPositive : List ℕ → Type 0
AllPositive [] = Unit {0}
AllPositive (p ∷ ps) = (1 ≤ p) × AllPositive ps

-- the greatest common divisor of a and 0 is a
pub gcd_base : (a b : ℕ) → b ≡ 0 → IsGcd a b a
gcd_base a b e = (dvd_refl a, subst (λ z. a ∣ z) (sym e) (dvd-zero a), λ k d p q. p)

-- what divides k * a and k * b divides k * (a % b)
divides_rest : (a b k d : ℕ) → d ∣ (k * a) → d ∣ (k * b) → d ∣ (k * (a % b))
divides_rest a b k d p q =
    let split : k * a ≡ k * (a % b) + k * b * (a / b) =
    ap (λ z. k * z) (sym (mod-add-div a b)) ∙ mul-add k (a % b) (b * (a / b)) ∙ ap (λ z. k * (a % b) + z) (sym (mul_assoc k b (a / b))) in
    (dvd-add_iff_left d (dvd-mul_right_of_dvd d q (a / b))).1 (subst (λ z. d ∣ z) split p)

-- the greatest common divisor of b and a % b is that of a and b
pub gcd_step : (a b g : ℕ) → (b ≡ 0 → ⊥) → IsGcd b (a % b) g → IsGcd a b g
gcd_step a b g e h = ((dvd-mod_iff g h.0).0 h.1, h.0, λ k d p q. h.2 k d q (divides_rest a b k d p q))

-- a greatest common divisor of a positive number is positive
pub gcd_pos : (a b g : ℕ) → 1 ≤ a → IsGcd a b g → 1 ≤ g
gcd_pos a b g pos h = pos_of_dvd_of_pos h.0 pos

-- a / g * b is a multiple of a too, since g divides b
lcm_left : (a b g : ℕ) → g ∣ a → g ∣ b → a ∣ (a / g * b)
lcm_left a b g p q =
    let e : a * (b / g) ≡ a / g * b =
    ap (λ z. z * (b / g)) (sym (div-mul_cancel g p)) ∙ mul_assoc (a / g) g (b / g) ∙ ap (λ z. a / g * z) (mul-div_cancel' g q) in
    subst (λ z. a ∣ z) e (dvd-mul_right a (b / g))

-- a / g * b divides every common multiple m, since a * b divides both m * a and m * b, and so m * g
lcm_least : (a b g m : ℕ) → 1 ≤ a → IsGcd a b g → a ∣ m → b ∣ m → (a / g * b) ∣ m
lcm_least a b g m pos h p q =
    let one : (a * b) ∣ (m * a) = subst (λ z. (a * b) ∣ z) (mul_comm a m) (mul-dvd-mul_left b a q) in
    let both : (a * b) ∣ (m * g) = h.2 m (a * b) one (mul-dvd-mul_right a p b) in
    let e : a * b ≡ g * (a / g * b) = ap (λ z. z * b) (sym (mul-div_cancel' g h.0)) ∙ mul_assoc g (a / g) b in
    let times : (g * (a / g * b)) ∣ (g * m) = subst (λ z. z ∣ (g * m)) e (subst (λ z. (a * b) ∣ z) (mul_comm m g) both) in
    dvd_of_mul-dvd-mul_left (a / g * b) (gcd_pos a b g pos h) times

-- a * b over the greatest common divisor is the least common multiple
pub lcm_is : (a b g : ℕ) → 1 ≤ a → IsGcd a b g → IsLcm a b (a / g * b)
lcm_is a b g pos h = (lcm_left a b g h.0 h.1, dvd-mul_left b (a / g), λ m. lcm_least a b g m pos h)

-- the test for a common multiple, when true, tells of one
common_divides : (ps : List ℕ) (m : ℕ) → common ps m ≡ true → AllDivide ps m
common_divides [] m e = tt
common_divides (p ∷ ps) m e =
    let t = and_parts (eqb (m % p) 0) (common ps m) e in
    (dvd_of_mod-eq-zero p (eqb-true (m % p) 0 t.0), common_divides ps m t.1)

-- the test for a common multiple is true of each
divides_common : (ps : List ℕ) (m : ℕ) → AllDivide ps m → common ps m ≡ true
divides_common [] m d = refl
divides_common (p ∷ ps) m d =
    and_from (eqb (m % p) 0) (common ps m) (eq-eqb (m % p) 0 (mod-eq-zero_of_dvd p d.0)) (divides_common ps m d.1)

-- a multiple of a common multiple is one
divide_multiple : (ps : List ℕ) (m n : ℕ) → m ∣ n → AllDivide ps m → AllDivide ps n
divide_multiple [] m n e d = tt
divide_multiple (p ∷ ps) m n e d = (dvd_trans p d.0 e, divide_multiple ps m n e d.1)

-- the rest of one common multiple by another is one
divide_rest : (ps : List ℕ) (m h : ℕ) → AllDivide ps m → AllDivide ps h → AllDivide ps (m % h)
divide_rest [] m h d e = tt
divide_rest (p ∷ ps) m h d e = ((dvd-mod_iff p e.0).1 d.0, divide_rest ps m h d.1 e.1)

-- the product is a common multiple
product_divides : (ps : List ℕ) → AllDivide ps (product ps)
product_divides [] = tt
product_divides (p ∷ ps) =
    (dvd-mul_right p (product ps), divide_multiple ps (product ps) (p * product ps) (dvd-mul_left (product ps) p) (product_divides ps))

-- the product of positive numbers is positive
product_pos : (ps : List ℕ) → AllPositive ps → 1 ≤ product ps
product_pos [] h = omega arith
product_pos (p ∷ ps) h = mul-pos h.0 (product_pos ps h.1)

-- r is the least common multiple from m on
abbrev LeastFrom : List ℕ → ℕ → ℕ → Type 0
LeastFrom ps m r = AllDivide ps r × (m ≤ r) × ((n : ℕ) → m ≤ n → AllDivide ps n → r ≤ n)

-- a common multiple from m on is beyond m, if the test is false of m
beyond : (ps : List ℕ) (m n : ℕ) → common ps m ≡ false → m ≤ n → AllDivide ps n → m < n
beyond ps m n false_at le d =
    elim (cases_eq n m) [
      | inl e ↦ absurd (both_ways (common ps m) false_at (divides_common ps m (subst (AllDivide ps) e d)))
      | inr e ↦ omega arith
    ]

-- the search finds the least common multiple from m on, if the tries reach a common multiple M
search_finds : (tries m M : ℕ) (ps : List ℕ) → m ≤ M → M ≤ m + tries → AllDivide ps M → LeastFrom ps m (least_from tries m ps)
search_finds zero m M ps low high d =
    let e : M ≡ m = omega arith in (subst (AllDivide ps) e d, omega arith, λ n le dn. le)
search_finds (suc tries) m M ps low high d =
    cond_both (common ps m) m (least_from tries (suc m) ps) (LeastFrom ps m)
    (λ true_at. (common_divides ps m true_at, omega arith, λ n le dn. le))
    (λ false_at.
    let next : suc m ≤ M = omega (arith, beyond ps m M false_at low d) in
    let r = search_finds tries (suc m) M ps next (omega arith) d in
    (r.0, omega arith, λ n le dn. r.2 n (omega (arith, beyond ps m n false_at le dn)) dn))

-- the hyperperiod is the least common multiple from 1 on
hyperperiod_least : (ps : List ℕ) → AllPositive ps → LeastFrom ps 1 (hyperperiod ps)
unfolding hyperperiod
hyperperiod_least ps h = search_finds (product ps) 1 (product ps) ps (product_pos ps h) (omega arith) (product_divides ps)

-- the hyperperiod is positive
pub hyperperiod_pos : (ps : List ℕ) → AllPositive ps → 1 ≤ hyperperiod ps
hyperperiod_pos ps h = (hyperperiod_least ps h).1

-- the hyperperiod divides every common multiple, since the rest would be a smaller one
hyperperiod_divides : (ps : List ℕ) → AllPositive ps → (m : ℕ) → AllDivide ps m → hyperperiod ps ∣ m
hyperperiod_divides ps h m d =
    let least = hyperperiod_least ps h in
    let below : m % hyperperiod ps < hyperperiod ps = mod-lt m least.1 in
    elim (cases_eq (m % hyperperiod ps) 0) [
      | inl e ↦ dvd_of_mod-eq-zero (hyperperiod ps) e
      | inr e ↦
          let bad = least.2 (m % hyperperiod ps) (omega arith) (divide_rest ps m (hyperperiod ps) d least.0) in
          absurd (omega arith)
    ]

-- the hyperperiod is a common multiple that divides each
pub hyperperiod_is : (ps : List ℕ) → AllPositive ps → IsHyperperiod ps (hyperperiod ps)
hyperperiod_is ps h = ((hyperperiod_least ps h).0, hyperperiod_divides ps h)

-- only the hyperperiod is a common multiple that divides each
pub is_hyperperiod : (ps : List ℕ) (h : ℕ) → AllPositive ps → IsHyperperiod ps h → h ≡ hyperperiod ps
is_hyperperiod ps h pos is =
    dvd_antisymm (is.1 (hyperperiod ps) (hyperperiod_is ps pos).0) (hyperperiod_divides ps pos h is.0)

-- the hyperperiod of no periods is 1
pub hyperperiod_none : hyperperiod [] ≡ 1
hyperperiod_none = sym (is_hyperperiod [] 1 tt (tt, λ m d. one-dvd m))

-- without one of them, the periods are still positive
positive_less : (xs ys : List ℕ) (p : ℕ) → AllPositive (xs ++ p ∷ ys) → AllPositive (xs ++ ys)
positive_less [] ys p h = h.1
positive_less (x ∷ xs) ys p h = (h.0, positive_less xs ys p h.1)

-- the first of the periods are positive
pub positive_front : (xs ys : List ℕ) → AllPositive (xs ++ ys) → AllPositive xs
positive_front [] ys h = tt
positive_front (x ∷ xs) ys h = (h.0, positive_front xs ys h.1)

-- a common multiple is one of a period and of the others
divide_less : (xs ys : List ℕ) (p m : ℕ) → AllDivide (xs ++ p ∷ ys) m → (p ∣ m) × AllDivide (xs ++ ys) m
divide_less [] ys p m d = d
divide_less (x ∷ xs) ys p m d = let r = divide_less xs ys p m d.1 in (r.0, (d.0, r.1))

-- a multiple of a period and of the others is a common multiple
divide_more : (xs ys : List ℕ) (p m : ℕ) → p ∣ m → AllDivide (xs ++ ys) m → AllDivide (xs ++ p ∷ ys) m
divide_more [] ys p m e d = (e, d)
divide_more (x ∷ xs) ys p m e d = (d.0, divide_more xs ys p m e d.1)

-- a common multiple is one of the first of the periods
divide_front : (xs ys : List ℕ) (m : ℕ) → AllDivide (xs ++ ys) m → AllDivide xs m
divide_front [] ys m d = tt
divide_front (x ∷ xs) ys m d = (d.0, divide_front xs ys m d.1)

-- the least common multiple of one more period and the hyperperiod is the new hyperperiod
pub hyperperiod_one_more : (xs ys : List ℕ) (p l : ℕ) → AllPositive (xs ++ p ∷ ys) → IsLcm p (hyperperiod (xs ++ ys)) l → l ≡ hyperperiod (xs ++ p ∷ ys)
hyperperiod_one_more xs ys p l h is =
    let old = hyperperiod_is (xs ++ ys) (positive_less xs ys p h) in
    is_hyperperiod (xs ++ p ∷ ys) l h (
      divide_more xs ys p l is.0 (divide_multiple (xs ++ ys) (hyperperiod (xs ++ ys)) l is.1 old.0),
      λ m d. let t = divide_less xs ys p m d in is.2 m t.0 (old.1 m t.1),
    )

-- the hyperperiod does not grow where a period is taken out
pub hyperperiod_less : (xs ys : List ℕ) (p : ℕ) → AllPositive (xs ++ p ∷ ys) → hyperperiod (xs ++ ys) ≤ hyperperiod (xs ++ p ∷ ys)
hyperperiod_less xs ys p h =
    let all = hyperperiod_least (xs ++ p ∷ ys) h in
    (hyperperiod_least (xs ++ ys) (positive_less xs ys p h)).2 (hyperperiod (xs ++ p ∷ ys)) all.1
    (divide_less xs ys p (hyperperiod (xs ++ p ∷ ys)) all.0).1

-- the hyperperiod of the first of the periods is at most that of all
pub hyperperiod_front : (xs ys : List ℕ) → AllPositive (xs ++ ys) → hyperperiod xs ≤ hyperperiod (xs ++ ys)
hyperperiod_front xs ys h =
    let all = hyperperiod_least (xs ++ ys) h in
    (hyperperiod_least xs (positive_front xs ys h)).2 (hyperperiod (xs ++ ys)) all.1
    (divide_front xs ys (hyperperiod (xs ++ ys)) all.0)
