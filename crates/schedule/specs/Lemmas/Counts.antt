-- The counts of one task: `releases` and `dues`.
use Rattle.std.specs.Prelude.{◌≡◌, ℕ, zero, suc, ◌+◌, ◌-◌, ◌*◌, ◌/◌, ◌%◌, ◌<◌, ◌≤◌, min, nat_le}
use Rattle.std.proofs.Common.{inl, inr, suc-mul, add-mul, zero-mul, mul-le-mul_right, mod-lt, div-add-mod', le_of_mul-le-mul_right, arith}
use Rattle.std.proofs.Math.Nat.{div-zero}
use Rattle.std.proofs.lemmas.Bool.{cases_lt, cases_eq, le-leb, lt-leb, cond-true, cond-false}
use Rattle.schedule.specs.Demands.{releases, dues}

-- that many periods cover t
pub releases_cover : (t p : ℕ) → 1 ≤ p → t ≤ releases t p * p
unfolding releases
releases_cover t p h =
    let a = div-add-mod' (t + (p - 1)) p in
    let b = mod-lt (t + (p - 1)) h in omega arith

-- that many periods reach less than one period past t
pub releases_most : (t p : ℕ) → 1 ≤ p → releases t p * p ≤ t + (p - 1)
unfolding releases
releases_most t p h = let a = div-add-mod' (t + (p - 1)) p in omega arith

-- fewer periods do not cover t
pub releases_below : (t p m : ℕ) → 1 ≤ p → m < releases t p → m * p < t
releases_below t p m h l =
    let a = releases_most t p h in
    let c : suc m * p ≤ releases t p * p = mul-le-mul_right p l in
    let d = suc-mul m p in omega arith

-- as many periods or more cover t
pub releases_past : (t p m : ℕ) → 1 ≤ p → releases t p ≤ m → t ≤ m * p
releases_past t p m h l =
    let a = releases_cover t p h in
    let b : releases t p * p ≤ m * p = mul-le-mul_right p l in omega arith

-- a period of 0 counts no release
pub releases_without : (t : ℕ) → releases t 0 ≡ 0
unfolding releases
releases_without t = div-zero (t + (0 - 1))

-- more ticks have no fewer releases
pub releases_grow : (s t p : ℕ) → s ≤ t → releases s p ≤ releases t p
releases_grow s t zero l = let a = releases_without s in omega arith
releases_grow s t (suc q) l = elim (cases_lt (releases t (suc q)) (releases s (suc q))) [
  | inr g ↦ g
  | inl g ↦ (
      let a = releases_below s (suc q) (releases t (suc q)) (omega arith) g in
      let b = releases_cover t (suc q) (omega arith) in
      absurd (omega arith))
]

-- a window of at least one tick has a release
pub releases_some : (t p : ℕ) → 1 ≤ t → 1 ≤ p → 1 ≤ releases t p
releases_some t p h k = elim (cases_lt 0 (releases t p)) [
  | inl g ↦ g
  | inr g ↦ (
      let a = releases_past t p 0 k g in
      let z = zero-mul p in
      absurd (omega arith))
]

-- the quotient rounded up: one more where a rest is left
pub releases_up : (t p : ℕ) → 1 ≤ p → t / p + min 1 (t % p) ≡ releases t p
releases_up t p h =
    let n = releases t p in
    let q = t / p in
    let split = div-add-mod' t p in
    let cover = releases_cover t p h in
    let r = mod-lt t h in
    let up : suc q * p ≡ q * p + p = omega (arith, suc-mul q p) in
    elim (cases_eq (t % p) 0) [
      | inl e ↦ (
          let a : n ≤ q = elim (cases_lt q n) [
            | inr g ↦ g
            | inl g ↦ (let x = releases_below t p q h g in absurd (omega arith))
          ] in
          let b : q ≤ n = elim (cases_lt n q) [
            | inr g ↦ g
            | inl g ↦ (
                let y : suc n * p ≤ q * p = mul-le-mul_right p g in
                let z = suc-mul n p in
                absurd (omega arith))
          ] in
          omega arith)
      | inr e ↦ (
          let a : n ≤ suc q = elim (cases_lt (suc q) n) [
            | inr g ↦ g
            | inl g ↦ (let x = releases_below t p (suc q) h g in absurd (omega arith))
          ] in
          let b : suc q ≤ n = elim (cases_lt q n) [
            | inl g ↦ g
            | inr g ↦ (let y : n * p ≤ q * p = mul-le-mul_right p g in absurd (omega arith))
          ] in
          omega arith)
    ]

-- before the deadline no job is due
pub dues_none : (t d p : ℕ) → t < d → dues t d p ≡ 0
unfolding dues
dues_none t d p h = cond-false (nat_le d t) ((t - d) / p + 1) 0 (lt-leb d t h)

-- from the deadline on, one job is due and one more for each period since
pub dues_some : (t d p : ℕ) → d ≤ t → dues t d p ≡ (t - d) / p + 1
unfolding dues
dues_some t d p h = cond-true (nat_le d t) ((t - d) / p + 1) 0 (le-leb d t h)

-- the job number m, counted from 0, is due by t where more than m are
pub dues_below : (t d p m : ℕ) → 1 ≤ p → m < dues t d p → m * p + d ≤ t
dues_below t d p m h l = elim (cases_lt t d) [
  | inl g ↦ (let a = dues_none t d p g in absurd (omega arith))
  | inr g ↦ (
      let a = dues_some t d p g in
      let b = div-add-mod' (t - d) p in
      let q : m ≤ (t - d) / p = omega arith in
      let c : m * p ≤ (t - d) / p * p = mul-le-mul_right p q in
      omega arith)
]

-- the job number m, counted from 0, is not due by t where at most m are
pub dues_past : (t d p m : ℕ) → 1 ≤ p → dues t d p ≤ m → t < m * p + d
dues_past t d p m h l = elim (cases_lt t d) [
  | inl g ↦ omega arith
  | inr g ↦ (
      let a = dues_some t d p g in
      let b = div-add-mod' (t - d) p in
      let e = mod-lt (t - d) h in
      let q : suc ((t - d) / p) ≤ m = omega arith in
      let c : suc ((t - d) / p) * p ≤ m * p = mul-le-mul_right p q in
      let f = suc-mul ((t - d) / p) p in
      omega arith)
]

-- by m periods and a deadline more than m jobs are due
pub dues_reach : (t d p m : ℕ) → 1 ≤ p → m * p + d ≤ t → m < dues t d p
dues_reach t d p m h l = elim (cases_lt m (dues t d p)) [
  | inl g ↦ g
  | inr g ↦ (let a = dues_past t d p m h g in absurd (omega arith))
]

-- a period of 0 counts one job at most
dues_without : (s t d : ℕ) → s ≤ t → dues s d 0 ≤ dues t d 0
dues_without s t d l = elim (cases_lt s d) [
  | inl g ↦ (let a = dues_none s d 0 g in omega arith)
  | inr g ↦ (
      let a = dues_some s d 0 g in
      let b = dues_some t d 0 (omega arith) in
      let c = div-zero (s - d) in
      omega arith)
]

-- by a later instant no fewer jobs are due
pub dues_grow : (s t d p : ℕ) → s ≤ t → dues s d p ≤ dues t d p
dues_grow s t d zero l = dues_without s t d l
dues_grow s t d (suc q) l = elim (cases_lt (dues t d (suc q)) (dues s d (suc q))) [
  | inr g ↦ g
  | inl g ↦ (
      let a = dues_below s d (suc q) (dues t d (suc q)) (omega arith) g in
      let b = dues_past t d (suc q) (dues t d (suc q)) (omega arith) (omega arith) in
      absurd (omega arith))
]

-- a window longer by L ticks has at most what L ticks release more due in it
pub dues_shift : (L s d p : ℕ) → 1 ≤ p → dues (L + s) d p ≤ releases L p + dues s d p
dues_shift L s d p h = elim (cases_lt (releases L p + dues s d p) (dues (L + s) d p)) [
  | inr g ↦ g
  | inl g ↦ (
      let a = dues_below (L + s) d p (releases L p + dues s d p) h g in
      let b = releases_cover L p h in
      let c = dues_past s d p (dues s d p) h (omega arith) in
      let e = add-mul (releases L p) (dues s d p) p in
      absurd (omega arith))
]

-- no more jobs are due than are released
pub dues_releases : (t d p : ℕ) → 1 ≤ d → 1 ≤ p → dues t d p ≤ releases t p
dues_releases t d p k h = elim (cases_lt (releases t p) (dues t d p)) [
  | inr g ↦ g
  | inl g ↦ (
      let a = dues_below t d p (releases t p) h g in
      let b = releases_cover t p h in
      absurd (omega arith))
]

-- by m periods m jobs are due
pub dues_whole : (m d p : ℕ) → 1 ≤ d → d ≤ p → dues (m * p) d p ≡ m
dues_whole m d p h k =
    let a : dues (m * p) d p ≤ m = elim (cases_lt m (dues (m * p) d p)) [
      | inr g ↦ g
      | inl g ↦ (let x = dues_below (m * p) d p m (omega arith) g in absurd (omega arith))
    ] in
    let b : m ≤ dues (m * p) d p = elim (cases_lt (dues (m * p) d p) m) [
      | inr g ↦ g
      | inl g ↦ (
          let n = dues (m * p) d p in
          let x = dues_past (m * p) d p n (omega arith) (omega arith) in
          let y : suc n * p ≤ m * p = mul-le-mul_right p g in
          let z = suc-mul n p in
          absurd (omega arith))
    ] in
    omega arith

-- in m periods m jobs are released
pub releases_whole : (m p : ℕ) → 1 ≤ p → releases (m * p) p ≡ m
releases_whole m p h =
    let a : releases (m * p) p ≤ m = elim (cases_lt m (releases (m * p) p)) [
      | inr g ↦ g
      | inl g ↦ (let x = releases_below (m * p) p m h g in absurd (omega arith))
    ] in
    let b : m ≤ releases (m * p) p = le_of_mul-le-mul_right (releases_cover (m * p) p h) h in
    omega arith
