-- What the tasks together release and have due: `requested` and `processor-demand`.
use Rattle.std.specs.Prelude.{◌≡◌, ℕ, zero, suc, ◌+◌, ◌-◌, ◌*◌, ◌/◌, ◌<◌, ◌≤◌, List, [], ◌∷◌, map, length, slice_index, refl}
use Rattle.std.proofs.Common.{sym, ◌∙◌, ap, inl, inr, suc-mul, add-mul, one-mul, zero-mul, mul-le-mul_left, mul-le-mul_right, div-add-mod', arith}
use Rattle.std.proofs.Math.Nat.{mod-eq-zero_of_dvd}
use Rattle.std.proofs.lemmas.Bool.{cases_lt}
use Rattle.book.specs.Hyperperiod.{AllDivide}
use Rattle.book.specs.Keeping.{AllKeep}
use Rattle.book.specs.Ledger.{TaskRecord, period_of}
use Rattle.schedule.specs.Deciding.{AllTimely}
use Rattle.schedule.specs.Demands.{releases, requested, dues, processor_demand}
use Rattle.schedule.specs.EarliestDeadline.{DemandMet}
use Rattle.schedule.specs.Laws.{Shorter}
use Rattle.schedule.specs.Timed.{Timed, timed, deadline_at}
use Rattle.schedule.specs.Lemmas.Counts.{releases_grow, releases_most, releases_whole, dues_none, dues_reach, dues_grow, dues_shift, dues_releases, dues_whole}

-- every deadline is at least 1 and at most the period
abbrev pub AllFormed : List Timed → Type 0
AllFormed [] = Unit {0}
AllFormed (k ∷ ks) = (1 ≤ k.deadline) × (k.deadline ≤ k.period) × AllFormed ks

-- the tasks of a book have such deadlines
pub formed : (ts : List TaskRecord) (xs : List ℕ) → AllKeep ts → AllFormed (timed ts xs)
formed [] xs w = tt
formed (t ∷ ts) [] w = tt
formed (t ∷ ts) (x ∷ xs) w = (w.0.deadline_from, w.0.deadline_to, formed ts xs w.1)

-- more ticks have no less work released in them
pub requested_grows : (ks : List Timed) (s t : ℕ) → s ≤ t → requested ks s ≤ requested ks t
requested_grows [] s t h = omega arith
requested_grows (k ∷ ks) s t h =
    let l = releases_grow s t k.period h in
    let a : releases s k.period * k.time ≤ releases t k.period * k.time = mul-le-mul_right k.time l in
    let b = requested_grows ks s t h in
    omega arith

-- more ticks have no less work due in them
pub demand_grows : (ks : List Timed) (s t : ℕ) → s ≤ t → processor_demand ks s ≤ processor_demand ks t
demand_grows [] s t h = omega arith
demand_grows (k ∷ ks) s t h =
    let l = dues_grow s t k.deadline k.period h in
    let a : dues s k.deadline k.period * k.time ≤ dues t k.deadline k.period * k.time = mul-le-mul_right k.time l in
    let b = demand_grows ks s t h in
    omega arith

-- nothing is due at once
pub demand_none : (ks : List Timed) → AllFormed ks → processor_demand ks 0 ≡ 0
demand_none [] f = refl
demand_none (k ∷ ks) f =
    let a : dues 0 k.deadline k.period * k.time ≡ 0 * k.time = ap (λ n. n * k.time) (dues_none 0 k.deadline k.period f.0) in
    let z = zero-mul k.time in
    let b = demand_none ks f.2 in
    omega arith

-- no more work is due than is released
pub demand_requested : (ks : List Timed) → AllFormed ks → (t : ℕ) → processor_demand ks t ≤ requested ks t
demand_requested [] f t = omega arith
demand_requested (k ∷ ks) f t =
    let p : 1 ≤ k.period = omega (arith, f.0, f.1) in
    let l = dues_releases t k.deadline k.period f.0 p in
    let a : dues t k.deadline k.period * k.time ≤ releases t k.period * k.time = mul-le-mul_right k.time l in
    let b = demand_requested ks f.2 t in
    omega arith

-- a window longer by L ticks has at most the work that L ticks release more due in it
pub demand_shift : (ks : List Timed) → AllFormed ks → (L s : ℕ) → processor_demand ks (L + s) ≤ requested ks L + processor_demand ks s
demand_shift [] f L s = omega arith
demand_shift (k ∷ ks) f L s =
    let p : 1 ≤ k.period = omega (arith, f.0, f.1) in
    let l = dues_shift L s k.deadline k.period p in
    let a : dues (L + s) k.deadline k.period * k.time ≤ (releases L k.period + dues s k.deadline k.period) * k.time = mul-le-mul_right k.time l in
    let e = add-mul (releases L k.period) (dues s k.deadline k.period) k.time in
    let b = demand_shift ks f.2 L s in
    omega arith

-- the instants below n are met, by steps of L
met_below : (ks : List Timed) → AllFormed ks → (L : ℕ) → 1 ≤ L → requested ks L ≤ L → ((t : ℕ) → 1 ≤ t → t < L → processor_demand ks t ≤ t)
    → (n t : ℕ) → t < n → processor_demand ks t ≤ t
met_below ks f L one r h zero t l = absurd (omega arith)
met_below ks f L one r h (suc n) zero l = let z = demand_none ks f in omega arith
met_below ks f L one r h (suc n) (suc t) l = elim (cases_lt (suc t) L) [
  | inl g ↦ h (suc t) (omega arith) g
  | inr g ↦ (
      let i = met_below ks f L one r h n (suc t - L) (omega arith) in
      let a = demand_shift ks f L (suc t - L) in
      let e : L + (suc t - L) ≡ suc t = omega arith in
      let b : processor_demand ks (L + (suc t - L)) ≡ processor_demand ks (suc t) = ap (λ x. processor_demand ks x) e in
      omega arith)
]

-- where L ticks have time for all that they release, the instants below L decide all
pub enough : (ks : List Timed) → AllFormed ks → (L : ℕ) → 1 ≤ L → requested ks L ≤ L → ((t : ℕ) → 1 ≤ t → t < L → processor_demand ks t ≤ t) → DemandMet ks
enough ks f L one r h t k = met_below ks f L one r h (suc t) t (omega arith)

-- by a common multiple of the periods all that is released is due
pub whole : (ts : List TaskRecord) (xs : List ℕ) → AllKeep ts → (h : ℕ) → AllDivide (map period_of ts) h → processor_demand (timed ts xs) h ≡ requested (timed ts xs) h
whole [] xs w h d = refl
whole (t ∷ ts) [] w h d = refl
whole (t ∷ ts) (x ∷ xs) w h d =
    let p = t.period in
    let m = h / t.period in
    let r = mod-eq-zero_of_dvd t.period d.0 in
    let s = div-add-mod' h t.period in
    let e : h ≡ m * p = omega arith in
    let a : dues h t.deadline p ≡ m = ap (λ u. dues u t.deadline p) e ∙ dues_whole m t.deadline p w.0.deadline_from w.0.deadline_to in
    let b : releases h p ≡ m = ap (λ u. releases u p) e ∙ releases_whole m p w.0.period_from in
    let c : dues h t.deadline p * x ≡ releases h p * x = ap (λ u. u * x) (a ∙ sym b) in
    let i = whole ts xs w.1 h d.1 in
    omega arith

-- shorter times have no more work due
pub demand_shorter : (ts : List TaskRecord) (xs ys : List ℕ) → Shorter ys xs → (t : ℕ) → processor_demand (timed ts ys) t ≤ processor_demand (timed ts xs) t
demand_shorter [] xs ys w t = omega arith
demand_shorter (k ∷ ks) [] [] w t = omega arith
demand_shorter (k ∷ ks) [] (y ∷ ys) w t = elim w [ ]
demand_shorter (k ∷ ks) (x ∷ xs) [] w t = elim w [ ]
demand_shorter (k ∷ ks) (x ∷ xs) (y ∷ ys) w t =
    let a : dues t k.deadline k.period * y ≤ dues t k.deadline k.period * x = mul-le-mul_left (dues t k.deadline k.period) w.1 in
    let b = demand_shorter ks xs ys w.2 t in
    omega arith

-- where the demand is met, no time exceeds its deadline
pub met_timely : (ks : List Timed) → AllFormed ks → DemandMet ks → AllTimely ks
met_timely [] f m = tt
met_timely (k ∷ ks) f m = (
  (let a = m k.deadline f.0 in
      let p : 1 ≤ k.period = omega (arith, f.0, f.1) in
      let z = zero-mul k.period in
      let q = dues_reach k.deadline k.deadline k.period 0 p (omega arith) in
      let b : 1 * k.time ≤ dues k.deadline k.deadline k.period * k.time = mul-le-mul_right k.time q in
      let o = one-mul k.time in
      omega arith),
  met_timely ks f.2 (λ t h. let a = m t h in omega arith),
)

-- the time at each place is at most the deadline at it
pub timely_at : (ts : List TaskRecord) (xs : List ℕ) (i : ℕ) → i < length ts → i < length xs → AllTimely (timed ts xs) → slice_index xs i ≤ deadline_at ts i
timely_at [] xs i h l w = absurd (omega arith)
timely_at (t ∷ ts) [] i h l w = absurd (omega arith)
timely_at (t ∷ ts) (x ∷ xs) zero h l w = w.0
timely_at (t ∷ ts) (x ∷ xs) (suc i) h l w = timely_at ts xs i (omega arith) (omega arith) w.1

-- t ticks release at most t + 1,000,000 ticks of work for each task
pub requested_fits : (ts : List TaskRecord) (xs : List ℕ) → AllKeep ts → AllTimely (timed ts xs) → (t : ℕ) → requested (timed ts xs) t ≤ length ts * (t + 1000000)
requested_fits [] xs w y t = omega arith
requested_fits (k ∷ ks) [] w y t = omega arith
requested_fits (k ∷ ks) (x ∷ xs) w y t =
    let g = w.0 in
    let l : x ≤ k.period = omega (arith, y.0, g.deadline_to) in
    let a : releases t k.period * x ≤ releases t k.period * k.period = mul-le-mul_left (releases t k.period) l in
    let b = releases_most t k.period g.period_from in
    let c = requested_fits ks xs w.1 y.1 t in
    let e = suc-mul (length ks) (t + 1000000) in
    omega (arith, g.period_to)
