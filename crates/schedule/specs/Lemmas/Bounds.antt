-- A bound past which the processor demand is met, from the work of a cycle.
use Rattle.std.specs.Prelude.{◌≡◌, ℕ, zero, suc, ◌+◌, ◌-◌, ◌*◌, ◌/◌, ◌%◌, ◌<◌, ◌≤◌, min, List, [], ◌∷◌, map, refl}
use Rattle.std.specs.Int.{◌∣◌}
use Rattle.std.proofs.Common.{ap, subst, ◌∙◌, inl, inr, ⊎_elim, suc-mul, add-mul, mul-add, zero-mul, mul_comm, mul-le-mul_left, mul-le-mul_right, mod-lt, div-add-mod', lt_of_mul-lt-mul_right, arith}
use Rattle.std.proofs.Math.Nat.{mul-mul-mul_comm, mod-eq-zero_of_dvd}
use Rattle.std.proofs.lemmas.Bool.{cases_lt}
use Rattle.book.specs.Classes.{work_in}
use Rattle.book.specs.Hyperperiod.{AllDivide}
use Rattle.book.specs.Keeping.{AllKeep}
use Rattle.book.specs.Ledger.{TaskRecord, period_of}
use Rattle.schedule.specs.Deciding.{Suffices, early_work}
use Rattle.schedule.specs.Demands.{releases, requested, dues, processor_demand}
use Rattle.schedule.specs.Timed.{timed}
use Rattle.schedule.specs.Lemmas.Counts.{dues_below, releases_whole}
use Rattle.schedule.specs.Lemmas.Sums.{enough, formed}

-- a multiple of a period is its quotient times the period
parts : (h p : ℕ) → p ∣ h → h ≡ h / p * p
parts h p d =
    let r = mod-eq-zero_of_dvd p d in
    let s = div-add-mod' h p in
    omega arith

-- n jobs that are due by t have periods that reach at most p - d past t
periods_due : (t d p n : ℕ) → 1 ≤ p → d ≤ p → n ≤ dues t d p → n * p ≤ t + (p - d)
periods_due t d p zero one le l = let z = zero-mul p in omega arith
periods_due t d p (suc m) one le l =
    let a = dues_below t d p m one l in
    let b = suc-mul m p in
    omega arith

-- the work of one task due by t, times the cycle
due_linear : (t d p x h : ℕ) → 1 ≤ p → d ≤ p → p ∣ h → dues t d p * x * h ≤ t * (h / p * x) + (p - d) * (h / p * x)
due_linear t d p x h one le dv =
    let n = dues t d p in
    let q = h / p in
    let e : h ≡ p * q = omega (arith, parts h p dv, mul_comm (h / p) p) in
    let a : n * x * h ≡ n * x * (p * q) = ap (λ u. n * x * u) e in
    let b : n * x * (p * q) ≡ n * p * (x * q) = mul-mul-mul_comm n x p q in
    let c : n * p * (x * q) ≡ n * p * (q * x) = ap (λ u. n * p * u) (mul_comm x q) in
    let f : n * p ≤ t + (p - d) = periods_due t d p n one le (omega arith) in
    let g : n * p * (q * x) ≤ (t + (p - d)) * (q * x) = mul-le-mul_right (q * x) f in
    let i : (t + (p - d)) * (q * x) ≡ t * (q * x) + (p - d) * (q * x) = add-mul t (p - d) (q * x) in
    omega arith

-- the demand of t ticks, times the cycle, is at most t times the work of the cycle and the early work more
pub demand_linear : (ts : List TaskRecord) (xs : List ℕ) → AllKeep ts → (h : ℕ) → AllDivide (map period_of ts) h → (t : ℕ)
    → processor_demand (timed ts xs) t * h ≤ t * work_in h ts xs + early_work h (timed ts xs)
demand_linear [] xs w h d t = let z = zero-mul h in omega arith
demand_linear (k ∷ ks) [] w h d t = let z = zero-mul h in omega arith
demand_linear (k ∷ ks) (x ∷ xs) w h d t =
    let n = dues t k.deadline k.period in
    let r = processor_demand (timed ks xs) t in
    let one = h / k.period * x in
    let rest = work_in h ks xs in
    let a : n * x * h ≤ t * one + (k.period - k.deadline) * one = due_linear t k.deadline k.period x h w.0.period_from w.0.deadline_to d.0 in
    let b : r * h ≤ t * rest + early_work h (timed ks xs) = demand_linear ks xs w.1 h d.1 t in
    let c : (n * x + r) * h ≡ n * x * h + r * h = add-mul (n * x) r h in
    let e : t * (one + rest) ≡ t * one + t * rest = mul-add t one rest in
    omega arith

-- what the tasks release in the cycle is its work
pub work_requested : (ts : List TaskRecord) (xs : List ℕ) → AllKeep ts → (h : ℕ) → AllDivide (map period_of ts) h → requested (timed ts xs) h ≡ work_in h ts xs
work_requested [] xs w h d = refl
work_requested (k ∷ ks) [] w h d = refl
work_requested (k ∷ ks) (x ∷ xs) w h d =
    let p = k.period in
    let m = h / k.period in
    let e : h ≡ m * p = parts h k.period d.0 in
    let a : releases h p ≡ m = ap (λ u. releases u p) e ∙ releases_whole m p w.0.period_from in
    let b : releases h p * x ≡ m * x = ap (λ u. u * x) a in
    let i = work_requested ks xs w.1 h d.1 in
    omega arith

-- where the cycle has ticks left, the demand is met at each instant whose share of them exceeds the early work
pub met_from : (ts : List TaskRecord) (xs : List ℕ) → AllKeep ts → (h : ℕ) → AllDivide (map period_of ts) h → work_in h ts xs < h → (t : ℕ)
    → early_work h (timed ts xs) < t * (h - work_in h ts xs) → processor_demand (timed ts xs) t ≤ t
met_from ts xs w h d lt t l =
    let n = processor_demand (timed ts xs) t in
    let work = work_in h ts xs in
    let a : n * h ≤ t * work + early_work h (timed ts xs) = demand_linear ts xs w h d t in
    let b : t * (work + (h - work)) ≡ t * work + t * (h - work) = mul-add t work (h - work) in
    let s : work + (h - work) ≡ h = omega arith in
    let c : t * (work + (h - work)) ≡ t * h = ap (λ u. t * u) s in
    let e : n * h < t * h = omega arith in
    let f : n < t = lt_of_mul-lt-mul_right h e in
    omega arith

-- where the cycle has ticks left, the instants up to the early work divided by them decide all
pub bound_suffices : (ts : List TaskRecord) (xs : List ℕ) → AllKeep ts → (h : ℕ) → AllDivide (map period_of ts) h → work_in h ts xs < h → (end : ℕ)
    → early_work h (timed ts xs) / (h - work_in h ts xs) + 1 ≤ end → Suffices (timed ts xs) end
bound_suffices ts xs w h d lt end le met t from = elim (cases_lt t end) [
  | inl l ↦ met t from l
  | inr l ↦ (
      let early = early_work h (timed ts xs) in
      let left = h - work_in h ts xs in
      let q = early / left in
      let some : 0 < left = omega arith in
      let a : q * left + early % left ≡ early = div-add-mod' early left in
      let b : early % left < left = mod-lt early some in
      let c : suc q * left ≡ q * left + left = suc-mul q left in
      let m : suc q ≤ t = omega arith in
      let e : suc q * left ≤ t * left = mul-le-mul_right left m in
      met_from ts xs w h d lt t (omega arith))
]

-- the work of one task in the cycle is at most the cycle where its time is at most its period
pub work_within : (h p x : ℕ) → x ≤ p → h / p * x ≤ h
work_within h p x le =
    let a : h / p * x ≤ h / p * p = mul-le-mul_left (h / p) le in
    let b = div-add-mod' h p in
    omega arith

-- a cycle that has time for its work suffices
pub cycle_suffices : (ts : List TaskRecord) (xs : List ℕ) → AllKeep ts → (h : ℕ) → AllDivide (map period_of ts) h → 1 ≤ h → work_in h ts xs ≤ h → Suffices (timed ts xs) h
cycle_suffices ts xs keep h d one le = enough (timed ts xs) (formed ts xs keep) h one (omega (arith, work_requested ts xs keep h d))

-- the nearer of the bound and the cycle suffices
pub limit_suffices : (ts : List TaskRecord) (xs : List ℕ) → AllKeep ts → (h : ℕ) → AllDivide (map period_of ts) h → 1 ≤ h → work_in h ts xs < h → (limit : ℕ)
    → limit ≡ min h (early_work h (timed ts xs) / (h - work_in h ts xs) + 1) → Suffices (timed ts xs) limit
limit_suffices ts xs keep h d one less limit is =
    let bound = early_work h (timed ts xs) / (h - work_in h ts xs) + 1 in
    ⊎_elim
    (λ (far : h < bound). let e : h ≡ limit = omega arith in subst (Suffices (timed ts xs)) e (cycle_suffices ts xs keep h d one (omega arith)))
    (λ (near : bound ≤ h). bound_suffices ts xs keep h d less limit (omega arith))
    (cases_lt h bound)
