-- The earliest-deadline test: one hyperperiod decides all instants, and the test keeps the laws of a test.
use Rattle.std.specs.Prelude.{◌≡◌, ℕ, zero, suc, ◌<◌, ◌≤◌, Bool, true, false, List, [], ◌∷◌, map, length, nat_le, slice_index, refl}
use Rattle.std.proofs.Common.{sym, ap, subst, ◌∙◌, inl, inr, arith}
use Rattle.std.proofs.lemmas.Bool.{false_from_ne_true, cases_eq, and_parts, and_from, both_ways, false≢true, leb-true, le-leb}
use Rattle.book.specs.Classes.{work_in}
use Rattle.book.specs.Hyperperiod.{AllDivide, hyperperiod}
use Rattle.book.specs.Keeping.{AllKeep}
use Rattle.book.specs.Ledger.{TaskRecord, period_of}
use Rattle.book.proofs.Multiples.{AllPositive, hyperperiod_is, hyperperiod_pos}
use Rattle.schedule.specs.Deciding.{AllTimely, MetBefore, Suffices}
use Rattle.schedule.specs.Demands.{processor_demand}
use Rattle.schedule.specs.EarliestDeadline.{AlwaysMet, every_to, earliest_deadline}
use Rattle.schedule.specs.Laws.{Shorter, Lawful, Exactly}
use Rattle.schedule.specs.Timed.{timed, well_shaped, deadline_at}
use Rattle.schedule.specs.Lemmas.Bounds.{work_requested}
use Rattle.schedule.specs.Lemmas.Shapes.{shaped_parts, shorter_shaped}
use Rattle.schedule.specs.Lemmas.Sums.{formed, enough, whole, demand_shorter, met_timely, timely_at}

-- the periods of a book's tasks are at least 1
pub periods_positive : (ts : List TaskRecord) → AllKeep ts → AllPositive (map period_of ts)
periods_positive [] w = tt
periods_positive (t ∷ ts) w = (w.0.period_from, periods_positive ts w.1)

-- what holds of each number from 1 to n holds of k
every_at : (n : ℕ) (p : ℕ → Bool) → every_to n p ≡ true → (k : ℕ) → 1 ≤ k → k ≤ n → p k ≡ true
every_at zero p e k h l = absurd (omega arith)
every_at (suc n) p e k h l = elim (cases_eq k (suc n)) [
  | inl q ↦ ap p q ∙ (and_parts (p (suc n)) (every_to n p) e).0
  | inr ne ↦ every_at n p (and_parts (p (suc n)) (every_to n p) e).1 k h (omega arith)
]

-- p holds of each number from 1 to n if of each k from 1 to n
every_from : (n : ℕ) (p : ℕ → Bool) → ((k : ℕ) → 1 ≤ k → k ≤ n → p k ≡ true) → every_to n p ≡ true
every_from zero p all = refl
every_from (suc n) p all =
    and_from (p (suc n)) (every_to n p) (all (suc n) (omega arith) (omega arith)) (every_from n p (λ k h l. all k h (omega arith)))

-- a yes means that the demand is met at every instant
earliest_true : (ts : List TaskRecord) (xs : List ℕ) → AllKeep ts → earliest_deadline ts xs ≡ true → AlwaysMet ts xs
unfolding earliest_deadline
earliest_true ts xs w e =
    let h = hyperperiod (map period_of ts) in
    let f : ℕ → Bool = λ t. nat_le (processor_demand (timed ts xs) t) t in
    let parts = and_parts (well_shaped ts xs) (every_to h f) e in
    let pos = periods_positive ts w in
    let one : 1 ≤ h = hyperperiod_pos (map period_of ts) pos in
    let fine : (t : ℕ) → 1 ≤ t → t ≤ h → processor_demand (timed ts xs) t ≤ t = (λ t g l. leb-true (processor_demand (timed ts xs) t) t (every_at h f parts.1 t g l)) in
    let a = whole ts xs w h (hyperperiod_is (map period_of ts) pos).0 in
    let b = fine h one (omega arith) in
    record {
      shaped = parts.0;
      met = enough (timed ts xs) (formed ts xs w) h one (omega arith) (λ t g l. fine t g (omega arith));
    }

-- where the demand is met at every instant the answer is yes
earliest_from : (ts : List TaskRecord) (xs : List ℕ) → AlwaysMet ts xs → earliest_deadline ts xs ≡ true
unfolding earliest_deadline
earliest_from ts xs m =
    let h = hyperperiod (map period_of ts) in
    let f : ℕ → Bool = λ t. nat_le (processor_demand (timed ts xs) t) t in
    and_from (well_shaped ts xs) (every_to h f) m.shaped
    (every_from h f (λ t g l. le-leb (processor_demand (timed ts xs) t) t (m.met t g)))

-- the answer is yes exactly when the demand is met at every instant
pub earliest_exactly : (ts : List TaskRecord) (xs : List ℕ) → AllKeep ts → Exactly (earliest_deadline ts xs) (AlwaysMet ts xs)
earliest_exactly ts xs w = (earliest_true ts xs w, earliest_from ts xs)

-- shorter times meet the demand too
pub always_shorter : (ts : List TaskRecord) (xs ys : List ℕ) → Shorter ys xs → AlwaysMet ts xs → AlwaysMet ts ys
always_shorter ts xs ys s m = record {
  shaped = shorter_shaped ts xs ys s m.shaped;
  met = λ t g. (let a = demand_shorter ts xs ys s t in let b = m.met t g in omega arith);
}

-- where the demand is met, the time at each place is at most the deadline
pub always_timely : (ts : List TaskRecord) (xs : List ℕ) → AllKeep ts → AlwaysMet ts xs → (i : ℕ) → i < length xs → slice_index xs i ≤ deadline_at ts i
always_timely ts xs w m i l =
    let e = (shaped_parts ts xs m.shaped).0 in
    timely_at ts xs i (omega arith) l (met_timely (timed ts xs) (formed ts xs w) m.met)

-- the test keeps the laws of a test
pub earliest_lawful : Lawful (λ l xs. earliest_deadline l.tasks xs)
earliest_lawful = record {
  shorter_passes = λ l k xs ys s e. earliest_from l.tasks ys (always_shorter l.tasks xs ys s (earliest_true l.tasks xs k.tasks_keep e));
  late_fails = λ l k xs place h late. false_from_ne_true (earliest_deadline l.tasks xs) (λ e.
      let a = always_timely l.tasks xs k.tasks_keep (earliest_true l.tasks xs k.tasks_keep e) place h in
      omega arith);
  misshapen_fails = λ l k xs m. false_from_ne_true (earliest_deadline l.tasks xs) (λ e.
      both_ways (well_shaped l.tasks xs) m (earliest_true l.tasks xs k.tasks_keep e).shaped);
}

-- an answer that is the test's decides its condition
pub earliest_answer : (ts : List TaskRecord) (xs : List ℕ) (answer : Bool) → AllKeep ts → answer ≡ earliest_deadline ts xs → Exactly answer (AlwaysMet ts xs)
earliest_answer ts xs answer keep e = subst (λ b. Exactly b (AlwaysMet ts xs)) (sym e) (earliest_exactly ts xs keep)

-- an answer that decides the condition is the test's
pub earliest_is : (ts : List TaskRecord) (xs : List ℕ) (answer : Bool) → AllKeep ts → Exactly answer (AlwaysMet ts xs) → answer ≡ earliest_deadline ts xs
earliest_is ts xs true keep d = sym ((earliest_exactly ts xs keep).1 (d.0 refl))
earliest_is ts xs false keep d = sym (false_from_ne_true (earliest_deadline ts xs) (λ e. false≢true (d.1 ((earliest_exactly ts xs keep).0 e))))

module _ (ts : List TaskRecord) (xs : List ℕ) (keep : AllKeep ts) where
  never : (AlwaysMet ts xs → ⊥) → Exactly false (AlwaysMet ts xs)
  never h = (λ e. absurd (false≢true e), λ m. absurd (h m))

  -- a list of another shape
  pub fails_shape : false ≡ well_shaped ts xs → Exactly false (AlwaysMet ts xs)
  fails_shape e = never (λ m. false≢true (e ∙ m.shaped))

  -- a time above its deadline
  pub fails_late : (AllTimely (timed ts xs) → ⊥) → Exactly false (AlwaysMet ts xs)
  fails_late h = never (λ m. h (met_timely (timed ts xs) (formed ts xs keep) m.met))

  -- more work in a common multiple of the periods than it has ticks
  pub fails_cycle : (cycle : ℕ) → 1 ≤ cycle → AllDivide (map period_of ts) cycle → cycle < work_in cycle ts xs → Exactly false (AlwaysMet ts xs)
  fails_cycle cycle one divides less =
      never (λ m. let w = whole ts xs keep cycle divides in let r = work_requested ts xs keep cycle divides in let d = m.met cycle one in absurd (omega arith))

  -- the instants before an end that suffices decide
  pub decides : (end : ℕ) (answer : Bool) → true ≡ well_shaped ts xs → Suffices (timed ts xs) end → Exactly answer (MetBefore (timed ts xs) end) → Exactly answer (AlwaysMet ts xs)
  decides end answer shape suffices d = (λ e. record { shaped = sym shape; met = suffices (d.0 e) }, λ m. d.1 (λ t one lt. m.met t one))
