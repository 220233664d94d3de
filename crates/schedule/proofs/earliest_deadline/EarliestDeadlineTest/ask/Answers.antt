use Rattle.std.proofs.Common.{◌≡◌, ℕ, ◌+◌, ◌*◌, ◌≤◌, Bool, false, List, map, length, sym, refl, subst, mul-le-mul, arith}
use Rattle.std.proofs.lemmas.List.{length-map}
use Rattle.std.proofs.lemmas.Bool.{false≢true}
use Rattle.book.proofs.Keeps.{all_keep}
use Rattle.book.specs.Books.{holds}
use Rattle.book.specs.Held.{record_of}
use Rattle.book.specs.Hyperperiod.{AllDivide, hyperperiod}
use Rattle.book.specs.Keeping.{KeepsRules}
use Rattle.book.specs.Ledger.{Ledger, period_of}
use Rattle.book.specs.declared.book.Book.{Book}
use Rattle.book.proofs.Multiples.{hyperperiod_pos}
use Rattle.schedule.specs.EarliestDeadline.{AlwaysMet, earliest_deadline}
use Rattle.schedule.specs.Laws.{Exactly}
use Rattle.schedule.specs.Pairs.{tasks_in}
use Rattle.schedule.specs.Timed.{timed}
use Rattle.schedule.specs.declared.timed_tasks.TimedTasks.{TimedTasks}
use Rattle.schedule.specs.Lemmas.Earliest.{decides, earliest_answer, earliest_is, earliest_lawful, fails_cycle, fails_late, fails_shape, periods_positive}
use Rattle.schedule.specs.Lemmas.Sums.{demand_requested, formed, requested_fits}
use Rattle.schedule.proofs.Slices.{slice_few}
use Rattle.schedule.proofs.earliest_deadline.EarliestDeadlineTest.ask.Goals as goal

-- what is decided of the tasks beside the times is the test's answer to the ledger
answer_is : (s : TimedTasks) (l : Ledger) (xs : List ℕ) (answer : Bool) → tasks_in s ≡ l.tasks → s.times.now ≡ xs → KeepsRules l → Exactly answer (AlwaysMet (tasks_in s) s.times.now)
    → answer ≡ earliest_deadline l.tasks xs
answer_is s l xs answer lent given keeps d =
    earliest_is l.tasks xs answer keeps.tasks_keep (subst (λ us. Exactly answer (AlwaysMet us xs)) lent (subst (λ ys. Exactly answer (AlwaysMet (tasks_in s) ys)) given d))

-- a hyperperiod is at least 1
cycle_some : (b : Book) (cycle : ℕ) → cycle ≡ hyperperiod (map period_of (holds b).tasks) → KeepsRules (holds b) → 1 ≤ cycle
cycle_some b cycle e keeps = omega (arith, hyperperiod_pos (map period_of (holds b).tasks) (periods_positive (holds b).tasks keeps.tasks_keep))

pub returns-then-not-is_well_shaped-clause-value : goal.returns-then-not-is_well_shaped-clause-value
returns-then-not-is_well_shaped-clause-value c =
    let s = c.of-timed.result in
    let v = c.of-timed.ensures in
    answer_is s (holds c.args.book.now) c.args.times.now false v.tasks v.times v.keeps (fails_shape (tasks_in s) s.times.now (all_keep s.tasks.now) c.if-not-is_well_shaped.ensures)

pub returns-then-not-is_timely : goal.returns-then-not-is_timely
returns-then-not-is_timely c =
    let s = c.of-timed.result in
    let l = holds c.args.book.now in
    let xs = c.args.times.now in
    let v = c.of-timed.ensures in
    let e = answer_is s l xs false v.tasks v.times v.keeps (fails_late (tasks_in s) s.times.now (all_keep s.tasks.now) (λ h. false≢true (c.if-not-is_timely.ensures.1 h))) in
    record { value = e; lawful = earliest_lawful; exact = earliest_answer l.tasks xs false v.keeps.tasks_keep e }

pub horizon-requires-clause-some : goal.horizon-requires-clause-some
horizon-requires-clause-some c = cycle_some c.args.book.now c.hyperperiod.result c.hyperperiod.ensures.value c.of-timed.ensures.keeps

pub is_met_before-requires-clause-fits : goal.is_met_before-requires-clause-fits
is_met_before-requires-clause-fits c =
    let s = c.of-timed.result in
    let ts = s.tasks.now in
    let rs = tasks_in s in
    let xs = s.times.now in
    let v = c.of-timed.ensures in
    let few = slice_few ts (holds c.args.book.now) v.tasks v.keeps in
    let count : length rs ≤ 16 = omega (arith, length-map ts record_of) in
    let span : c.in-Some.end + 1000000 ≤ 10001000000 = omega (arith, c.in-Some.ensures.1, c.hyperperiod.ensures.bound) in
    let most : length rs * (c.in-Some.end + 1000000) ≤ 16 * 10001000000 = mul-le-mul count span in
    omega (
      arith,
      demand_requested (timed rs xs) (formed rs xs (all_keep ts)) c.in-Some.end,
      requested_fits rs xs (all_keep ts) (c.if-not-is_timely.ensures.0 refl) c.in-Some.end,
    )

pub returns-clause-value : goal.returns-clause-value
returns-clause-value c =
    let s = c.of-timed.result in
    let v = c.of-timed.ensures in
    answer_is s (holds c.args.book.now) c.args.times.now c.is_met_before.result v.tasks v.times v.keeps
    (decides (tasks_in s) s.times.now (all_keep s.tasks.now) c.in-Some.end c.is_met_before.result c.if-not-is_well_shaped.ensures c.in-Some.ensures.2 c.is_met_before.ensures)

pub returns-in_default : goal.returns-in_default
returns-in_default c =
    let s = c.of-timed.result in
    let l = holds c.args.book.now in
    let xs = c.args.times.now in
    let v = c.of-timed.ensures in
    let h = c.hyperperiod.ensures in
    let some = cycle_some c.args.book.now c.hyperperiod.result h.value v.keeps in
    let divides = subst (λ us. AllDivide (map period_of us) c.hyperperiod.result) (sym v.tasks) h.law.0 in
    let e = answer_is s l xs false v.tasks v.times v.keeps (fails_cycle (tasks_in s) s.times.now (all_keep s.tasks.now) c.hyperperiod.result some divides c.in_default.ensures) in
    record { value = e; lawful = earliest_lawful; exact = earliest_answer l.tasks xs false v.keeps.tasks_keep e }
