use Rattle.std.proofs.Common.{◌≡◌, ℕ, Bool, true, false, List, Some, None, sym, refl, ◌∙◌}
use Rattle.book.proofs.Keeps.{all_keep}
use Rattle.book.specs.Books.{holds}
use Rattle.book.specs.Ledger.{Ledger}
use Rattle.schedule.specs.FixedPriority.{fixed_priority}
use Rattle.schedule.specs.Pairs.{tasks_in}
use Rattle.schedule.specs.declared.timed_tasks.TimedTasks.{TimedTasks}
use Rattle.schedule.specs.Lemmas.Fixed.{fixed_answer, fixed_lawful}
use Rattle.schedule.proofs.Responding.{not_before_next, response_short, responds_all, responds_step, responds_stop}
use Rattle.schedule.proofs.Slices.{slice_ascends, slice_here, slice_past}
use Rattle.schedule.proofs.fixed_priority.FixedPriorityTest.ask.Goals as goal

-- what is decided of the tasks beside the times is the test's answer to the ledger
answer_is : (s : TimedTasks) (l : Ledger) (xs : List ℕ) (answer : Bool) → tasks_in s ≡ l.tasks → s.times.now ≡ xs → answer ≡ fixed_priority (tasks_in s) s.times.now
    → answer ≡ fixed_priority l.tasks xs
answer_is s l xs answer lent given e = e ∙ λ i. fixed_priority (lent i) (given i)

pub returns-in_default : goal.returns-in_default
returns-in_default c =
    let s = c.of-timed.result in
    let ts = s.tasks.now in
    let l = holds c.args.book.now in
    let xs = c.args.times.now in
    let v = c.of-timed.ensures in
    let e = answer_is s l xs false v.tasks v.times (responds_stop (tasks_in s) s.times.now (slice_ascends ts l v.tasks v.keeps) (sym c.if-not-is_well_shaped.ensures)
    c.loop-place.place None (slice_here ts c.loop-place.place c.loop-place-test.true) c.in_default.ensures refl c.loop-place.invariant.0) in
    record { value = e; lawful = fixed_lawful; exact = fixed_answer l.tasks xs false e }

pub loop-place-preserved : goal.loop-place-preserved
loop-place-preserved c =
    let s = c.of-timed.result in
    let ts = s.tasks.now in
    let xs = s.times.now in
    let v = c.of-timed.ensures in
    let ascends = slice_ascends ts (holds c.args.book.now) v.tasks v.keeps in
    let shaped = sym c.if-not-is_well_shaped.ensures in
    let here = slice_here ts c.loop-place.place c.loop-place-test.true in
    let keep = all_keep ts in
    let r = c.in-Some.response in (
      responds_step (tasks_in s) xs ascends shaped c.loop-place.place (Some r) here c.in-Some.ensures refl c.loop-place.invariant.0,
      response_short (tasks_in s) xs ascends shaped c.loop-place.place r keep here c.in-Some.ensures,
      not_before_next (tasks_in s) xs ascends shaped c.loop-place.place r keep here c.in-Some.ensures,
    )

pub returns : goal.returns
returns c =
    let s = c.of-timed.result in
    let ts = s.tasks.now in
    let l = holds c.args.book.now in
    let xs = c.args.times.now in
    let v = c.of-timed.ensures in
    let e = answer_is s l xs true v.tasks v.times (responds_all (tasks_in s) s.times.now (slice_ascends ts l v.tasks v.keeps) (sym c.if-not-is_well_shaped.ensures)
    c.loop-place.place (slice_past ts c.loop-place.place c.loop-place-test.false) c.loop-place.invariant.0) in
    record { value = e; lawful = fixed_lawful; exact = fixed_answer l.tasks xs true e }
