use Rattle.std.proofs.Common.{◌≡◌, ℕ, ◌≤◌, true, List, length, Some, None, Option, ◌∙◌, subst, arith}
use Rattle.book.specs.Books.{holds}
use Rattle.book.specs.Ledger.{Ledger}
use Rattle.schedule.specs.FixedPriority.{fixed_priority, fixed_priority_told, response_at}
use Rattle.schedule.specs.Pairs.{tasks_in}
use Rattle.schedule.specs.declared.timed_tasks.TimedTasks.{TimedTasks}
use Rattle.schedule.specs.Lemmas.Fixed.{told_answer, told_least, told_passed, told_past, told_short}
use Rattle.schedule.proofs.Slices.{slice_past}
use Rattle.schedule.proofs.fixed_priority.FixedPriorityTimingTest.tell.Goals as goal

-- the response time told of the tasks beside the times, on a list that passes, is what is told of the ledger
told_is : (s : TimedTasks) (l : Ledger) (xs : List ℕ) (place : ℕ) (r : Option ℕ) → tasks_in s ≡ l.tasks → s.times.now ≡ xs → true ≡ fixed_priority l.tasks xs
    → r ≡ response_at (tasks_in s) s.times.now place → r ≡ fixed_priority_told l.tasks xs place
told_is s l xs place r lent given passes e = told_passed l.tasks xs place r passes (e ∙ λ i. response_at (lent i) (given i) place)

pub returns-then-place-timed-clause-value : goal.returns-then-place-timed-clause-value
returns-then-place-timed-clause-value c =
    told_past (holds c.args.book.now).tasks c.args.times.now c.args.place c.if-not-ask.ensures.value
    (subst (λ us. length us ≤ c.args.place) c.of-timed.ensures.tasks (slice_past c.of-timed.result.tasks.now c.args.place c.if-place-timed.true))

pub returns-in_err-response-clause-tells : goal.returns-in_err-response-clause-tells
returns-in_err-response-clause-tells c =
    let l = holds c.args.book.now in
    let v = c.of-timed.ensures in
    let e = told_is c.of-timed.result l c.args.times.now c.args.place None v.tasks v.times c.if-not-ask.ensures.value c.in_err-response.ensures in
    rw c.from_residual.ensures (λ passes. let past = told_answer l.tasks c.args.times.now _ None e passes in omega arith)

pub overflow_cast-result : goal.overflow_cast-result
overflow_cast-result c =
    let l = holds c.args.book.now in
    let v = c.of-timed.ensures in
    let e = told_is c.of-timed.result l c.args.times.now c.args.place (Some c.in_ok-response.response) v.tasks v.times c.if-not-ask.ensures.value c.in_ok-response.ensures in
    let short = told_short l.tasks c.args.times.now _ c.in_ok-response.response v.keeps.tasks_keep e in
    record { fits = omega arith }

pub returns-clause-tells : goal.returns-clause-tells
returns-clause-tells c =
    let l = holds c.args.book.now in
    let v = c.of-timed.ensures in
    let e = told_is c.of-timed.result l c.args.times.now c.args.place (Some c.in_ok-response.response) v.tasks v.times c.if-not-ask.ensures.value c.in_ok-response.ensures in
    told_answer l.tasks c.args.times.now c.args.place (Some c.in_ok-response.response) e

pub returns-clause-least : goal.returns-clause-least
returns-clause-least c =
    let l = holds c.args.book.now in
    let v = c.of-timed.ensures in
    let e = told_is c.of-timed.result l c.args.times.now c.args.place (Some c.in_ok-response.response) v.tasks v.times c.if-not-ask.ensures.value c.in_ok-response.ensures in
    told_least l.tasks c.args.times.now c.args.place (Some c.in_ok-response.response) e
