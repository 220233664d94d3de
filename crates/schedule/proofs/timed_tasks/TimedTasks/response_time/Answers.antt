use Rattle.std.proofs.Common.{◌≡◌, ℕ, ◌+◌, ◌<◌, map, length, get_or, take, sym, ap, ◌∙◌, subst, arith}
use Rattle.std.proofs.lemmas.List.{get_or-map, length-map, take-map}
use Rattle.book.specs.Held.{record_of}
use Rattle.schedule.specs.Demands.{requested}
use Rattle.schedule.specs.Interference.{demand_at}
use Rattle.schedule.specs.Least.{Least}
use Rattle.schedule.specs.Pairs.{tasks_in}
use Rattle.schedule.specs.Timed.{deadline_at, deadline_of, timed}
use Rattle.schedule.specs.declared.timed_tasks.TimedTasks.{TimedTasks}
use Rattle.schedule.specs.Lemmas.Solutions.{least_same}
use Rattle.schedule.proofs.Responding.{response_is}
use Rattle.schedule.proofs.timed_tasks.TimedTasks.response_time.Goals as goal

-- the demand of the job over the part of the lists before the place
part_is : (s : TimedTasks) (place t : ℕ) → get_or s.times.now place 0 + requested (timed (map record_of (take place s.tasks.now)) (take place s.times.now)) t ≡ demand_at (tasks_in s) s.times.now place t
part_is s place t = ap (λ hs. get_or s.times.now place 0 + requested (timed hs (take place s.times.now)) t) (sym (take-map record_of place s.tasks.now))

pub least_solution_from-requires-clause-early : goal.least_solution_from-requires-clause-early
least_solution_from-requires-clause-early c = λ s one e. omega (arith, c.requires.later s one (e ∙ part_is c.args.self c.args.place s), c.from.ensures)

pub returns : goal.returns
returns c =
    let s = c.args.self in
    let ts = s.tasks.now in
    let place = c.args.place in
    let rs = tasks_in s in
    let k = c.index-self-place.result in
    let here : place < length rs = omega (arith, length-map ts record_of, c.requires.here) in
    let due : c.from-deadline.result ≡ deadline_at rs place =
    c.from-deadline.ensures ∙ sym (get_or-map deadline_of rs place (record_of k) 0 here ∙ ap deadline_of (get_or-map record_of ts place k (record_of k) c.requires.here)) in
    let r = c.least_solution_from.result in
    response_is rs s.times.now c.requires.ascending c.requires.shaped place r here
    (subst (λ n. Least (demand_at rs s.times.now place) n r) due (least_same _ (demand_at rs s.times.now place) c.from-deadline.result r (part_is s place) c.least_solution_from.ensures))
