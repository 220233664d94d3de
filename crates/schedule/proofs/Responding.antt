-- The response time of the task at a place, as the search over the tasks before it gives it.
use Rattle.std.proofs.Common.{◌≡◌, ℕ, zero, suc, ◌+◌, ◌-◌, ◌*◌, ◌<◌, ◌≤◌, Bool, true, false, ◌&&◌, List, [], ◌∷◌, ◌++◌, map, length, get_or, take, drop, is_some, Some, None, Option, sym, ap, ◌∙◌, subst, mul-le-mul_right, one-mul, arith}
use Rattle.std.proofs.lemmas.List.{at_drop_all, at_drop_more, get_or_default, get_or-map, take_more}
use Rattle.std.proofs.lemmas.Bool.{and_from, and_left, and_right}
use Rattle.std.specs.List.{list_all}
use Rattle.book.specs.Keeping.{AllKeep}
use Rattle.book.specs.Ledger.{TaskRecord, number_of}
use Rattle.book.specs.Rules.{Ascending}
use Rattle.schedule.specs.Demands.{releases, requested}
use Rattle.schedule.specs.FixedPriority.{fixed_priority, higher, response, response_at, response_demand}
use Rattle.schedule.specs.Interference.{NotBefore, demand_at}
use Rattle.schedule.specs.Least.{Least}
use Rattle.schedule.specs.Timed.{Timed, deadline_at, timed, well_shaped}
use Rattle.schedule.specs.Lemmas.Counts.{releases_some}
use Rattle.schedule.specs.Lemmas.Fixed.{higher_before, timed_deadline, timed_long, timed_numbers, timed_take, timed_time}
use Rattle.schedule.specs.Lemmas.Shapes.{deadlines_short, nowhere_zero_at, shaped_parts}
use Rattle.schedule.specs.Lemmas.Solutions.{below_some, least_is, least_one, least_same}
use Rattle.schedule.specs.Lemmas.Sums.{requested_grows}

blank : Timed
blank = record { number = 0; period = 0; deadline = 0; time = 0 }

requested_append : (as' bs : List Timed) (t : ℕ) → requested (as' ++ bs) t ≡ requested as' t + requested bs t
requested_append [] bs t = omega arith
requested_append (k ∷ ks) bs t = omega (arith, requested_append ks bs t)

-- the period of the task at a place is at least 1
period_at : (ts : List TaskRecord) (xs : List ℕ) (place : ℕ) → AllKeep ts → length xs ≡ length ts → place < length ts → 1 ≤ (get_or (timed ts xs) place blank).period
period_at [] xs place keep same lt = absurd (omega arith)
period_at (t ∷ ts) [] place keep same lt = absurd (omega arith)
period_at (t ∷ ts) (x ∷ xs) zero keep same lt = keep.0.period_from
period_at (t ∷ ts) (x ∷ xs) (suc place) keep same lt = period_at ts xs place keep.1 (omega arith) (omega arith)

module _ (ts : List TaskRecord) (xs : List ℕ) (ascends : Ascending (map number_of ts)) (shaped : well_shaped ts xs ≡ true) where
  abbrev ks : List Timed
  ks = timed ts xs

  same_length : length xs ≡ length ts
  same_length = (shaped_parts ts xs shaped).0

  -- the demand of the task at a place counts just the tasks before it
  demand_before : (place t : ℕ) → place < length ts
      → demand_at ts xs place t ≡ response_demand ks (get_or ks place blank) t
  demand_before place t lt =
      let k = get_or ks place blank in
      let here : place < length ks = omega (arith, timed_long ts xs same_length) in
      let first : higher k.number ks ≡ take place ks =
      higher_before ks place k (subst Ascending (sym (timed_numbers ts xs same_length)) ascends) here (get_or_default ks place blank k here) in
      let lists : requested (timed (take place ts) (take place xs)) t ≡ requested (higher k.number ks) t =
      ap (λ hs. requested hs t) (sym (first ∙ timed_take ts xs place)) in
      let own : get_or xs place 0 ≡ k.time = sym (timed_time ts xs place blank 0 same_length lt) in
      omega arith

  -- an answer of the search over the tasks before the place is the response at the place
  pub response_is : (place : ℕ) (r : Option ℕ) → place < length ts
      → Least (demand_at ts xs place) (deadline_at ts place) r → r ≡ response_at ts xs place
  response_is place r lt h =
      let k = get_or ks place blank in
      let here : place < length ks = omega (arith, timed_long ts xs same_length) in
      let f = response_demand ks k in
      let g : Least f (deadline_at ts place) r = least_same _ f (deadline_at ts place) r (λ t. demand_before place t lt) h in
      let g' : Least f k.deadline r = subst (λ n. Least f n r) (sym (timed_deadline ts xs place blank same_length lt)) g in
      least_one f k.deadline r (response ks k) g' (least_is k.deadline f) ∙ sym (get_or-map (response ks) ks place blank None here)

  -- what is found at a place is the least solution there
  least_at : (place r : ℕ) → place < length ts → Some r ≡ response_at ts xs place → Least (demand_at ts xs place) (deadline_at ts place) (Some r)
  least_at place r lt is =
      let k = get_or ks place blank in
      let here : place < length ks = omega (arith, timed_long ts xs same_length) in
      let f = response_demand ks k in
      let found : Some r ≡ response ks k = is ∙ get_or-map (response ks) ks place blank None here in
      let g : Least f k.deadline (Some r) = subst (λ o. Least f k.deadline o) (sym found) (least_is k.deadline f) in
      let g' : Least f (deadline_at ts place) (Some r) = subst (λ n. Least f n (Some r)) (timed_deadline ts xs place blank same_length lt) g in
      least_same f (demand_at ts xs place) (deadline_at ts place) (Some r) (λ t. sym (demand_before place t lt)) g'

  pub response_short : (place r : ℕ) → AllKeep ts → place < length ts → Some r ≡ response_at ts xs place → r ≤ 1000000
  response_short place r keep lt is = omega (arith, (least_at place r lt is).1, deadlines_short ts keep place)

  -- the tasks before the next place request what those before this place do, and a job of the task at it
  one_more : (place t : ℕ) → AllKeep ts → place < length ts → 1 ≤ t → demand_at ts xs place t ≤ requested (timed (take (place + 1) ts) (take (place + 1) xs)) t
  one_more place t keep lt one =
      let here : place < length ks = omega (arith, timed_long ts xs same_length) in
      let k = get_or ks place blank in
      let split : requested (timed (take (place + 1) ts) (take (place + 1) xs)) t ≡ requested (timed (take place ts) (take place xs)) t + requested (k ∷ []) t =
      ap (λ hs. requested hs t) (sym (timed_take ts xs (place + 1)) ∙ take_more ks place blank here)
      ∙ requested_append (take place ks) (k ∷ []) t ∙ ap (λ hs. requested hs t + requested (k ∷ []) t) (timed_take ts xs place) in
      let own : k.time ≡ get_or xs place 0 = timed_time ts xs place blank 0 same_length lt in
      let job : 1 * k.time ≤ releases t k.period * k.time = mul-le-mul_right k.time (releases_some t k.period one (period_at ts xs place keep same_length lt)) in
      omega (arith, one-mul k.time)

  -- A task responds later than the one before it, by its own time at least.
  pub not_before_next : (place r : ℕ) → AllKeep ts → place < length ts → Some r ≡ response_at ts xs place → NotBefore ts xs (place + 1) r
  not_before_next place r keep lt is s one e =
      let f = demand_at ts xs place in
      let some : (t : ℕ) → 1 ≤ t → 1 ≤ f t = (λ t le. omega (arith, nowhere_zero_at xs place (shaped_parts ts xs shaped).1 (omega (arith, same_length)))) in
      let grows : (a b : ℕ) → 1 ≤ a → a ≤ b → f a ≤ f b = (λ a b one le. omega (arith, requested_grows (timed (take place ts) (take place xs)) a b le)) in
      let u = s - get_or xs (place + 1) 0 in
      let less : f s ≤ u = omega (arith, one_more place s keep lt one) in
      let here : 1 ≤ u = omega (arith, some s one) in
      let v = below_some f some grows u here (omega (arith, grows u s here (omega arith))) in
      omega (arith, (least_at place r lt is).3 v.0 v.1 v.3, v.2, grows u s here (omega arith))

  -- all tasks respond
  abbrev all : Bool
  all = list_all (λ k. is_some (response ks k)) ks

  -- the tasks from a place on respond
  abbrev from_place : ℕ → Bool
  from_place place = list_all (λ k. is_some (response ks k)) (drop place ks)

  responds_more : (place : ℕ) → place < length ts → from_place place ≡ (is_some (response_at ts xs place) && from_place (place + 1))
  responds_more place lt =
      let here : place < length ks = omega (arith, timed_long ts xs same_length) in
      at_drop_more (list_all (λ k. is_some (response ks k))) ks place blank here
      ∙ ap (λ r. is_some r && from_place (place + 1)) (sym (get_or-map (response ks) ks place blank None here))

  -- one task that does not respond fails the list
  pub responds_stop : (place : ℕ) (r : Option ℕ) → place < length ts → r ≡ response_at ts xs place → is_some r ≡ false → all ≡ from_place place
      → false ≡ fixed_priority ts xs
  responds_stop place r lt is none inv =
      let stop : all ≡ false =
      inv ∙ responds_more place lt ∙ and_left (is_some (response_at ts xs place)) (from_place (place + 1)) (ap is_some (sym is) ∙ none) in
      sym (and_right (well_shaped ts xs) all stop)

  -- one that does leaves it to those behind it
  pub responds_step : (place : ℕ) (r : Option ℕ) → place < length ts → r ≡ response_at ts xs place → is_some r ≡ true → all ≡ from_place place
      → all ≡ from_place (place + 1)
  responds_step place r lt is some inv = inv ∙ responds_more place lt ∙ ap (λ b. b && from_place (place + 1)) (ap is_some (sym is) ∙ some)

  pub responds_all : (place : ℕ) → length ts ≤ place → all ≡ from_place place → true ≡ fixed_priority ts xs
  responds_all place le inv =
      sym (and_from (well_shaped ts xs) all shaped
      (inv ∙ at_drop_all (list_all (λ k. is_some (response ks k))) ks place (omega (arith, timed_long ts xs same_length))))
