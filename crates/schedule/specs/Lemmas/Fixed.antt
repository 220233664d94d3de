-- The fixed-priority test: it decides its condition, is lawful and tells times up to the deadlines; and the tasks of higher priority come first.
use Rattle.std.specs.Prelude.{◌≡◌, ℕ, zero, suc, ◌+◌, ◌*◌, ◌<◌, ◌≤◌, Bool, true, false, cond, List, [], ◌∷◌, map, length, get_or, take, is_some, Some, None, Option, nat_lt, slice_index, slice_index_or, refl}
use Rattle.std.proofs.Common.{sym, ap, subst, ◌∙◌, ⊎_elim, mul-le-mul, suc-add, arith}
use Rattle.std.proofs.lemmas.List.{get_or-map, get_or_past, length-map}
use Rattle.std.proofs.lemmas.Bool.{false_from_ne_true, and_parts, and_from, and_left, cases_lt, cond_both, cond-true, cond-false, lt-ltb, le-ltb, false≢true}
use Rattle.std.proofs.lemmas.List.Sums.{AllPass-from_list_all}
use Rattle.std.specs.List.{list_all}
use Rattle.book.specs.Keeping.{AllKeep}
use Rattle.book.specs.Ledger.{TaskRecord, number_of}
use Rattle.book.specs.Rules.{Ascending}
use Rattle.schedule.specs.Demands.{releases, requested}
use Rattle.schedule.specs.FixedPriority.{higher, response_demand, Responds, Each, EachResponds, LeastResponse, response, fixed_priority, fixed_priority_told, response_at}
use Rattle.schedule.specs.Laws.{Shorter, Lawful, Exactly, Tells}
use Rattle.schedule.specs.Least.{Least}
use Rattle.schedule.specs.Timed.{Timed, timed, well_shaped, deadline_at}
use Rattle.schedule.specs.Lemmas.Sums.{requested_grows}
use Rattle.schedule.specs.Lemmas.Shapes.{deadlines_short, shaped_parts, shorter_shaped}
use Rattle.schedule.specs.Lemmas.Solutions.{least_is, least_shorter, least_some_from, some_least}

-- the timed tasks bear the numbers of the tasks
pub timed_numbers : (ts : List TaskRecord) (xs : List ℕ) → length xs ≡ length ts → map (λ (j : Timed). j.number) (timed ts xs) ≡ map number_of ts
timed_numbers [] xs e = refl
timed_numbers (t ∷ ts) [] e = absurd (omega (arith, e))
timed_numbers (t ∷ ts) (x ∷ xs) e = ap (λ ns. t.number ∷ ns) (timed_numbers ts xs (omega (arith, e)))

-- the first timed tasks are the first tasks, timed
pub timed_take : (ts : List TaskRecord) (xs : List ℕ) (i : ℕ) → take i (timed ts xs) ≡ timed (take i ts) (take i xs)
timed_take ts xs zero = refl
timed_take [] xs (suc i) = refl
timed_take (t ∷ ts) [] (suc i) = refl
timed_take (t ∷ ts) (x ∷ xs) (suc i) = ap (λ ks. record { number = t.number; period = t.period; deadline = t.deadline; time = x } ∷ ks) (timed_take ts xs i)

-- there is one timed task for each task
pub timed_long : (ts : List TaskRecord) (xs : List ℕ) → length xs ≡ length ts → length (timed ts xs) ≡ length ts
timed_long [] xs e = refl
timed_long (t ∷ ts) [] e = absurd (omega (arith, e))
timed_long (t ∷ ts) (x ∷ xs) e = ap suc (timed_long ts xs (omega (arith, e)))

-- the timed task at a place has the deadline of the task there
pub timed_deadline : (ts : List TaskRecord) (xs : List ℕ) (place : ℕ) (k : Timed) → length xs ≡ length ts → place < length ts → (get_or (timed ts xs) place k).deadline ≡ deadline_at ts place
timed_deadline [] xs place k e h = absurd (omega arith)
timed_deadline (t ∷ ts) [] place k e h = absurd (omega (arith, e))
timed_deadline (t ∷ ts) (x ∷ xs) zero k e h = refl
timed_deadline (t ∷ ts) (x ∷ xs) (suc place) k e h = timed_deadline ts xs place k (omega (arith, e)) (omega arith)

-- and the time there
pub timed_time : (ts : List TaskRecord) (xs : List ℕ) (place : ℕ) (k : Timed) (d : ℕ) → length xs ≡ length ts → place < length ts → (get_or (timed ts xs) place k).time ≡ slice_index_or xs place d
timed_time [] xs place k d e h = absurd (omega arith)
timed_time (t ∷ ts) [] place k d e h = absurd (omega (arith, e))
timed_time (t ∷ ts) (x ∷ xs) zero k d e h = refl
timed_time (t ∷ ts) (x ∷ xs) (suc place) k d e h = timed_time ts xs place k d (omega (arith, e)) (omega arith)

-- without the first, ascending numbers ascend
rest_ascends : (n : ℕ) (ns : List ℕ) → Ascending (n ∷ ns) → Ascending ns
rest_ascends n ns up j h = subst (λ m. slice_index ns j < slice_index (n ∷ ns) m) (suc-add j 1) (up (suc j) (omega arith))

-- the first of ascending numbers is below all that follow
first_below : (n : ℕ) (ns : List ℕ) → Ascending (n ∷ ns) → (j : ℕ) → j < length ns → n < slice_index ns j
first_below n [] up j h = absurd (omega arith)
first_below n (m ∷ ns) up zero h = up 0 (omega arith)
first_below n (m ∷ ns) up (suc j) h =
    let a : n < m = up 0 (omega arith) in
    let b : m < get_or ns j 0 = first_below m ns (rest_ascends n (m ∷ ns) up) j (omega arith) in
    omega arith

-- no task is of higher priority than a number that none is below
higher_none : (n : ℕ) (ks : List Timed) → ((j : ℕ) → j < length ks → n ≤ slice_index (map (λ (k : Timed). k.number) ks) j) → higher n ks ≡ []
higher_none n [] all = refl
higher_none n (k ∷ ks) all =
    cond-false (nat_lt k.number n) (k ∷ higher n ks) (higher n ks) (le-ltb k.number n (all 0 (omega arith)))
    ∙ higher_none n ks (λ j h. all (suc j) (omega arith))

-- among ascending numbers, the tasks of higher priority are those before
pub higher_before : (ks : List Timed) (i : ℕ) (k : Timed) → Ascending (map (λ (j : Timed). j.number) ks) → i < length ks → k ≡ slice_index_or ks i k → higher k.number ks ≡ take i ks
higher_before [] i k up h e = absurd (omega arith)
higher_before (q ∷ ks) zero k up h e =
    let same : k.number ≡ q.number = ap (λ (j : Timed). j.number) e in
    cond-false (nat_lt q.number k.number) (q ∷ higher k.number ks) (higher k.number ks) (le-ltb q.number k.number (omega (arith, same)))
    ∙ higher_none k.number ks (λ j l. omega (arith, same, first_below q.number (map (λ (j : Timed). j.number) ks) up j (omega (arith, length-map ks (λ (j : Timed). j.number)))))
higher_before (q ∷ ks) (suc i) k up h e =
    let same : k.number ≡ (get_or ks i k).number = ap (λ (j : Timed). j.number) e in
    let l : i < length ks = omega arith in
    let below : q.number < k.number = omega (arith, same, get_or-map (λ (j : Timed). j.number) ks i k 0 l, first_below q.number (map (λ (j : Timed). j.number) ks) up i (omega (arith, length-map ks (λ (j : Timed). j.number)))) in
    cond-true (nat_lt q.number k.number) (q ∷ higher k.number ks) (higher k.number ks) (lt-ltb q.number k.number below)
    ∙ ap (λ hs. q ∷ hs) (higher_before ks i k (rest_ascends q.number (map (λ (j : Timed). j.number) ks) up) l e)

-- where the tests of all tasks pass, what each test tells holds of each
each_to : (p : Timed → Bool) (P : Timed → Type 0) → ((k : Timed) → p k ≡ true → P k) → (ks : List Timed) → list_all p ks ≡ true → Each P ks
each_to p P f [] e = tt
each_to p P f (k ∷ ks) e = let q = and_parts (p k) (list_all p ks) e in (f k q.0, each_to p P f ks q.1)

-- where a fact holds of each task, the tests that it gives pass
each_from : (p : Timed → Bool) (P : Timed → Type 0) → ((k : Timed) → P k → p k ≡ true) → (ks : List Timed) → Each P ks → list_all p ks ≡ true
each_from p P f [] a = refl
each_from p P f (k ∷ ks) a = and_from (p k) (list_all p ks) (f k a.0) (each_from p P f ks a.1)

-- a passing list is well shaped, and each task has a response time
fixed_parts : (ts : List TaskRecord) (xs : List ℕ) → fixed_priority ts xs ≡ true → (well_shaped ts xs ≡ true) × (list_all (λ k. is_some (response (timed ts xs) k)) (timed ts xs) ≡ true)
fixed_parts ts xs e = and_parts (well_shaped ts xs) (list_all (λ k. is_some (response (timed ts xs) k)) (timed ts xs)) e

-- the test decides its condition
pub fixed_exactly : (ts : List TaskRecord) (xs : List ℕ) → Exactly (fixed_priority ts xs) (EachResponds ts xs)
fixed_exactly ts xs =
    let ks = timed ts xs in
    let p : Timed → Bool = λ k. is_some (response ks k) in
    let P : Timed → Type 0 = λ k. (t : ℕ) × Responds ks k t in (
      (λ e. record {
        shaped = (fixed_parts ts xs e).0;
        responds = each_to p P (λ k q. let s = some_least k.deadline (response_demand ks k) q in
            (s.0, record { from_one = s.1; in_time = s.2; solves = s.3 })) ks (fixed_parts ts xs e).1;
      }),
      (λ r. and_from (well_shaped ts xs) (list_all p ks) r.shaped
          (each_from p P (λ k q. least_some_from k.deadline (response_demand ks k) q.0 q.1.from_one q.1.in_time q.1.solves) ks r.responds)),
    )

-- one more task on both sides or on neither keeps the lesser work the lesser
requested_more : (b : Bool) (j k : Timed) (js ks : List Timed) (t : ℕ) → j.period ≡ k.period → j.time ≤ k.time → requested js t ≤ requested ks t → requested (cond b (j ∷ js) js) t ≤ requested (cond b (k ∷ ks) ks) t
requested_more true j k js ks t e h l =
    let a : releases t j.period * j.time ≤ releases t k.period * k.time = mul-le-mul (omega (arith, ap (releases t) e)) h in
    omega (arith, a, l)
requested_more false j k js ks t e h l = l

-- shorter times, no more work of higher priority
requested_shorter : (n : ℕ) (ts : List TaskRecord) (xs ys : List ℕ) (t : ℕ) → Shorter ys xs → requested (higher n (timed ts ys)) t ≤ requested (higher n (timed ts xs)) t
requested_shorter n [] xs ys t w = omega arith
requested_shorter n (r ∷ ts) [] [] t w = omega arith
requested_shorter n (r ∷ ts) [] (y ∷ ys) t w = elim w [ ]
requested_shorter n (r ∷ ts) (x ∷ xs) [] t w = elim w [ ]
requested_shorter n (r ∷ ts) (x ∷ xs) (y ∷ ys) t w =
    requested_more (nat_lt r.number n)
    (record { number = r.number; period = r.period; deadline = r.deadline; time = y })
    (record { number = r.number; period = r.period; deadline = r.deadline; time = x })
    (higher n (timed ts ys)) (higher n (timed ts xs)) t refl w.1 (requested_shorter n ts xs ys t w.2)

-- what goes from each task at its time to the same task at its shorter time goes from list to list
each_shorter : (p q : Timed → Bool) → ((r : TaskRecord) (x y : ℕ) → 1 ≤ y → y ≤ x → p (record { number = r.number; period = r.period; deadline = r.deadline; time = x }) ≡ true → q (record { number = r.number; period = r.period; deadline = r.deadline; time = y }) ≡ true) → (ts : List TaskRecord) (xs ys : List ℕ) → Shorter ys xs → list_all p (timed ts xs) ≡ true → list_all q (timed ts ys) ≡ true
each_shorter p q f [] xs ys w e = refl
each_shorter p q f (r ∷ ts) [] [] w e = refl
each_shorter p q f (r ∷ ts) [] (y ∷ ys) w e = elim w [ ]
each_shorter p q f (r ∷ ts) (x ∷ xs) [] w e = elim w [ ]
each_shorter p q f (r ∷ ts) (x ∷ xs) (y ∷ ys) w e =
    let k : Timed = record { number = r.number; period = r.period; deadline = r.deadline; time = x } in
    let j : Timed = record { number = r.number; period = r.period; deadline = r.deadline; time = y } in
    let a = and_parts (p k) (list_all p (timed ts xs)) e in
    and_from (q j) (list_all q (timed ts ys)) (f r x y w.0 w.1 a.0) (each_shorter p q f ts xs ys w.2 a.1)

-- shorter times pass where longer ones do
fixed_shorter : (ts : List TaskRecord) (xs ys : List ℕ) → Shorter ys xs → fixed_priority ts xs ≡ true → fixed_priority ts ys ≡ true
fixed_shorter ts xs ys w e =
    let p : Timed → Bool = λ k. is_some (response (timed ts xs) k) in
    let q : Timed → Bool = λ k. is_some (response (timed ts ys) k) in
    and_from (well_shaped ts ys) (list_all q (timed ts ys)) (shorter_shaped ts xs ys w (fixed_parts ts xs e).0)
    (each_shorter p q
    (λ r x y a b. least_shorter (λ t. y + requested (higher r.number (timed ts ys)) t) (λ t. x + requested (higher r.number (timed ts xs)) t) r.deadline
    (λ t h. omega arith)
    (λ s t h l. omega (arith, requested_grows (higher r.number (timed ts ys)) s t l))
    (λ t. omega (arith, requested_shorter r.number ts xs ys t w)))
    ts xs ys w (fixed_parts ts xs e).1)

-- on a passing list no time is past its deadline
fixed_timely : (ts : List TaskRecord) (xs : List ℕ) (place : ℕ) → fixed_priority ts xs ≡ true → place < length xs → slice_index xs place ≤ deadline_at ts place
fixed_timely ts xs place e h =
    let ks = timed ts xs in
    let d : Timed = record { number = 0; period = 0; deadline = 0; time = 0 } in
    let long = (shaped_parts ts xs (fixed_parts ts xs e).0).0 in
    let l : place < length ts = omega (arith, long) in
    let k : Timed = get_or ks place d in
    let a = AllPass-from_list_all (λ j. is_some (response ks j)) ks (fixed_parts ts xs e).1 place d (omega (arith, timed_long ts xs long)) in
    let s = some_least k.deadline (response_demand ks k) a in
    omega (arith, s.2, s.3, timed_time ts xs place d 0 long l, timed_deadline ts xs place d long l)

-- fixed priority keeps the laws of a test
pub fixed_lawful : Lawful (λ l xs. fixed_priority l.tasks xs)
fixed_lawful = record {
  shorter_passes = λ l keeps xs ys w e. fixed_shorter l.tasks xs ys w e;
  late_fails = λ l keeps xs place h late. false_from_ne_true (fixed_priority l.tasks xs) (λ e. omega (arith, fixed_timely l.tasks xs place e h));
  misshapen_fails = λ l keeps xs e. and_left (well_shaped l.tasks xs) (list_all (λ k. is_some (response (timed l.tasks xs) k)) (timed l.tasks xs)) e;
}

-- a least solution that is some is a time as a timing test tells it
some_told : (passes : Bool) (ts : List TaskRecord) (place n : ℕ) (f : ℕ → ℕ) (r : Option ℕ) → passes ≡ true → place < length ts → n ≡ deadline_at ts place → Least f n r → is_some r ≡ true → Tells passes ts place r
some_told passes ts place n f (Some t) e h d s i = (e, h, omega (arith, d, s.1))
some_told passes ts place n f None e h d s i = absurd (false≢true i)

-- what it tells of a task is in time
pub fixed_tells : (ts : List TaskRecord) (xs : List ℕ) (place : ℕ) → Tells (fixed_priority ts xs) ts place (fixed_priority_told ts xs place)
fixed_tells ts xs place =
    let ks = timed ts xs in
    let d : Timed = record { number = 0; period = 0; deadline = 0; time = 0 } in
    cond_both (fixed_priority ts xs) (slice_index_or (map (response ks) ks) place None) None (λ o. Tells (fixed_priority ts xs) ts place o)
    (λ e. let long = (shaped_parts ts xs (fixed_parts ts xs e).0).0 in
    let many = timed_long ts xs long in
    ⊎_elim
    (λ (h : place < length ts).
    let l : place < length ks = omega (arith, many) in
    let k : Timed = get_or ks place d in
    rw (get_or-map (response ks) ks place d None l)
    (some_told (fixed_priority ts xs) ts place k.deadline (response_demand ks k) (response ks k) e h (timed_deadline ts xs place d long h)
    (least_is k.deadline (response_demand ks k))
    (AllPass-from_list_all (λ j. is_some (response ks j)) ks (fixed_parts ts xs e).1 place d l)))
    (λ (h : length ts ≤ place). rw (get_or_past (map (response ks) ks) place None (omega (arith, many, length-map ks (response ks)))) (λ q. h))
    (cases_lt place (length ts)))
    (λ e q. absurd (false≢true (sym e ∙ q)))

-- an answer that is the test's decides its condition
pub fixed_answer : (ts : List TaskRecord) (xs : List ℕ) (answer : Bool) → answer ≡ fixed_priority ts xs → Exactly answer (EachResponds ts xs)
fixed_answer ts xs answer e = subst (λ b. Exactly b (EachResponds ts xs)) (sym e) (fixed_exactly ts xs)

-- what it tells keeps what a timing test owes
pub told_answer : (ts : List TaskRecord) (xs : List ℕ) (place : ℕ) (r : Option ℕ) → r ≡ fixed_priority_told ts xs place → Tells (fixed_priority ts xs) ts place r
told_answer ts xs place r e = subst (λ o. Tells (fixed_priority ts xs) ts place o) (sym e) (fixed_tells ts xs place)

pub told_failed : (ts : List TaskRecord) (xs : List ℕ) (place : ℕ) → false ≡ fixed_priority ts xs → None ≡ fixed_priority_told ts xs place
told_failed ts xs place e = sym (cond-false (fixed_priority ts xs) (response_at ts xs place) None (sym e))

pub told_passed : (ts : List TaskRecord) (xs : List ℕ) (place : ℕ) (r : Option ℕ) → true ≡ fixed_priority ts xs → r ≡ response_at ts xs place → r ≡ fixed_priority_told ts xs place
told_passed ts xs place r e is = is ∙ sym (cond-true (fixed_priority ts xs) (response_at ts xs place) None (sym e))

pub told_past : (ts : List TaskRecord) (xs : List ℕ) (place : ℕ) → true ≡ fixed_priority ts xs → length ts ≤ place → None ≡ fixed_priority_told ts xs place
told_past ts xs place e le = past (fixed_priority_told ts xs place) (fixed_tells ts xs place)
  where
    past : (o : Option ℕ) → Tells (fixed_priority ts xs) ts place o → None ≡ o
    past (Some t) h = absurd (omega (arith, h.1))
    past None h = refl

-- a response that is told fits a word
pub told_short : (ts : List TaskRecord) (xs : List ℕ) (place t : ℕ) → AllKeep ts → Some t ≡ fixed_priority_told ts xs place → t ≤ 1000000
told_short ts xs place t keep e = omega (arith, (told_answer ts xs place (Some t) e).2, deadlines_short ts keep place)

-- what it tells is the least solution
pub told_least : (ts : List TaskRecord) (xs : List ℕ) (place : ℕ) (r : Option ℕ) → r ≡ fixed_priority_told ts xs place → LeastResponse ts xs place r
told_least ts xs place None e = tt
told_least ts xs place (Some t) e = λ k is.
    let ks = timed ts xs in
    let p = told_answer ts xs place (Some t) e in
    let long : length ks ≡ length ts = timed_long ts xs (shaped_parts ts xs ((fixed_exactly ts xs).0 p.0).shaped).0 in
    let here : Some t ≡ response ks k =
    e ∙ cond-true (fixed_priority ts xs) (response_at ts xs place) None p.0 ∙ get_or-map (response ks) ks place k None (omega (arith, p.1)) ∙ ap (response ks) (sym is) in
    let l : Least (response_demand ks k) k.deadline (Some t) = subst (λ o. Least (response_demand ks k) k.deadline o) (sym here) (least_is k.deadline (response_demand ks k)) in
    (record { from_one = l.0; in_time = l.1; solves = l.2 }, l.3)
