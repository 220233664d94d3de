-- Layers: each keeps the laws of the test below, tells times as that one does, and joins a pile.
use Rattle.std.specs.Prelude.{◌≡◌, ℕ, ◌+◌, ◌*◌, ◌/◌, ◌<◌, ◌≤◌, Bool, true, false, cond, ◌&&◌, List, [], ◌∷◌, map, length, None, Option, ◌==◌, nat_lt, slice_index, refl}
use Rattle.std.proofs.Common.{sym, ap, ◌∙◌, ⊎_elim, mul-le-mul, arith}
use Rattle.std.proofs.lemmas.Nat.{le-div, div-add-mod'}
use Rattle.std.proofs.lemmas.List.{get_or-map, length-map}
use Rattle.std.proofs.lemmas.Bool.{and_parts, and_from, and_left, and_right, cases_lt, eq-eqb, lt-ltb, ltb-true, false≢true}
use Rattle.book.specs.Ledger.{Ledger, TaskRecord}
use Rattle.schedule.specs.FixedPriority.{fixed_priority, fixed_priority_told}
use Rattle.schedule.specs.Laws.{Shorter, Lawful, Tells}
use Rattle.schedule.specs.Layers.{charged, widened, layered, layered_told, handed, PassesHanded, TellsHanded}
use Rattle.schedule.specs.Timed.{nowhere_zero, well_shaped, deadline_at}
use Rattle.schedule.specs.Lemmas.Shapes.{deadlines_short, shaped_parts, shorter_shaped}

-- where a shape is asked for first, what is told stays true
tells_also : (shaped passes : Bool) (ts : List TaskRecord) (place : ℕ) (r : Option ℕ) → Tells passes ts place r → Tells (shaped && passes) ts place (cond shaped r None)
tells_also true passes ts place r h = h
tells_also false passes ts place r h = λ e. absurd (false≢true e)

module _ (change : ℕ → ℕ) (keeps_order : (x y : ℕ) → x ≤ y → change x ≤ change y) (never_shortens : (x : ℕ) → x ≤ 1000001 → x ≤ change x) where
  -- a time of 1 or more stays one
  pub stays_some : (x : ℕ) → 1 ≤ x → 1 ≤ change x
  stays_some x le = omega (arith, never_shortens 1 (omega arith), keeps_order 1 x le)

  -- shorter times, changed, are shorter than those changed
  pub shorter_changed : (xs ys : List ℕ) → Shorter ys xs → Shorter (map change ys) (map change xs)
  shorter_changed [] [] w = tt
  shorter_changed [] (y ∷ ys) w = elim w [ ]
  shorter_changed (x ∷ xs) [] w = elim w [ ]
  shorter_changed (x ∷ xs) (y ∷ ys) w =
      (omega (arith, never_shortens 1 (omega arith), keeps_order 1 y w.0), keeps_order y x w.1, shorter_changed xs ys w.2)

  -- a time past a short deadline is past it when changed
  late_changed : (d x : ℕ) → d ≤ 1000000 → d < x → d < change x
  late_changed d x short late =
      ⊎_elim
      (λ (l : x < 1000002). omega (arith, never_shortens x (omega arith)))
      (λ (l : 1000002 ≤ x). omega (arith, never_shortens 1000001 (omega arith), keeps_order 1000001 x (omega arith)))
      (cases_lt x 1000002)

  -- a layer keeps the laws that the test below keeps
  pub layered_lawful : (below : Ledger → List ℕ → Bool) → Lawful below → Lawful (layered change below)
  layered_lawful below laws = record {
    shorter_passes = λ l keeps xs ys w e.
        let p = and_parts (well_shaped l.tasks xs) (below l (map change xs)) e in
        and_from (well_shaped l.tasks ys) (below l (map change ys)) (shorter_shaped l.tasks xs ys w p.0)
        (laws.shorter_passes l keeps (map change xs) (map change ys) (shorter_changed xs ys w) p.1);
    late_fails = λ l keeps xs place h late.
        let a : deadline_at l.tasks place < change (slice_index xs place) = late_changed (deadline_at l.tasks place) (slice_index xs place) (deadlines_short l.tasks keeps.tasks_keep place) late in
        and_right (well_shaped l.tasks xs) (below l (map change xs))
        (laws.late_fails l keeps (map change xs) place (omega (arith, length-map xs change)) (omega (arith, a, get_or-map change xs place 0 0 h)));
    misshapen_fails = λ l keeps xs e. and_left (well_shaped l.tasks xs) (below l (map change xs)) e;
  }

  -- a layer tells times up to the deadlines where the test below does
  pub layered_tells : (below : Ledger → List ℕ → Bool) (told : Ledger → List ℕ → ℕ → Option ℕ) (l : Ledger) (xs : List ℕ) (place : ℕ) → Tells (below l (map change xs)) l.tasks place (told l (map change xs) place) → Tells (layered change below l xs) l.tasks place (layered_told change told l xs place)
  layered_tells below told l xs place h = tells_also (well_shaped l.tasks xs) (below l (map change xs)) l.tasks place (told l (map change xs) place) h

-- a charge keeps the order of times
pub charged_order : (ticks x y : ℕ) → x ≤ y → charged ticks x ≤ charged ticks y
charged_order ticks x y h = omega arith

-- a charge shortens no time up to the cap
pub charged_never : (ticks x : ℕ) → x ≤ 1000001 → x ≤ charged ticks x
charged_never ticks x h = omega arith

-- a margin keeps the order of times
pub widened_order : (m x y : ℕ) → x ≤ y → widened m x ≤ widened m y
widened_order m x y h =
    let a : x * m ≤ y * m = mul-le-mul h (omega arith) in
    let b : (x * m + 999) / 1000 ≤ (y * m + 999) / 1000 = le-div ((x * m + 999) / 1000) (y * m + 999) 1000 (omega arith) (omega (arith, div-add-mod' (x * m + 999) 1000)) in
    omega arith

-- a margin of 1000 thousandths or more shortens no time up to the cap
pub widened_never : (m x : ℕ) → 1000 ≤ m → x ≤ 1000001 → x ≤ widened m x
widened_never m x h l =
    let a : x * 1000 ≤ x * m = mul-le-mul (omega arith) h in
    omega (arith, le-div x (x * m + 999) 1000 (omega arith) (omega arith))

-- a test that follows from the one before need not be asked
and_within : (a b c : Bool) → (a ≡ true → b ≡ true) → (a && (b && c)) ≡ (a && c)
and_within true true c f = refl
and_within true false c f = absurd (false≢true (f refl))
and_within false b c f = refl

-- nor does a choice by it need to be made
cond_within : {X : Type 0} (a b : Bool) (x y : X) → (a ≡ true → b ≡ true) → cond a (cond b x y) y ≡ cond a x y
cond_within true true x y f = refl
cond_within true false x y f = absurd (false≢true (f refl))
cond_within false b x y f = refl

-- a change that makes no time 0 makes none 0 in a list
changed_nowhere : (change : ℕ → ℕ) → ((x : ℕ) → 1 ≤ x → 1 ≤ change x) → (xs : List ℕ) → nowhere_zero xs ≡ true → nowhere_zero (map change xs) ≡ true
changed_nowhere change some [] e = refl
changed_nowhere change some (x ∷ xs) e =
    let p = and_parts (nat_lt 0 x) (nowhere_zero xs) e in
    and_from (nat_lt 0 (change x)) (nowhere_zero (map change xs)) (lt-ltb 0 (change x) (some x (ltb-true 0 x p.0))) (changed_nowhere change some xs p.1)

-- a change that makes no time 0 keeps a list well shaped
changed_shaped : (change : ℕ → ℕ) → ((x : ℕ) → 1 ≤ x → 1 ≤ change x) → (ts : List TaskRecord) (xs : List ℕ) → well_shaped ts xs ≡ true → well_shaped ts (map change xs) ≡ true
changed_shaped change some ts xs e =
    let p = shaped_parts ts xs e in
    and_from (length (map change xs) == length ts) (nowhere_zero (map change xs))
    (eq-eqb (length (map change xs)) (length ts) (length-map xs change ∙ p.0)) (changed_nowhere change some xs p.1)

-- a layer over a test that stands for a pile stands for the pile with one layer more
pub passes_handed_more : (change : ℕ → ℕ) → ((x : ℕ) → 1 ≤ x → 1 ≤ change x) → (pile : List (ℕ → ℕ)) (below : Ledger → List ℕ → Bool) → PassesHanded pile below → PassesHanded (change ∷ pile) (layered change below)
passes_handed_more change some pile below h l xs =
    ap (λ b. well_shaped l.tasks xs && b) (h l (map change xs))
    ∙ and_within (well_shaped l.tasks xs) (well_shaped l.tasks (map change xs)) (fixed_priority l.tasks (handed pile (map change xs)))
    (changed_shaped change some l.tasks xs)

-- a layer over a test that tells what a pile tells, tells what the pile with one layer more tells
pub tells_handed_more : (change : ℕ → ℕ) → ((x : ℕ) → 1 ≤ x → 1 ≤ change x) → (pile : List (ℕ → ℕ)) (below : Ledger → List ℕ → ℕ → Option ℕ) → TellsHanded pile below → TellsHanded (change ∷ pile) (layered_told change below)
tells_handed_more change some pile below h l xs place =
    ap (λ r. cond (well_shaped l.tasks xs) r None) (h l (map change xs) place)
    ∙ cond_within (well_shaped l.tasks xs) (well_shaped l.tasks (map change xs)) (fixed_priority_told l.tasks (handed pile (map change xs)) place) None
    (changed_shaped change some l.tasks xs)

-- a layer fails a list of another shape, and else answers as the test below does
pub layered_shut : (change : ℕ → ℕ) (below : Ledger → List ℕ → Bool) (l : Ledger) (xs : List ℕ) → false ≡ well_shaped l.tasks xs → false ≡ layered change below l xs
layered_shut change below l xs e = sym (and_left (well_shaped l.tasks xs) (below l (map change xs)) (sym e))

pub layered_open : (change : ℕ → ℕ) (below : Ledger → List ℕ → Bool) (l : Ledger) (xs ys : List ℕ) (answer : Bool) → true ≡ well_shaped l.tasks xs
    → ys ≡ map change xs → answer ≡ below l ys → answer ≡ layered change below l xs
layered_open change below l xs ys answer e same is = is ∙ ap (below l) same ∙ ap (λ b. b && below l (map change xs)) e
