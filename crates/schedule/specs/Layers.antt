-- Layers: tests that ask the one below with changed times.
use Rattle.std.specs.Prelude.{◌≡◌, ℕ, ◌+◌, ◌*◌, ◌/◌, min, Bool, cond, ◌&&◌, List, [], ◌∷◌, map, None, Option, Result, fold, nat_lt}
use Rattle.book.specs.Checks.{judged, outside}
use Rattle.book.specs.Ledger.{Ledger}
use Rattle.book.specs.declared.refusal.Refusal.{Refusal}
use Rattle.book.specs.declared.refusal.Refusal.TheVariants as r
use Rattle.schedule.specs.FixedPriority.{fixed_priority, fixed_priority_told}
use Rattle.schedule.specs.Timed.{well_shaped}

-- One tick above the longest deadline: no test passes a time so long, so no longer one has to be told apart.
abbrev pub capped : ℕ → ℕ
capped x = min x 1000001

-- a charge: the ticks of one context switch, paid twice by each job
abbrev pub charged : ℕ → ℕ → ℕ
charged ticks x = capped (x + 2 * ticks)

-- a margin: a factor in thousandths on each time, rounded up
abbrev pub widened : ℕ → ℕ → ℕ
widened margin x = capped ((x * margin + 999) / 1000)

-- changes of a kind, each in turn, the first one first
abbrev pub through : {C : Type 0} → (C → ℕ → ℕ) → List C → ℕ → ℕ
through changed changes x = fold (λ time change. changed change time) x changes

-- making a layer: a charge of at most 1,000 ticks, a margin of 1,000 to 4,000 thousandths
abbrev pub charge_answer : ℕ → Result ℕ Refusal
charge_answer ticks = judged ((nat_lt 1000 ticks, r.Charge) ∷ []) ticks

abbrev pub margin_answer : ℕ → Result ℕ Refusal
margin_answer margin = judged ((outside 1000 4000 margin, r.Margin) ∷ []) margin

-- a layer passes a list that is well shaped and whose changed times the test below passes
abbrev pub layered : (ℕ → ℕ) → (Ledger → List ℕ → Bool) → Ledger → List ℕ → Bool
layered change below l xs = well_shaped l.tasks xs && below l (map change xs)

-- and tells what the test below tells at the changed times
abbrev pub layered_told : (ℕ → ℕ) → (Ledger → List ℕ → ℕ → Option ℕ) → Ledger → List ℕ → ℕ → Option ℕ
layered_told change below l xs place = cond (well_shaped l.tasks xs) (below l (map change xs) place) None

-- A pile is the changes of its layers, none or more, the outermost first. These are the times that reach the lowest test.
abbrev pub handed : List (ℕ → ℕ) → List ℕ → List ℕ
handed [] xs = xs
handed (change ∷ pile) xs = handed pile (map change xs)

-- a test that stands for a pile over fixed priority passes exactly the well-shaped lists whose handed times fixed priority passes
abbrev pub PassesHanded : List (ℕ → ℕ) → (Ledger → List ℕ → Bool) → Type 0
PassesHanded pile passes = (l : Ledger) (xs : List ℕ) → passes l xs ≡ (well_shaped l.tasks xs && fixed_priority l.tasks (handed pile xs))

-- and tells the response times of those
abbrev pub TellsHanded : List (ℕ → ℕ) → (Ledger → List ℕ → ℕ → Option ℕ) → Type 0
TellsHanded pile told = (l : Ledger) (xs : List ℕ) (place : ℕ)
    → told l xs place ≡ cond (well_shaped l.tasks xs) (fixed_priority_told l.tasks (handed pile xs) place) None
