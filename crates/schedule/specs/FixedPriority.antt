-- The fixed-priority test: the response equation of every task has a solution up to its deadline.
use Rattle.std.specs.Prelude.{◌≡◌, ℕ, ◌+◌, ◌≤◌, Bool, true, cond, ◌&&◌, List, [], ◌∷◌, map, is_some, Some, None, Option, nat_lt, slice_index_or}
use Rattle.std.specs.List.{list_all}
use Rattle.book.specs.Ledger.{TaskRecord}
use Rattle.schedule.specs.Demands.{requested}
use Rattle.schedule.specs.Least.{least_to}
use Rattle.schedule.specs.Timed.{Timed, timed, well_shaped}

-- the tasks of smaller number: those of higher priority
abbrev pub higher : ℕ → List Timed → List Timed
higher number [] = []
higher number (k ∷ ks) = cond (nat_lt k.number number) (k ∷ higher number ks) (higher number ks)

-- own time + the sum, over the tasks of smaller number, of t / period rounded up, times their time
abbrev pub response_demand : List Timed → Timed → ℕ → ℕ
response_demand ks k t = k.time + requested (higher k.number ks) t

-- t solves the response equation of k, and is in time
pub record Responds (ks : List Timed) (k : Timed) (t : ℕ) : Type 0 where
  pub from_one : 1 ≤ t
  pub in_time : t ≤ k.deadline
  pub solves : t ≡ response_demand ks k t

-- P holds of every task of the list
abbrev pub Each : (Timed → Type 0) → List Timed → Type 0
Each P [] = Unit {0}
Each P (k ∷ ks) = P k × Each P ks

-- the published condition: the list is well shaped, and each task has a t from 1 to its deadline that solves its equation
pub record EachResponds (ts : List TaskRecord) (xs : List ℕ) : Type 0 where
  pub shaped : well_shaped ts xs ≡ true
  pub responds : Each (λ k. (t : ℕ) × Responds (timed ts xs) k t) (timed ts xs)

-- the response time: the least solution up to the deadline
abbrev pub response : List Timed → Timed → Option ℕ
response ks k = least_to k.deadline (response_demand ks k)

-- the condition as yes or no
abbrev pub fixed_priority : List TaskRecord → List ℕ → Bool
fixed_priority ts xs = well_shaped ts xs && list_all (λ k. is_some (response (timed ts xs) k)) (timed ts xs)

-- the response time of the task at a place, counted from 0; none past the last task
abbrev pub response_at : List TaskRecord → List ℕ → ℕ → Option ℕ
response_at ts xs place = slice_index_or (map (response (timed ts xs)) (timed ts xs)) place None

-- The response told of the task at a place is the least solution of its equation, and in time.
abbrev pub LeastResponse : List TaskRecord → List ℕ → ℕ → Option ℕ → Type 0
LeastResponse ts xs place None = Unit {0}
LeastResponse ts xs place (Some t) =
    (k : Timed) → k ≡ slice_index_or (timed ts xs) place k → Responds (timed ts xs) k t × ((s : ℕ) → 1 ≤ s → s ≡ response_demand (timed ts xs) k s → t ≤ s)

-- what fixed priority tells of the task at a place: on a passing list its response time
abbrev pub fixed_priority_told : List TaskRecord → List ℕ → ℕ → Option ℕ
fixed_priority_told ts xs place = cond (fixed_priority ts xs) (response_at ts xs place) None
