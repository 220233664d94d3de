-- The earliest-deadline test: at no instant is more due than the processor can have done.
use Rattle.std.specs.Prelude.{◌≡◌, ℕ, zero, suc, ◌≤◌, Bool, true, ◌&&◌, List, map, nat_le}
use Rattle.book.specs.Hyperperiod.{hyperperiod}
use Rattle.book.specs.Ledger.{TaskRecord, period_of}
use Rattle.schedule.specs.Demands.{processor_demand}
use Rattle.schedule.specs.Timed.{Timed, timed, well_shaped}

-- the processor demand of every t from 1 on, without bound, is at most t
abbrev pub DemandMet : List Timed → Type 0
DemandMet ks = (t : ℕ) → 1 ≤ t → processor_demand ks t ≤ t

-- the published condition: the list is well shaped, and the demand is met at every t
pub record AlwaysMet (ts : List TaskRecord) (xs : List ℕ) : Type 0 where
  pub shaped : well_shaped ts xs ≡ true
  pub met : DemandMet (timed ts xs)

-- p holds of each number from 1 to n
abbrev pub every_to : ℕ → (ℕ → Bool) → Bool
every_to zero p = true
every_to (suc n) p = p (suc n) && every_to n p

-- The condition as yes or no. A yes or no has to end, so it looks at the instants of one hyperperiod; that those decide all
-- instants is proved.
unfoldable pub earliest_deadline : List TaskRecord → List ℕ → Bool
earliest_deadline ts xs = well_shaped ts xs && every_to (hyperperiod (map period_of ts)) (λ t. nat_le (processor_demand (timed ts xs) t) t)
