-- The hyperperiod of a list of periods: their least common multiple, 1 where there is none.
use Rattle.std.specs.Prelude.{ℕ, zero, suc, ◌*◌, ◌%◌, Bool, true, cond, ◌&&◌, List, [], ◌∷◌, ◌==◌}
use Rattle.std.specs.Int.{◌∣◌}

-- m is a multiple of every period
abbrev pub common : List ℕ → ℕ → Bool
common [] m = true
common (p ∷ ps) m = m % p == 0 && common ps m

-- the least common multiple among the numbers from m on, of which at most `tries` are looked at
abbrev pub least_from : ℕ → ℕ → List ℕ → ℕ
least_from zero m ps = m
least_from (suc tries) m ps = cond (common ps m) m (least_from tries (suc m) ps)

abbrev pub product : List ℕ → ℕ
product [] = 1
product (p ∷ ps) = p * product ps

-- The least number from 1 on that is a multiple of every period. The product of the periods is one, so that many tries suffice.
unfoldable pub hyperperiod : List ℕ → ℕ
hyperperiod ps = least_from (product ps) 1 ps

abbrev pub AllDivide : List ℕ → ℕ → Type 0
AllDivide [] m = Unit {0}
AllDivide (p ∷ ps) m = (p ∣ m) × AllDivide ps m

-- a multiple of every period that divides every common multiple
abbrev pub IsHyperperiod : List ℕ → ℕ → Type 0
IsHyperperiod ps h = AllDivide ps h × ((m : ℕ) → AllDivide ps m → h ∣ m)
