-- Several changes of a time, each in turn.
use Rattle.std.specs.Prelude.{ℕ, ◌≤◌, List, [], ◌∷◌}
use Rattle.std.proofs.Common.{⊎_elim, arith, ◌<◌}
use Rattle.std.proofs.lemmas.Bool.{cases_lt}
use Rattle.schedule.specs.Layers.{through}

module _ {C : Type 0} (changed : C → ℕ → ℕ) (keeps_order : (change : C) (x y : ℕ) → x ≤ y → changed change x ≤ changed change y) where
  -- they keep the order of times
  pub through_order : (changes : List C) (x y : ℕ) → x ≤ y → through changed changes x ≤ through changed changes y
  through_order [] x y le = le
  through_order (change ∷ changes) x y le = through_order changes (changed change x) (changed change y) (keeps_order change x y le)

  -- They shorten no time up to the cap. What the first one makes of it is up to the cap again, or above it: then the others make no
  -- less of it than of the cap.
  pub through_never : ((change : C) (x : ℕ) → x ≤ 1000001 → x ≤ changed change x) → (changes : List C) (x : ℕ) → x ≤ 1000001 → x ≤ through changed changes x
  through_never never_shortens [] x le = omega arith
  through_never never_shortens (change ∷ changes) x le =
      let y = changed change x in
      let first : x ≤ y = never_shortens change x le in
      ⊎_elim
      (λ (l : y < 1000002). omega (arith, through_never never_shortens changes y (omega arith)))
      (λ (l : 1000002 ≤ y). omega (arith, through_never never_shortens changes 1000001 (omega arith), through_order changes 1000001 y (omega arith)))
      (cases_lt y 1000002)
