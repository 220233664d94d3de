-- What the calls on a class list answer, from what their loops gave.
use Rattle.std.proofs.Common.{◌≡◌, ℕ, ◌≤◌, true, false, ltb, List, [], ◌∷◌, ◌++◌, length, take, drop, Bool, not, Ok, Err, sym, refl, ap, ◌∙◌, inl, inr, arith}
use Rattle.std.proofs.lemmas.List.{drop_at, length-append, length-drop, length-map, take_at}
use Rattle.std.proofs.lemmas.Bool.{cases_Bool, le-ltb, ltb-false}
use Rattle.std.proofs.lemmas.Slice.Zip.{length-zip}
use Rattle.std.specs.List.{zip}
use Rattle.book.specs.Checks.{Put, judged, short_check}
use Rattle.book.specs.Classes.{chosen_times, list_check, names}
use Rattle.book.specs.Ledger.{TaskRecord}
use Rattle.book.specs.declared.refusal.Refusal.{Refusal}
use Rattle.book.specs.declared.refusal.Refusal.TheVariants as r
use Rattle.book.proofs.ClassLists.{names_long}

-- one time for each class
pub chosen_named : (ts : List TaskRecord) (cs : List ℕ) → names ts cs ≡ true → length (chosen_times ts cs) ≡ length cs
chosen_named ts cs e = length-map (zip ts cs) _ ∙ length-zip ts cs ∙ omega (arith, names_long ts cs e)

-- what is done where neither check applies changes no refusal
other_done : {A B : Type 0} (named short : Bool) (a : A) (b : B) (e : Refusal) → judged ((not named, r.List) ∷ (short, r.Short) ∷ []) a ≡ Err e
    → judged ((not named, r.List) ∷ (short, r.Short) ∷ []) b ≡ Err e
other_done true true a b e h = cc
other_done true false a b e h = let z : ◌≡◌ {A = ℕ} 0 1 = cc in absurd (omega arith)
other_done false short a b e h = cc

neither : {A : Type 0} (named short : Bool) (a x : A) → judged ((not named, r.List) ∷ (short, r.Short) ∷ []) a ≡ Ok x → (named ≡ true) × ((short ≡ false) × (x ≡ a))
neither true true a x h = let z : ◌≡◌ {A = ℕ} 0 1 = cc in absurd (omega arith)
neither true false a x h = (refl, (refl, cc))
neither false short a x h = let z : ◌≡◌ {A = ℕ} 0 1 = cc in absurd (omega arith)

-- the times of a list's classes are refused as the list is, and need as much room
module _ (ts : List TaskRecord) (cs : List ℕ) {X : Type 0} (buffer : List X) where
  pub times_refused : (e : Refusal) → judged (list_check ts cs ∷ short_check buffer cs ∷ []) (length cs) ≡ Err e
      → judged (list_check ts cs ∷ short_check buffer (chosen_times ts cs) ∷ []) (chosen_times ts cs) ≡ Err e
  times_refused e h =
      elim (cases_Bool (names ts cs)) [
        | inl named ↦
            ap (λ n. judged (list_check ts cs ∷ (ltb (length buffer) n, r.Short) ∷ []) (chosen_times ts cs)) (chosen_named ts cs named)
            ∙ other_done (names ts cs) (ltb (length buffer) (length cs)) (length cs) (chosen_times ts cs) e h
        | inr unnamed ↦
            let f : judged (list_check ts cs ∷ short_check buffer cs ∷ []) (length cs) ≡ Err r.List = rw unnamed in
            let g : judged (list_check ts cs ∷ short_check buffer (chosen_times ts cs) ∷ []) (chosen_times ts cs) ≡ Err r.List = rw unnamed in
            cc
      ]

  pub list_passed : (n : ℕ) → judged (list_check ts cs ∷ short_check buffer cs ∷ []) (length cs) ≡ Ok n → (names ts cs ≡ true) × ((n ≡ length cs) × (length cs ≤ length buffer))
  list_passed n h =
      let passed = neither (names ts cs) (ltb (length buffer) (length cs)) (length cs) n h in
      (passed.0, (passed.1.1, ltb-false (length buffer) (length cs) passed.1.0))

  -- the times in front of the buffer, and what lay behind them
  pub times_put : (now : List ℕ) (n : ℕ) (old : List ℕ) → names ts cs ≡ true → n ≡ length cs → length cs ≤ length old → now ≡ chosen_times ts cs ++ drop (length cs) old
      → Put old now (judged (list_check ts cs ∷ short_check old (chosen_times ts cs) ∷ []) (chosen_times ts cs)) (Ok n)
  times_put now n old named is le e =
      let out : List ℕ = chosen_times ts cs in
      let long : length out ≡ n = chosen_named ts cs named ∙ sym is in
      let now_is : now ≡ out ++ drop n old = e ∙ (λ j. out ++ drop (sym is j) old) in
      let fits : judged (list_check ts cs ∷ short_check old out ∷ []) out ≡ Ok out = rw (named, le-ltb (length old) (length out) (omega arith)) in (
        fits ∙ ap Ok (sym (ap (take n) now_is ∙ take_at out (drop n old) n long)),
        omega (arith, ap length now_is, length-append out (drop n old), length-drop n old),
        ap (drop n) now_is ∙ drop_at out (drop n old) n long,
      )
