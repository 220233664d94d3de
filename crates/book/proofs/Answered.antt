-- Answers that differ only in what is done where no check applies.
use Rattle.std.proofs.Common.{◌≡◌, ℕ, Bool, true, false, cond, List, [], ◌∷◌, ◌++◌, Ok, Err, Result, refl, ap, ◌∙◌, arith}
use Rattle.book.specs.Checks.{Check, judged}
use Rattle.book.specs.declared.refusal.Refusal.{Refusal}

-- what is done, carried on by a function; a refusal stays
abbrev pub done_by : {A B : Type 0} → (A → B) → Result A Refusal → Result B Refusal
done_by f (Ok a) = Ok (f a)
done_by f (Err e) = Err e

cond_by : {A B : Type 0} (f : A → B) (b : Bool) (e : Refusal) (r : Result A Refusal) → cond b (Err e) (done_by f r) ≡ done_by f (cond b (Err e) r)
cond_by f true e r = refl
cond_by f false e r = refl

pub judged_by : {A B : Type 0} (f : A → B) (cs : List Check) (done : A) → judged cs (f done) ≡ done_by f (judged cs done)
judged_by f [] done = refl
judged_by f (c ∷ cs) done = ap (cond c.0 (Err c.1)) (judged_by f cs done) ∙ cond_by f c.0 c.1 (judged cs done)

-- the later checks decide where the earlier ones let the call pass
pub passed_on : {A B : Type 0} (cs ds : List Check) (x : A) (done : B) (y : A) → judged cs x ≡ Ok y → judged (cs ++ ds) done ≡ judged ds done
passed_on [] ds x done y e = refl
passed_on (c ∷ cs) ds x done y e =
    let P : Bool → Type 0 = λ b. cond b (Err c.1) (judged cs x) ≡ Ok y → cond b (Err c.1) (judged (cs ++ ds) done) ≡ judged ds done in
    (elim c.0 as P [ true ↦ λ h. let z : ◌≡◌ {A = ℕ} 0 1 = cc in absurd (omega arith) | false ↦ λ h. passed_on cs ds x done y h ]) e

-- an earlier check decides whatever comes after it
pub refused_by : {A B : Type 0} (cs ds : List Check) (x : A) (done : B) (r : Refusal) → judged cs x ≡ Err r → judged (cs ++ ds) done ≡ Err r
refused_by [] ds x done r e = let z : ◌≡◌ {A = ℕ} 0 1 = cc in absurd (omega arith)
refused_by (c ∷ cs) ds x done r e =
    let P : Bool → Type 0 = λ b. cond b (Err c.1) (judged cs x) ≡ Err r → cond b (Err c.1) (judged (cs ++ ds) done) ≡ Err r in
    (elim c.0 as P [ true ↦ λ h. cc | false ↦ λ h. refused_by cs ds x done r h ]) e

-- what is done is what was to be done
pub done_same : {A : Type 0} (cs : List Check) (x y : A) → judged cs x ≡ Ok y → y ≡ x
done_same [] x y e = cc
done_same (c ∷ cs) x y e =
    let P : Bool → Type 0 = λ b. cond b (Err c.1) (judged cs x) ≡ Ok y → y ≡ x in
    (elim c.0 as P [ true ↦ λ h. let z : ◌≡◌ {A = ℕ} 0 1 = cc in absurd (omega arith) | false ↦ λ h. done_same cs x y h ]) e
