-- How a call answers: its checks in their order, and what it then leaves in what it was lent.
use Rattle.std.specs.Prelude.{◌≡◌, ℕ, ◌≤◌, Bool, cond, ◌||◌, List, [], ◌∷◌, length, take, drop, Ok, Err, Result, nat_lt}
use Rattle.book.specs.declared.refusal.Refusal.{Refusal}
use Rattle.book.specs.declared.refusal.Refusal.TheVariants as r

-- a check: whether it applies, and the refusal that it gives then
abbrev pub Check : Type 0
Check = Bool × Refusal

-- refused by the first check that applies, and done where none does
abbrev pub judged : {A : Type 0} → List Check → A → Result A Refusal
judged [] done = Ok done
judged (check ∷ later) done = cond check.0 (Err check.1) (judged later done)

-- a number that is not `low` to `high`
abbrev pub outside : ℕ → ℕ → ℕ → Bool
outside low high x = nat_lt x low || nat_lt high x

-- the buffer is shorter than what is to be put into it
abbrev pub short_check : {X Y : Type 0} → List X → List Y → Check
short_check buffer out = (nat_lt (length buffer) (length out), r.Short)

-- A call that makes a value gave the answer, where a value stands for `view` of it.
abbrev pub Made : {S V E : Type 0} → (S → V) → Result V E → Result S E → Type 0
Made view answer (Ok made) = answer ≡ Ok (view made)
Made view answer (Err e) = answer ≡ Err e

-- A call that changes a value gave the answer: done, the value stands for what the answer says; refused, it is as it was.
abbrev pub Did : {S V E : Type 0} → (S → V) → S → S → Result V E → Result (Unit {0}) E → Type 0
Did view old new answer (Ok u) = answer ≡ Ok (view new)
Did view old new answer (Err e) = (answer ≡ Err e) × (new ≡ old)

-- A call that puts a list into the front of a buffer gave the answer, and returned the list's length: done, the list stands
-- in front and what lies behind it is kept; refused, the whole buffer is as it was.
abbrev pub Put : {X : Type 0} → List X → List X → Result (List X) Refusal → Result ℕ Refusal → Type 0
Put old new answer (Ok n) = (answer ≡ Ok (take n new)) × (n ≤ length new) × (drop n new ≡ drop n old)
Put old new answer (Err e) = (answer ≡ Err e) × (new ≡ old)
