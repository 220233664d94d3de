-- Appending to a text.
use Rattle.std.proofs.Common.{◌≡◌, ℕ, ◌+◌, ◌^◌, ◌<◌, ◌≤◌, List, [], ◌∷◌, ◌++◌, map, length, get_or, take, decimal, sym, refl, ap, ◌∙◌, arith}
use Rattle.std.proofs.lemmas.Fmt.{length-decimal-le}
use Rattle.std.proofs.lemmas.List.{append_assoc, append-nil, map-append}
use Rattle.book.specs.Held.{record_of}
use Rattle.book.specs.Ledger.{TaskRecord}
use Rattle.book.specs.declared.task.Task.{Task}
use Rattle.sheet.proofs.Writes.{front_more}
use Rattle.report.specs.Texts.{spaced, task_line, task_lines}

-- a number of 64 bits has at most twenty digits
pub number_short : (n : ℕ) → n < 2 ^ 64 → length (decimal n) ≤ 20
number_short n small = length-decimal-le 20 n (omega arith) (omega arith) small

-- one part behind another
pub two_puts : (t u v x y : List ℕ) → u ≡ t ++ x → v ≡ u ++ y → v ≡ t ++ (x ++ y)
two_puts t u v x y e f = f ∙ ap (λ zs. zs ++ y) e ∙ append_assoc t x y

-- what a loop appends, one element more
module _ {X : Type 0} (F : List X → List ℕ) (G : X → List ℕ) (joins : (xs ys : List X) → F (xs ++ ys) ≡ F xs ++ F ys) (one : (x : X) → F (x ∷ []) ≡ G x) where
  pub puts_more : (xs : List X) (i : ℕ) (x : X) (t u v : List ℕ) → i < length xs → x ≡ get_or xs i x → u ≡ t ++ F (take i xs) → v ≡ u ++ G x
      → v ≡ t ++ F (take (i + 1) xs)
  puts_more xs i x t u v lt e f g =
      two_puts t u v (F (take i xs)) (G x) f g ∙ ap (λ zs. t ++ zs) (sym (front_more F G joins one xs i x lt e))

pub spaced_joins : (xs ys : List ℕ) → spaced (xs ++ ys) ≡ spaced xs ++ spaced ys
spaced_joins [] ys = refl
spaced_joins (x ∷ xs) ys = ap (λ zs. 32 ∷ zs) (ap (λ zs. decimal x ++ zs) (spaced_joins xs ys) ∙ sym (append_assoc (decimal x) (spaced xs) (spaced ys)))

pub spaced_one : (x : ℕ) → spaced (x ∷ []) ≡ 32 ∷ decimal x
spaced_one x = ap (λ zs. 32 ∷ zs) (append-nil (decimal x))

-- the lines of tasks
abbrev pub lines_of : List Task → List ℕ
lines_of ts = task_lines (map record_of ts)

abbrev pub line_of : Task → List ℕ
line_of t = task_line (record_of t)

lines_join : (xs ys : List TaskRecord) → task_lines (xs ++ ys) ≡ task_lines xs ++ task_lines ys
lines_join [] ys = refl
lines_join (x ∷ xs) ys = ap (λ zs. task_line x ++ zs) (lines_join xs ys) ∙ sym (append_assoc (task_line x) (task_lines xs) (task_lines ys))

pub lines_joins : (ts us : List Task) → lines_of (ts ++ us) ≡ lines_of ts ++ lines_of us
lines_joins ts us = ap task_lines (map-append record_of ts us) ∙ lines_join (map record_of ts) (map record_of us)

pub lines_one : (t : Task) → lines_of (t ∷ []) ≡ line_of t
lines_one t = append-nil (line_of t)
