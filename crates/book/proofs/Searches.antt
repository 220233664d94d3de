-- What a binary search over a table's numbers found.
use Rattle.std.proofs.Common.{◌≡◌, ℕ, ◌<◌, ◌≤◌, List, [], ◌∷◌, length, get_or, Ok, Err, Result, ap, ◌∙◌, inl, inr, arith}
use borrow.Author.Tests.{tests}
use Rattle.std.proofs.lemmas.Bool.{cases_eq}
use Rattle.std.proofs.lemmas.List.{get_or-map}
use Rattle.std.specs.Ordering.{nat_cmp, ordering_index}
use Rattle.std.specs.declared.cmp.Ordering.TheVariants.{Less, Equal, Greater}
use Rattle.std.specs.List.Sorted.{IsBinarySearchResult, IsSearchInRange}
use Rattle.book.specs.Books.{used}
use Rattle.book.specs.Held.{number_in, numbers}
use Rattle.book.specs.Places.{Found, number_at}
use Rattle.book.specs.declared.table.Table.{Table}
use Rattle.book.specs.declared.task.Task.{Task}
use Rattle.book.proofs.Places.{ascends, long, numbers_long}

is_equal : (a n : ℕ) → nat_cmp a n ≡ Equal → a ≡ n
is_equal a n e = grind (arith, tests)

is_less : (a n : ℕ) → nat_cmp a n ≡ Less → a < n
is_less a n e = grind (arith, tests)

is_greater : (a n : ℕ) → nat_cmp a n ≡ Greater → n < a
is_greater a n e = grind (arith, tests)

later : (a b n : ℕ) → a ≤ b → ordering_index (nat_cmp a n) ≤ ordering_index (nat_cmp b n)
later a b n le = grind (arith, tests)

-- a table has slots
first : (xs : List Task) → 0 < length xs → Task
first [] lt = absurd (omega arith)
first (x ∷ xs) lt = x

slot : Table → Task
slot t = first t.tasks (omega (arith, t.few))

number_is : (t : Table) (k : ℕ) (d : Task) → k < t.count → number_at t k ≡ (get_or (used t) k d).number
number_is t k d lt = get_or-map number_in (used t) k d 0 (omega (arith, long t))

-- numbers ascend, so the answers of the comparison rise
rise : (t : Table) (i j : ℕ) (d : Task) → i ≤ j → j < length (used t) → (get_or (used t) i d).number ≤ (get_or (used t) j d).number
rise t i j d le lt =
    let inside : j < t.count = omega (arith, long t) in
    elim (cases_eq i j) [
      | inl e ↦ omega (arith, ap (λ k. (get_or (used t) k d).number) e)
      | inr e ↦ omega (arith, number_is t i d (omega arith), number_is t j d inside, ascends (numbers t.tasks t.count) i j t.ascending (omega arith) (omega (arith, numbers_long t)))
    ]

pub found : (t : Table) (n : ℕ) (r : Result ℕ ℕ) → IsSearchInRange r (length (used t)) → IsBinarySearchResult (λ (u : Task). nat_cmp u.number n) (used t) r → Found t n r
found t n (Ok i) within h =
    let inside : i < t.count = omega (arith, long t) in
    let here : number_at t i ≡ n = number_is t i (slot t) inside ∙ is_equal _ n (h (slot t)) in
    (inside, here, λ k lt. omega (arith, here, ascends (numbers t.tasks t.count) k i t.ascending lt (omega (arith, numbers_long t))))
found t n (Err i) within h =
    let parted = h (λ a b d le lt. later _ _ n (rise t a b d le lt)) in
    let d = slot t in (
      omega (arith, long t),
      (λ k lt. omega (arith, number_is t k d (omega (arith, long t)), is_less _ n (parted.0 k d (omega arith) lt))),
      λ lt. omega (arith, number_is t i d lt, is_greater _ n (parted.1 i d (omega arith) (omega (arith, long t)))),
    )
