-- What a class list asks of the tasks: that it names a class of each, and what is left of the times and the work.
use Rattle.std.proofs.Common.{◌≡◌, ℕ, true, List, [], ◌∷◌, map, length, ◌==◌, nat_lt, Bool, sym, refl, ap, ◌∙◌, ◌⊎◌, inl, inr}
use Rattle.std.proofs.lemmas.List.{length-map}
use Rattle.std.proofs.lemmas.Bool.{and_parts, eq-eqb, eqb-true}
use Rattle.std.specs.List.{list_all, zip}
use Rattle.book.specs.Classes.{chosen_times, names, work_in}
use Rattle.book.specs.Held.{record_of, times_in}
use Rattle.book.specs.Ledger.{TaskRecord}
use Rattle.book.specs.declared.task.Task.{Task}
use Rattle.book.proofs.Zips.{all_zip_map}

-- a list of the right length names each task's class where the code says so of each pair
pub names_of : (ts : List Task) (cs : List ℕ) (b : Bool) → length cs ≡ length ts → b ≡ list_all (λ (p : Task × ℕ). nat_lt p.1 (length (times_in p.0.row))) (zip ts cs)
    → b ≡ names (map record_of ts) cs
names_of ts cs b same e =
    rw (eq-eqb (length cs) (length (map record_of ts)) (same ∙ sym (length-map ts record_of)))
    (e ∙ sym (all_zip_map (λ (p : TaskRecord × ℕ). nat_lt p.1 (length p.0.times)) record_of ts cs))

-- a list that names classes is as long as the tasks are many
pub names_long : (ts : List TaskRecord) (cs : List ℕ) → names ts cs ≡ true → length cs ≡ length ts
names_long ts cs e = eqb-true (length cs) (length ts) (and_parts (length cs == length ts) _ e).0

-- the times that the classes give
abbrev pub times_chosen : List Task → List ℕ → List ℕ
times_chosen ts cs = chosen_times (map record_of ts) cs

-- the work of those times
abbrev pub work_left : ℕ → List Task → List ℕ → ℕ
work_left cycle ts cs = work_in cycle (map record_of ts) (chosen_times (map record_of ts) cs)

work_none : (cycle : ℕ) (ts : List Task) → work_left cycle ts [] ≡ 0
work_none cycle [] = refl
work_none cycle (t ∷ ts) = refl

-- no task is left, or no class
pub work_end : (cycle : ℕ) (ts : List Task) (cs : List ℕ) → (ts ≡ []) ⊎ (cs ≡ []) → work_left cycle ts cs ≡ 0
work_end cycle ts cs (inl e) = ap (λ us. work_left cycle us cs) e
work_end cycle ts cs (inr e) = ap (work_left cycle ts) e ∙ work_none cycle ts
