-- What the chains over times, and over tasks beside their times, answer.
use Rattle.std.proofs.Common.{ℕ, Bool, List, [], ◌∷◌, map, leb, refl}
use Rattle.std.proofs.lemmas.Bool.{and_parts, and_from, leb-true, le-leb}
use Rattle.std.specs.List.{list_all, zip}
use Rattle.book.specs.Held.{record_of}
use Rattle.book.specs.declared.task.Task.{Task}
use Rattle.schedule.specs.Deciding.{AllTimely}
use Rattle.schedule.specs.Laws.{Exactly}
use Rattle.schedule.specs.Timed.{timed}

-- a task and its time are timely
abbrev pub timely : Task × ℕ → Bool
timely p = leb p.1 p.0.deadline

pub timely_is : (ts : List Task) (xs : List ℕ) → Exactly (list_all timely (zip ts xs)) (AllTimely (timed (map record_of ts) xs))
timely_is [] xs = (λ e. tt, λ h. refl)
timely_is (t ∷ ts) [] = (λ e. tt, λ h. refl)
timely_is (t ∷ ts) (x ∷ xs) =
    let more = timely_is ts xs in (
      λ e. let p = and_parts (leb x t.deadline) (list_all timely (zip ts xs)) e in (leb-true x t.deadline p.0, more.0 p.1),
      λ h. and_from (leb x t.deadline) (list_all timely (zip ts xs)) (le-leb x t.deadline h.0) (more.1 h.1),
    )
