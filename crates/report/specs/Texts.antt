-- What a book and a fault look like to a person. Every line ends with byte 10.
use Rattle.std.specs.Prelude.{ℕ, List, [], ◌∷◌, ◌++◌, map, length, Ok, Err, codes, decimal, Result}
use Rattle.book.specs.Hyperperiod.{hyperperiod}
use Rattle.book.specs.Ledger.{Ledger, TaskRecord, period_of}
use Rattle.book.specs.Refusals.{refusal_number, refusal_word}
use Rattle.sheet.specs.Decoding.{decode}
use Rattle.sheet.specs.declared.fault.Fault.{Fault}

-- the end of a line
abbrev pub line_end : List ℕ
line_end = 10 ∷ []

-- numbers with a space before each
abbrev pub spaced : List ℕ → List ℕ
spaced [] = []
spaced (x ∷ xs) = 32 ∷ (decimal x ++ spaced xs)

-- as `task 1: period 10, deadline 5, times 4 3 2`
abbrev pub task_line : TaskRecord → List ℕ
task_line t =
    codes "task " ++ decimal t.number ++ (codes ": period " ++ decimal t.period) ++ (codes ", deadline " ++ decimal t.deadline)
    ++ codes ", times" ++ spaced t.times ++ line_end

abbrev pub task_lines : List TaskRecord → List ℕ
task_lines [] = []
task_lines (t ∷ ts) = task_line t ++ task_lines ts

-- a line for the cache, a line for each task, and one for the task count and the hyperperiod
abbrev pub book_text : Ledger → List ℕ
book_text l =
    codes "cache size " ++ decimal l.cache ++ line_end ++ task_lines l.tasks ++ (codes "task count " ++ decimal (length l.tasks))
    ++ (codes ", hyperperiod " ++ decimal (hyperperiod (map period_of l.tasks))) ++ line_end

-- as `refused 21 at 25: cut`
abbrev pub fault_text : Fault → List ℕ
fault_text f =
    codes "refused " ++ decimal (refusal_number f.refusal) ++ (codes " at " ++ decimal f.place) ++ codes ": " ++ refusal_word f.refusal ++ line_end

-- what is said of a sheet
abbrev pub answer_text : Result Ledger Fault → List ℕ
answer_text (Ok l) = book_text l
answer_text (Err f) = fault_text f

abbrev pub sheet_text : List ℕ → List ℕ
sheet_text sheet = answer_text (decode sheet)
