-- The refusals: the number and the word of each.
use Rattle.std.specs.Prelude.{ℕ, List, codes}
use Rattle.book.specs.declared.refusal.Refusal.{Refusal}
use Rattle.book.specs.declared.refusal.Refusal.TheVariants as r

-- the number that a refusal is known by
abbrev pub refusal_number : Refusal → ℕ
refusal_number r.Cache = 1
refusal_number r.Number = 2
refusal_number r.Period = 3
refusal_number r.Deadline = 4
refusal_number r.Class = 5
refusal_number r.Time = 6
refusal_number r.Rising = 7
refusal_number r.Taken = 8
refusal_number r.Full = 9
refusal_number r.Unknown = 10
refusal_number r.Cycle = 11
refusal_number r.Empty = 12
refusal_number r.NoneFits = 13
refusal_number r.Spent = 14
refusal_number r.List = 15
refusal_number r.Overrun = 16
refusal_number r.Late = 17
refusal_number r.Overload = 18
refusal_number r.Short = 19
refusal_number r.Version = 20
refusal_number r.Cut = 21
refusal_number r.Length = 22
refusal_number r.Order = 23
refusal_number r.Charge = 24
refusal_number r.Margin = 25

-- the word that a refusal is printed with, as bytes
abbrev pub refusal_word : Refusal → List ℕ
refusal_word r.Cache = codes "cache"
refusal_word r.Number = codes "number"
refusal_word r.Period = codes "period"
refusal_word r.Deadline = codes "deadline"
refusal_word r.Class = codes "class"
refusal_word r.Time = codes "time"
refusal_word r.Rising = codes "rising"
refusal_word r.Taken = codes "taken"
refusal_word r.Full = codes "full"
refusal_word r.Unknown = codes "unknown"
refusal_word r.Cycle = codes "cycle"
refusal_word r.Empty = codes "empty"
refusal_word r.NoneFits = codes "none fits"
refusal_word r.Spent = codes "spent"
refusal_word r.List = codes "list"
refusal_word r.Overrun = codes "overrun"
refusal_word r.Late = codes "late"
refusal_word r.Overload = codes "overload"
refusal_word r.Short = codes "short"
refusal_word r.Version = codes "version"
refusal_word r.Cut = codes "cut"
refusal_word r.Length = codes "length"
refusal_word r.Order = codes "order"
refusal_word r.Charge = codes "charge"
refusal_word r.Margin = codes "margin"
