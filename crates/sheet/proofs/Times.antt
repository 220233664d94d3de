-- The times of a record, read one after the other.
use Rattle.std.proofs.Common.{◌≡◌, ℕ, ◌+◌, ◌*◌, ◌<◌, List, [], ◌∷◌, ◌++◌, length, take, set, sym, ap, ◌∙◌, arith}
use Rattle.std.proofs.lemmas.List.{append_assoc, length-append, length-take-le, take_more_set}
use Rattle.sheet.specs.Encoding.{four_bytes, time_bytes}
use Rattle.sheet.proofs.Bytes.{time_bytes_long, times_append}

module _ (s rest slots : List ℕ) (i : ℕ) (more : i < length slots) (e : s ≡ time_bytes (take i slots) ++ rest) where
  -- a sheet that ends inside a time is too short for all
  pub times_cut : length rest < 4 → length s < 4 * length slots
  times_cut short =
      omega (arith, ap length e, length-append (time_bytes (take i slots)) rest, time_bytes_long (take i slots), length-take-le i slots (omega arith))

  -- one time more
  pub times_more : (t : ℕ) (behind : List ℕ) → rest ≡ four_bytes t ++ behind → s ≡ time_bytes (take (i + 1) (set slots i t)) ++ behind
  times_more t behind f =
      e ∙ ap (λ zs. time_bytes (take i slots) ++ zs) f ∙ sym (append_assoc (time_bytes (take i slots)) (four_bytes t) behind)
      ∙ ap (λ zs. zs ++ behind) (sym (ap time_bytes (take_more_set slots i t more) ∙ times_append (take i slots) (t ∷ [])))
