-- What a text holds.
use Rattle.std.specs.Prelude.{ℕ, ◌+◌, ◌≤◌, List, take}
use Rattle.report.specs.declared.text.Text.{Text}

abbrev pub text_in : Text → List ℕ
text_in t = take t.count t.bytes

-- the text has room for as many bytes more
abbrev pub HasRoom : Text → ℕ → Type 0
HasRoom t more = t.count + more ≤ 8192
