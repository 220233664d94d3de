-- What a writer puts into its buffer.
use Rattle.std.specs.Prelude.{◌≡◌, ℕ, ◌+◌, ◌≤◌, List, length}
use Rattle.sheet.specs.Writing.{over}
use Rattle.sheet.specs.declared.writer.Writer.{Writer}

-- there is room for these bytes
abbrev pub HasRoom : Writer → List ℕ → Type 0
HasRoom w bytes = w.at + length bytes ≤ length w.buffer.now

-- these bytes are put, into the same buffer
abbrev pub Puts : Writer → Writer → List ℕ → Type 0
Puts old new bytes =
    (new.buffer.ghost_name ≡ old.buffer.ghost_name) × (new.buffer.now ≡ over old.buffer.now old.at bytes) × (new.at ≡ old.at + length bytes)
