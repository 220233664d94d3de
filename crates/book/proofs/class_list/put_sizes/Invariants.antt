use Rattle.std.proofs.Common.{◌≡◌, ◌++◌, take, drop}
use Rattle.book.specs.Classes.{sizes}
use Rattle.book.proofs.class_list.put_sizes.Given as goal

-- the front of the buffer and the sizes of what is left to look at are all of the sizes; the rest of the buffer is kept
abbrev pub invariant-loop-i : goal.invariant-loop-i
invariant-loop-i l =
    record {
      front : take l.i l.buffer ++ sizes (drop l.i l.classes) ≡ sizes l.classes;
      kept : drop l.i l.buffer ≡ drop l.i l.initial.buffer;
    }
