use Rattle.std.proofs.Common.{◌≡◌, ◌+◌, ◌++◌, length, take, drop}
use Rattle.book.specs.Books.{used}
use Rattle.book.proofs.ClassLists.{times_chosen}
use Rattle.book.proofs.table.Table.put_times.Given as goal

-- the front of the buffer and the times of what is left to look at are all of the times; the rest of the buffer is kept
abbrev pub invariant-loop-i : goal.invariant-loop-i
invariant-loop-i l =
    record {
      front : take l.i-iterator.count l.buffer ++ times_chosen l.i-iterator.iter.a.rest.now l.i-iterator.iter.b.rest.now ≡ times_chosen (used l.self) l.classes;
      kept : drop l.i-iterator.count l.buffer ≡ drop l.i-iterator.count l.initial.buffer;
      ends : l.i-iterator.count + length l.i-iterator.iter.a.rest.now ≡ length (used l.self);
      same : length l.i-iterator.iter.a.rest.now ≡ length l.i-iterator.iter.b.rest.now;
    }
