use Rattle.std.proofs.Common.{◌≡◌, ◌≤◌, length, false, rules}
use Rattle.book.specs.Entering.{any_outside, rises}
use Rattle.book.proofs.Rows.{front_within, front_falling, front_long, front_ones}
use Rattle.book.proofs.row_edits.RowTryFromRefSliceU32.try_from.Goals as goal

pub invariant_of-result : goal.invariant_of-result
invariant_of-result c =
    let ts = c.args.times.now in
    let front = c.copy_from_slice.new.self in
    let same = c.copy_from_slice.ensures.after in
    let within : (1 ≤ length ts) × (length ts ≤ 11) = search rules in
    let o : any_outside ts ≡ false = search rules in
    let f : rises ts ≡ false = search rules in record {
      sized = (within.0, within.1, front_long ts front same within.1);
      within = front_within ts front _ same o;
      falling = front_falling ts front _ same f;
      spare = front_ones ts front same;
    }
