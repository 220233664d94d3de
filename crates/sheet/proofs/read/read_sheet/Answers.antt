use Rattle.std.proofs.Common.{◌<◌, length, rules}
use Rattle.book.specs.Books.{holds}
use Rattle.sheet.proofs.Sheets.{head_passes, turn_more}
use Rattle.sheet.proofs.read.read_sheet.Goals as goal

pub loop-reader-init : goal.loop-reader-init
loop-reader-init c =
    let size = c.in_ok-size.ensures in
    head_passes c.args.sheet.now c.cache_size.new.self.bytes.now c.in_ok-size.size size.1.0 size.0 c.make.result c.new-book.result
    c.make.new.self c.in_ok-placed.field-0 _ c.make.ensures c.in_ok-placed.ensures

pub loop-reader-preserved : goal.loop-reader-preserved
loop-reader-preserved c =
    let left = c.loop-reader.reader.bytes.now in
    let inv = c.loop-reader.invariant in
    let some : 0 < length left = search rules in
    let one = c.in_ok-load_record.ensures in
    turn_more (holds c.loop-reader.book) (holds c.load_record.new.book) c.args.sheet.now left c.load_record.new.reader.bytes.now some inv.0 inv.1 one.0 one.1 one.2.0
