use Rattle.std.proofs.Common.{map, refl, ap, ◌∙◌, arith, rules}
use Rattle.std.proofs.lemmas.List.{drop-set-lt}
use Rattle.book.specs.Held.{fields}
use Rattle.book.proofs.Amends.{ascending_keeps, cycle_keeps, table_amended, amend_unknown}
use Rattle.book.proofs.table.Table.amend.Goals as goal

pub returns-in_default : goal.returns-in_default
returns-in_default c =
    (amend_unknown c.args.self.now c.args.number c.args.class c.args.time c.in_default.field-0 c.in_default.ensures, refl)

pub invariant_of-self : goal.invariant_of-self
invariant_of-self c =
    let t = c.args.self.now in
    let d = c.index-tasks-at.result in
    let kept = c.amend.ensures.kept in record {
      few = search rules;
      ascending = ascending_keeps t.tasks t.count c.in-Ok.at d c.amend.new.self kept.0 t.ascending;
      cyclic = (cycle_keeps t.tasks t.count c.in-Ok.at t.cycle d c.amend.new.self kept.1 t.cyclic.0, t.cyclic.1);
      spare = ap (map fields) (drop-set-lt t.count t.tasks c.in-Ok.at c.amend.new.self (omega (arith, c.in-Ok.ensures.0))) ∙ t.spare;
    }

pub returns : goal.returns
returns c =
    table_amended c.args.self.now _ c.in-Ok.at c.index-tasks-at.result c.amend.new.self
    c.args.number c.args.class c.args.time c.amend.result
    c.in-Ok.ensures refl refl refl c.amend.ensures.answer
