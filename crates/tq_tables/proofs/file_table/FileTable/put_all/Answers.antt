use Rattle.std.proofs.{Common.{◌≡◌, ap, arith, length, rules}, lemmas.List.Elements.All-rest}
use Rattle.std.specs.Vec.Iter.{into_iter_items}
use Rattle.tq_tables.specs.declared.file_row.FileRow.{FileRow}
use Rattle.tq_tables.proofs.file_table.FileTable.put_all.Goals as goal

pub loop-row-preserved : goal.loop-row-preserved
loop-row-preserved c =
    let more = c.in-Some.ensures.steps.0 in
    let count = ap (λ rows. length rows) more in
    let fits = c.loop-row.invariant.fits in
    let room = c.put.ensures.room in
    record {
      levels = search rules;
      same = search rules;
      fits = omega (arith, count, fits, room);
      of_tree = All-rest (λ (row : FileRow). (row.current.levels ≡ c.args.self.now.levels) × (row.stale.levels ≡ c.args.self.now.levels)) c.in-Some.row
          (into_iter_items c.next.new.self) (into_iter_items c.loop-row.row-iterator) more c.loop-row.invariant.of_tree;
    }
