use Rattle.std.proofs.Common.{◌≡◌, ◌+◌, ◌++◌, Bool, true, List, [], ◌∷◌, map, take, ap, sym, subst, ◌∙◌}
use Rattle.std.{proofs.lemmas.List.map-append, specs.Bool.OnTrue}
use Rattle.tq_store.specs.declared.write.Write.{Write}
use Rattle.tq_tables.specs.{Files.{HaveRows, has_row}, Rows.is_in, declared.file_row.FileRow.FileRow}
use Rattle.tq_tables.proofs.{Held.{have-next, names-all_stood}, Kept.all_stood-append, RowLaws.take-next}
use Rattle.tq_tables.proofs.file_table.FileTable.set_currency_of_written.Goals.{then-not-set_currency, else-not-set_currency}
use Rattle.tq_tables.specs.Files as spec
use Rattle.tq_tables.proofs.file_table.FileTable.set_currency_of_written.Goals as goal

pub loop-write-preserved : goal.loop-write-preserved
loop-write-preserved c =
    let node = c.args.node.now in
    let rows = c.args.self.now.rows in
    let writes = c.args.writes.now in
    let i = c.loop-write.write-index in
    let write = c.write-item.result in
    let less = c.loop-write-test.true in
    let is = c.write-item.is in
    let names = λ (w : Write). w.file in
    let before = map names (take i writes) in
    let P : Bool → Type 0 = λ found. OnTrue found (HaveRows rows (map names (take (i + 1) writes))) in
    let one_more : map names (take (i + 1) writes) ≡ before ++ write.file ∷ [] = ap (map names) (take-next writes i write less is) ∙ map-append names (take i writes) (write ∷ []) in
    record {
      levels = c.set_currency.ensures.levels ∙ c.loop-write.invariant.levels;
      found =
          elim c.if-not-set_currency.branch [
            | then-not-set_currency w ↦ subst P (sym w.found-is) tt
            | else-not-set_currency w ↦
                let here : has_row rows write.file ≡ true =
                ap (is_in write.file) (sym (ap spec.names_in c.loop-write.invariant.rows ∙ names-all_stood node before rows)) ∙ sym c.set_currency.ensures.found ∙ w.if-not-set_currency.false in
                subst P (sym w.found-is) (have-next rows writes i write less is here c.loop-write.found c.loop-write.invariant.found)
          ];
      rows =
          c.set_currency.ensures.rows
          ∙ ap (λ (all : List FileRow). map (spec.stood_at node write.file) all) c.loop-write.invariant.rows
          ∙ sym (ap (spec.all_stood node rows) one_more ∙ all_stood-append node rows before write.file);
    }
