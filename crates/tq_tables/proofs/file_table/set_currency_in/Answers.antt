use Rattle.std.proofs.Common.{◌≡◌, ◌∙◌, ◌≤◌, Bool, true, false, not, true≢false, refl, List, ℕ, ap, sym, subst}
use Rattle.std.proofs.lemmas.Option.{same_Some}
use Rattle.indexmap.specs.IndexMap.{set_value_at}
use Rattle.tq_store.{specs.{Copies.copy_of, Names.same_name}, proofs.Padded.{same_name-is, same_name-refl}}
use Rattle.tq_tables.{specs.declared.file_row.FileRow.FileRow, proofs.Placed.{no-value-at, set-same, value-at}}
use Rattle.tq_tables.proofs.file_table.set_currency_in.Goals as goal

-- a test that names differ, which says no
alike : (a b : List ℕ) → false ≡ not (same_name a b) → a ≡ b
alike a b differ = same_name-is a b (by (same_name a b) differ)
  where
    by : (t : Bool) → false ≡ not t → t ≡ true
    by true differ = refl
    by false differ = absurd (true≢false (sym differ))

-- and one that says yes
unlike : (a b : List ℕ) → true ≡ not (same_name a b) → a ≡ b → ⊥
unlike a b differ same = true≢false (differ ∙ ap not (ap (same_name a) (sym same) ∙ same_name-refl a))

pub set_currency-requires-clause-least : goal.set_currency-requires-clause-least
set_currency-requires-clause-least c =
    subst (λ (f : List ℕ). c.args.least ≤ (copy_of c.args.node.now.state.records.copies f).version)
    (sym (alike c.in-Some.row.now.file c.args.file.now c.if-ne.ensures)) c.requires.least

pub set_currency-requires-clause-current : goal.set_currency-requires-clause-current
set_currency-requires-clause-current c =
    let at = value-at c.args.rows.now.entries c.args.place c.in-Some.row.now (sym c.in-Some.ensures.value) in
    (c.requires.levels at.0 c.in-Some.row.now at.1).0

pub set_currency-requires-clause-stale : goal.set_currency-requires-clause-stale
set_currency-requires-clause-stale c =
    let at = value-at c.args.rows.now.entries c.args.place c.in-Some.row.now (sym c.in-Some.ensures.value) in
    (c.requires.levels at.0 c.in-Some.row.now at.1).1

pub returns-then-ne-clause-other : goal.returns-then-ne-clause-other
returns-then-ne-clause-other c = set-same c.args.rows.now.entries c.args.place c.in-Some.row.now (sym c.in-Some.ensures.value)

pub returns-then-ne-clause-there : goal.returns-then-ne-clause-there
returns-then-ne-clause-there c = λ there.
    let at = value-at c.args.rows.now.entries c.args.place c.in-Some.row.now (sym c.in-Some.ensures.value) in
    let same : c.in-Some.row.now ≡ there.1 = ap (λ (p : List ℕ × FileRow). p.1) (same_Some (at.0, c.in-Some.row.now) (there.0, there.1) (sym at.1 ∙ there.2)) in
    absurd (unlike c.in-Some.row.now.file c.args.file.now c.if-ne.ensures (ap (λ (r : FileRow). r.file) same ∙ there.3))

pub returns-else-ne-clause-rows : goal.returns-else-ne-clause-rows
returns-else-ne-clause-rows c =
    let at = value-at c.args.rows.now.entries c.args.place c.in-Some.row.now (sym c.in-Some.ensures.value) in
    (at.0, c.in-Some.row.now, at.1, alike c.in-Some.row.now.file c.args.file.now c.if-ne.ensures, ap (set_value_at c.args.rows.now.entries c.args.place) c.set_currency.ensures)

pub returns-in-None-clause-there : goal.returns-in-None-clause-there
returns-in-None-clause-there c = λ there. absurd (no-value-at c.args.rows.now.entries c.args.place (there.0, there.1) (sym c.in-None.ensures.value) there.2)
