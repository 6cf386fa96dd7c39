use Rattle.std.proofs.{Common.{ap, rules, ◌∙◌}, lemmas.Map.Entries.entries_from_clone}
use Rattle.std.specs.FinMap as fin
use Rattle.tq_store.proofs.copies.Copies.copy.Goals as goal

pub returns : goal.returns
returns c =
    ap fin.from_entries (entries_from_clone _ _ (λ x y h. h) (search rules) c.self.inside.files.entries c.in_ok-files.files.entries c.in_ok-files.ensures.cases)
    ∙ ap (λ v. v.files) c.self.view_is
