use Rattle.std.proofs.{Common.{ap, rules, ◌∙◌}, lemmas.Map.Entries.entries_from_clone}
use Rattle.std.specs.FinMap as fin
use Rattle.tq_desk.proofs.files.WrittenFiles.copy.Goals as goal

pub returns : goal.returns
returns c =
    ap fin.from_entries (entries_from_clone _ _ (search rules) (search rules) c.self.inside.names.entries c.in_ok-names.names.entries c.in_ok-names.ensures.cases)
    ∙ ap (λ v. v.files) c.self.view_is
