use Rattle.std.proofs.{Common.{ap, rules, ◌∙◌}, lemmas.Map.Entries.entries_from_clone}
use Rattle.std.specs.FinMap as fin
use Rattle.tq_desk.proofs.finals.Finals.copy.Goals as goal

pub returns : goal.returns
returns c =
    ap fin.from_entries (entries_from_clone _ _ (λ x y h. h) (search rules) c.self.inside.verdicts.entries c.in_ok-verdicts.verdicts.entries c.in_ok-verdicts.ensures.cases)
    ∙ ap (λ v. v.finals) c.self.view_is
