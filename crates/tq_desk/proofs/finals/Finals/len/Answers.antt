use Rattle.std.{proofs.Common.{sym, ◌≤◌, subst, length}, specs.Cmp.nat_cmp_total}
use Rattle.std.specs.FinMap as fin
use Rattle.tq_desk.{specs.DeskJournal.FinalsView, proofs.NewFiles.len-most}
use Rattle.tq_desk.proofs.finals.Finals.len.Goals as goal

pub returns-clause-most : goal.returns-clause-most
returns-clause-most c =
    let most : fin.len c.args.self.now.finals ≤ length c.self.inside.verdicts.entries =
    subst (λ (v : FinalsView). fin.len v.finals ≤ length c.self.inside.verdicts.entries) c.self.view_is (len-most nat_cmp_total c.self.inside.verdicts.entries) in
    subst (λ n. fin.len c.args.self.now.finals ≤ n) (sym c.len.ensures.len) most
