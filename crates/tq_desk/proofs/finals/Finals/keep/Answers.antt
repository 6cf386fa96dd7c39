use Rattle.std.proofs.Common.{◌≡◌, ap, ◌∙◌}
use Rattle.std.specs.FinMap as fin
use Rattle.tq_desk.proofs.NewFiles.{one_numbered}
use Rattle.tq_desk.proofs.finals.Finals.keep.Goals.{in-Some+in-Commit-1, in-Some+in-Abort-1, in-None-1}
use Rattle.tq_desk.proofs.finals.Finals.keep.Goals as goal

pub returns-clause-finals : goal.returns-clause-finals
returns-clause-finals c =
    let updates = rw c.unwrap-replaced.ensures at c.insert.ensures.updates in
    let put : fin.from_entries c.insert.new.self.entries ≡ fin.insert c.args.self.now.finals c.args.txn c.args.verdict =
    one_numbered c.self.inside.verdicts.entries c.insert.new.self.entries c.args.txn c.args.verdict updates.0
    ∙ ap (λ v. fin.insert v.finals c.args.txn c.args.verdict) c.self.view_is in
    elim c.match-replaced.branch [
      | in-Some+in-Commit-1 w ↦ put
      | in-Some+in-Abort-1 w ↦ put
      | in-None-1 w ↦ put
    ]
