use Rattle.std.proofs.Common.{◌≡◌, ◌+◌, ap, sym, nat_lt, ◌∙◌}
use Rattle.std.specs.FinMap as fin
use Rattle.tq_desk.{specs.DeskStep.with_files, proofs.NewFiles.len-with_files}
use Rattle.tq_desk.proofs.desk.Desk.writes_too_many_files.Goals as goal

pub returns : goal.returns
returns c =
    let ops = c.args.ops.now in
    let limit : c.files.result ≡ c.args.self.now.limits.files = c.files.ensures.value ∙ ap (λ v. v.limits.files) c.self.view_is in
    let counted : c.len.result + c.count_new.result ≡ fin.len (with_files c.args.self.now.files ops) =
    (λ i. c.len.ensures.value i + c.count_new.ensures.value i)
    ∙ sym (len-with_files c.self.inside.files.files ops c.requires)
    ∙ ap (λ v. fin.len (with_files v.files ops)) c.self.view_is in
    λ i. nat_lt (limit i) (counted i)
