use Rattle.std.{proofs.Common.{◌∷◌, [], ℕ, Option, subst, sym, ap, ◌∙◌}, specs.{Prelude.IfSome, List.All}}
use Rattle.std.proofs.lemmas.List.Elements.{All-append, All-cons, All-nil}
use Rattle.tq_refresh.specs.{declared.file_jobs.FileJobs.FileJobs, Plan.{IsPlanned, jobs_in, jobs_of}}
use Rattle.tq_refresh.proofs.Walked.{none_gathered, one_gathered}
use Rattle.tq_refresh.proofs.planning.plan_rows.Goals.{in-Some+in_ok-push, in_default}
use Rattle.tq_refresh.proofs.planning.plan_rows.Goals as goal

pub loop-row-preserved : goal.loop-row-preserved
loop-row-preserved c =
    let up = c.in_ok-up.up in
    let tree = c.args.tree.now in
    let came = c.in_ok-of_file.ensures.value tree c.in_ok-up.ensures in
    let Planned : FileJobs → Type 0 = IsPlanned tree.levels in
    let planned : IfSome c.in_ok-of_file.field-0 Planned = subst (λ (l : ℕ). IfSome c.in_ok-of_file.field-0 (IsPlanned l)) (ap (λ s. s.levels) c.in_ok-up.ensures) c.in_ok-of_file.ensures.of_tree in
    elim c.match-branch-3.branch [
      | in-Some+in_ok-push w ↦ record {
        left = one_gathered (jobs_in up) (jobs_of tree) c.args.rows.now c.loop-row.row-index c.row-item.result c.loop-row-test.true c.row-item.is
            c.loop-row.files.items _ _ came c.loop-row.invariant.left w.in-Some.of_file w.in-Some.is (ap (λ v. v.items) w.files-is ∙ w.in_ok-push.ensures.items);
        of_tree = subst (All Planned) (sym (ap (λ v. v.items) w.files-is ∙ w.in_ok-push.ensures.items))
            (All-append Planned c.loop-row.files.items (w.in-Some.of_file ∷ []) c.loop-row.invariant.of_tree
            (All-cons Planned w.in-Some.of_file [] (subst (λ (o : Option FileJobs). IfSome o Planned) w.in-Some.is planned) (All-nil Planned)));
      }
      | in_default w ↦ record {
        left = none_gathered (jobs_in up) (jobs_of tree) c.args.rows.now c.loop-row.row-index c.row-item.result c.loop-row-test.true c.row-item.is
            c.loop-row.files.items _ _ came c.loop-row.invariant.left w.in_default.is (ap (λ v. v.items) w.files-is);
        of_tree = subst (All Planned) (sym (ap (λ v. v.items) w.files-is)) c.loop-row.invariant.of_tree;
      }
    ]
