use Rattle.std.{proofs.Common.{◌≡◌, ◌≤◌, ◌+◌, drop, length}, specs.List.flat_map}
use Rattle.tq_refresh.specs.Plan.{jobs_in, jobs_of_plan}
use Rattle.tq_interpreter.specs.{Answer.{LeadsOn, behind, nothing_mended, so_far}, Known.IsLater}
use Rattle.tq_text.specs.Print.{Extends}
use Rattle.tq_interpreter.proofs.operators.mend_all.Given as goal

-- after the jobs of some files, those of the others come to what all come to
abbrev pub invariant-loop-of_file : goal.invariant-loop-of_file
invariant-loop-of_file l = record {
  on : LeadsOn l.fn.recorder.journals (behind l.fn.text.items nothing_mended) (jobs_of_plan l.plan)
      l.recorder.journals (so_far l.text.items l.counts.mended) (flat_map (jobs_in l.plan.up) (drop l.of_file-index l.of_file-items));
  jobs : l.counts.jobs + length (flat_map (jobs_in l.plan.up) (drop l.of_file-index l.of_file-items)) ≡ length (jobs_of_plan l.plan);
  fits : (l.counts.mended ≤ l.counts.jobs) × (l.counts.jobs ≤ length l.text.items);
  begun : Extends l.fn.text.items l.text.items;
  later : IsLater l.fn.recorder l.recorder;
}
