use Rattle.std.{proofs.Common.{◌≡◌, ◌≤◌, ◌+◌, ◌++◌, List, Some, filter, length}, specs.List.All}
use Rattle.tq_shape.specs.{ServerSet.has_number, Tree.Server}
use Rattle.tq_refresh.specs.{declared.job.Job.Job, Plan.{jobs_from, jobs_in, peek_of}}
use Rattle.tq_interpreter.specs.{Answer.{LeadsOn, so_far, mended_front, mended_back}, Known.IsLater}
use Rattle.tq_text.specs.Print.{Extends}
use Rattle.tq_interpreter.proofs.operators.mend_file.Given as goal

-- after the jobs of some servers, those of the others, with any behind them, come to what all come to
abbrev pub invariant-loop-server : goal.invariant-loop-server
invariant-loop-server l = record {
  on : (more : List Job) → LeadsOn l.fn.recorder.journals (so_far l.fn.text.items l.fn.counts.mended) (jobs_in l.up l.of_file ++ more)
      l.recorder.journals (so_far l.text.items l.counts.mended)
      (jobs_from l.of_file.file (filter (λ (server : Server). has_number l.up.numbers server.number) l.server-iterator) (Some l.of_file.source) ++ more);
  jobs : l.counts.jobs + length (jobs_from l.of_file.file (filter (λ (server : Server). has_number l.up.numbers server.number) l.server-iterator) (Some l.of_file.source))
      ≡ l.fn.counts.jobs + length (jobs_in l.up l.of_file);
  fits : (l.counts.mended ≤ l.counts.jobs) × (l.counts.jobs ≤ length l.text.items);
  of_tree : All (λ server. server.levels ≡ l.up.levels) l.server-iterator;
  later : IsLater l.fn.recorder l.recorder;
  peek : l.peek ≡ peek_of l.of_file.file;
  file : l.file ≡ l.of_file.file;
  front : l.said.front.items ≡ mended_front l.of_file.file;
  back : l.said.back.items ≡ mended_back l.of_file.source.number;
  begun : Extends l.initial.text.items l.text.items;
}
