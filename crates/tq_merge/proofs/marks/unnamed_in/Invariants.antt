use Rattle.std.{proofs.Common.{◌≡◌, ◌≤◌, ◌*◌, take}, specs.{Prelude.{not, count_by}, List.sum_by}}
use Rattle.tq_merge.proofs.marks.unnamed_in.Given as goal

abbrev pub invariant-loop-named : goal.invariant-loop-named
invariant-loop-named l = record {
  sum : l.unnamed ≡ sum_by (count_by not) (take l.named-index l.marks);
  within : l.unnamed ≤ 1000000 * l.named-index;
}
