use Rattle.tq_interpreter.proofs.Recording.{begun}
use Rattle.tq_interpreter.proofs.recorder.Recorder.over.Goals as goal

pub invariant_of-result : goal.invariant_of-result
invariant_of-result c = begun c.args.service _ c.told_before-told.ensures
