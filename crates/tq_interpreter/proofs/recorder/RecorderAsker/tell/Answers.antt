use Rattle.tq_interpreter.proofs.Recording.{verdict_by_told}
use Rattle.tq_interpreter.proofs.recorder.RecorderAsker.tell.Goals as goal

pub ask-requires-clause-founded : goal.ask-requires-clause-founded
ask-requires-clause-founded c = verdict_by_told c.args.self.now.journals c.args.self.now.told c.args.ask c.show_replayed.ensures.stands c.requires.verdict
