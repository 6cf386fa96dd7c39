use Rattle.tq_intents.proofs.intents.Intents.+install_newer.Given as goal

abbrev pub decreases-install_newer : goal.decreases-install_newer
decreases-install_newer l = l.count
