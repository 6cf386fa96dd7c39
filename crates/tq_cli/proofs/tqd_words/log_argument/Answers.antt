use Rattle.std.proofs.Common.{◌≡◌, ◌∙◌, Some, codes, ap}
use Rattle.clap.specs.Walk.{Rule, rule_of}
use Rattle.tq_cli.proofs.tqd_words.log_argument.Goals as goal

pub returns-clause-rule : goal.returns-clause-rule
returns-clause-rule c =
    let long : rule_of c.long.result ≡ record (rule_of c.set_argument.result) { long = Some (codes "log") } = ap rule_of c.long.ensures in
    long ∙ ap (λ (rule : Rule). record rule { long = Some (codes "log") }) c.set_argument.ensures.rule
