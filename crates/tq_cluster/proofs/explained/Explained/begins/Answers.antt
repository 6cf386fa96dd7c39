use Rattle.std.{proofs.Common.subst, specs.Option.MatchOption}
use Rattle.tq_tables.specs.{Journals.JournalsView, Parts.AreLegal}
use Rattle.tq_mirror.specs.Prefixes.{AllBegin, IsFirstAstray}
use Rattle.tq_cluster.proofs.Closing.{over_prefixes}
use Rattle.tq_cluster.proofs.explained.Explained.begins.Goals as goal

pub returns-clause-tables : goal.returns-clause-tables
returns-clause-tables c =
    let journals = c.args.self.now.journals in
    let first = subst (λ (prefixes : JournalsView). MatchOption c.first_astray.result (AllBegin prefixes journals) (IsFirstAstray prefixes journals)) c.board.view_is c.first_astray.ensures.first in
    let legal = subst AreLegal c.board.view_is c.first_astray.ensures.legal in
    over_prefixes c.args.board.now journals c.first_astray.result (IsFirstAstray c.args.board.now journals) c.requires.levels c.requires.limits legal first
