use Rattle.std.proofs.Common.{◌+◌, List, subst}
use Rattle.tq_node.specs.NodeJournal.{NodeEntry}
use Rattle.tq_tables.specs.Same.{Begins}
use Rattle.tq_mirror.{specs.Prefixes.server_prefix, proofs.Led.one_begins}
use Rattle.tq_mirror.proofs.prefixes.Prefixes.first_server_astray.Goals as goal

pub loop-place-preserved : goal.loop-place-preserved
loop-place-preserved c =
    let begun = c.begins.ensures.0 c.if-not-begins.false in
    let of_journal = subst (λ (journal : List NodeEntry). Begins c.server.result.now journal) c.server_entries.ensures begun in
    let next = subst (λ (first : List NodeEntry). Begins first (server_prefix c.args.journals.now (c.loop-place.place + 1))) c.server.ensures of_journal in
    one_begins c.args.self.now c.args.journals.now c.loop-place.place c.loop-place.invariant next
