use Rattle.std.{proofs.{Common.{length, sym, subst, arith, rules}, lemmas.List.take_all}, specs.Io.KnownBytes.Appends}
use Rattle.tq_host.proofs.serving.keep.Goals as goal

pub returns-in_default-sync-clause-half : goal.returns-in_default-sync-clause-half
returns-in_default-sync-clause-half g c =
    let kept = g.L.Log.kept in
    let entries = c.args.entries.now in
    let all : Appends (kept c.args.log.now) (kept c.sync.new.self) entries = search rules in
    (length entries, subst (λ text. Appends (kept c.args.log.now) (kept c.sync.new.self) text) (sym (take_all (length entries) entries (omega arith))) all)
