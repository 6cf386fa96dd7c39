use Rattle.std.proofs.{Common.{◌≡◌, ◌+◌, ◌≤◌, length, arith}, lemmas.List.length_push}
use Rattle.tq_cluster.proofs.Closing.{journals_more, fit_more}
use Rattle.tq_cluster.proofs.journals.server_journals.Goals as goal

pub loop-cell-preserved : goal.loop-cell-preserved
loop-cell-preserved c =
    let old = c.loop-cell.journals in
    let new = c.push_reserved.new.self in
    let one = c.server_journal-journal.result in
    let more = length_push c.loop-cell.yielded c.in-Some.cell in
    let at : c.len.result + 1 ≡ length old.items + 1 = omega (arith, c.len.ensures, old.ok.0) in
    let fits : length one.items ≤ c.args.entries = omega (arith, c.server_journal-journal.ensures.fits, one.ok.0) in
    record {
      can_next = tt;
      is_finite = tt;
      one_each = omega (arith, more, c.push_reserved.ensures.len, c.loop-cell.invariant.one_each);
      room = cc;
      legal = journals_more old.items new.items one (λ journal. journal.items) c.push_reserved.ensures.items (c.len.result + 1) c.loop-cell.invariant.legal at c.server_journal-journal.ensures.legal;
      fit = fit_more old.items new.items one (λ journal. journal.items) c.push_reserved.ensures.items c.args.entries c.loop-cell.invariant.fit fits;
    }
