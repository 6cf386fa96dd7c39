use Rattle.std.proofs.Common.{◌≡◌, ◌-◌, Some, rules, ap, subst, arith, length, map, set, sym, ◌∙◌}
use Rattle.std.specs.Prelude.{IfSome}
use Rattle.tq_shape.specs.declared.part.Part.TheVariants as parts
use Rattle.tq_tables.specs.{Tables.TablesView, Tabled.journals_in}
use Rattle.tq_mirror.specs.declared.entries.Entries.TheVariants as entries
use Rattle.tq_mirror.{specs.Prefixes.AreAhead, proofs.prefixes.Prefixes.take_server.Goals.In_ok-behind}
use Rattle.tq_mirror.proofs.Standing.{Taken, alike, found_ahead, from_on, not_taken, on_error, server_followed, server_fresh, server_stays, spare_alike, spare_kept}
use Rattle.tq_mirror.proofs.prefixes.Prefixes.take_server.Goals as goal

pub ahead_of_server-requires-clause-few : goal.ahead_of_server-requires-clause-few
ahead_of_server-requires-clause-few c =
    let known = c.server_count-known.ensures.few in
    let value = c.server_count-known.ensures.value in
    let most = c.args.entries.small in
    let count = c.args.entries.ok.0 in
    let room = c.args.entries.ok.1 in
    let lent = ap length c.as_slice.ensures.value in
    omega (arith, known, value, most, count, room, lent)

pub follow_server-requires : goal.follow_server-requires
follow_server-requires c =
    let fresh = server_fresh (λ journal. journal.items) c.self.inside.tabled.tables c.self.inside.tabled.limits c.self.inside.tabled.servers.items c.self.inside.tabled.desk.items c.self.inside.tabled.view.items c.args.self.now (c.self.view_is ∙ c.in_ok-ahead.ensures.same) c.self.invariant.0 c.args.number c.requires
    c.index_mut-journal.result.now c.put_behind.new.journal c.index_mut-journal.ensures.value c.server_count-known.result c.index.result.now c.args.entries.items c.as_slice-2.result.now
    c.server_count-known.ensures.value c.index.ensures c.in_ok-behind.ensures.entries c.as_slice-2.ensures.value in
    let more = ap length fresh in
    let known = c.server_count-known.ensures.few in
    let most = c.args.entries.small in
    let count = c.args.entries.ok.0 in
    let room = c.args.entries.ok.1 in
    record {
      prefixes = c.args.self.now;
      kept = spare_kept c.in_ok-behind.behind c.self.inside.tabled.tables _ c.args.self.now (c.self.view_is ∙ c.in_ok-ahead.ensures.same) c.self.invariant.0 c.in_ok-behind.ensures.behind;
      there = c.requires;
      count = c.server_count-known.ensures.value;
      few = omega (arith, more, known, most, count, room);
    }

-- where memory is refused the server's entries stay, and so do the tables
pub invariant_of-self : goal.invariant_of-self
invariant_of-self c =
    let stays = server_stays (λ journal. journal.items) c.self.inside.tabled.tables c.self.inside.tabled.limits c.self.inside.tabled.servers.items c.self.inside.tabled.desk.items c.self.inside.tabled.view.items c.args.self.now (c.self.view_is ∙ c.in_ok-ahead.ensures.same) c.self.invariant.0 c.args.number c.requires
    c.index_mut-journal.result.now c.put_behind.new.journal c.index_mut-journal.ensures.value c.in_err-behind.ensures.same in
    let same = c.in_err-behind.ensures.unchanged in (
      (alike c.self.inside.tabled.tables c.put_behind.new.tables _ _ _ _ c.args.self.now same stays).keeps,
      subst (λ (tables : TablesView). IfSome c.self.inside.spare (λ spare. spare ≡ tables)) (sym same) c.self.invariant.1,
    )

-- the server gives the entries next, and there are enough
ahead : (c : In_ok-behind) → AreAhead c.put_behind.new.tables c.args.self.now (parts.Server c.args.number) (entries.Server c.args.entries.items) c.args.least
ahead c = found_ahead c.in_ok-ahead.field-0 c.put_behind.new.tables c.args.self.now (parts.Server c.args.number) entries.Server c.as_slice.result.now c.args.entries.items c.args.least c.as_slice.ensures.value (c.in-Some.is ∙ ap Some (sym c.in_ok-behind.ensures.ahead)) c.in_ok-ahead.ensures.ahead

taken : (c : In_ok-behind) → Taken c.put_behind.new.tables (journals_in c.put_behind.new.tables c.self.inside.tabled.limits (map (λ journal. journal.items) (set c.self.inside.tabled.servers.items (c.args.number - 1) c.put_behind.new.journal)) c.self.inside.tabled.desk.items c.self.inside.tabled.view.items) c.args.self.now (parts.Server c.args.number) (entries.Server c.args.entries.items) c.args.least
taken c =
    server_followed (λ journal. journal.items) c.self.inside.tabled.tables c.self.inside.tabled.limits c.self.inside.tabled.servers.items c.self.inside.tabled.desk.items c.self.inside.tabled.view.items c.args.self.now (c.self.view_is ∙ c.in_ok-ahead.ensures.same) c.self.invariant.0 c.args.number c.requires
    c.index_mut-journal.result.now c.put_behind.new.journal c.index_mut-journal.ensures.value c.put_behind.new.tables c.args.entries.items c.args.least (ahead c) c.in_ok-behind.ensures.entries

pub invariant_of-self-2 : goal.invariant_of-self-2
invariant_of-self-2 c = ((taken (goal.at.invariant_of-self-2 c).In_ok-behind).keeps, tt)

pub invariant_of-self-then-is_much : goal.invariant_of-self-then-is_much
invariant_of-self-then-is_much c = ((taken (goal.at.invariant_of-self-then-is_much c).In_ok-behind).keeps, tt)

pub invariant_of-self-3 : goal.invariant_of-self-3
invariant_of-self-3 c =
    let end = (goal.at.invariant_of-self-3 c).In_ok-behind in
    let fresh = server_fresh (λ journal. journal.items) c.self.inside.tabled.tables c.self.inside.tabled.limits c.self.inside.tabled.servers.items c.self.inside.tabled.desk.items c.self.inside.tabled.view.items c.args.self.now (c.self.view_is ∙ c.in_ok-ahead.ensures.same) c.self.invariant.0 c.args.number c.requires
    c.index_mut-journal.result.now c.put_behind.new.journal c.index_mut-journal.ensures.value c.server_count-known.result c.index.result.now c.args.entries.items c.as_slice-2.result.now
    c.server_count-known.ensures.value c.index.ensures c.in_ok-behind.ensures.entries c.as_slice-2.ensures.value in
    let kept = spare_kept c.in_ok-behind.behind c.self.inside.tabled.tables _ c.args.self.now (c.self.view_is ∙ c.in_ok-ahead.ensures.same) c.self.invariant.0 c.in_ok-behind.ensures.behind in (
      (taken end).keeps,
      spare_alike _ entries.Server c.follow_server.result c.unwrap_or.result c.put_behind.new.tables c.args.self.now (parts.Server c.args.number) c.args.entries.items (from_on c.server_count-known.result c.as_slice-2.result.now) c.args.least fresh
          (λ found leads. leads c.args.self.now kept c.requires c.server_count-known.ensures.value) c.follow_server.ensures c.unwrap_or.ensures (ahead end),
    )

pub returns-in_err-behind : goal.returns-in_err-behind
returns-in_err-behind c =
    let stays = server_stays (λ journal. journal.items) c.self.inside.tabled.tables c.self.inside.tabled.limits c.self.inside.tabled.servers.items c.self.inside.tabled.desk.items c.self.inside.tabled.view.items c.args.self.now (c.self.view_is ∙ c.in_ok-ahead.ensures.same) c.self.invariant.0 c.args.number c.requires
    c.index_mut-journal.result.now c.put_behind.new.journal c.index_mut-journal.ensures.value c.in_err-behind.ensures.same in
    not_taken _ _ _ _ _ _ c.from_residual-in_err-behind.result c.from_residual-in_err-behind.ensures.1
    (on_error _ c.from_residual-in_err-behind.result (alike c.self.inside.tabled.tables c.put_behind.new.tables _ _ _ _ c.args.self.now c.in_err-behind.ensures.unchanged stays).leads)
    (search rules)

pub returns-then-is_much : goal.returns-then-is_much
returns-then-is_much c = let done = taken (goal.at.returns-then-is_much c).In_ok-behind in record { grown = done.leads; least = done.enough; count = done.count; err = tt; fault = tt }

pub returns : goal.returns
returns c = let done = taken (goal.at.returns c).In_ok-behind in record { grown = done.leads; least = done.enough; count = done.count; err = tt; fault = tt }
