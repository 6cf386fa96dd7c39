use Rattle.std.proofs.Common.{List, Some, rules, ap, arith, length, map, sym, ◌∙◌}
use Rattle.tq_shape.specs.declared.part.Part.TheVariants as parts
use Rattle.tq_tables.specs.{Journals.JournalsView, Tabled.journals_in}
use Rattle.tq_mirror.specs.declared.entries.Entries.TheVariants as entries
use Rattle.tq_node.specs.NodeJournal.{NodeEntry}
use Rattle.tq_mirror.{specs.Prefixes.AreAhead, proofs.prefixes.Prefixes.take_desk.Goals.In_ok-behind}
use Rattle.tq_mirror.proofs.Standing.{Taken, desk_taken, found_ahead, from_on, not_taken, spare_alike, spare_kept, those_behind}
use Rattle.tq_mirror.proofs.prefixes.Prefixes.take_desk.Goals as goal

pub follow_desk-requires : goal.follow_desk-requires
follow_desk-requires c =
    let fresh = those_behind c.len-known.result c.self.inside.tabled.desk.items c.args.entries.items c.as_slice-2.result.now (let long = c.len-known.ensures in let count = c.self.inside.tabled.desk.ok.0 in omega (arith, long, count)) (c.as_slice-2.ensures.value ∙ c.in_ok-behind.ensures.entries) in
    let more = ap length fresh in
    let known = ap (λ (w : JournalsView). length w.desk) (c.self.view_is ∙ c.in_ok-ahead.ensures.same) in
    let most = c.self.inside.tabled.desk.small in
    let count = c.self.inside.tabled.desk.ok.0 in
    let room = c.self.inside.tabled.desk.ok.1 in
    let most_more = c.args.entries.small in
    let count_more = c.args.entries.ok.0 in
    let room_more = c.args.entries.ok.1 in
    record {
      prefixes = c.args.self.now;
      kept = spare_kept c.in_ok-behind.behind c.self.inside.tabled.tables _ c.args.self.now (c.self.view_is ∙ c.in_ok-ahead.ensures.same) c.self.invariant.0 c.in_ok-behind.ensures.behind;
      few = omega (arith, more, known, most, count, room, most_more, count_more, room_more);
    }

-- the desk gives the entries next, and there are enough
ahead : (c : In_ok-behind) → AreAhead c.put_behind.new.tables c.args.self.now parts.Desk (entries.Desk c.args.entries.items) c.args.least
ahead c = found_ahead c.in_ok-ahead.field-0 c.put_behind.new.tables c.args.self.now parts.Desk entries.Desk c.as_slice.result.now c.args.entries.items c.args.least c.as_slice.ensures.value (c.in-Some.is ∙ ap Some (sym c.in_ok-behind.ensures.ahead)) c.in_ok-ahead.ensures.ahead

abbrev servers : In_ok-behind → List (List NodeEntry)
servers c = map (λ journal. journal.items) c.self.inside.tabled.servers.items

taken : (c : In_ok-behind) → Taken c.put_behind.new.tables (journals_in c.put_behind.new.tables c.self.inside.tabled.limits (servers c) c.put_behind.new.journal.items c.self.inside.tabled.view.items) c.args.self.now parts.Desk (entries.Desk c.args.entries.items) c.args.least
taken c =
    desk_taken c.self.inside.tabled.tables c.put_behind.new.tables c.self.inside.tabled.limits (servers c) c.self.inside.tabled.desk.items c.self.inside.tabled.view.items c.args.self.now
    (c.self.view_is ∙ c.in_ok-ahead.ensures.same) c.self.invariant.0 c.put_behind.new.journal.items c.args.entries.items c.args.least (ahead c) c.in_ok-behind.ensures.entries

pub invariant_of-self-2 : goal.invariant_of-self-2
invariant_of-self-2 c = ((taken (goal.at.invariant_of-self-2 c).In_ok-behind).keeps, tt)

pub invariant_of-self-then-is_much : goal.invariant_of-self-then-is_much
invariant_of-self-then-is_much c = ((taken (goal.at.invariant_of-self-then-is_much c).In_ok-behind).keeps, tt)

pub invariant_of-self-3 : goal.invariant_of-self-3
invariant_of-self-3 c =
    let end = (goal.at.invariant_of-self-3 c).In_ok-behind in
    let fresh = those_behind c.len-known.result c.self.inside.tabled.desk.items c.args.entries.items c.as_slice-2.result.now (let long = c.len-known.ensures in let count = c.self.inside.tabled.desk.ok.0 in omega (arith, long, count)) (c.as_slice-2.ensures.value ∙ c.in_ok-behind.ensures.entries) in
    let kept = spare_kept c.in_ok-behind.behind c.self.inside.tabled.tables _ c.args.self.now (c.self.view_is ∙ c.in_ok-ahead.ensures.same) c.self.invariant.0 c.in_ok-behind.ensures.behind in (
      (taken end).keeps,
      spare_alike _ entries.Desk c.follow_desk.result c.unwrap_or.result c.put_behind.new.tables c.args.self.now parts.Desk c.args.entries.items (from_on c.len-known.result c.as_slice-2.result.now) c.args.least fresh
          (λ found leads. leads c.args.self.now kept) c.follow_desk.ensures c.unwrap_or.ensures (ahead end),
    )

pub returns-in_err-behind : goal.returns-in_err-behind
returns-in_err-behind c = not_taken _ _ _ _ _ _ c.from_residual-in_err-behind.result c.from_residual-in_err-behind.ensures.1 (search rules) (search rules)

pub returns-then-is_much : goal.returns-then-is_much
returns-then-is_much c = let done = taken (goal.at.returns-then-is_much c).In_ok-behind in record { grown = done.leads; least = done.enough; count = done.count; err = tt; fault = tt }

pub returns : goal.returns
returns c = let done = taken (goal.at.returns c).In_ok-behind in record { grown = done.leads; least = done.enough; count = done.count; err = tt; fault = tt }
