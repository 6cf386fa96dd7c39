use Rattle.std.proofs.Common.{◌≡◌, ◌<◌, ◌+◌, length, rules}
use Rattle.tq_shape.proofs.Places.{agrees-snoc}
use Rattle.tq_cells.proofs.held.Held.answer.Goals as goal

pub invariant_of-self-2 : goal.invariant_of-self-2
invariant_of-self-2 g c =
    let laws = g.met.P.Answers in
    let number = length c.self.inside.journal.items + 1 in
    let room : length c.self.inside.journal.items < c.self.inside.limit = search rules in
    let reply : c.in-Ok-ask_part.replies.entered ≡ g.P.Answers.reply c.self.inside.part number c.args.ask = search rules in
    let part : c.ask_part.new.part ≡ g.P.Answers.after c.self.inside.part number c.args.ask = search rules in
    rw (c.push_reserved.ensures.items, c.in-Ok.ensures.items, part, reply)
    (agrees-snoc g.P.Answers.reply g.P.Answers.after g.P.Answers.opening g.P.Answers.is_ready laws.stays_ready laws.keeps_settings c.self.inside.part c.self.inside.journal.items c.self.inside.limit c.args.ask c.self.invariant room)

pub returns-clause-legal : goal.returns-clause-legal
returns-clause-legal g c = (invariant_of-self-2 g c).legal
