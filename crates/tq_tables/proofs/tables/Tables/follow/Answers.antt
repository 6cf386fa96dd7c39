use Rattle.tq_tables.proofs.Noted.{may-ask-server, may-ask-the-desk}
use Rattle.tq_tables.proofs.tables.Tables.follow.Goals as goal

pub ask_node-requires : goal.ask_node-requires
ask_node-requires c = may-ask-server c.args.self.now c.args.part c.args.number c.args.entry.now c.requires c.in-Server.server c.in-Server-entry.entry c.in-Server.is c.in-Server-entry.is

pub ask_desk-requires-clause-next : goal.ask_desk-requires-clause-next
ask_desk-requires-clause-next c = may-ask-the-desk c.args.self.now c.args.part c.args.number c.args.entry.now c.requires c.in-Desk-entry-2.entry c.in-Desk.is c.in-Desk-entry-2.is
