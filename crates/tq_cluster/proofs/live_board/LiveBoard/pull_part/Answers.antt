use Rattle.std.proofs.Common.{◌-◌, ◌^◌, ◌∙◌, set, ap}
use Rattle.tq_shape.specs.declared.part.Part.TheVariants as parts
use Rattle.tq_cluster.{specs.Told.CallerView, proofs.live_board.LiveBoard.pull_part.Given.Over}
use Rattle.tq_cluster.proofs.Seen.{PartPull, desk_saw, has_pass, part_pull, seeing, server_saw, view_saw}
use Rattle.tq_cluster.proofs.live_board.LiveBoard.pull_part.Goals as goal

-- a server was pulled
server_pull : (g : Over) (c : goal.After-caller-1 g) → PartPull c.pull_server.result c.args.part c.args.self.now c.pull_server.new.prefixes c.args.caller.now
    (seeing c.caller.inside.levels c.caller.inside.told.items (set c.caller.inside.servers.items (c.in-Server.number - 1) c.pull_server.new.pass) c.caller.inside.desk.seen c.caller.inside.view.seen)
server_pull g c =
    let own = c.caller.inside in
    let passes = own.servers.items in
    let number = c.in-Server.number in
    let less = has_pass passes c.args.cluster.now.levels number c.args.part c.args.caller.now c.requires.part c.in-Server.is c.requires.caller (c.caller.invariant.0 ∙ ap (λ (v : CallerView). 2 ^ v.levels) c.caller.view_is) in
    let saw = server_saw own.levels own.told.items passes own.desk.seen own.view.seen number c.args.part c.index_mut-pass.result.now c.pull_server.new.pass c.args.caller.now c.caller.view_is less c.in-Server.is c.index_mut-pass.ensures.value in
    let after = seeing own.levels own.told.items (set passes (number - 1) c.pull_server.new.pass) own.desk.seen own.view.seen in
    part_pull c.pull_server.result c.args.part (parts.Server number) c.self.inside.prefixes c.args.self.now c.pull_server.new.prefixes c.args.caller.now after c.index_mut-pass.result.now.seen c.pull_server.new.pass.seen c.in-Server.is c.self.view_is saw c.pull_server.ensures

pub returns-in-Server-clause-grown : goal.returns-in-Server-clause-grown
returns-in-Server-clause-grown g c = (server_pull g c).grows

pub returns-in-Server-clause-seen : goal.returns-in-Server-clause-seen
returns-in-Server-clause-seen g c = (server_pull g c).seen

pub returns-in-Server-clause-err : goal.returns-in-Server-clause-err
returns-in-Server-clause-err g c = (server_pull g c).err

pub returns-in-Server-clause-fault : goal.returns-in-Server-clause-fault
returns-in-Server-clause-fault g c = (server_pull g c).fault

pub returns-in-Server-clause-saw : goal.returns-in-Server-clause-saw
returns-in-Server-clause-saw g c = (server_pull g c).saw

pub returns-in-Server-clause-others : goal.returns-in-Server-clause-others
returns-in-Server-clause-others g c = (server_pull g c).others

-- the desk was
desk_pull : (g : Over) (c : goal.After-pull_desk g) → PartPull c.pull_desk.result c.args.part c.args.self.now c.pull_desk.new.prefixes c.args.caller.now
    (seeing c.caller.inside.levels c.caller.inside.told.items c.caller.inside.servers.items c.pull_desk.new.pass.seen c.caller.inside.view.seen)
desk_pull g c =
    let own = c.caller.inside in
    let saw = desk_saw own.levels own.told.items own.servers.items own.desk.seen c.pull_desk.new.pass.seen own.view.seen c.args.part c.args.caller.now c.caller.view_is c.in-Desk.is in
    let after = seeing own.levels own.told.items own.servers.items c.pull_desk.new.pass.seen own.view.seen in
    part_pull c.pull_desk.result c.args.part parts.Desk c.self.inside.prefixes c.args.self.now c.pull_desk.new.prefixes c.args.caller.now after own.desk.seen c.pull_desk.new.pass.seen c.in-Desk.is c.self.view_is saw c.pull_desk.ensures

pub returns-in-Desk-clause-grown : goal.returns-in-Desk-clause-grown
returns-in-Desk-clause-grown g c = (desk_pull g c).grows

pub returns-in-Desk-clause-seen : goal.returns-in-Desk-clause-seen
returns-in-Desk-clause-seen g c = (desk_pull g c).seen

pub returns-in-Desk-clause-err : goal.returns-in-Desk-clause-err
returns-in-Desk-clause-err g c = (desk_pull g c).err

pub returns-in-Desk-clause-fault : goal.returns-in-Desk-clause-fault
returns-in-Desk-clause-fault g c = (desk_pull g c).fault

pub returns-in-Desk-clause-saw : goal.returns-in-Desk-clause-saw
returns-in-Desk-clause-saw g c = (desk_pull g c).saw

pub returns-in-Desk-clause-others : goal.returns-in-Desk-clause-others
returns-in-Desk-clause-others g c = (desk_pull g c).others

-- the view was
view_pull : (g : Over) (c : goal.After-pull_view g) → PartPull c.pull_view.result c.args.part c.args.self.now c.pull_view.new.prefixes c.args.caller.now
    (seeing c.caller.inside.levels c.caller.inside.told.items c.caller.inside.servers.items c.caller.inside.desk.seen c.pull_view.new.pass.seen)
view_pull g c =
    let own = c.caller.inside in
    let saw = view_saw own.levels own.told.items own.servers.items own.desk.seen own.view.seen c.pull_view.new.pass.seen c.args.part c.args.caller.now c.caller.view_is c.in-View.is in
    let after = seeing own.levels own.told.items own.servers.items own.desk.seen c.pull_view.new.pass.seen in
    part_pull c.pull_view.result c.args.part parts.View c.self.inside.prefixes c.args.self.now c.pull_view.new.prefixes c.args.caller.now after own.view.seen c.pull_view.new.pass.seen c.in-View.is c.self.view_is saw c.pull_view.ensures

pub returns-in-View-clause-grown : goal.returns-in-View-clause-grown
returns-in-View-clause-grown g c = (view_pull g c).grows

pub returns-in-View-clause-seen : goal.returns-in-View-clause-seen
returns-in-View-clause-seen g c = (view_pull g c).seen

pub returns-in-View-clause-err : goal.returns-in-View-clause-err
returns-in-View-clause-err g c = (view_pull g c).err

pub returns-in-View-clause-fault : goal.returns-in-View-clause-fault
returns-in-View-clause-fault g c = (view_pull g c).fault

pub returns-in-View-clause-saw : goal.returns-in-View-clause-saw
returns-in-View-clause-saw g c = (view_pull g c).saw

pub returns-in-View-clause-others : goal.returns-in-View-clause-others
returns-in-View-clause-others g c = (view_pull g c).others
