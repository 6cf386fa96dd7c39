use Rattle.std.proofs.Common.{◌≡◌, ◌≤◌, ◌-◌, ◌^◌, Ok}
use Rattle.tq_cluster.specs.{Told.SeesOn, Rounds.{ArePulled, Continues, HasSeenServers, SawWhatCame, servers_from}}
use Rattle.tq_cluster.proofs.live_board.LiveBoard.pull_servers.Given as goal

-- the servers so far were pulled, and the board has what the caller has seen of them
abbrev pub invariant-loop-place : goal.invariant-loop-place
invariant-loop-place g l = record {
  pulled : ArePulled (servers_from 1 l.place) l.initial.self l.self l.initial.caller l.caller (Ok tt);
  within : l.place ≤ 2 ^ l.fn.cluster.levels - 1;
  continues : Continues l.initial.self l.self;
  seen : HasSeenServers l.self l.caller l.place;
  told : l.caller.told ≡ l.initial.caller.told;
  grows : SeesOn l.initial.caller l.caller;
  saw : SawWhatCame l.initial.self l.self l.initial.caller l.caller;
  tree : l.caller.levels ≡ l.initial.caller.levels;
}
