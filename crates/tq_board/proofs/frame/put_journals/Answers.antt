use Rattle.std.specs.List.{AllByRecursion}
use Rattle.json.specs.Print.{escape_byte}
use Rattle.tq_board.specs.{Nodes.node_entry_value, Sound.IsNodeEntry, Values.list_value}
use Rattle.tq_board.proofs.Gathered.{added, all-map, value_items-map}
use Rattle.tq_board.proofs.frame.put_journals.Goals as goal

pub returns-clause-adds : goal.returns-clause-adds
unfolding escape_byte
returns-clause-adds g c =
    let desk = rw c.desk.ensures.value at c.in_ok-put_list.ensures.adds in
    let format = rw c.number.ensures at c.in_ok-put_after.ensures.adds in
    let levels = rw (c.count.ensures.value, c.levels.ensures) at c.in_ok-put_after-2.ensures.adds in
    let limits = rw c.limits.ensures at c.in_ok-put_after-3.ensures.adds in
    let servers = rw (value_items-map (list_value node_entry_value) (λ entries. entries.items) c.servers.result.now, c.servers.ensures.value) at c.in_ok-put_list-2.ensures.adds in
    let view = rw c.view.ensures.value at c.in_ok-put_list-3.ensures.adds in
    let last = added c.in_ok-push-3.ensures (added view c.in_ok-push-4.ensures) in
    added c.in_ok-push.ensures (added desk (added format (added levels (added limits (added c.in_ok-push-2.ensures (added servers last))))))

pub returns-clause-fits : goal.returns-clause-fits
returns-clause-fits g c =
    let desk = rw c.desk.ensures.value at c.in_ok-put_list.ensures.fits in
    let format = rw c.number.ensures at c.in_ok-put_after.ensures.fits in
    let levels = rw (c.count.ensures.value, c.levels.ensures) at c.in_ok-put_after-2.ensures.fits in
    let limits = rw c.limits.ensures at c.in_ok-put_after-3.ensures.fits in
    let servers = rw (value_items-map (list_value node_entry_value) (λ entries. entries.items) c.servers.result.now, c.servers.ensures.value) at c.in_ok-put_list-2.ensures.fits in
    let view = rw c.view.ensures.value at c.in_ok-put_list-3.ensures.fits in
    (desk, (format, (levels, (limits, (servers, (view, tt))))))

pub returns-clause-kept : goal.returns-clause-kept
returns-clause-kept g c = record {
  levels = (rw (c.count.ensures.value, c.levels.ensures) at c.count.ensures.least, rw (c.count.ensures.value, c.levels.ensures) at c.count.ensures.most);
  limits = rw c.limits.ensures at c.in_ok-put_after-3.ensures.kept;
  fit = record {
    one_each = c.servers.ensures.one_each;
    servers_fit = c.servers.ensures.fit;
    desk_fits = rw c.desk.ensures.value at c.desk.ensures.fits;
    view_fits = rw c.view.ensures.value at c.view.ensures.fits;
    of_tree = rw c.view.ensures.value at c.view.ensures.of_tree;
  };
  servers = rw c.servers.ensures.value at (all-map (AllByRecursion IsNodeEntry) (λ entries. entries.items) c.servers.result.now c.in_ok-put_list-2.ensures.kept);
  desk = rw c.desk.ensures.value at c.in_ok-put_list.ensures.kept;
  view = rw c.view.ensures.value at c.in_ok-put_list-3.ensures.kept;
}
