use Rattle.tq_board.{specs.Values.whole, proofs.Gathered.value_items-map}
use Rattle.tq_board.proofs.views.put_servers.Goals as goal

pub returns-clause-adds : goal.returns-clause-adds
returns-clause-adds g c = rw (value_items-map whole (λ server. server.number) c.args.servers.now) at c.in_ok-put_list.ensures.adds

pub returns-clause-fits : goal.returns-clause-fits
returns-clause-fits g c = rw (value_items-map whole (λ server. server.number) c.args.servers.now) at c.in_ok-put_list.ensures.fits
