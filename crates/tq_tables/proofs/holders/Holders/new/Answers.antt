use Rattle.std.proofs.Common.{sym, subst}
use Rattle.tq_tables.{specs.Parts.AreOfTree, proofs.{Held.none-held, RowLaws.AreOfTree-nodes_at}}
use Rattle.tq_tables.proofs.holders.Holders.new.Goals as goal

pub all_servers-requires : goal.all_servers-requires
all_servers-requires c = subst (AreOfTree c.args.levels 1) (sym c.requires) (AreOfTree-nodes_at c.args.levels 1 _)

pub returns : goal.returns
returns c = none-held c.args.levels _ c.args.nodes.now c.in_ok-early.early c.in_ok-all.all c.requires c.in_ok-early.ensures c.in_ok-all.ensures
