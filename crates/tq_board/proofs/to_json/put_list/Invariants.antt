use Rattle.std.{proofs.Common.{false, drop}, specs.List.AllByRecursion}
use Rattle.serde_json.specs.Written.{items_text}
use Rattle.tq_board.specs.{Values.{value_items, AreFitting}, Lines.Added}
use Rattle.tq_board.proofs.to_json.put_list.Given as goal

-- where the items that are left are put, with the closing bracket, all are; where they fit, all do, and what the type keeps of
-- them it keeps of all
abbrev pub invariant-loop-item : goal.invariant-loop-item
invariant-loop-item g l = record {
  put : (end : g.row.O.Denot) → Added g.O.Out.puts l.out end (items_text l.later (value_items g.T.ToJson.value (drop l.item-index l.items))) → Added g.O.Out.puts l.initial.out end (items_text false (value_items g.T.ToJson.value l.items));
  fits : AreFitting (value_items g.T.ToJson.value (drop l.item-index l.items)) → AreFitting (value_items g.T.ToJson.value l.items);
  kept : AllByRecursion g.T.ToJson.sound (drop l.item-index l.items) → AllByRecursion g.T.ToJson.sound l.items;
}
