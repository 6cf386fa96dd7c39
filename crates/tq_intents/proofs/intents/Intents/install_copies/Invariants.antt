use Rattle.std.{proofs.Common.{◌≡◌, ◌≤◌, ◌+◌, ◌++◌, List, length, map}, specs.Vec.Iter.into_iter_items}
use Rattle.tq_store.specs.{Copies.{CopiesView, installed_all}, declared.write.Write.Write}
use Rattle.tq_intents.specs.{Kept.{LogView, kept_copies, kept_votes}, declared.record.Record.TheVariants.Copy}
use Rattle.tq_intents.proofs.intents.Intents.install_copies.Given as goal

-- what is left leads to the same records and copies, and has room
pub record LeadsOn (start now : LogView) (first last : CopiesView) (all left : List Write) : Type 0 where
  pub records : now.records ++ map Copy left ≡ start.records ++ map Copy all
  pub copies : installed_all (kept_copies now.records) left ≡ installed_all (kept_copies start.records) all
  pub votes : kept_votes now.records ≡ kept_votes start.records
  pub used : start.room + length left ≤ now.room + length all
  pub fits : length left ≤ now.room
  pub files : installed_all last.files left ≡ installed_all first.files all
  pub place : length left ≤ last.room

abbrev pub invariant-loop-newer : goal.invariant-loop-newer
invariant-loop-newer l = LeadsOn l.initial.self l.self l.initial.copies l.copies (into_iter_items l.initial.newer-iterator) (into_iter_items l.newer-iterator)
