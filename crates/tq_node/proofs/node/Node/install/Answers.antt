use Rattle.std.proofs.Common.{◌≡◌, ℕ, List, [], ◌∷◌, ◌++◌, IsSome, map, filter, length, ap, sym, subst, ◌∙◌, arith}
use Rattle.std.proofs.lemmas.{Grind.common_steps, List.take_all}
use Rattle.std.specs.FinMap as fin
use Rattle.tq_store.specs.{Copies.{Files, installed_all, is_newer}, declared.write.Write.Write}
use Rattle.tq_intents.specs.{Kept.{kept_votes, newer_first, vote_at}, declared.record.Record.TheVariants.{Copy, Gone}}
use Rattle.tq_intents.proofs.CopiesPush.{installed_all-newer}
use Rattle.tq_locks.specs.Locks.{locks_after_release}
use Rattle.tq_node.specs.{Node.NodeView, Records.newer_writes, contracts.node.Node.the_view}
use Rattle.tq_node.specs.{NodeChanges.{records_of, server_after_step}, declared.change.NodeStep.TheVariants.Install}
use Rattle.tq_node.proofs.Sound.{sound-as, sound-installed}
use Rattle.tq_node.proofs.node.Node.install.Goals as goal

-- all the writes are the first of them
all_newer : (files found : Files) (writes : List Write) (count : ℕ) → found ≡ files → count ≡ length writes → newer_first count found writes ≡ filter (is_newer files) writes
all_newer files found writes count same all =
    (λ i. newer_first (all i) (same i) writes) ∙ ap (filter (is_newer files)) (take_all (length writes) writes (omega arith))

pub invariant_of-self-2 : goal.invariant_of-self-2
invariant_of-self-2 c =
    let inside = c.self.inside in
    let writes = c.args.writes.now in
    let is_open : IsSome (fin.get (kept_votes inside.intents.records) c.args.txn) = subst (λ v. IsSome (fin.get v.state.records.votes c.args.txn)) (sym c.self.view_is) c.requires.open in
    let newer = all_newer inside.copies.files c.reserve.new.self.files writes (length c.as_slice-count.result.now) c.in_ok-reserve.ensures.files (ap length c.as_slice-count.ensures) in
    sound-as (sound-installed inside.intents.records inside.last inside.copies.files inside.locks.locks c.self.invariant c.args.txn writes is_open)
    (c.finish.ensures.records ∙ ap (λ list. list ++ Gone c.args.txn (vote_at (kept_votes list) c.args.txn).number ∷ [])
    (c.in_ok-install_newer.ensures.records ∙ (λ i. c.in_ok-reserve-2.ensures.records i ++ map Copy (newer i))))
    (c.in_ok-install_newer.ensures.files ∙ (λ i. installed_all (c.in_ok-reserve.ensures.files i) (newer i)) ∙ installed_all-newer inside.copies.files writes)
    c.release.ensures

-- the newer writes leave the server that all of them would
installs_newer : (old : NodeView) (number txn vote : ℕ) (writes newer : List Write) → newer ≡ newer_writes old.state.records writes
    → server_after_step old number (Install txn vote newer newer) ≡ server_after_step old number (Install txn vote writes (newer_writes old.state.records writes))
installs_newer old number txn vote writes newer is =
    let files = old.state.records.copies in
    let same : installed_all files newer ≡ installed_all files writes = ap (λ list. installed_all files list) is ∙ installed_all-newer files writes in
    λ i. record {
      levels = old.levels;
      server = old.server;
      state = record {
        records = record old.state.records { copies = same i; locks = locks_after_release old.state.records.locks txn; votes = fin.remove old.state.records.votes txn };
        stable = old.state.stable ++ records_of (Install txn vote writes (is i));
      };
      last = old.last;
    }

pub returns-clause-after : goal.returns-clause-after
returns-clause-after c =
    let inside = c.self.inside in
    let old = c.args.self.now in
    let writes = c.args.writes.now in
    let list = newer_first (length c.as_slice-count.result.now) c.reserve.new.self.files writes in
    let newer : list ≡ newer_writes old.state.records writes =
    all_newer inside.copies.files c.reserve.new.self.files writes (length c.as_slice-count.result.now) c.in_ok-reserve.ensures.files (ap length c.as_slice-count.ensures) ∙ ap (λ (v : NodeView). newer_writes v.state.records writes) c.self.view_is in
    let first : the_view (record { server = inside.server; copies = c.install_newer.new.copies; locks = c.release.new.self; intents = c.finish.new.self; down = inside.down; last = inside.last })
    ≡ server_after_step old c.args.number (Install c.args.txn c.args.vote list list) = grind (arith, common_steps) in
    first ∙ installs_newer old c.args.number c.args.txn c.args.vote writes list newer
