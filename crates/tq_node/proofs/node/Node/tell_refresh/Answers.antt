use Rattle.std.proofs.Common.{◌≡◌, ℕ, [], ◌∷◌, ◌++◌, refl, sym, ap, subst, ◌∙◌, rules}
use Rattle.tq_asks.specs.declared.ask.WorkAsk.{WorkAsk}
use Rattle.tq_intents.specs.{Sharing.told_write, declared.record.Record.TheVariants.Copy}
use Rattle.tq_store.specs.{Copies.copies_after_install, declared.write.Write.Write}
use Rattle.tq_node.specs.{Node.NodeView, Telling.IsWorkTold, declared.telling.Telling.Telling}
use Rattle.tq_node.proofs.Sound.{sound-as, sound-copies}
use Rattle.tq_node.proofs.node.Node.tell_refresh.Goals as goal

pub invariant_of-self-2 : goal.invariant_of-self-2
invariant_of-self-2 c =
    let inside = c.self.inside in
    let write : Write = record { file = c.args.file.now; version = c.args.version; content = c.args.content.now } in
    let stored : c.in_ok-kept.kept ≡ c.args.content.now = search rules in
    let shared : c.in_ok-clone.field-0 ≡ c.args.ask.now = search rules in
    let told : c.of_refresh-written.result ≡ write = c.of_refresh-written.ensures ∙ ap told_write (shared ∙ c.requires.ask) in
    sound-as (sound-copies inside.intents.records inside.last inside.copies.files inside.locks.locks c.self.invariant (write ∷ []))
    (c.push_copy.ensures.records ∙ (λ i. c.in_ok-reserve-2.ensures.records i ++ Copy (told i) ∷ []))
    (c.install_newer.ensures.files ∙ (λ i. copies_after_install (c.in_ok-reserve.ensures.files i) write.file (record { version = write.version; content = stored i })))
    refl

told_as : (old new : NodeView) (number : ℕ) (ask same : WorkAsk) (telling : Telling) → ask ≡ same → IsWorkTold old new number same telling → IsWorkTold old new number ask telling
told_as old new number ask same telling is h = subst (λ (a : WorkAsk). IsWorkTold old new number a telling) (sym is) h

pub returns-clause-told : goal.returns-clause-told
returns-clause-told c = told_as _ _ _ _ _ _ c.requires.ask (search rules)
