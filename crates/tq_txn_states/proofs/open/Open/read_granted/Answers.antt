use Rattle.std.proofs.Common.{◌≡◌, ◌∙◌, sym, subst, ap, true}
use Rattle.tq_store.specs.declared.copies.FileCopy.{FileCopy}
use Rattle.tq_txn_states.{specs.Open.{is_member, read_copy}, proofs.GoodGrants.good_read_of}
use Rattle.tq_txn_states.proofs.open.Open.read_granted.Goals as goal

pub take-requires : goal.take-requires
take-requires c =
    let old = c.args.self.now in
    let grants = c.from_vec.ensures in
    let copy : c.in_ok-copy.copy ≡ read_copy c.from_vec.result = c.in_ok-copy.ensures ∙ ap read_copy (c.as_slice.ensures.value ∙ sym grants) in
    let kept = c.in_ok-content.ensures.cases ∙ ap (λ (f : FileCopy). f.content) copy in
    let member = subst (λ gs. is_member old.levels gs ≡ true) (sym grants) c.requires.member in
    good_read_of old c.args.file.now c.in_ok-content.content c.from_vec.result c.in_ok-copy.copy.version (ap (λ (f : FileCopy). f.version) copy) kept member c.requires.fresh
