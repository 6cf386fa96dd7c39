use Rattle.std.proofs.{Common.{◌≡◌, true, eqb, refl, sym, ◌∙◌}, lemmas.Bool.{eq-eqb, not-false}}
use Rattle.tq_coterie.proofs.Sets.{same-servers}
use Rattle.tq_coterie.proofs.member.are_same.Goals as goal

pub returns : goal.returns
returns c =
    let one = c.args.one.now in
    let other = c.args.other.now in
    let same : eqb one.levels other.levels ≡ true = not-false _ (sym c.ne.ensures ∙ c.if-ne.false) in
    rw (c.eq.ensures, c.as_slice.ensures, c.as_slice-2.ensures)
    (same-servers _ one.levels other.levels one.servers.items other.servers.items
    (λ levels some others. rw (eq-eqb levels levels refl) refl) c.requires.one.tree c.requires.other.tree same)
