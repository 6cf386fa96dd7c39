use Rattle.std.proofs.{Common.{◌≡◌, ◌≤◌, ◌∙◌, List, Bool, length, ap, sym, subst, arith}, lemmas.List.take_all}
use Rattle.std.specs.{List.{All, sum_by}, Prelude.{not, count_by, take}}
use Rattle.tq_merge.{specs.Told.AreDifferent, proofs.Marked.{KeepsMarks, next_twice, next_once, all_short, unnamed_is}}
use Rattle.tq_merge.proofs.claimed.claim.Goals as goal

pub returns-then-not-name : goal.returns-then-not-name
returns-then-not-name c =
    next_twice c.args.counts.now c.loop-name.marks.items c.args.names.now c.loop-name.name-index _ c.place_of-place.result c.index_mut.result.now c.name.new.self c.name.result
    c.loop-name.invariant.keeps c.loop-name-test.true c.requires.within c.place_of-place.ensures.value c.index_mut.ensures.value c.name.ensures.fresh c.name.ensures.named c.if-not-name.true c.loop-name.invariant.different

pub loop-name-preserved : goal.loop-name-preserved
loop-name-preserved c =
    let now = next_once c.args.counts.now c.loop-name.marks.items c.args.names.now c.loop-name.name-index _ c.place_of-place.result c.index_mut.result.now c.name.new.self c.name.result
    c.loop-name.invariant.keeps c.loop-name-test.true c.requires.within c.place_of-place.ensures.value c.index_mut.ensures.value c.name.ensures.fresh c.name.ensures.named c.if-not-name.false c.loop-name.invariant.different in
    record { keeps = now.0; different = now.1 }

pub unnamed_in-unclaimed-requires-clause-short : goal.unnamed_in-unclaimed-requires-clause-short
unnamed_in-unclaimed-requires-clause-short c =
    subst (All (λ (named : List Bool). length named ≤ 1000000)) (sym c.as_slice.ensures.value)
    (all_short c.args.counts.now c.loop-name.marks.items (take c.loop-name.name-index c.args.names.now) c.loop-name.invariant.keeps c.requires.short)

pub returns : goal.returns
returns c =
    let all : take c.loop-name.name-index c.args.names.now ≡ c.args.names.now = take_all c.loop-name.name-index c.args.names.now (omega (arith, c.loop-name-test.false)) in (
      subst AreDifferent all c.loop-name.invariant.different,
      c.unnamed_in-unclaimed.ensures ∙ ap (sum_by (count_by not)) c.as_slice.ensures.value
          ∙ unnamed_is c.args.names.now c.args.counts.now c.loop-name.marks.items (subst (KeepsMarks c.args.counts.now c.loop-name.marks.items) all c.loop-name.invariant.keeps),
    )
