use Rattle.std.{proofs.Common.◌∙◌, specs.Ordering.nat_cmp}
use Rattle.tq_store.proofs.Spelled.{same, other, first_word, second_word, third_word, fourth_word}
use Rattle.tq_store.proofs.file_name.FileNameOrd.cmp.Goals as goal

pub returns-then-word : goal.returns-then-word
returns-then-word c =
    c.cmp.ensures ∙ (λ i. nat_cmp (c.word-then-word.ensures.value i) (c.word-then-word-2.ensures.value i))
    ∙ first_word c.args.self.now c.args.other.now c.word.ensures.name c.word-2.ensures.name (other _ _ _ _ c.word.ensures.value c.word-2.ensures.value c.if-word.true)

pub returns-then-word-2 : goal.returns-then-word-2
returns-then-word-2 c =
    let first = same _ _ _ _ c.word.ensures.value c.word-2.ensures.value c.if-word.false in
    c.cmp-then-word-2.ensures ∙ (λ i. nat_cmp (c.word-then-word-2-2.ensures.value i) (c.word-then-word-2-3.ensures.value i))
    ∙ second_word c.args.self.now c.args.other.now c.word.ensures.name c.word-2.ensures.name first (other _ _ _ _ c.word-3.ensures.value c.word-4.ensures.value c.if-word-2.true)

pub returns-then-word-3 : goal.returns-then-word-3
returns-then-word-3 c =
    let first = same _ _ _ _ c.word.ensures.value c.word-2.ensures.value c.if-word.false in
    let second = same _ _ _ _ c.word-3.ensures.value c.word-4.ensures.value c.if-word-2.false in
    c.cmp-then-word-3.ensures ∙ (λ i. nat_cmp (c.word-then-word-3.ensures.value i) (c.word-then-word-3-2.ensures.value i))
    ∙ third_word c.args.self.now c.args.other.now c.word.ensures.name c.word-2.ensures.name first second (other _ _ _ _ c.word-5.ensures.value c.word-6.ensures.value c.if-word-3.true)

pub returns : goal.returns
returns c =
    let first = same _ _ _ _ c.word.ensures.value c.word-2.ensures.value c.if-word.false in
    let second = same _ _ _ _ c.word-3.ensures.value c.word-4.ensures.value c.if-word-2.false in
    let third = same _ _ _ _ c.word-5.ensures.value c.word-6.ensures.value c.if-word-3.false in
    c.cmp-2.ensures ∙ (λ i. nat_cmp (c.word-7.ensures.value i) (c.word-8.ensures.value i))
    ∙ fourth_word c.args.self.now c.args.other.now c.word.ensures.name c.word-2.ensures.name first second third
