use Rattle.std.{proofs.Common.{◌∙◌, ◌&&◌, sym, nat_eq}, specs.Cmp.Lexicographic.bytes_decides}
use Rattle.tq_store.proofs.Spelled.{eq_words}
use Rattle.tq_store.proofs.file_name.FileNamePartialEq.eq.Goals as goal

pub returns-clause-test : goal.returns-clause-test
returns-clause-test c =
    let a = c.args.self.now in
    let b = c.args.other.now in
    (λ i. ((nat_eq (c.word.ensures.value i) (c.word-2.ensures.value i) && nat_eq (c.word-3.ensures.value i) (c.word-4.ensures.value i)) && nat_eq (c.word-5.ensures.value i) (c.word-6.ensures.value i)) && nat_eq (c.word-7.ensures.value i) (c.word-8.ensures.value i))
    ∙ eq_words a b c.word.ensures.name c.word-2.ensures.name

pub returns-clause-exact : goal.returns-clause-exact
returns-clause-exact c =
    let decided = bytes_decides c.args.self.now c.args.other.now in
    let test = returns-clause-test c in
    (λ h. decided.0 (sym test ∙ h), λ e. test ∙ decided.1 e)
