use Rattle.std.proofs.{Common.{◌≡◌, ◌++◌, ◌∙◌, inl, inr, ℕ, List, take, ap, sym, subst, arith}, lemmas.List.take_all}
use Rattle.std.specs.List.{All}
use Rattle.tq_txn.specs.declared.asker.Exchange.{Exchange}
use Rattle.tq_merge.specs.declared.claimed.EntryName.{EntryName}
use Rattle.tq_merge.specs.Told.{IsWithin, IsFallen, Rise, IsStray, Stands, names_of, all_names, entry_counts}
use Rattle.tq_merge.proofs.Legality.{has_item, all_next, next_all, told_within, all_within}
use Rattle.tq_merge.proofs.compared.compare.Goals as goal

pub returns-in-Stray : goal.returns-in-Stray
returns-in-Stray c =
    let stray = rw c.in-Stray.is at c.in_ok-names.ensures in
    inl (
      c.told-item.result,
      has_item c.args.callers.now c.loop-told.told-index c.told-item.result c.loop-told-test.true c.told-item.is,
      subst (λ (t : List Exchange). IsStray c.args.journals.now t c.in-Stray.name) c.as_slice.ensures stray,
    )

pub first_fallen-requires : goal.first_fallen-requires
first_fallen-requires c =
    let told = c.told-item.result in
    let names = rw c.in-Stand.is at c.in_ok-names.ensures in
    let good = told_within c.args.journals.now told (subst (λ (t : List Exchange). All (Stands c.args.journals.now) t) c.as_slice.ensures names.1) in
    let names_are : c.as_slice-in-loop-told-2.result.now ≡ names_of told = c.as_slice-in-loop-told-2.ensures.value ∙ names.0 ∙ ap names_of c.as_slice.ensures in
    let counts_are : c.as_slice-in-loop-told.result.now ≡ entry_counts c.args.journals.now = c.as_slice-in-loop-told.ensures.value ∙ c.in_ok-counts.ensures.value in
    subst (λ (l : List EntryName). All (IsWithin c.as_slice-in-loop-told.result.now) l) (sym names_are)
    (subst (λ (k : List ℕ). All (IsWithin k) (names_of told)) (sym counts_are) good)

pub returns-in-Some : goal.returns-in-Some
returns-in-Some c =
    let told = c.told-item.result in
    let names = rw c.in-Stand.is at c.in_ok-names.ensures in
    let fallen = rw c.in-Some.is at c.in_ok-name.ensures in
    let names_are : c.as_slice-in-loop-told-2.result.now ≡ names_of told = c.as_slice-in-loop-told-2.ensures.value ∙ names.0 ∙ ap names_of c.as_slice.ensures in
    inr (inl (
      told,
      has_item c.args.callers.now c.loop-told.told-index told c.loop-told-test.true c.told-item.is,
      subst (λ (l : List EntryName). IsFallen l c.in-Some.name) names_are fallen,
    ))

pub loop-told-preserved : goal.loop-told-preserved
loop-told-preserved c =
    let journals = c.args.journals.now in
    let callers = c.args.callers.now in
    let i = c.loop-told.told-index in
    let told = c.told-item.result in
    let names = rw c.in-Stand.is at c.in_ok-names.ensures in
    let rise = rw c.in_default.is at c.in_ok-name.ensures in
    let names_are : c.in-Stand.names.items ≡ names_of told = names.0 ∙ ap names_of c.as_slice.ensures in
    record {
      names = c.in_ok-append.ensures.items ∙ (λ j. c.loop-told.invariant.names j ++ names_are j) ∙ sym (next_all callers i told c.loop-told-test.true c.told-item.is);
      stand =
          all_next (λ (t : List Exchange). All (Stands journals) t) callers i told c.loop-told-test.true c.told-item.is c.loop-told.invariant.stand
          (subst (λ (t : List Exchange). All (Stands journals) t) c.as_slice.ensures names.1);
      rise =
          all_next (λ (t : List Exchange). Rise (names_of t)) callers i told c.loop-told-test.true c.told-item.is c.loop-told.invariant.rise
          (subst (λ (l : List EntryName). Rise l) (c.as_slice-in-loop-told-2.ensures.value ∙ names_are) rise);
    }

pub claim-requires-clause-within : goal.claim-requires-clause-within
claim-requires-clause-within c =
    let journals = c.args.journals.now in
    let callers = c.args.callers.now in
    let all : take c.loop-told.told-index callers ≡ callers = take_all c.loop-told.told-index callers (omega (arith, c.loop-told-test.false)) in
    let good = all_within journals callers (subst (λ (l : List (List Exchange)). All (λ (t : List Exchange). All (Stands journals) t) l) all c.loop-told.invariant.stand) in
    let names_are : c.as_slice-3.result.now ≡ all_names callers = c.as_slice-3.ensures.value ∙ c.loop-told.invariant.names ∙ ap all_names all in
    let counts_are : c.as_slice-2.result.now ≡ entry_counts journals = c.as_slice-2.ensures.value ∙ c.in_ok-counts.ensures.value in
    subst (λ (l : List EntryName). All (IsWithin c.as_slice-2.result.now) l) (sym names_are)
    (subst (λ (k : List ℕ). All (IsWithin k) (all_names callers)) (sym counts_are) good)
