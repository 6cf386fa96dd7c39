use Rattle.std.{proofs.Common.{is_some, refl, sym, ap, subst, ◌∙◌, true≢false}, specs.List.IsDistinct}
use Rattle.indexmap.proofs.MapLemmas.{Found-position, Missing-position}
use Rattle.std_collections.proofs.Entries.{keys_set_value_at, length-set_value_at}
use Rattle.std_collections.proofs.HashLookup.{set_value-IsFirst, set_value-IsAbsent, Updated-set}
use Rattle.tq_store.proofs.ordered.Ordered.get_mut.Goals as goal

pub returns-in-Some : goal.returns-in-Some
returns-in-Some g c =
    let t = g.K.PartialEq.eq c.args.key.now in
    let es = c.args.self.now.entries in
    let f = Found-position t es c.in-Some.place (sym c.in-Some.ensures.index) in
    let value = c.value_mut.ensures.value in
    let unique = c.find.ensures.unique in (
      (refl, λ w. (set_value-IsFirst _ _ _ w f.first, keys_set_value_at _ _ w, length-set_value_at _ _ w, (λ _. Updated-set _ g.met.K.Eq.laws _ (g.met.K.Eq.laws.congr c.args.key.now) _ _ w f.first), subst (IsDistinct g.K.PartialEq.eq) (sym (keys_set_value_at _ _ w)) unique, refl, refl), refl),
      record { writes_back = tt; value = sym (f.value ∙ value); unique = unique },
    )

pub returns-in-None : goal.returns-in-None
returns-in-None g c =
    let t = g.K.PartialEq.eq c.args.key.now in
    let es = c.args.self.now.entries in
    let m = Missing-position t es (sym c.in-None.ensures.index) in
    let unique = c.find.ensures.unique in (
      (refl, λ w. (set_value-IsAbsent _ _ w m.absent, refl, refl, (λ s. absurd (true≢false (sym s ∙ ap is_some m.value))), unique, refl, refl), refl),
      record { writes_back = tt; value = sym m.value; unique = unique },
    )
