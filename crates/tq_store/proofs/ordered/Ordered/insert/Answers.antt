use Rattle.std.proofs.Common.{◌≡◌, ◌∷◌, ◌++◌, [], length, Some, rules, sym, ap, subst, ◌∙◌, arith, length-append}
use Rattle.std.specs.{List.IsDistinct, Map.keys_of}
use Rattle.indexmap.proofs.MapLemmas.{Found-position, Missing-position, insert_entry-first, insert_entry-absent}
use Rattle.indexmap.specs.IndexMap.{set_value_at}
use Rattle.std_collections.proofs.Entries.{keys_set_value_at, length-set_value_at}
use Rattle.std_collections.proofs.HashLookup.{Updated, Updated-set, Updated-push, distinct_push}
use Rattle.tq_store.proofs.ordered.Ordered.insert.Goals as goal

pub returns-in-Some : goal.returns-in-Some
returns-in-Some g c =
    let eq = g.K.PartialEq.eq in
    let t = eq c.args.key in
    let es = c.args.self.now.entries in
    let i = c.in-Some.place in
    let v = c.args.value in
    let f = Found-position t es i (sym c.in-Some.ensures.index) in
    let after : c.replace.new.self.entries ≡ set_value_at es i v = ap (λ m. m.entries) c.replace.ensures.after in
    record {
      old = sym (f.value ∙ c.replace.ensures.took);
      updates = subst (λ l. Updated eq g.met.K.Eq.laws t es l (Some v)) (sym after) (Updated-set eq g.met.K.Eq.laws t (g.met.K.Eq.laws.congr c.args.key) es i v f.first);
      entries = after ∙ sym (insert_entry-first eq c.args.key v es i f.first);
      len = omega (arith, ap length after, length-set_value_at es i v);
      spare = search rules;
      unique = subst (IsDistinct eq) (sym (ap keys_of after ∙ keys_set_value_at es i v)) c.find.ensures.unique;
    }

pub returns-in-None : goal.returns-in-None
returns-in-None g c =
    let eq = g.K.PartialEq.eq in
    let t = eq c.args.key in
    let es = c.args.self.now.entries in
    let e : g.row.K.Denot × g.row.V.Denot = (c.args.key, c.args.value) in
    let m = Missing-position t es (sym c.in-None.ensures.index) in
    let after : c.push.new.self.entries ≡ es ++ e ∷ [] = ap (λ n. n.entries) c.push.ensures in
    record {
      old = search rules;
      updates = subst (λ l. Updated eq g.met.K.Eq.laws t es l (Some e.1)) (sym after) (Updated-push eq g.met.K.Eq.laws es e.0 e.1 m.absent);
      entries = after ∙ sym (insert_entry-absent eq e.0 e.1 es m.absent);
      len = omega (arith, ap length after, length-append es (e ∷ []));
      spare = search rules;
      unique = subst (λ l. IsDistinct eq (keys_of l)) (sym after) (distinct_push eq g.met.K.Eq.laws es e c.find.ensures.unique m.absent);
    }
