use Rattle.std.proofs.Common.{refl, rules, sym, ◌∙◌}
use Rattle.indexmap.proofs.MapLemmas.{Missing-position, swap_remove_entry-found, swap_remove_entry-missing}
use Rattle.indexmap.proofs.RemoveLemmas.{none_out, swap_out}
use Rattle.tq_store.proofs.ordered.Ordered.swap_remove.Goals as goal

pub returns-in-Some : goal.returns-in-Some
returns-in-Some g c =
    let t = g.K.PartialEq.eq c.args.key.now in
    let es = c.args.self.now.entries in
    let r = c.swap_remove_index-removed in
    let i = sym c.in-Some.ensures.index in
    let out = swap_out g.K.PartialEq.eq g.met.K.Eq.laws t (g.met.K.Eq.laws.congr c.args.key.now) es c.in-Some.place r.result i r.ensures.took c.find.ensures.unique r.new.self.entries r.ensures.entries in
    record {
      value = out.value;
      updates = out.updated;
      entries = r.ensures.entries ∙ sym (swap_remove_entry-found t es c.in-Some.place r.result i);
      unchanged = search rules;
      len = out.len;
      room = r.ensures.room;
      unique = out.unique;
    }

pub returns-in-None : goal.returns-in-None
returns-in-None g c =
    let t = g.K.PartialEq.eq c.args.key.now in
    let es = c.args.self.now.entries in
    let none = sym c.in-None.ensures.index in
    record {
      value = sym (Missing-position t es none).value;
      updates = none_out g.K.PartialEq.eq g.met.K.Eq.laws t (g.met.K.Eq.laws.congr c.args.key.now) es es none refl;
      entries = sym (swap_remove_entry-missing t es none);
      unchanged = search rules;
      len = search rules;
      room = search rules;
      unique = c.find.ensures.unique;
    }
