use Rattle.std.proofs.{Common.{◌≡◌, List, length, map, ap, subst, sym, ◌∙◌}, lemmas.{Bool.false≢true, List.length-map}}
use Rattle.tq_shape.specs.declared.part.Part.{Part}
use Rattle.tq_node.specs.NodeJournal.{NodeEntry}
use Rattle.tq_merge.specs.{Order.{times, entries_of}, Placing.PlacingView}
use Rattle.tq_merge.proofs.{Places.length_each, Legality.each_length, Greedy.{all_placed, not_desk, not_servers}}
use Rattle.tq_merge.proofs.placing.Placing.is_whole.Goals as goal

pub returns-then-self-desk-clause-left : goal.returns-then-self-desk-clause-left
returns-then-self-desk-clause-left c = λ _.
    subst (λ (v : PlacingView). ((part : Part) → times v.order part ≡ entries_of v.journals part) → ⊥) c.self.view_is
    (not_desk _ _ _ _ _ _ _ c.self.invariant (λ same. c.if-self-desk.true (same ∙ sym (ap length c.desk.ensures.value))))

pub are_all-requires : goal.are_all-requires
are_all-requires c =
    ap length c.as_slice.ensures.value ∙ ap length c.self.invariant.of_servers ∙ length_each _ 1 c.self.inside.journals.now.servers
    ∙ sym (ap length c.servers.ensures.value) ∙ length-map c.servers.result.now (λ entries. entries.items)

pub returns-clause-whole : goal.returns-clause-whole
returns-clause-whole c = λ is.
    let counts = c.are_all.ensures.0 is in
    subst (λ (v : PlacingView). (part : Part) → times v.order part ≡ entries_of v.journals part) c.self.view_is
    (all_placed _ _ _ _ _ _ _ c.self.invariant (c.if-self-desk.false ∙ ap length c.desk.ensures.value)
    (sym c.as_slice.ensures.value ∙ counts ∙ each_length (λ entries. entries.items) c.servers.result.now ∙ ap (λ (all : List (List NodeEntry)). map length all) c.servers.ensures.value))

pub returns-clause-left : goal.returns-clause-left
returns-clause-left c = λ is.
    subst (λ (v : PlacingView). ((part : Part) → times v.order part ≡ entries_of v.journals part) → ⊥) c.self.view_is
    (not_servers _ _ _ _ _ _ _ c.self.invariant (λ same.
    false≢true (sym is ∙ c.are_all.ensures.1
    (c.as_slice.ensures.value ∙ same ∙ ap (λ (all : List (List NodeEntry)). map length all) (sym c.servers.ensures.value) ∙ sym (each_length (λ entries. entries.items) c.servers.result.now)))))
