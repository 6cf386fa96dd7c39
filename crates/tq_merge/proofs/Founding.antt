-- The citations of ops, one op after another. What is founded stays founded: a step rests on the entries that it
-- cites, and on nothing else of the world.
use Rattle.std.proofs.Common.{◌≡◌, ◌<◌, ◌+◌, ℕ, List, [], ◌∷◌, ◌++◌, length, map, take, get_or, sym, ap, ◌∙◌, append_assoc, ◌≤◌, Bool, true, false, Option, Some, None, refl, subst, inl, inr, arith}
use Rattle.std.proofs.lemmas.List.{append-nil}
use Rattle.std.specs.Option.{option_map, option_map_or, option_and_then, option_to_list}
use Rattle.tq_evidence.specs.declared.{op.Op.Op, grant.Grant.Grant, vote.Vote.Vote}
use Rattle.tq_core.specs.{declared.citation.Citation.Citation, declared.answer.Step.Step, World.{item_at, server_entry}}
use Rattle.tq_core.specs.Founded.{cited_grant, is_founded_grant, is_founded_vote, is_founded_copy, is_founded_verdict, is_granted, is_voted, is_peeked, is_ended, cited_vote, unless, unfounded_op, unfounded_vote, cited_in_work, unfounded_in_work}
use Rattle.tq_core.proofs.Contents.{tested-is, unless_none, ops-are, votes-are, commit-founded}
use Rattle.tq_tables.{proofs.RowLaws.take-next, specs.Journals.{JournalsView, ViewEntry}}
use Rattle.tq_merge.specs.{Placing.{cited_in_ops, cited_in}, Order.{firsts, unfounded_citation}}
use Rattle.tq_merge.proofs.Places.{first_item, item_first, item_each}
use Rattle.tq_shape.specs.{Journal.Has, declared.part.Part.Part}
use Rattle.tq_shape.proofs.{Options.or_else-none, Places.{append-Has, map-Has, Has-append, Has-map}}
use Rattle.tq_shape.specs.declared.part.Part.TheVariants as parts
use Rattle.tq_asks.specs.declared.ask.NodeAsk.TheVariants as node_asks
use Rattle.tq_asks.specs.declared.ask.WorkAsk.{WorkAsk}
use Rattle.tq_asks.specs.declared.ask.WorkAsk.TheVariants as work
use Rattle.tq_desk.specs.declared.ask.DeskAsk.TheVariants as desk_asks
use Rattle.tq_node.specs.NodeJournal.{NodeEntry}
use Rattle.tq_desk.specs.DeskJournal.{DeskEntry}
use Rattle.tq_core.specs.declared.answer.Step.TheVariants as steps

cited_ops-push : (ops : List Op) (op : Op) → cited_in_ops (ops ++ op ∷ []) ≡ cited_in_ops ops ++ map cited_grant op.grants
cited_ops-push [] op = append-nil (map cited_grant op.grants)
cited_ops-push (first ∷ ops) op = ap (λ (rest : List Citation). map cited_grant first.grants ++ rest) (cited_ops-push ops op) ∙ sym (append_assoc (map cited_grant first.grants) (cited_in_ops ops) (map cited_grant op.grants))

pub ops_next : (before now after : List Citation) (ops : List Op) (i : ℕ) (op : Op) → i < length ops → op ≡ get_or ops i op → now ≡ before ++ cited_in_ops (take i ops) → after ≡ now ++ map cited_grant op.grants
    → after ≡ before ++ cited_in_ops (take (i + 1) ops)
ops_next before now after ops i op less is so_far entered =
    entered
    ∙ ap (λ (cs : List Citation). cs ++ map cited_grant op.grants) so_far
    ∙ append_assoc before (cited_in_ops (take i ops)) (map cited_grant op.grants)
    ∙ ap (λ (cs : List Citation). before ++ cs) (sym (cited_ops-push (take i ops) op))
    ∙ ap (λ (os : List Op). before ++ cited_in_ops os) (sym (take-next ops i op less is))

-- ---- founding

-- ---- the entries that are cited

-- the entry of the number stands in the other world too, if it stands in the one
abbrev pub StaysAt : JournalsView → JournalsView → Part → ℕ → Type 0
StaysAt world other (parts.Server server) number = (e : NodeEntry) → server_entry world server number ≡ Some e → server_entry other server number ≡ Some e
StaysAt world other parts.Desk number = (e : DeskEntry) → item_at world.desk number ≡ Some e → item_at other.desk number ≡ Some e
StaysAt world other parts.View number = (e : ViewEntry) → item_at world.view number ≡ Some e → item_at other.view number ≡ Some e

abbrev pub Stays : JournalsView → JournalsView → Citation → Type 0
Stays world other citation = StaysAt world other citation.part citation.number

-- there is an entry of the number
abbrev pub StandsAt : JournalsView → Part → ℕ → Type 0
StandsAt world (parts.Server server) number = (e : NodeEntry) × (server_entry world server number ≡ Some e)
StandsAt world parts.Desk number = (e : DeskEntry) × (item_at world.desk number ≡ Some e)
StandsAt world parts.View number = ⊥

abbrev pub Stands : JournalsView → Citation → Type 0
Stands world citation = StandsAt world citation.part citation.number

-- ---- small facts of what is found

test_stays : {E : Type 0} (test : E → Bool) (o other : Option E) → ((e : E) → o ≡ Some e → other ≡ Some e) → option_map_or test o false ≡ true → option_map_or test other false ≡ true
test_stays test o other stays is =
    let found = tested-is test o is in
    ap (λ x. option_map_or test x false) (stays found.0 found.1) ∙ found.2

-- the citations of ops are those of their grants
ops-cite : (ops : List Op) (op : Op) → Has ops op → (grant : Grant) → Has op.grants grant → Has (cited_in_ops ops) (cited_grant grant)
ops-cite [] op has grant has_grant = absurd has
ops-cite (first ∷ ops) op (inl same) grant has_grant =
    append-Has (map cited_grant first.grants) (cited_in_ops ops) (cited_grant grant)
    (inl (subst (λ (o : Op). Has (map cited_grant o.grants) (cited_grant grant)) (sym same) (map-Has cited_grant op.grants grant has_grant)))
ops-cite (first ∷ ops) op (inr has) grant has_grant = append-Has (map cited_grant first.grants) (cited_in_ops ops) (cited_grant grant) (inr (ops-cite ops op has grant has_grant))

cited-op : (ops : List Op) (c : Citation) → Has (cited_in_ops ops) c → (op : Op) × Has ops op × (grant : Grant) × Has op.grants grant × (cited_grant grant ≡ c)
cited-op [] c has = absurd has
cited-op (op ∷ ops) c has =
    elim (Has-append (map cited_grant op.grants) (cited_in_ops ops) c has) [
      | inl here ↦ let from = Has-map cited_grant op.grants c here in (op, inl refl, from.0, from.1, from.2)
      | inr there ↦ let from = cited-op ops c there in (from.0, inr from.1, from.2, from.3, from.4)
    ]

-- ---- a step is founded in another world in which the entries stand that it cites

module _ (world other : JournalsView) where
  grant_stays : (txn : ℕ) (file : List ℕ) (grant : Grant) → Stays world other (cited_grant grant) → is_founded_grant world txn file grant ≡ true → is_founded_grant other txn file grant ≡ true
  grant_stays txn file grant stays is = test_stays (λ (e : NodeEntry). is_granted txn file grant e.ask e.reply) (server_entry world grant.server grant.number) (server_entry other grant.server grant.number) stays is

  vote_stays : (txn : ℕ) (vote : Vote) → Stays world other (cited_vote vote) → is_founded_vote world txn vote ≡ true → is_founded_vote other txn vote ≡ true
  vote_stays txn vote stays is = test_stays (λ (e : NodeEntry). is_voted txn vote e.ask e.reply) (server_entry world vote.server vote.number) (server_entry other vote.server vote.number) stays is

  work_stays : (ask : WorkAsk) → ((c : Citation) → Has (option_to_list (cited_in_work ask)) c → Stays world other c) → unfounded_in_work world ask ≡ None → unfounded_in_work other ask ≡ None
  work_stays (work.Decide txn verdict cite) stay none =
      ap (λ b. unless b (record { part = parts.Desk; number = cite }))
      (test_stays (λ (e : DeskEntry). is_ended txn verdict e.ask e.reply) (item_at world.desk cite) (item_at other.desk cite)
      (stay (record { part = parts.Desk; number = cite }) (inl refl)) (unless_none (is_founded_verdict world txn verdict cite) _ none))
  work_stays (work.Refresh file version content from) stay none =
      ap (λ b. unless b (record { part = parts.Server from.server; number = from.number }))
      (test_stays (λ (e : NodeEntry). is_peeked file version content e.ask e.reply) (server_entry world from.server from.number) (server_entry other from.server from.number)
      (stay (record { part = parts.Server from.server; number = from.number }) (inl refl)) (unless_none (is_founded_copy world file version content from) _ none))
  work_stays ask stay none = refl

  pub founded_stays : (step : Step) → ((c : Citation) → Has (cited_in step) c → Stays world other c) → unfounded_citation world step ≡ None → unfounded_citation other step ≡ None
  founded_stays (steps.Node server (node_asks.Work ask)) stay none = work_stays ask stay none
  founded_stays (steps.Node server (node_asks.CrashIn after ask)) stay none = work_stays ask stay none
  founded_stays (steps.Desk (desk_asks.Commit txn ops votes)) stay none =
      let both = or_else-none (unfounded_op world txn ops) (unfounded_vote world txn votes) none in
      commit-founded other txn ops votes
      (λ op has grant has_grant.
      grant_stays txn op.file grant (stay (cited_grant grant) (append-Has (cited_in_ops ops) (map cited_vote votes) (cited_grant grant) (inl (ops-cite ops op has grant has_grant))))
      (ops-are world txn ops both.0 op has grant has_grant))
      (λ vote has.
      vote_stays txn vote (stay (cited_vote vote) (append-Has (cited_in_ops ops) (map cited_vote votes) (cited_vote vote) (inr (map-Has cited_vote votes vote has))))
      (votes-are world txn votes both.1 vote has))
  founded_stays step stay none = refl

-- ---- where a step is founded, each entry stands that it cites

module _ (world : JournalsView) where
  work_stands : (ask : WorkAsk) → unfounded_in_work world ask ≡ None → (c : Citation) → Has (option_to_list (cited_in_work ask)) c → Stands world c
  work_stands (work.Decide txn verdict cite) none c (inl same) =
      let found = tested-is (λ (e : DeskEntry). is_ended txn verdict e.ask e.reply) (item_at world.desk cite) (unless_none (is_founded_verdict world txn verdict cite) _ none) in
      subst (Stands world) same (found.0, found.1)
  work_stands (work.Decide txn verdict cite) none c (inr has) = absurd has
  work_stands (work.Refresh file version content from) none c (inl same) =
      let found = tested-is (λ (e : NodeEntry). is_peeked file version content e.ask e.reply) (server_entry world from.server from.number) (unless_none (is_founded_copy world file version content from) _ none) in
      subst (Stands world) same (found.0, found.1)
  work_stands (work.Refresh file version content from) none c (inr has) = absurd has
  work_stands ask none c has = absurd has

  pub cited_stands : (step : Step) → unfounded_citation world step ≡ None → (c : Citation) → Has (cited_in step) c → Stands world c
  cited_stands (steps.Node server (node_asks.Work ask)) none c has = work_stands ask none c has
  cited_stands (steps.Node server (node_asks.CrashIn after ask)) none c has = work_stands ask none c has
  cited_stands (steps.Desk (desk_asks.Commit txn ops votes)) none c has =
      let both = or_else-none (unfounded_op world txn ops) (unfounded_vote world txn votes) none in
      elim (Has-append (cited_in_ops ops) (map cited_vote votes) c has) [
        | inl here ↦
            let from = cited-op ops c here in
            let g = from.2 in
            let found = tested-is (λ (e : NodeEntry). is_granted txn from.0.file g e.ask e.reply) (server_entry world g.server g.number) (ops-are world txn ops both.0 from.0 from.1 g from.3) in
            subst (Stands world) from.4 (found.0, found.1)
        | inr there ↦
            let from = Has-map cited_vote votes c there in
            let v = from.0 in
            let found = tested-is (λ (e : NodeEntry). is_voted txn v e.ask e.reply) (server_entry world v.server v.number) (votes-are world txn votes both.1 v from.1) in
            subst (Stands world) from.2 (found.0, found.1)
      ]
  cited_stands step none c has = absurd has

-- ---- the first entries of journals

module _ (journals : JournalsView) where
  -- an entry among the first of a server
  pub entry_of_firsts : (count : Part → ℕ) (server number : ℕ) (e : NodeEntry) → server_entry (firsts journals count) server number ≡ Some e
      → (server_entry journals server number ≡ Some e) × (number ≤ count (parts.Server server))
  entry_of_firsts count server number e is =
      by (item_at journals.servers server)
      (ap (λ (o : Option (List NodeEntry)). option_and_then (λ entries. item_at entries number) o) (sym (item_each (λ n (entries : List NodeEntry). take (count (parts.Server n)) entries) journals.servers server)) ∙ is)
    where
      by : (o : Option (List NodeEntry)) → option_and_then (λ entries. item_at entries number) (option_map (λ (entries : List NodeEntry). take (count (parts.Server server)) entries) o) ≡ Some e
          → (option_and_then (λ entries. item_at entries number) o ≡ Some e) × (number ≤ count (parts.Server server))
      by None some = absurd (let none : Path (Option NodeEntry) None (Some e) = some in cc)
      by (Some entries) some = first_item entries (count (parts.Server server)) number e some

  pub entry_in_firsts : (count : Part → ℕ) (server number : ℕ) (e : NodeEntry) → server_entry journals server number ≡ Some e → number ≤ count (parts.Server server)
      → server_entry (firsts journals count) server number ≡ Some e
  entry_in_firsts count server number e is most =
      ap (λ (o : Option (List NodeEntry)). option_and_then (λ entries. item_at entries number) o) (item_each (λ n (entries : List NodeEntry). take (count (parts.Server n)) entries) journals.servers server)
      ∙ by (item_at journals.servers server) is
    where
      by : (o : Option (List NodeEntry)) → option_and_then (λ entries. item_at entries number) o ≡ Some e
          → option_and_then (λ entries. item_at entries number) (option_map (λ (entries : List NodeEntry). take (count (parts.Server server)) entries) o) ≡ Some e
      by None some = some
      by (Some entries) some = item_first entries (count (parts.Server server)) number e some most

  more_stays : (count other : Part → ℕ) (part : Part) (number : ℕ) → count part ≤ other part → StaysAt (firsts journals count) (firsts journals other) part number
  more_stays count other (parts.Server server) number less = λ e is.
      let there = entry_of_firsts count server number e is in
      entry_in_firsts other server number e there.0 (omega (arith, there.1, less))
  more_stays count other parts.Desk number less = λ e is.
      let there = first_item journals.desk (count parts.Desk) number e is in
      item_first journals.desk (other parts.Desk) number e there.0 (omega (arith, there.1, less))
  more_stays count other parts.View number less = λ e is.
      let there = first_item journals.view (count parts.View) number e is in
      item_first journals.view (other parts.View) number e there.0 (omega (arith, there.1, less))

  -- what is founded in the first entries is founded in more of them
  pub founded_more : (count other : Part → ℕ) (step : Step) → ((part : Part) → count part ≤ other part) → unfounded_citation (firsts journals count) step ≡ None → unfounded_citation (firsts journals other) step ≡ None
  founded_more count other step less none = founded_stays (firsts journals count) (firsts journals other) step (λ c has. more_stays count other c.part c.number (less c.part)) none

  whole_stays : (count : Part → ℕ) (part : Part) (number : ℕ) → StaysAt (firsts journals count) journals part number
  whole_stays count (parts.Server server) number = λ e is. (entry_of_firsts count server number e is).0
  whole_stays count parts.Desk number = λ e is. (first_item journals.desk (count parts.Desk) number e is).0
  whole_stays count parts.View number = λ e is. (first_item journals.view (count parts.View) number e is).0

  first_stays : (count : Part → ℕ) (part : Part) (number : ℕ) → number ≤ count part → StaysAt journals (firsts journals count) part number
  first_stays count (parts.Server server) number most = λ e is. entry_in_firsts count server number e is most
  first_stays count parts.Desk number most = λ e is. item_first journals.desk (count parts.Desk) number e is most
  first_stays count parts.View number most = λ e is. item_first journals.view (count parts.View) number e is most

  first_stands : (count : Part → ℕ) (part : Part) (number : ℕ) → StandsAt (firsts journals count) part number → number ≤ count part
  first_stands count (parts.Server server) number stands = (entry_of_firsts count server number stands.0 stands.1).1
  first_stands count parts.Desk number stands = (first_item journals.desk (count parts.Desk) number stands.0 stands.1).1
  first_stands count parts.View number stands = absurd stands

  -- A step is founded in the first entries exactly where it is founded in all of them and cites these alone.
  pub founded_whole : (count : Part → ℕ) (step : Step) → unfounded_citation (firsts journals count) step ≡ None → unfounded_citation journals step ≡ None
  founded_whole count step none = founded_stays (firsts journals count) journals step (λ c has. whole_stays count c.part c.number) none

  pub founded_cites : (count : Part → ℕ) (step : Step) → unfounded_citation (firsts journals count) step ≡ None → (c : Citation) → Has (cited_in step) c → c.number ≤ count c.part
  founded_cites count step none c has = first_stands count c.part c.number (cited_stands (firsts journals count) step none c has)

  pub founded_firsts : (count : Part → ℕ) (step : Step) → unfounded_citation journals step ≡ None → ((c : Citation) → Has (cited_in step) c → c.number ≤ count c.part) → unfounded_citation (firsts journals count) step ≡ None
  founded_firsts count step none most = founded_stays journals (firsts journals count) step (λ c has. first_stays count c.part c.number (most c has)) none
