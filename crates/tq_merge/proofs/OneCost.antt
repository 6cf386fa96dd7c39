-- Two parts that reply the same to asks of a kind: a journal of such asks is legal of the one as of the other, and the
-- same entry is the first wrong one. Where each SetCost has two equal costs, the view replies for either purpose what
-- it replied while a server had one cost. Journals in which each SetCost has two equal costs are explained, wrong and
-- stuck where they were by one cost.
use Rattle.std.proofs.Common.{◌≡◌, ◌↔◌, ◌+◌, ◌-◌, ℕ, List, [], ◌∷◌, take, Some, sym, subst, ◌∙◌, ◌^◌, ◌==◌, zero, suc, Bool, true, false, cond, map, Option, None, get_or, sum_by, refl, ap}
use Rattle.std.proofs.lemmas.List.Elements.{All-head, All-tail, All-take, All-get_or, All-nil, All-push}
use Rattle.std.{proofs.lemmas.Option.{slice_get_within, get_or_from_slice_get}, specs.List.All}
use Rattle.tq_shape.specs.{declared.part.Entry.Entry, Journal.{state_from, IsLegalFrom, entry}, Tree.height_of}
use Rattle.tq_shape.specs.declared.part.Part.{Part}
use Rattle.tq_core.{specs.World.item_at, proofs.Journaled.item_above}
use Rattle.tq_merge.specs.{Wrong.{IsFirstWrong, IsWrong, IsWrongOfView}, declared.fault.Counts.Counts}
use Rattle.tq_merge.specs.OneCost.{TreeByOne, cost_by_one, up_by_one, best_by_one, choice_by_one, reply_by_one, cost_told, cost_since, journal_cost, tree_by_one, told_by_one, grown_by_one, AreEqual, IsLegalViewByOne, AreLegalByOne, IsWrongByOne, ExplainsByOne, IsStuckByOne, HasEqualCosts, AgreesByOne}
use Rattle.tq_merge.specs.Order.{Explains, IsStuck}
use mathlib.Core.Bool.{and_self}
use Rattle.tq_shape.proofs.Tree.{height_of-one}
use Rattle.tq_live.specs.{Live.{Live, cost_of, best}, Least.least_member, Costs.{even_costs, cost_to}}
use Rattle.tq_live.specs.View.{view_reply, view_after, view_state, view_reply_at, view_after_at, choice_reply, costs_told, costs_since, journal_costs, is_server, is_cost, are_costs, upwards, IsLegalView}
use Rattle.tq_live.specs.declared.{purpose.Purpose.{Purpose, TheVariants.{Read, Write}}, costs.Costs.Costs}
use Rattle.tq_live.specs.declared.view.{ViewAsk.{ViewAsk, TheVariants.{SetCost, Mark, Choose}}, ViewReply.ViewReply}
use Rattle.tq_live.specs.declared.view.ViewReply.TheVariants.{CostSet, Chosen, Refused}
use Rattle.tq_live.{specs.declared.view.ViewRefusal.TheVariants.{NoSuchServer, BadCost}, proofs.Journal.journal_goes_on}
use Rattle.tq_tables.specs.{Journals.{ViewEntry, JournalsView}, Parts.AreLegal}
use Rattle.tq_shape.specs.declared.part.Part.TheVariants as parts

-- what holds of each item holds of the one of a number
all_at : {E : Type 0} (P : E → Type 0) (items : List E) (number : ℕ) (x : E) → All P items → item_at items number ≡ Some x → P x
all_at P items number x all is =
    let there = item_above items number x is in
    subst P (get_or_from_slice_get items (number - 1) x x there.1)
    (All-get_or P items (number - 1) x (slice_get_within items (number - 1) x there.1) all)

-- A part, and another one; which of their states are alike; and the asks to which they reply the same then.
module _ {S T A R : Type 0} (reply : S → ℕ → A → R) (after : S → ℕ → A → S) (other : T → ℕ → A → R) (next : T → ℕ → A → T)
    (Like : S → T → Type 0) (Fits : A → Type 0)
    (same : (s : S) (t : T) (n : ℕ) (ask : A) → Like s t → Fits ask → reply s n ask ≡ other t n ask)
    (goes : (s : S) (t : T) (n : ℕ) (ask : A) → Like s t → Fits ask → Like (after s n ask) (next t n ask)) where
  legal_there : (s : S) (t : T) (n : ℕ) (entries : List (Entry A R)) → All (λ (e : Entry A R). Fits e.ask) entries → Like s t → IsLegalFrom reply after s n entries → IsLegalFrom other next t n entries
  legal_there s t n [] fit like legal = tt
  legal_there s t n (e ∷ entries) fit like legal =
      let fits = All-head (λ (x : Entry A R). Fits x.ask) e entries fit in (
        legal.0 ∙ same s t n e.ask like fits,
        legal_there (after s n e.ask) (next t n e.ask) (n + 1) entries (All-tail (λ (x : Entry A R). Fits x.ask) e entries fit) (goes s t n e.ask like fits) legal.1,
      )

  legal_back : (s : S) (t : T) (n : ℕ) (entries : List (Entry A R)) → All (λ (e : Entry A R). Fits e.ask) entries → Like s t → IsLegalFrom other next t n entries → IsLegalFrom reply after s n entries
  legal_back s t n [] fit like legal = tt
  legal_back s t n (e ∷ entries) fit like legal =
      let fits = All-head (λ (x : Entry A R). Fits x.ask) e entries fit in (
        legal.0 ∙ sym (same s t n e.ask like fits),
        legal_back (after s n e.ask) (next t n e.ask) (n + 1) entries (All-tail (λ (x : Entry A R). Fits x.ask) e entries fit) (goes s t n e.ask like fits) legal.1,
      )

  alike_after : (s : S) (t : T) (n : ℕ) (entries : List (Entry A R)) → All (λ (e : Entry A R). Fits e.ask) entries → Like s t → Like (state_from after s n entries) (state_from next t n entries)
  alike_after s t n [] fit like = like
  alike_after s t n (e ∷ entries) fit like =
      alike_after (after s n e.ask) (next t n e.ask) (n + 1) entries (All-tail (λ (x : Entry A R). Fits x.ask) e entries fit)
      (goes s t n e.ask like (All-head (λ (x : Entry A R). Fits x.ask) e entries fit))

  -- journals of such asks, from states that are alike
  module _ (s : S) (t : T) (entries : List (Entry A R)) (fit : All (λ (e : Entry A R). Fits e.ask) entries) (like : Like s t) where
    pub legal_same : IsLegalFrom reply after s 1 entries ↔ IsLegalFrom other next t 1 entries
    legal_same = (legal_there s t 1 entries fit like, legal_back s t 1 entries fit like)

    first_fit : (number : ℕ) → All (λ (e : Entry A R). Fits e.ask) (take (number - 1) entries)
    first_fit number = All-take (λ (e : Entry A R). Fits e.ask) (number - 1) entries fit

    reply_same : (number : ℕ) (e : Entry A R) → item_at entries number ≡ Some e
        → reply (state_from after s 1 (take (number - 1) entries)) number e.ask ≡ other (state_from next t 1 (take (number - 1) entries)) number e.ask
    reply_same number e is =
        same (state_from after s 1 (take (number - 1) entries)) (state_from next t 1 (take (number - 1) entries)) number e.ask
        (alike_after s t 1 (take (number - 1) entries) (first_fit number) like)
        (all_at (λ (x : Entry A R). Fits x.ask) entries number e fit is)

    wrong_there : (number : ℕ) → IsFirstWrong reply after s entries number → IsFirstWrong other next t entries number
    wrong_there number first = record {
      entry = first.entry;
      is_there = first.is_there;
      legal_before = legal_there s t 1 (take (number - 1) entries) (first_fit number) like first.legal_before;
      wrong = λ is. first.wrong (is ∙ sym (reply_same number first.entry first.is_there));
    }

    wrong_back : (number : ℕ) → IsFirstWrong other next t entries number → IsFirstWrong reply after s entries number
    wrong_back number first = record {
      entry = first.entry;
      is_there = first.is_there;
      legal_before = legal_back s t 1 (take (number - 1) entries) (first_fit number) like first.legal_before;
      wrong = λ is. first.wrong (is ∙ reply_same number first.entry first.is_there);
    }

    pub wrong_same : (number : ℕ) → IsFirstWrong reply after s entries number ↔ IsFirstWrong other next t entries number
    wrong_same number = (wrong_there number, wrong_back number)

-- ---- one cost view

-- the tree in which each server has its cost for both purposes
abbrev pub twice : TreeByOne → Live
twice tree = record { levels = tree.levels; costs = map even_costs tree.costs; up = tree.up }

-- ---- the same costs, and so the same best quorum

even_at : (costs : List ℕ) (place : ℕ) → get_or (map even_costs costs) place (even_costs 0) ≡ even_costs (get_or costs place 0)
even_at [] place = refl
even_at (cost ∷ costs) zero = refl
even_at (cost ∷ costs) (suc place) = even_at costs place

to_even : (purpose : Purpose) (cost : ℕ) → cost_to purpose (even_costs cost) ≡ cost
to_even Read cost = refl
to_even Write cost = refl

same_cost : (tree : TreeByOne) (purpose : Purpose) → cost_of (twice tree) purpose ≡ cost_by_one tree
same_cost tree purpose = λ i. λ server. (ap (cost_to purpose) (even_at tree.costs (server - 1)) ∙ to_even purpose (cost_by_one tree server)) i

same_best : (tree : TreeByOne) (purpose : Purpose) → best (twice tree) purpose 1 ≡ best_by_one tree
same_best tree purpose =
    ap (λ (cost : ℕ → ℕ). least_member cost (up_by_one tree) (height_of tree.levels 1) 1) (same_cost tree purpose)
    ∙ ap (λ (height : ℕ). least_member (cost_by_one tree) (up_by_one tree) height 1) (height_of-one tree.levels)

-- ---- the same replies

same_choice : (tree : TreeByOne) (purpose : Purpose) (found : Option (List ℕ)) → choice_reply (twice tree) purpose found ≡ choice_by_one tree found
same_choice tree purpose None = refl
same_choice tree purpose (Some servers) = ap (λ (cost : ℕ → ℕ). Chosen (record { servers = servers; levels = tree.levels }) (sum_by cost servers)) (same_cost tree purpose)

pub same_reply : (tree : TreeByOne) (ask : ViewAsk) → AreEqual ask → view_reply (twice tree) ask ≡ reply_by_one tree ask
same_reply tree (SetCost server read write) equal =
    ap (λ (good : Bool). cond (is_server tree.levels server) (cond good CostSet (Refused BadCost)) (Refused NoSuchServer))
    (ap (are_costs read) (sym equal) ∙ and_self (is_cost read))
same_reply tree (Mark server up) equal = refl
same_reply tree (Choose purpose) equal = ap (choice_reply (twice tree) purpose) (same_best tree purpose) ∙ same_choice tree purpose (best_by_one tree)

-- ---- the same costs after entries

told_even : (server : ℕ) (ask : ViewAsk) (reply : ViewReply) (before : ℕ) → AreEqual ask → costs_told server ask reply (even_costs before) ≡ even_costs (cost_told server ask reply before)
told_even server (SetCost other read write) CostSet before equal = by (other == server)
  where
    by : (here : Bool) → Path Costs (cond here (record { read = read; write = write }) (even_costs before)) (even_costs (cond here read before))
    by true = ap (λ (cost : ℕ). let costs : Costs = record { read = read; write = cost } in costs) (sym equal)
    by false = refl
told_even server ask reply before equal = refl

abbrev pub HasEqual : ViewEntry → Type 0
HasEqual entry = AreEqual entry.ask

since_even : (server before : ℕ) (journal : List ViewEntry) → All HasEqual journal → costs_since server (even_costs before) journal ≡ even_costs (cost_since server before journal)
since_even server before [] equal = refl
since_even server before (e ∷ journal) equal =
    ap (λ (costs : Costs). costs_since server costs journal) (told_even server e.ask e.reply before (All-head HasEqual e journal equal))
    ∙ since_even server (cost_told server e.ask e.reply before) journal (All-tail HasEqual e journal equal)

map_even : (journal : List ViewEntry) → All HasEqual journal → (servers : List ℕ) → map (journal_costs journal) servers ≡ map even_costs (map (journal_cost journal) servers)
map_even journal equal [] = refl
map_even journal equal (server ∷ servers) = λ i. since_even server 1 journal equal i ∷ map_even journal equal servers i

pub state_even : (levels : ℕ) (journal : List ViewEntry) → All HasEqual journal → view_state levels journal ≡ twice (tree_by_one levels journal)
state_even levels journal equal =
    let tree = tree_by_one levels journal in
    ap (λ (costs : List Costs). let live : Live = record { levels = levels; costs = costs; up = tree.up } in live) (map_even journal equal (upwards 1 (2 ^ levels - 1)))

-- ---- where the view stands after entries

-- the view stands where these entries leave it, each SetCost of them has two equal costs
pub record StandsAt (levels : ℕ) (live : Live) (journal : List ViewEntry) : Type 0 where
  pub is : live ≡ view_state levels journal
  pub equal : All HasEqual journal

pub starts : (levels : ℕ) → StandsAt levels (view_state levels []) []
starts levels = record { is = refl; equal = All-nil HasEqual }

pub told_same : (levels : ℕ) (live : Live) (journal : List ViewEntry) (number : ℕ) (ask : ViewAsk) → StandsAt levels live journal → AreEqual ask
    → view_reply_at live number ask ≡ told_by_one levels journal number ask
told_same levels live journal number ask stands equal =
    ap (λ (l : Live). view_reply l ask) (stands.is ∙ state_even levels journal stands.equal) ∙ same_reply (tree_by_one levels journal) ask equal

pub goes_on : (levels : ℕ) (live : Live) (journal : List ViewEntry) (number : ℕ) (ask : ViewAsk) → StandsAt levels live journal → AreEqual ask
    → StandsAt levels (view_after_at live number ask) (grown_by_one levels journal number ask)
goes_on levels live journal number ask stands equal =
    let told = told_by_one levels journal number ask in
    record {
      is = journal_goes_on live ask told (view_after live ask) (sym (told_same levels live journal number ask stands equal)) refl levels journal stands.is;
      equal = All-push HasEqual journal (entry ask told) stands.equal equal;
    }

-- ---- one cost

module _ (journals : JournalsView) (equal : HasEqualCosts journals) where
  legal_view : IsLegalView journals.levels journals.view ↔ IsLegalViewByOne journals.levels journals.view
  legal_view =
      legal_same view_reply_at view_after_at (told_by_one journals.levels) (grown_by_one journals.levels) (StandsAt journals.levels) AreEqual
      (told_same journals.levels) (goes_on journals.levels) (view_state journals.levels []) [] journals.view equal (starts journals.levels)

  wrong_view : (number : ℕ) → IsWrongOfView journals.levels journals.view number ↔ IsFirstWrong (told_by_one journals.levels) (grown_by_one journals.levels) [] journals.view number
  wrong_view =
      wrong_same view_reply_at view_after_at (told_by_one journals.levels) (grown_by_one journals.levels) (StandsAt journals.levels) AreEqual
      (told_same journals.levels) (goes_on journals.levels) (view_state journals.levels []) [] journals.view equal (starts journals.levels)

  legal_by_one : AreLegal journals → AreLegalByOne journals
  legal_by_one legal = record { servers = legal.servers; desk = legal.desk; view = legal_view.0 legal.view }

  legal_by_both : AreLegalByOne journals → AreLegal journals
  legal_by_both legal = record { servers = legal.servers; desk = legal.desk; view = legal_view.1 legal.view }

  explains_there : (order : List Part) → Explains journals order → ExplainsByOne journals order
  explains_there order is = record { legal = legal_by_one is.legal; all = is.all; founded = is.founded }

  explains_back : (order : List Part) → ExplainsByOne journals order → Explains journals order
  explains_back order is = record { legal = legal_by_both is.legal; all = is.all; founded = is.founded }

  wrong_part : (part : Part) (number : ℕ) → IsWrong journals part number ↔ IsWrongByOne journals part number
  wrong_part parts.View number = (
    λ is. (is.0, is.1, (wrong_view number).0 is.2),
    λ is. (is.0, is.1, (wrong_view number).1 is.2),
  )
  wrong_part part number = (λ is. is, λ is. is)

  stuck_there : (counts : Counts) → IsStuck journals counts → IsStuckByOne journals counts
  stuck_there counts is = record {
    legal = legal_by_one is.legal;
    order = is.order;
    founded = is.founded;
    counted = is.counted;
    blocked = is.blocked;
    greatest = is.greatest;
    none = λ other explains. is.none other (explains_back other explains);
  }

  stuck_back : (counts : Counts) → IsStuckByOne journals counts → IsStuck journals counts
  stuck_back counts is = record {
    legal = legal_by_both is.legal;
    order = is.order;
    founded = is.founded;
    counted = is.counted;
    blocked = is.blocked;
    greatest = is.greatest;
    none = λ other explains. is.none other (explains_there other explains);
  }

  pub agrees : AgreesByOne journals
  agrees = record {
    explains = λ order. (explains_there order, explains_back order);
    wrong = wrong_part;
    stuck = λ counts. (stuck_there counts, stuck_back counts);
  }
