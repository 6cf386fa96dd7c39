-- Prefixes that grow by entries of a part, beside the tables over them.
use Rattle.std.proofs.Common.{◌≡◌, ◌<◌, ◌≤◌, ◌+◌, ◌-◌, ◌^◌, ◌↔◌, ℕ, zero, suc, Option, None, Some, Bool, false, IsTrue, List, [], ◌∷◌, ◌++◌, length, map, set, get_or, take, drop, replicate, refl, sym, ap, inl, subst, ◌∙◌, arith, append_assoc, append-nil}
use Rattle.std.proofs.{Math.Seq.drop-append_seam, lemmas.Bool.iff_false, lemmas.Nat.pow_pos}
use Rattle.std.proofs.lemmas.List.{get_or-map, length-map, length-set, length-take-le, length-replicate, length_push, map-set, take_all, set-set, set-get_or, get_or-set_same, length-append}
use Rattle.std.specs.Prelude.{reverse, IfErr, IfOk, IfSome, MatchOption, OnErr, Result, Ok, Err}
use Rattle.std.specs.Result.{IsErrAnd, result_unwrap_or}
use Rattle.tq_shape.specs.{Limits.LimitsView, Tree.IsServer, Journal.{IsLegalFrom, state_from}, declared.part.Part.Part}
use Rattle.tq_shape.proofs.Joined.{legal-reverse, reverse-legal}
use Rattle.tq_shape.specs.declared.part.Part.TheVariants as parts
use Rattle.tq_asks.specs.declared.ask.{NodeAsk.NodeAsk, NodeReply.NodeReply}
use Rattle.tq_node.specs.{Records.{NodeState, node_reply, node_after}, Node.{NodeView, server_after}}
use Rattle.tq_node.specs.NodeJournal.{NodeEntry, IsLegalNode, nothing_stored}
use Rattle.tq_desk.specs.DeskStep.{desk_reply}
use Rattle.tq_desk.specs.DeskJournal.{DeskEntry, IsLegalDesk, step_reply, step_after, opened_desk}
use Rattle.tq_desk.specs.DeskStep as desk
use Rattle.tq_live.specs.{Live.Live, View.{IsLegalView, view_state, view_reply, view_reply_at, view_after_at}}
use Rattle.tq_live.proofs.Journal.{replays}
use Rattle.tq_tables.{proofs.{RowLaws.answered-push, Restood.{is_there, node_in-at, node_is}}, specs.Tabled.journals_in}
use Rattle.tq_tables.specs.Tables.{MayAskDesk, MayAskNode, node_in, entries_of, with_node, TablesView, tables_of}
use Rattle.tq_tables.specs.Journals.{JournalsView, ViewEntry, with_desk, with_view, no_entries}
use Rattle.tq_tables.specs.Parts.{AreLegal, AreLegalServers, bounds_of, node_after_all, desk_at, view_at}
use Rattle.tq_mirror.specs.declared.{entries.Entries.Entries, fault.PullFault.PullFault}
use Rattle.tq_mirror.specs.Prefixes.{GivesNext, IsForeign, IsPartOf, IsPullFault, IsTaken, count_of, prefix_length, server_prefix, journals_with, AreAhead, AreKept, AreLed}
use Rattle.tq_mirror.proofs.Led.{Grows, Led, legal-joined, state-joined}
use Rattle.tq_mirror.specs.declared.entries.Entries.TheVariants as entries

-- ---- legal journals of servers

legal-at : (first : ℕ) (servers : List (List NodeEntry)) (place : ℕ) → AreLegalServers first servers → place < length servers → IsLegalNode (first + place) (reverse (get_or servers place []))
legal-at first [] place legal less = absurd (omega arith)
legal-at first (x ∷ servers) zero legal less = subst (λ (n : ℕ). IsLegalNode n (reverse x)) (omega arith) legal.0
legal-at first (x ∷ servers) (suc place) legal less =
    subst (λ (n : ℕ). IsLegalNode n (reverse (get_or servers place []))) (omega arith) (legal-at (first + 1) servers place legal.1 (omega arith))

legal-set : (first : ℕ) (servers : List (List NodeEntry)) (place : ℕ) (es : List NodeEntry) → AreLegalServers first servers → IsLegalNode (first + place) (reverse es) → AreLegalServers first (set servers place es)
legal-set first [] place es legal one = tt
legal-set first (x ∷ servers) zero es legal one = (subst (λ (n : ℕ). IsLegalNode n (reverse es)) (omega arith) one, legal.1)
legal-set first (x ∷ servers) (suc place) es legal one =
    (legal.0, legal-set (first + 1) servers place es legal.1 (subst (λ (n : ℕ). IsLegalNode n (reverse es)) (omega arith) one))

-- ---- one part after more entries

server-led : (levels number : ℕ) (es more : List NodeEntry)
    → state_from (λ (s : NodeView) (n : ℕ) (a : NodeAsk). server_after s n a) (node_after_all levels number es) (length es + 1) more ≡ node_after_all levels number (es ++ more)
server-led levels number es [] = ap (node_after_all levels number) (sym (append-nil es))
server-led levels number es (e ∷ more) =
    let next = es ++ e ∷ [] in
    let step : server_after (node_after_all levels number es) (length es + 1) e.ask ≡ node_after_all levels number next =
    ap (λ (k : ℕ). server_after (node_after_all levels number es) k e.ask) (omega arith) ∙ answered-push levels number es e in
    let longer = length_push es e in
    let count : length es + 1 + 1 ≡ length next + 1 = omega (arith, longer) in
    (λ i. state_from (λ (s : NodeView) (n : ℕ) (a : NodeAsk). server_after s n a) (step i) (count i) more)
    ∙ server-led levels number next more
    ∙ ap (node_after_all levels number) (append_assoc es (e ∷ []) more)

-- what a server gives says nothing of its tree and of the last number
from_state : (s : NodeView) (n : ℕ) (es : List NodeEntry) → IsLegalFrom (λ (v : NodeView) (k : ℕ) (a : NodeAsk). node_reply v.server v.state a) (λ v k a. server_after v k a) s n es
    → IsLegalFrom (λ (old : NodeState) (k : ℕ) (a : NodeAsk). node_reply s.server old a) (node_after s.server) s.state n es
from_state s n [] legal = tt
from_state s n (e ∷ es) legal = (legal.0, from_state (server_after s n e.ask) (n + 1) es legal.1)

server-legal : (levels number : ℕ) (es more : List NodeEntry) → IsLegalNode number (reverse es)
    → IsLegalFrom (λ (v : NodeView) (k : ℕ) (a : NodeAsk). node_reply v.server v.state a) (λ v k a. server_after v k a) (node_after_all levels number es) (length es + 1) more
    → IsLegalNode number (reverse (es ++ more))
server-legal levels number es more legal gives =
    let reply : NodeState → ℕ → NodeAsk → NodeReply = λ old k a. node_reply number old a in
    legal-reverse reply (node_after number) nothing_stored (es ++ more)
    (legal-joined reply (node_after number) nothing_stored 1 es more (reverse-legal reply (node_after number) nothing_stored es legal)
    (from_state (node_after_all levels number es) (length es + 1) more gives))

desk-led : (levels : ℕ) (limits : LimitsView) (es more : List DeskEntry) → state_from step_after (desk_at levels limits es) (length es + 1) more ≡ desk_at levels limits (es ++ more)
desk-led levels limits es more = sym (state-joined step_reply step_after (desk.opening_desk levels limits) 1 es more)

desk-legal : (levels : ℕ) (limits : LimitsView) (es more : List DeskEntry) → IsLegalDesk (bounds_of levels limits) (reverse es)
    → IsLegalFrom step_reply step_after (desk_at levels limits es) (length es + 1) more → IsLegalDesk (bounds_of levels limits) (reverse (es ++ more))
desk-legal levels limits es more legal gives =
    let o = opened_desk (bounds_of levels limits) in
    legal-reverse step_reply step_after o (es ++ more) (legal-joined step_reply step_after o 1 es more (reverse-legal step_reply step_after o es legal) gives)

view-legal : (levels : ℕ) (es more : List ViewEntry) → IsLegalView levels es → IsLegalFrom view_reply_at view_after_at (view_at levels es) (length es + 1) more → IsLegalView levels (es ++ more)
view-legal levels es more legal gives =
    legal-joined view_reply_at view_after_at (view_state levels []) 1 es more legal
    (subst (λ (v : Live). IsLegalFrom view_reply_at view_after_at v (length es + 1) more) (sym (replays levels es legal)) gives)

view-led : (levels : ℕ) (es more : List ViewEntry) → IsLegalView levels es → IsLegalView levels (es ++ more)
    → state_from view_after_at (view_at levels es) (length es + 1) more ≡ view_at levels (es ++ more)
view-led levels es more legal all =
    ap (λ (v : Live). state_from view_after_at v (length es + 1) more) (sym (replays levels es legal))
    ∙ sym (state-joined view_reply_at view_after_at (view_state levels []) 1 es more)
    ∙ replays levels (es ++ more) all

-- ---- prefixes that grow

pub desk_grows : (w : JournalsView) → AreLegal w
    → Grows desk_reply step_after (desk_at w.levels w.limits w.desk) (length w.desk + 1) (λ (more : List DeskEntry). journals_with w parts.Desk (entries.Desk more)) with_desk (λ (t : TablesView). t.desk)
desk_grows w legal =
    record {
      legal = λ more gives. record { servers = legal.servers; desk = desk-legal w.levels w.limits w.desk more legal.desk gives; view = legal.view };
      shows = λ more gives. sym (desk-led w.levels w.limits w.desk more);
      one_more = λ more e. ap (λ (all : List DeskEntry). let o : JournalsView = record w { desk = all } in o) (append_assoc w.desk more (e ∷ []));
    }

pub view_grows : (w : JournalsView) → AreLegal w
    → Grows view_reply view_after_at (view_at w.levels w.view) (length w.view + 1) (λ (more : List ViewEntry). journals_with w parts.View (entries.View more)) with_view (λ (t : TablesView). t.view)
view_grows w legal =
    record {
      legal = λ more gives. record { servers = legal.servers; desk = legal.desk; view = view-legal w.levels w.view more legal.view gives };
      shows = λ more gives. sym (view-led w.levels w.view more legal.view (view-legal w.levels w.view more legal.view gives));
      one_more = λ more e. ap (λ (all : List ViewEntry). let o : JournalsView = record w { view = all } in o) (append_assoc w.view more (e ∷ []));
    }

-- what a server replies, and the server after an ask
abbrev pub said_by : NodeView → NodeAsk → NodeReply
said_by s a = node_reply s.server s.state a

abbrev pub after_of : NodeView → ℕ → NodeAsk → NodeView
after_of s n a = server_after s n a

module _ (w : JournalsView) (one_each : length w.servers + 1 ≡ 2 ^ w.levels) (number : ℕ) (of_tree : IsServer w.levels number) where
  numbered : 1 + (number - 1) ≡ number
  numbered = let least = of_tree.0 in omega arith

  within : number - 1 < length w.servers
  within = let least = of_tree.0 in let most = of_tree.1 in omega (arith, one_each)

  abbrev with_more : List NodeEntry → JournalsView
  with_more more = journals_with w (parts.Server number) (entries.Server more)

  pub entries_with : (more : List NodeEntry) → entries_of (with_more more) number ≡ server_prefix w number ++ more
  entries_with more = get_or-set_same w.servers (number - 1) (server_prefix w number ++ more) [] within

  -- of the tables of these journals the number of the next entry may be asked
  pub may_ask : (more : List NodeEntry) (tables : TablesView) (next : ℕ) → tables ≡ tables_of (with_more more) → next ≡ length (server_prefix w number) + length more + 1 → MayAskNode tables number next
  may_ask more tables next stand is =
      let long = length-set w.servers (number - 1) (server_prefix w number ++ more) in
      let less = within in
      let least = of_tree.0 in
      let count = ap (λ (es : List NodeEntry). length es) (entries_with more) in
      let sum = length-append (server_prefix w number) more in
      record {
        journals = with_more more;
        stand = stand;
        there = (least, omega (arith, long, less, least));
        next = omega (arith, is, count, sum);
      }

  server_shown : (more : List NodeEntry) → node_in (tables_of (with_more more)).nodes number ≡ node_after_all w.levels number (server_prefix w number ++ more)
  server_shown more =
      let tables = tables_of (with_more more) in
      let next = length (server_prefix w number) + length more + 1 in
      let there = is_there tables number next (may_ask more tables next refl refl) in
      node_is (with_more more) number tables (node_in tables.nodes number) refl there.0 (node_in-at tables.nodes number (omega (arith, there.0, there.1))) there.1
      ∙ ap (node_after_all w.levels number) (entries_with more)

  server_legal : AreLegal w → (more : List NodeEntry) → IsLegalFrom (λ (s : NodeView) (n : ℕ) (a : NodeAsk). said_by s a) after_of (node_after_all w.levels number (server_prefix w number)) (length (server_prefix w number) + 1) more
      → AreLegal (with_more more)
  server_legal legal more gives =
      let place = number - 1 in
      let all = server_prefix w number ++ more in
      let was = subst (λ (n : ℕ). IsLegalNode n (reverse (server_prefix w number))) numbered (legal-at 1 w.servers place legal.servers within) in
      let one = server-legal w.levels number (server_prefix w number) more was gives in
      record {
        servers = legal-set 1 w.servers place all legal.servers (subst (λ (n : ℕ). IsLegalNode n (reverse all)) (sym numbered) one);
        desk = legal.desk;
        view = legal.view;
      }

  server_one_more : (more : List NodeEntry) (e : NodeEntry) → with_node (with_more more) number e ≡ with_more (more ++ e ∷ [])
  server_one_more more e =
      let place = number - 1 in
      let all = server_prefix w number ++ more in
      ap (λ (servers : List (List NodeEntry)). let o : JournalsView = record w { servers = servers } in o)
      (set-set w.servers place all (entries_of (with_more more) number ++ e ∷ [])
      ∙ ap (set w.servers place) (ap (λ (es : List NodeEntry). es ++ e ∷ []) (entries_with more) ∙ append_assoc (server_prefix w number) more (e ∷ [])))

  pub server_grows : AreLegal w
      → Grows said_by after_of (node_after_all w.levels number (server_prefix w number)) (length (server_prefix w number) + 1) (λ (more : List NodeEntry). journals_with w (parts.Server number) (entries.Server more))
      (λ (o : JournalsView) (e : NodeEntry). with_node o number e) (λ (t : TablesView). node_in t.nodes number)
  server_grows legal =
      record {
        legal = server_legal legal;
        shows = λ more gives. server_shown more ∙ sym (server-led w.levels number (server_prefix w number) more);
        one_more = server_one_more;
      }

-- nothing more
pub desk_none : (w : JournalsView) → journals_with w parts.Desk (entries.Desk []) ≡ w
desk_none w = ap (λ (all : List DeskEntry). let o : JournalsView = record w { desk = all } in o) (append-nil w.desk)

pub view_none : (w : JournalsView) → journals_with w parts.View (entries.View []) ≡ w
view_none w = ap (λ (all : List ViewEntry). let o : JournalsView = record w { view = all } in o) (append-nil w.view)

pub server_none : (w : JournalsView) (number : ℕ) → journals_with w (parts.Server number) (entries.Server []) ≡ w
server_none w number =
    ap (λ (all : List (List NodeEntry)). let o : JournalsView = record w { servers = all } in o)
    (ap (set w.servers (number - 1)) (append-nil (server_prefix w number)) ∙ set-get_or w.servers (number - 1) [])

-- ---- tables that are led on

abbrev pub DeskLed : JournalsView → TablesView → List DeskEntry → Type 0
DeskLed w tables more = Led desk_reply step_after (desk_at w.levels w.limits w.desk) (length w.desk + 1) (λ (all : List DeskEntry). journals_with w parts.Desk (entries.Desk all)) tables more

abbrev pub ViewLed : JournalsView → TablesView → List ViewEntry → Type 0
ViewLed w tables more = Led view_reply view_after_at (view_at w.levels w.view) (length w.view + 1) (λ (all : List ViewEntry). journals_with w parts.View (entries.View all)) tables more

abbrev pub ServerLed : JournalsView → ℕ → TablesView → List NodeEntry → Type 0
ServerLed w number tables more =
    Led said_by after_of (node_after_all w.levels number (server_prefix w number)) (length (server_prefix w number) + 1)
    (λ (all : List NodeEntry). journals_with w (parts.Server number) (entries.Server all)) tables more

-- of the tables of these journals the desk may be asked
pub may_ask_desk : (w : JournalsView) (xs : List DeskEntry) (i : ℕ) → i < length xs → length w.desk + length xs < 2 ^ 64 → (tables : TablesView) → DeskLed w tables (take i xs) → MayAskDesk tables
may_ask_desk w xs i less few tables led =
    let sum = length-append w.desk (take i xs) in
    let count = length-take-le i xs (omega (arith, less)) in
    record { journals = journals_with w parts.Desk (entries.Desk (take i xs)); stand = led.stand; few = omega (arith, sum, count, few, less) }

-- those that are not fewer are as many
pub enough : {E : Type 0} (few : Bool) (read kept : List E) (more least : ℕ) → read ≡ kept → IsTrue few ↔ (length read + more < least) → few ≡ false → least ≤ length kept + more
enough few read kept more least same is plenty =
    let never = iff_false is plenty in
    let count = ap length same in
    grind (arith, never, count)

-- with no least number there are always enough
pub led_ahead : (tables : TablesView) (w : JournalsView) (part : Part) (more : Entries) → GivesNext w part more → tables ≡ tables_of (journals_with w part more) → AreAhead tables w part more 0
led_ahead tables w part more gives stand = record { gives = gives; enough = omega arith; stand = stand }

-- and where there are, what came of the entries is what was looked for
pub ahead_with : (found : Option TablesView) (w : JournalsView) (part : Part) (more : Entries) (least : ℕ) → least ≤ prefix_length w part + count_of more → AreLed found w part more
    → MatchOption found (IsForeign w part more least) (λ (t : TablesView). AreAhead t w part more least)
ahead_with None w part more least many never = inl never
ahead_with (Some ahead) w part more least many led = record { gives = led.gives; enough = many; stand = led.stand }

-- ---- spare tables

-- they are kept in the place of the tables
pub spare_kept : (spare tables : TablesView) (kept w : JournalsView) → kept ≡ w → AreKept tables kept → spare ≡ tables → AreKept spare w
spare_kept spare tables kept w leads keeps same =
    subst (λ (t : TablesView). AreKept t w) (sym same) (subst (λ (o : JournalsView). AreKept tables o) leads keeps)

-- entries from a place on, as a slice has them
abbrev pub from_on : {E : Type 0} → ℕ → List E → List E
from_on known all = take (length all - known) (drop known all)

-- behind so many stand those that came
pub those_behind : {E : Type 0} (known : ℕ) (now more all : List E) → known ≡ length now → all ≡ now ++ more → from_on known all ≡ more
those_behind known now more all count is =
    let sum = length-append now more in
    (λ i. from_on (count i) (is i))
    ∙ ap (take (length (now ++ more) - length now)) (drop-append_seam now more)
    ∙ take_all (length (now ++ more) - length now) more (omega (arith, sum))

-- what comes of the tables that stood there by the same entries equals what came of the spare ones
pub follow_alike : {E : Type 0} (of : List E → Entries) (found : Option TablesView) (ahead : TablesView) (w : JournalsView) (part : Part) (more fresh : List E) (least : ℕ) → fresh ≡ more
    → AreLed found w part (of fresh) → AreAhead ahead w part (of more) least → IfSome found (λ (spare : TablesView). spare ≡ ahead)
follow_alike of None ahead w part more fresh least same led there = tt
follow_alike of (Some spare) ahead w part more fresh least same led there = led.stand ∙ ap (λ es. tables_of (journals_with w part (of es))) same ∙ sym there.stand

pub spare_alike : {M E : Type 0} (P : Option TablesView → Type 0) (of : List E → Entries) (result : Result (Option TablesView) M) (spare : Option TablesView) (ahead : TablesView) (w : JournalsView) (part : Part) (more fresh : List E) (least : ℕ) → fresh ≡ more
    → ((found : Option TablesView) → P found → AreLed found w part (of fresh)) → IfOk result P → spare ≡ result_unwrap_or result None → AreAhead ahead w part (of more) least
    → IfSome spare (λ (t : TablesView). t ≡ ahead)
spare_alike {M} {E} P of result spare ahead w part more fresh least same leads led is there = subst (λ (o : Option TablesView). IfSome o (λ (t : TablesView). t ≡ ahead)) (sym is) (by result led)
  where
    by : (r : Result (Option TablesView) M) → IfOk r P → IfSome (result_unwrap_or r None) (λ (t : TablesView). t ≡ ahead)
    by (Ok found) holds = follow_alike of found ahead w part more fresh least same (leads found holds) there
    by (Err fault) holds = tt

-- these are kept, and are those prefixes
pub record Stands (tables : TablesView) (kept prefixes : JournalsView) : Type 0 where
  pub keeps : AreKept tables kept
  pub leads : kept ≡ prefixes

stands_at : (tables : TablesView) (kept prefixes : JournalsView) → kept ≡ prefixes → AreKept tables prefixes → Stands tables kept prefixes
stands_at tables kept prefixes leads keeps = record { keeps = subst (λ (w : JournalsView). AreKept tables w) (sym leads) keeps; leads = leads }

-- and are those with more of the part, and as many as were to be there
pub record Taken (tables : TablesView) (kept old : JournalsView) (part : Part) (more : Entries) (least : ℕ) : Type 0 where
  pub keeps : AreKept tables kept
  pub leads : kept ≡ journals_with old part more
  pub enough : least ≤ prefix_length kept part
  pub count : prefix_length kept part ≡ prefix_length old part + count_of more

-- ---- what is kept once a part followed more entries

grown_taken : (tables ahead : TablesView) (w : JournalsView) → AreKept tables w → (part : Part) (more : Entries) (least : ℕ) → IsPartOf w.levels part → AreAhead ahead w part more least
    → Taken ahead (journals_with w part more) w part more least
grown_taken tables ahead w kept (parts.Server number) (entries.Server more) least of_tree led =
    let long = length-set w.servers (number - 1) (server_prefix w number ++ more) in
    let was = kept.one_each in
    let many = led.enough in
    let sum = length-append (server_prefix w number) more in
    let read = ap (λ (es : List NodeEntry). length es) (entries_with w kept.one_each number of_tree more) in
    record {
      keeps = record { one_each = omega (arith, long, was); legal = (server_grows w kept.one_each number of_tree kept.legal).legal more led.gives; stand = led.stand };
      leads = refl;
      enough = omega (arith, many, sum, read);
      count = omega (arith, sum, read);
    }
grown_taken tables ahead w kept parts.Desk (entries.Desk more) least of_tree led =
    let many = led.enough in
    let sum = length-append w.desk more in
    record {
      keeps = record { one_each = kept.one_each; legal = (desk_grows w kept.legal).legal more led.gives; stand = led.stand };
      leads = refl;
      enough = omega (arith, many, sum);
      count = sum;
    }
grown_taken tables ahead w kept parts.View (entries.View more) least of_tree led =
    let many = led.enough in
    let sum = length-append w.view more in
    record {
      keeps = record { one_each = kept.one_each; legal = (view_grows w kept.legal).legal more led.gives; stand = led.stand };
      leads = refl;
      enough = omega (arith, many, sum);
      count = sum;
    }
grown_taken tables ahead w kept (parts.Server number) (entries.Desk more) least of_tree led = absurd led.gives
grown_taken tables ahead w kept (parts.Server number) (entries.View more) least of_tree led = absurd led.gives
grown_taken tables ahead w kept parts.Desk (entries.Server more) least of_tree led = absurd led.gives
grown_taken tables ahead w kept parts.Desk (entries.View more) least of_tree led = absurd led.gives
grown_taken tables ahead w kept parts.View (entries.Server more) least of_tree led = absurd led.gives
grown_taken tables ahead w kept parts.View (entries.Desk more) least of_tree led = absurd led.gives

taken_at : (tables ahead : TablesView) (kept old : JournalsView) → AreKept tables old → (part : Part) (more : Entries) (least : ℕ) → IsPartOf old.levels part → AreAhead ahead old part more least
    → kept ≡ journals_with old part more → Taken ahead kept old part more least
taken_at tables ahead kept old was part more least of_tree led leads =
    subst (λ (w : JournalsView). Taken ahead w old part more least) (sym leads) (grown_taken tables ahead old was part more least of_tree led)

module _ (tables ahead : TablesView) (limits : LimitsView) (servers : List (List NodeEntry)) (now : List DeskEntry) (view : List ViewEntry) (old : JournalsView)
    (same : journals_in tables limits servers now view ≡ old) (kept : AreKept tables (journals_in tables limits servers now view)) where
  pub kept_old : AreKept tables old
  kept_old = subst (λ (w : JournalsView). AreKept tables w) same kept

  pub desk_taken : (after more : List DeskEntry) (least : ℕ) → AreAhead ahead old parts.Desk (entries.Desk more) least → after ≡ now ++ more
      → Taken ahead (journals_in ahead limits servers after view) old parts.Desk (entries.Desk more) least
  desk_taken after more least led is =
      taken_at tables ahead (journals_in ahead limits servers after view) old kept_old parts.Desk (entries.Desk more) least tt led
      ((λ i. journals_in (led.stand i) limits servers (is i) view)
      ∙ (λ i. record { levels = old.levels; limits = (same i).limits; servers = (same i).servers; desk = (same i).desk ++ more; view = (same i).view }))

  pub view_taken : (after more : List ViewEntry) (least : ℕ) → AreAhead ahead old parts.View (entries.View more) least → after ≡ view ++ more
      → Taken ahead (journals_in ahead limits servers now after) old parts.View (entries.View more) least
  view_taken after more least led is =
      taken_at tables ahead (journals_in ahead limits servers now after) old kept_old parts.View (entries.View more) least tt led
      ((λ i. journals_in (led.stand i) limits servers now (is i))
      ∙ (λ i. record { levels = old.levels; limits = (same i).limits; servers = (same i).servers; desk = (same i).desk; view = (same i).view ++ more }))

  server_taken : (number : ℕ) (of_tree : IsServer old.levels number) (after : List (List NodeEntry)) (more : List NodeEntry) (least : ℕ) → AreAhead ahead old (parts.Server number) (entries.Server more) least
      → after ≡ set servers (number - 1) (get_or servers (number - 1) [] ++ more)
      → Taken ahead (journals_in ahead limits after now view) old (parts.Server number) (entries.Server more) least
  server_taken number of_tree after more least led is =
      taken_at tables ahead (journals_in ahead limits after now view) old kept_old (parts.Server number) (entries.Server more) least of_tree led
      ((λ i. journals_in (led.stand i) limits (is i) now view)
      ∙ (λ i. record { levels = old.levels; limits = (same i).limits; servers = set (same i).servers (number - 1) (server_prefix (same i) number ++ more); desk = (same i).desk; view = (same i).view }))

  servers_stay : (after : List (List NodeEntry)) → after ≡ servers → Stands tables (journals_in tables limits after now view) old
  servers_stay after is = stands_at tables (journals_in tables limits after now view) old (ap (λ (all : List (List NodeEntry)). journals_in tables limits all now view) is ∙ same) kept_old

-- equal tables stand as well
pub alike : (tables same : TablesView) (limits : LimitsView) (servers : List (List NodeEntry)) (now : List DeskEntry) (view : List ViewEntry) (old : JournalsView) → same ≡ tables
    → Stands tables (journals_in tables limits servers now view) old → Stands same (journals_in same limits servers now view) old
alike tables same limits servers now view old is stands = subst (λ (t : TablesView). Stands t (journals_in t limits servers now view) old) (sym is) stands

-- what was found to be ahead
pub found_ahead : {E : Type 0} (found : Option TablesView) (ahead : TablesView) (w : JournalsView) (part : Part) (of : List E → Entries) (lent more : List E) (least : ℕ) → lent ≡ more → found ≡ Some ahead
    → MatchOption found (IsForeign w part (of lent) least) (λ (t : TablesView). AreAhead t w part (of lent) least) → AreAhead ahead w part (of more) least
found_ahead {E} found ahead w part of lent more least same is matched =
    subst (λ (es : List E). AreAhead ahead w part (of es) least) same
    (subst (λ (f : Option TablesView). MatchOption f (IsForeign w part (of lent) least) (λ (t : TablesView). AreAhead t w part (of lent) least)) is matched)

-- at a fault nothing is taken
pub not_taken : {T : Type 0} (Q : PullFault → Type 0) (old new : JournalsView) (part : Part) (more : Entries) (least : ℕ) (result : Result T PullFault) → IsErrAnd result Q
    → OnErr result (new ≡ old) → IfErr result (IsPullFault old part more least) → IsTaken old new part more least result
not_taken Q old new part more least (Ok value) refused same why = absurd refused
not_taken Q old new part more least (Err fault) refused same why = record { grown = tt; least = tt; count = tt; err = same; fault = why }

-- what holds anyway is said of an error
pub on_error : {T E : Type 0} (P : Type 0) (result : Result T E) → P → OnErr result P
on_error P (Ok value) holds = tt
on_error P (Err fault) holds = holds

-- a server, of which the entries are read at its place, and put there once more
module _ {V : Type 0} (items : V → List NodeEntry) (tables : TablesView) (limits : LimitsView) (journals : List V) (now : List DeskEntry) (view : List ViewEntry) (old : JournalsView)
    (same : journals_in tables limits (map items journals) now view ≡ old) (kept : AreKept tables (journals_in tables limits (map items journals) now view))
    (number : ℕ) (of_tree : IsServer old.levels number) where
  pub less : number - 1 < length journals
  less =
      let inside = subst (λ (w : JournalsView). IsServer w.levels number) (sym same) of_tree in
      let there = within (journals_in tables limits (map items journals) now view) kept.one_each number inside in
      let count = length-map journals items in
      omega (arith, there, count)

  module _ (here after : V) (at : here ≡ get_or journals (number - 1) here) where
    read : get_or (map items journals) (number - 1) [] ≡ items here
    read = get_or-map items journals (number - 1) here [] less ∙ ap items (sym at)

    pub server_followed : (ahead : TablesView) (more : List NodeEntry) (least : ℕ) → AreAhead ahead old (parts.Server number) (entries.Server more) least → items after ≡ items here ++ more
        → Taken ahead (journals_in ahead limits (map items (set journals (number - 1) after)) now view) old (parts.Server number) (entries.Server more) least
    server_followed ahead more least led is =
        server_taken tables ahead limits (map items journals) now view old same kept number of_tree (map items (set journals (number - 1) after)) more least led
        (map-set items journals (number - 1) after
        ∙ ap (set (map items journals) (number - 1)) (is ∙ ap (λ (es : List NodeEntry). es ++ more) (sym read)))

    -- where it is read again, what came stands behind what was there
    pub server_fresh : (known : ℕ) (again : V) (more all : List NodeEntry) → known ≡ length (server_prefix old number) → again ≡ get_or (set journals (number - 1) after) (number - 1) again
        → items after ≡ items here ++ more → all ≡ items again → from_on known all ≡ more
    server_fresh known again more all count there is lent =
        let count_here : known ≡ length (items here) = count ∙ ap length (ap (λ (w : JournalsView). server_prefix w number) (sym same) ∙ read) in
        those_behind known (items here) more all count_here (lent ∙ ap items (there ∙ get_or-set_same journals (number - 1) after again less) ∙ is)

    pub server_stays : items after ≡ items here → Stands tables (journals_in tables limits (map items (set journals (number - 1) after)) now view) old
    server_stays is =
        servers_stay tables tables limits (map items journals) now view old same kept (map items (set journals (number - 1) after))
        (map-set items journals (number - 1) after ∙ ap (set (map items journals) (number - 1)) (is ∙ sym read) ∙ set-get_or (map items journals) (number - 1) [])

-- ---- nothing pulled

legal-none : (first count : ℕ) → AreLegalServers first (replicate count [])
legal-none first zero = tt
legal-none first (suc count) = (tt, legal-none (first + 1) count)

pub opened_is : (tables : TablesView) (levels : ℕ) (limits : LimitsView) (prefixes : JournalsView) → prefixes ≡ no_entries levels limits → tables ≡ tables_of (no_entries levels limits)
    → Stands tables prefixes (no_entries levels limits)
opened_is tables levels limits prefixes is stand =
    let positive : 0 < 2 ^ levels = pow_pos levels in
    let count : length (replicate {A = List NodeEntry} (2 ^ levels - 1) []) ≡ 2 ^ levels - 1 = length-replicate (2 ^ levels - 1) [] in
    stands_at tables prefixes (no_entries levels limits) is
    (record {
      one_each = omega arith;
      legal = record { servers = legal-none 1 (2 ^ levels - 1); desk = tt; view = tt };
      stand = stand;
    })
