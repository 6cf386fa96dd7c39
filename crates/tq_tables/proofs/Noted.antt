-- The tables with one entry more. What is reserved beside the tables.
use Rattle.std.{specs.{Prelude.reverse, Global.Box}, proofs.lemmas.{List.length-reverse, Option.{none-some, same_Some}}}
use Rattle.std.proofs.Common.{◌≡◌, ◌+◌, ◌<◌, ◌^◌, ℕ, List, [], ◌∷◌, ◌++◌, length, ap, sym, subst, ◌∙◌, arith, Option, Some, None, Bor}
use Rattle.tq_shape.specs.{declared.part.Entry.Entry, Journal.IsLegalFrom, declared.part.Part.Part}
use Rattle.tq_shape.proofs.Joined.{reverse-push, state-push}
use Rattle.tq_desk.specs.{declared.ask.DeskAsk.DeskAsk, DeskStep.{DeskView, desk_after, desk_reply}}
use Rattle.tq_desk.specs.DeskJournal.{DeskEntry, IsLegalDesk, commits, with_commit}
use Rattle.tq_live.specs.{Live.Live, View.{IsLegalView, view_after, view_after_at, view_reply_at, view_state}}
use Rattle.tq_live.{specs.{ViewLaws.keeps_levels, declared.view.ViewAsk.ViewAsk}, proofs.Journal.replays}
use Rattle.tq_tables.specs.declared.{file_row.FileRow.FileRow, intent_rows.IntentState.IntentState}
use Rattle.tq_tables.specs.Rows.{intent_state_at, file_rows, intent_rows, intent_state, quorum_rows}
use Rattle.tq_tables.specs.{Journals.{JournalsView, ViewEntry, with_desk, with_view}, declared.ready_entry.Ready.Ready}
use Rattle.tq_tables.specs.Parts.{AreLegal, PartsView, bounds_of, desk_at, nodes_at, view_at}
use Rattle.tq_tables.specs.Tables.{MayAskDesk, MayAskNode, TablesView, tables_at, tables_of, IsNextOfDesk, IsNextEntry, with_entry, IsNextOfServer}
use Rattle.tq_tables.specs.declared.{journals.PartEntry.PartEntry, ready_entry.{PartAsk.PartAsk, ReadyEntry.ReadyEntry}}
use Rattle.tq_tables.specs.Reserved.{AreCopied, AreFollowed, AreReady, IsReserve, LeadsTo, ask_of, ready_entry, reserved_entry, tables_in, unready, with_ready}
use Rattle.tq_tables.proofs.{Counting.commits-most, RowLaws.{begun-bound, desk_at-is, desk-push}, Restood.states-same}
use Rattle.tq_shape.specs.declared.part.Part.TheVariants as part_names
use Rattle.tq_tables.specs.declared.journals.PartEntry.TheVariants as lent
use Rattle.tq_tables.specs.declared.ready_entry.PartAsk.TheVariants as asks
use Rattle.tq_node.specs.NodeJournal.{NodeEntry}

-- ---- the view

legal-before : {S A R : Type 0} (reply : S → ℕ → A → R) (after : S → ℕ → A → S) (s : S) (n : ℕ) (es : List (Entry A R)) (e : Entry A R)
    → IsLegalFrom reply after s n (es ++ e ∷ []) → IsLegalFrom reply after s n es
legal-before reply after s n [] e legal = tt
legal-before reply after s n (x ∷ es) e legal = (legal.0, legal-before reply after (after s n x.ask) (n + 1) es e legal.1)

-- a legal view after one entry more
view-push : (levels : ℕ) (entries : List ViewEntry) (e : ViewEntry) → IsLegalView levels (entries ++ e ∷ []) → view_after (view_at levels entries) e.ask ≡ view_at levels (entries ++ e ∷ [])
view-push levels entries e legal =
    ap (λ (l : Live). view_after l e.ask) (sym (replays levels entries (legal-before view_reply_at view_after_at (view_state levels []) 1 entries e legal)))
    ∙ sym (state-push view_reply_at view_after_at (view_state levels []) entries e)
    ∙ replays levels (entries ++ e ∷ []) legal

-- the tables with the view after an ask
abbrev pub viewed : TablesView → ViewAsk → TablesView
viewed old ask = record old { view = view_after old.view ask; quorums = quorum_rows (view_after old.view ask) }

viewed-next : (journals : JournalsView) (e : ViewEntry) → AreLegal (with_view journals e) → viewed (tables_of journals) e.ask ≡ tables_of (with_view journals e)
viewed-next journals e legal =
    let next = view-push journals.levels journals.view e legal.view in
    λ i. record (tables_of journals) { view = next i; quorums = quorum_rows (next i) }

pub view-noted : (journals : JournalsView) (e : ViewEntry) → AreLegal (with_view journals e) → (old new : TablesView) → old ≡ tables_of journals → new ≡ viewed old e.ask → new ≡ tables_of (with_view journals e)
view-noted journals e legal old new stand is = is ∙ ap (λ (t : TablesView). viewed t e.ask) stand ∙ viewed-next journals e legal

-- an ask that changes no costs and marks leaves the tables
pub view-stays : (journals : JournalsView) (e : ViewEntry) → AreLegal (with_view journals e) → (old : TablesView) → old ≡ tables_of journals → ((l : Live) → view_after l e.ask ≡ l) → old ≡ tables_of (with_view journals e)
view-stays journals e legal old stand same =
    stand
    ∙ (λ i. record (tables_of journals) { view = sym (same (view_at journals.levels journals.view)) i; quorums = quorum_rows (sym (same (view_at journals.levels journals.view)) i) })
    ∙ viewed-next journals e legal

-- the tables at parts of which the view answered an ask
pub viewed-at : (parts new : PartsView) (files : List FileRow) (ask : ViewAsk) → new ≡ record parts { view = view_after parts.view ask } → tables_at new files ≡ viewed (tables_at parts files) ask
viewed-at parts new files ask is =
    ap (λ (p : PartsView). tables_at p files) is
    ∙ (λ i. record (viewed (tables_at parts files) ask) { levels = keeps_levels parts.view ask i })

-- ---- the desk

-- the tables with the desk after an ask, and with these rows of files
abbrev pub asked : TablesView → DeskAsk → List FileRow → TablesView
asked old ask files =
    record old { desk = desk_after old.desk ask; files = files; intentions = intent_rows (intent_state_at (desk_after old.desk ask)) old.nodes }

pub asked-at : (parts new : PartsView) (files more : List FileRow) (ask : DeskAsk) → new ≡ record parts { desk = desk_after parts.desk ask } → tables_at new more ≡ asked (tables_at parts files) ask more
asked-at parts new files more ask is = ap (λ (p : PartsView). tables_at p more) is

module _ (journals : JournalsView) (e : DeskEntry) (legal : AreLegal (with_desk journals e)) where
  -- the reply is the one that the desk gives
  pub desk-replied : e.reply ≡ desk_reply (desk_at journals.levels journals.limits journals.desk) e.ask
  desk-replied =
      let whole = subst (λ (entries : List DeskEntry). IsLegalDesk (bounds_of journals.levels journals.limits) entries) (reverse-push journals.desk e) legal.desk in
      whole.0 ∙ sym (ap (λ (d : DeskView). desk_reply d e.ask) (desk_at-is journals.levels journals.limits journals.desk))

  desk_next : desk_after (desk_at journals.levels journals.limits journals.desk) e.ask ≡ desk_at journals.levels journals.limits (journals.desk ++ e ∷ [])
  desk_next = sym (desk-push journals.levels journals.limits journals.desk e)

  commits_next : with_commit e.ask e.reply (commits (reverse journals.desk)) ≡ commits (reverse (journals.desk ++ e ∷ []))
  commits_next = ap commits (sym (reverse-push journals.desk e))

  states_next : intent_state_at (desk_after (desk_at journals.levels journals.limits journals.desk) e.ask) ≡ intent_state (reverse (journals.desk ++ e ∷ []))
  states_next =
      states-same (bounds_of journals.levels journals.limits) (reverse (journals.desk ++ e ∷ [])) (desk_after (desk_at journals.levels journals.limits journals.desk) e.ask) legal.desk
      (desk_next ∙ desk_at-is journals.levels journals.limits (journals.desk ++ e ∷ []))

  asked-next : (files : List FileRow) → files ≡ file_rows journals.levels (nodes_at journals.levels 1 journals.servers) (with_commit e.ask e.reply (commits (reverse journals.desk)))
      → asked (tables_of journals) e.ask files ≡ tables_of (with_desk journals e)
  asked-next files are =
      let nodes = nodes_at journals.levels 1 journals.servers in
      let f = are ∙ ap (file_rows journals.levels nodes) commits_next in
      let t = ap (λ (state : ℕ → ℕ → ℕ → IntentState). intent_rows state nodes) states_next in
      λ i. record (tables_of journals) { desk = desk_next i; files = f i; intentions = t i }

  pub desk-noted : (old new : TablesView) (files : List FileRow) → old ≡ tables_of journals
      → files ≡ file_rows journals.levels (nodes_at journals.levels 1 journals.servers) (with_commit e.ask e.reply (commits (reverse journals.desk)))
      → new ≡ asked old e.ask files → new ≡ tables_of (with_desk journals e)
  desk-noted old new files stand are is = is ∙ ap (λ (t : TablesView). asked t e.ask files) stand ∙ asked-next files are

-- there is room for one transaction more, and for one commit more
module _ (tables : TablesView) (next : MayAskDesk tables) where
  pub begun-room : tables.desk.begun + 1 < 2 ^ 64
  begun-room =
      let begun = begun-bound next.journals.levels next.journals.limits next.journals.desk in
      let few = next.few in
      subst (λ (t : TablesView). t.desk.begun + 1 < 2 ^ 64) (sym next.stand) (omega (arith, begun, few))

  pub commits-room : length (commits (reverse next.journals.desk)) + 1 < 2 ^ 64
  commits-room =
      let most = commits-most (reverse next.journals.desk) in
      let count = length-reverse next.journals.desk in
      let few = next.few in
      omega (arith, most, count, few)

-- the rows of files of tables that stand as journals say
module _ (parts : PartsView) (files : List FileRow) (old : TablesView) (same : tables_at parts files ≡ old) (journals : JournalsView) (stand : old ≡ tables_of journals) where
  pub rows-at : files ≡ file_rows parts.view.levels parts.nodes (commits (reverse journals.desk))
  rows-at =
      let whole = same ∙ stand in
      ap (λ (t : TablesView). t.files) whole ∙ sym (λ i. file_rows ((whole i).view.levels) ((whole i).nodes) (commits (reverse journals.desk)))

  -- and those with the commit of one entry more
  pub rows-then : (e : DeskEntry) (more : List FileRow) → more ≡ file_rows parts.view.levels parts.nodes (with_commit e.ask e.reply (commits (reverse journals.desk)))
      → more ≡ file_rows journals.levels (nodes_at journals.levels 1 journals.servers) (with_commit e.ask e.reply (commits (reverse journals.desk)))
  rows-then e more are =
      let whole = same ∙ stand in
      are ∙ (λ i. file_rows ((whole i).view.levels) ((whole i).nodes) (with_commit e.ask e.reply (commits (reverse journals.desk))))

-- ---- beside

-- tables that are shown with this reserved beside them
module _ (followed : PartsView) (rows : List FileRow) (kept : Option ReadyEntry) (tables : TablesView) (view_is : with_ready (tables_at followed rows) kept ≡ tables) where
  pub inside-is : tables_at followed rows ≡ unready tables
  inside-is = ap unready view_is

  -- beside those of journals nothing is reserved
  module _ (journals : JournalsView) (stand : tables ≡ tables_of journals) where
    pub nothing-kept : kept ≡ None
    nothing-kept = ap (λ (t : TablesView). t.ready) (view_is ∙ stand)

    pub bare-is : tables_at followed rows ≡ tables
    bare-is = inside-is ∙ ap unready stand ∙ sym stand

    -- tables of journals that came of them, beside which it still stands, are shown as they are
    pub shown : (new : TablesView) (after : JournalsView) → new ≡ tables_of after → with_ready new kept ≡ tables_of after
    shown new after is = λ i. with_ready (is i) (nothing-kept i)

-- where nothing is shown of it, all that is reserved is as it should be
pub nothing-reserved : (old : TablesView) (kept : Option (Box Ready)) → reserved_entry kept ≡ None → IsReserve old kept
nothing-reserved old None none = tt
nothing-reserved old (Some ready) none = absurd (none-some ready.value.entry (sym none))

-- what is kept ready for the entry follows it
pub taken : (old : TablesView) (kept : Option (Box Ready)) (ready : Box Ready) (e : ReadyEntry) → kept ≡ Some ready → reserved_entry kept ≡ Some e → IsReserve old kept
    → AreFollowed ready.value.after × LeadsTo old (tables_in ready.value.after) e.part e.ask
taken old kept ready e is shows all =
    let same : ready.value.entry ≡ e = same_Some ready.value.entry e (sym (ap reserved_entry is) ∙ shows) in
    let here : AreReady old ready.value = subst (IsReserve old) is all in
    (here.followed, subst (λ (x : ReadyEntry). LeadsTo old (tables_in ready.value.after) x.part x.ask) same here.leads)

-- tables that follow what the next entry asks follow the entry
pub noted : (tables old new : TablesView) (part : Part) (number : ℕ) (e : PartEntry) → IsNextEntry tables part number e → LeadsTo old new part (ask_of e)
    → (journals : JournalsView) → AreLegal (with_entry journals part e) → old ≡ tables_of journals → new ≡ tables_of (with_entry journals part e)
noted tables old new (part_names.Server server) number (lent.Server e) next leads journals legal stand = leads journals e.now.reply legal stand
noted tables old new part_names.Desk number (lent.Desk e) next leads journals legal stand = leads journals e.now.reply legal stand
noted tables old new part_names.View number (lent.View e) next leads journals legal stand = leads journals e.now.reply legal stand
noted tables old new (part_names.Server server) number (lent.Desk e) next leads journals legal stand = absurd next
noted tables old new (part_names.Server server) number (lent.View e) next leads journals legal stand = absurd next
noted tables old new part_names.Desk number (lent.Server e) next leads journals legal stand = absurd next
noted tables old new part_names.Desk number (lent.View e) next leads journals legal stand = absurd next
noted tables old new part_names.View number (lent.Server e) next leads journals legal stand = absurd next
noted tables old new part_names.View number (lent.Desk e) next leads journals legal stand = absurd next

-- nor is anything reserved beside them
pub leads-bare : (old new : TablesView) (part : Part) (ask : PartAsk) → LeadsTo old new part ask → LeadsTo old (unready new) part ask
leads-bare old new (part_names.Server server) (asks.Server ask) leads = λ journals reply legal stand. ap unready (leads journals reply legal stand)
leads-bare old new part_names.Desk (asks.Desk ask) leads = λ journals reply legal stand. ap unready (leads journals reply legal stand)
leads-bare old new part_names.View (asks.View ask) leads = λ journals reply legal stand. ap unready (leads journals reply legal stand)
leads-bare old new (part_names.Server server) (asks.Desk ask) leads = tt
leads-bare old new (part_names.Server server) (asks.View ask) leads = tt
leads-bare old new part_names.Desk (asks.Server ask) leads = tt
leads-bare old new part_names.Desk (asks.View ask) leads = tt
leads-bare old new part_names.View (asks.Server ask) leads = tt
leads-bare old new part_names.View (asks.Desk ask) leads = tt

-- a part that is the next to be asked may be
pub may-ask-server : (tables : TablesView) (part : Part) (number : ℕ) (e : PartEntry) → IsNextEntry tables part number e → (server : ℕ) (own : Bor NodeEntry) → part ≡ part_names.Server server → e ≡ lent.Server own
    → MayAskNode tables server number
may-ask-server tables part number e next server own is_part is_entry =
    let here : IsNextOfServer tables server number own.now = subst (λ (p : Part). IsNextEntry tables p number (lent.Server own)) is_part (subst (λ (x : PartEntry). IsNextEntry tables part number x) is_entry next) in
    record { journals = here.journals; stand = here.stand; there = here.there; next = here.next }

pub may-ask-the-desk : (tables : TablesView) (part : Part) (number : ℕ) (e : PartEntry) → IsNextEntry tables part number e → (own : Bor DeskEntry) → part ≡ part_names.Desk → e ≡ lent.Desk own → MayAskDesk tables
may-ask-the-desk tables part number e next own is_part is_entry =
    let here : IsNextOfDesk tables own.now = subst (λ (p : Part). IsNextEntry tables p number (lent.Desk own)) is_part (subst (λ (x : PartEntry). IsNextEntry tables part number x) is_entry next) in
    record { journals = here.journals; stand = here.stand; few = here.few }

-- an equal entry is reserved beside a copy
pub copied-ready : (old : TablesView) (ready copy : Ready) → copy.entry ≡ ready.entry → AreCopied ready.after copy.after → AreReady old ready → AreReady old copy
copied-ready old ready copy entry copied are =
    record {
      followed = copied.1 are.followed;
      leads = subst (λ (t : TablesView). LeadsTo old t copy.entry.part copy.entry.ask) (sym copied.0) (subst (λ (e : ReadyEntry). LeadsTo old (tables_in ready.after) e.part e.ask) (sym entry) are.leads);
    }

-- what follows the entry, by a copy that was one of these tables, is reserved beside them
pub made-ready : (old copy new : TablesView) (part : Part) (number : ℕ) (e : PartEntry) (ready : Ready) → AreFollowed ready.after → copy ≡ old → LeadsTo copy new part (ask_of e) → tables_in ready.after ≡ unready new
    → ready.entry ≡ ready_entry part number e → AreReady old ready
made-ready old copy new part number e ready followed same leads after entry =
    record {
      followed = followed;
      leads =
          subst (λ (x : ReadyEntry). LeadsTo old (tables_in ready.after) x.part x.ask) (sym entry)
          (subst (λ (t : TablesView). LeadsTo old t part (ask_of e)) (sym after)
          (subst (λ (t : TablesView). LeadsTo t (unready new) part (ask_of e)) same (leads-bare copy new part (ask_of e) leads)));
    }
