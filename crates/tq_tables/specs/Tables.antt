-- The tables of a system: what they follow, and the rows. The journals with one entry more of a server. The journals
-- with one entry more of some part. What the tables want of an ask of a part, and the reply to it.
use Rattle.std.specs.Prelude.{◌≡◌, ℕ, ◌+◌, ◌<◌, ◌^◌, List, length, reverse, Option, None, refl, ◌-◌, ◌≤◌, [], ◌∷◌, ◌++◌, slice_set, slice_index_or, ⊤}
use Rattle.std.specs.Coded.{Coded, code_by, coded×, coded_list, coded_option, coded_ℕ}
use Rattle.tq_intents.specs.declared.record.{OpenVote.OpenVote, Record.Record}
use Rattle.tq_node.specs.{Node.{NodeView, node_code}, NodeJournal.NodeEntry, Records.node_reply}
use Rattle.tq_asks.specs.declared.ask.{Verdict.Verdict, NodeAsk.NodeAsk, NodeReply.NodeReply}
use Rattle.tq_desk.specs.{DeskStep.{DeskView, desk_reply}, DeskJournal.{desk_code, commits, DeskEntry}}
use Rattle.tq_desk.specs.declared.ask.{DeskAsk.DeskAsk, DeskReply.DeskReply}
use Rattle.tq_live.specs.{Live.Live, View.view_reply, declared.view.ViewAsk.ViewAsk, declared.view.ViewReply.ViewReply}
use Rattle.tq_tables.specs.declared.{quorum_rows.QuorumRow.QuorumRow, file_row.FileRow.FileRow, parts.Replies.Replies}
use Rattle.tq_tables.specs.declared.{lock_rows.LockRow.LockRow, intent_rows.IntentRow.IntentRow}
use Rattle.tq_tables.specs.{declared.ready_entry.ReadyEntry.ReadyEntry, Journals.{JournalsView, with_desk, with_view}}
use Rattle.tq_tables.specs.Rows.{intent_state_at, quorum_rows, file_rows, lock_rows, intent_state, intent_rows}
use Rattle.tq_tables.specs.Parts.{AreLegal, PartsView, live_code, parts_of, node_after_all}
use Rattle.tq_tables.specs.declared.journals.PartEntry.{PartEntry}
use Rattle.tq_shape.specs.{declared.part.Part.Part, Journal.entry}
use Rattle.tq_shape.specs.declared.part.Part.TheVariants as part_names
use Rattle.tq_tables.specs.declared.journals.PartEntry.TheVariants as lent

-- the servers, the desk and the view that the tables follow, and of them: for each server upwards the least quorums of its
-- subtree, the files that commits wrote, the locks, and the open intentions; last the entry that a note will take with no
-- memory, where one was reserved
pub record TablesView : Type 0 where
  pub levels : ℕ
  pub nodes : List NodeView
  pub desk : DeskView
  pub view : Live
  pub quorums : List QuorumRow
  pub files : List FileRow
  pub locks : List LockRow
  pub intentions : List IntentRow
  pub ready : Option ReadyEntry

-- the tables over these parts, where the desk's journal has these entries, the oldest first; nothing is reserved
abbrev pub tables_over : PartsView → List DeskEntry → TablesView
tables_over parts entries =
    record {
      levels = parts.view.levels;
      nodes = parts.nodes;
      desk = parts.desk;
      view = parts.view;
      quorums = quorum_rows parts.view;
      files = file_rows parts.view.levels parts.nodes (commits (reverse entries));
      locks = lock_rows parts.nodes;
      intentions = intent_rows (intent_state (reverse entries)) parts.nodes;
      ready = None;
    }

-- the tables of all journals: those over the parts as the journals leave them
abbrev pub tables_of : JournalsView → TablesView
tables_of journals = tables_over (parts_of journals) journals.desk

-- the tables that follow these parts and have these rows of files; the other rows are those that the parts say
abbrev pub tables_at : PartsView → List FileRow → TablesView
tables_at parts files =
    record {
      levels = parts.view.levels;
      nodes = parts.nodes;
      desk = parts.desk;
      view = parts.view;
      quorums = quorum_rows parts.view;
      files = files;
      locks = lock_rows parts.nodes;
      intentions = intent_rows (intent_state_at parts.desk) parts.nodes;
      ready = None;
    }

-- they are the tables of journals that stay legal with that entry as the desk's next; the desk has fewer entries than a
-- number of 64 bits can count
pub record IsNextOfDesk (tables : TablesView) (entry : DeskEntry) : Type 0 where
  pub journals : JournalsView
  pub legal : AreLegal (with_desk journals entry)
  pub stand : tables ≡ tables_of journals
  pub few : length journals.desk + 1 < 2 ^ 64

-- codes, by which a proof tells values apart
abbrev pub tables_code : Coded Record → Coded OpenVote → Coded Verdict → Coded QuorumRow → Coded FileRow → Coded LockRow → Coded IntentRow → Coded ReadyEntry → Coded TablesView
tables_code record_code vote_code verdict_code quorum_code file_code lock_code intent_code ready_code =
    code_by (ℕ × (List NodeView × (DeskView × (Live × (List QuorumRow × (List FileRow × (List LockRow × (List IntentRow × Option ReadyEntry))))))))
    (coded× coded_ℕ (coded× (coded_list (node_code record_code vote_code)) (coded× (desk_code verdict_code) (coded× live_code
    (coded× (coded_list quorum_code) (coded× (coded_list file_code) (coded× (coded_list lock_code) (coded× (coded_list intent_code) (coded_option ready_code)))))))))
    (λ t. (t.levels, (t.nodes, (t.desk, (t.view, (t.quorums, (t.files, (t.locks, (t.intentions, t.ready)))))))))
    (λ p. record { levels = p.0; nodes = p.1.0; desk = p.1.1.0; view = p.1.1.1.0; quorums = p.1.1.1.1.0; files = p.1.1.1.1.1.0; locks = p.1.1.1.1.1.1.0; intentions = p.1.1.1.1.1.1.1.0; ready = p.1.1.1.1.1.1.1.1 })
    (λ _. refl)

-- ---- next of server

-- the entries of a server
abbrev pub entries_of : JournalsView → ℕ → List NodeEntry
entries_of journals server = slice_index_or journals.servers (server - 1) []

-- the journals with one entry more at the end of a server's
abbrev pub with_node : JournalsView → ℕ → NodeEntry → JournalsView
with_node journals server entry = record journals { servers = slice_set journals.servers (server - 1) (entries_of journals server ++ entry ∷ []) }

-- they are the tables of journals that stay legal with that entry, of this number, as the server's next
pub record IsNextOfServer (tables : TablesView) (server number : ℕ) (entry : NodeEntry) : Type 0 where
  pub journals : JournalsView
  pub legal : AreLegal (with_node journals server entry)
  pub stand : tables ≡ tables_of journals
  pub there : (0 < server) × (server ≤ length journals.servers)
  pub next : number ≡ length (entries_of journals server) + 1

-- ---- next entry

-- the journals with the entry at the end of the part's; the same journals where it is no entry of such a part
abbrev pub with_entry : JournalsView → Part → PartEntry → JournalsView
with_entry journals (part_names.Server server) (lent.Server entry) = with_node journals server entry.now
with_entry journals part_names.Desk (lent.Desk entry) = with_desk journals entry.now
with_entry journals part_names.View (lent.View entry) = with_view journals entry.now
with_entry journals _ _ = journals

-- the entry is one of such a part, and, of this number, the next of the part's journal: the tables are those of journals
-- that stay legal with it (of the view nothing has to be known: it answers every ask)
abbrev pub IsNextEntry : TablesView → Part → ℕ → PartEntry → Type 0
IsNextEntry tables (part_names.Server server) number (lent.Server entry) = IsNextOfServer tables server number entry.now
IsNextEntry tables part_names.Desk _ (lent.Desk entry) = IsNextOfDesk tables entry.now
IsNextEntry _ part_names.View _ (lent.View _) = ⊤
IsNextEntry _ _ _ _ = ⊥

-- the new tables follow the entry of the part too: where the old ones are those of journals, the new ones are those of the
-- journals with it
abbrev pub FollowsEntry : TablesView → TablesView → Part → PartEntry → Type 0
FollowsEntry old new part entry = (journals : JournalsView) → AreLegal (with_entry journals part entry) → old ≡ tables_of journals → new ≡ tables_of (with_entry journals part entry)

-- ---- asked

-- the reply to enter and the one to tell are this one
abbrev pub both : {R : Type 0} → R → Replies R
both reply = record { entered = reply; told = reply }

-- the replies of the desk and of the view to an ask
abbrev pub desk_replies : DeskView → DeskAsk → Replies DeskReply
desk_replies desk ask = both (desk_reply desk ask)

abbrev pub view_replies : Live → ViewAsk → Replies ViewReply
view_replies view ask = both (view_reply view ask)

-- the server of that number, among servers upwards from server 1; one of no tree where there is none
abbrev pub node_in : List NodeView → ℕ → NodeView
node_in nodes server = slice_index_or nodes (server - 1) (node_after_all 0 0 [])

-- the replies of that server to an ask
abbrev pub node_replies : List NodeView → ℕ → NodeAsk → Replies NodeReply
node_replies nodes server ask = both (node_reply (node_in nodes server).server (node_in nodes server).state ask)

-- the new tables follow one entry more than the old ones, one in which the server, the desk or the view is asked this: where
-- the old ones are those of journals, the new ones are those of the journals with it
abbrev pub FollowsNode : TablesView → TablesView → ℕ → NodeAsk → Type 0
FollowsNode old new server ask =
    (journals : JournalsView) (reply : NodeReply) → AreLegal (with_node journals server (entry ask reply)) → old ≡ tables_of journals → new ≡ tables_of (with_node journals server (entry ask reply))

abbrev pub FollowsDesk : TablesView → TablesView → DeskAsk → Type 0
FollowsDesk old new ask =
    (journals : JournalsView) (reply : DeskReply) → AreLegal (with_desk journals (entry ask reply)) → old ≡ tables_of journals → new ≡ tables_of (with_desk journals (entry ask reply))

abbrev pub FollowsView : TablesView → TablesView → ViewAsk → Type 0
FollowsView old new ask =
    (journals : JournalsView) (reply : ViewReply) → AreLegal (with_view journals (entry ask reply)) → old ≡ tables_of journals → new ≡ tables_of (with_view journals (entry ask reply))

-- they are the tables of journals in which this is the number of the server's next entry
pub record MayAskNode (tables : TablesView) (server number : ℕ) : Type 0 where
  pub journals : JournalsView
  pub stand : tables ≡ tables_of journals
  pub there : (0 < server) × (server ≤ length journals.servers)
  pub next : number ≡ length (entries_of journals server) + 1

-- they are the tables of journals whose desk has fewer entries than a number of 64 bits can count
pub record MayAskDesk (tables : TablesView) : Type 0 where
  pub journals : JournalsView
  pub stand : tables ≡ tables_of journals
  pub few : length journals.desk + 1 < 2 ^ 64
