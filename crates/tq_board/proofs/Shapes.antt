-- A list of servers of a member is found in the coterie. Values that nest no deeper than so many levels, in whose
-- objects each name stands once, in ascending order. What nests no deeper than so many levels nests no deeper than
-- more of them. The values that are written nest a few levels deep, and their members stand in order.
use Rattle.std.{proofs.Common.{◌≡◌, true, ℕ, List, subst, ◌≤◌, arith, [], ◌∷◌, refl}, specs.Prelude.{◌-◌, ◌<◌, ⊤}}
use Rattle.std.{proofs.lemmas.Map.Views.list_any-from_Contains, specs.Cmp.Lexicographic.nat_list_eq_equiv}
use Rattle.tq_shape.specs.{Tree.Server, declared.part.Entry.Entry, Limits.LimitsView}
use Rattle.tq_coterie.specs.Coterie.{coterie, numbers_of, is_quorum, IsMemberList, ServerList}
use Rattle.serde_json.specs.Data.{Data, null, boolean, number, string, array, object, Items, no_items, item, Members, no_members, member, put}
use Rattle.tq_store.specs.declared.write.Write.{Write}
use Rattle.tq_asks.specs.declared.ask.{CitedVote.CitedVote, HeldLock.HeldLock, NodeAsk.NodeAsk, NodeRefusal.NodeRefusal}
use Rattle.tq_asks.specs.declared.ask.{NodeReply.NodeReply, Verdict.Verdict, WorkAsk.WorkAsk}
use Rattle.tq_asks.specs.declared.ask.NodeAsk.TheVariants as ask
use Rattle.tq_asks.specs.declared.ask.NodeRefusal.TheVariants as refusal
use Rattle.tq_asks.specs.declared.ask.NodeReply.TheVariants as reply
use Rattle.tq_asks.specs.declared.ask.Verdict.TheVariants as verdict
use Rattle.tq_asks.specs.declared.ask.WorkAsk.TheVariants as work
use Rattle.tq_node.specs.NodeJournal.{NodeEntry}
use Rattle.tq_evidence.specs.declared.{grant.Grant.Grant, op.Op.Op, vote.Vote.Vote}
use Rattle.tq_desk.specs.declared.ask.{DeskAsk.DeskAsk, DeskRefusal.DeskRefusal, DeskReply.DeskReply}
use Rattle.tq_desk.specs.DeskJournal.{DeskEntry}
use Rattle.tq_desk.specs.declared.ask.DeskAsk.TheVariants as desk
use Rattle.tq_desk.specs.declared.ask.DeskRefusal.TheVariants as desk_refusal
use Rattle.tq_desk.specs.declared.ask.DeskReply.TheVariants as desk_reply
use Rattle.tq_live.specs.declared.view.{ViewAsk.ViewAsk, ViewRefusal.ViewRefusal, ViewReply.ViewReply}
use Rattle.tq_live.specs.declared.view.ViewAsk.TheVariants as view
use Rattle.tq_live.specs.declared.view.ViewRefusal.TheVariants as view_refusal
use Rattle.tq_live.specs.declared.view.ViewReply.TheVariants as view_reply
use Rattle.tq_tables.specs.Journals.{ViewEntry, JournalsView}
use Rattle.tq_board.specs.Values.{whole, value_items, list_value, kind_value, code_value, entry_value}
use Rattle.tq_board.specs.Form.{limits_value, journals_value}
use Rattle.tq_board.specs.Nodes as nodes
use Rattle.tq_board.specs.Form as forms

pub found : (levels : ℕ) (servers : List Server) (numbers : List ℕ) → numbers_of servers ≡ numbers → IsMemberList levels servers → is_quorum levels numbers ≡ true
found levels servers numbers same h =
    subst (λ ns. is_quorum levels ns ≡ true) same (list_any-from_Contains nat_list_eq_equiv (numbers_of servers) (coterie levels) h.member)

-- ---- shape

-- the members put one after another into others
abbrev pub put_all : Members → Members → Members
put_all no_members others = others
put_all (member name value rest) others = put_all rest (put name value others)

abbrev mutual
  pub IsShaped : Data → ℕ → Type 0
  IsShaped null levels = ⊤
  IsShaped (boolean b) levels = ⊤
  IsShaped (number n) levels = ⊤
  IsShaped (string s) levels = ⊤
  IsShaped (array values) levels = (0 < levels) × AreShaped values (levels - 1)
  IsShaped (object members) levels = (0 < levels) × HasShaped members (levels - 1) × (put_all members no_members ≡ members)

  pub AreShaped : Items → ℕ → Type 0
  AreShaped no_items levels = ⊤
  AreShaped (item value rest) levels = IsShaped value levels × AreShaped rest levels

  pub HasShaped : Members → ℕ → Type 0
  HasShaped no_members levels = ⊤
  HasShaped (member name value rest) levels = IsShaped value levels × HasShaped rest levels

-- ---- deeper

mutual
  pub deeper : (value : Data) (few more : ℕ) → few ≤ more → IsShaped value few → IsShaped value more
  deeper null few more le h = tt
  deeper (boolean b) few more le h = tt
  deeper (number n) few more le h = tt
  deeper (string s) few more le h = tt
  deeper (array values) few more le h = (omega (arith, le, h.0), items-deeper values (few - 1) (more - 1) (omega (arith, le)) h.1)
  deeper (object members) few more le h = (omega (arith, le, h.0), members-deeper members (few - 1) (more - 1) (omega (arith, le)) h.1, h.2)

  items-deeper : (values : Items) (few more : ℕ) → few ≤ more → AreShaped values few → AreShaped values more
  items-deeper no_items few more le h = tt
  items-deeper (item value rest) few more le h = (deeper value few more le h.0, items-deeper rest few more le h.1)

  members-deeper : (members : Members) (few more : ℕ) → few ≤ more → HasShaped members few → HasShaped members more
  members-deeper no_members few more le h = tt
  members-deeper (member name value rest) few more le h = (deeper value few more le h.0, members-deeper rest few more le h.1)

-- ---- shapes

value_items-shaped : {A : Type 0} (value : A → Data) (levels : ℕ) → ((x : A) → IsShaped (value x) levels) → (xs : List A) → AreShaped (value_items value xs) levels
value_items-shaped value levels h [] = tt
value_items-shaped value levels h (x ∷ xs) = (h x, value_items-shaped value levels h xs)

list-shaped : {A : Type 0} (value : A → Data) (levels : ℕ) → 0 < levels → ((x : A) → IsShaped (value x) (levels - 1)) → (xs : List A) → IsShaped (list_value value xs) levels
list-shaped value levels deep h xs = (deep, value_items-shaped value (levels - 1) h xs)

kind-shaped : (levels : ℕ) → 0 < levels → (kind : List ℕ) → IsShaped (kind_value kind) levels
kind-shaped levels deep kind = (deep, (tt, tt), refl)

code-shaped : (levels : ℕ) → 0 < levels → (code : ℕ) → IsShaped (code_value code) levels
code-shaped levels deep code = (deep, (tt, (tt, tt)), refl)

cited-shaped : (levels : ℕ) → 0 < levels → (vote : CitedVote) → IsShaped (nodes.cited_value vote) levels
cited-shaped levels deep vote = (deep, (tt, (tt, tt)), refl)

write-shaped : (levels : ℕ) → 0 < levels → (write : Write) → IsShaped (nodes.write_value write) levels
write-shaped levels deep write = (deep, (tt, (tt, (tt, tt))), refl)

held-shaped : (levels : ℕ) → 0 < levels → (lock : HeldLock) → IsShaped (nodes.held_value lock) levels
held-shaped levels deep lock = (deep, (tt, (tt, (tt, tt))), refl)

verdict-shaped : (levels : ℕ) → 3 ≤ levels → (v : Verdict) → IsShaped (nodes.verdict_value v) levels
verdict-shaped levels deep verdict.Abort = kind-shaped levels (omega (arith, deep)) _
verdict-shaped levels deep (verdict.Commit votes) =
    (omega (arith, deep), (tt, (list-shaped nodes.cited_value (levels - 1) (omega (arith, deep)) (cited-shaped (levels - 1 - 1) (omega (arith, deep))) votes, tt)), refl)

work-shaped : (levels : ℕ) → 4 ≤ levels → (w : WorkAsk) → IsShaped (nodes.work_value w) levels
work-shaped levels deep (work.Lock m txn file) = (omega (arith, deep), (tt, (tt, (tt, (tt, tt)))), refl)
work-shaped levels deep (work.Prepare txn writes) =
    (omega (arith, deep), (tt, (tt, (list-shaped nodes.write_value (levels - 1) (omega (arith, deep)) (write-shaped (levels - 1 - 1) (omega (arith, deep))) writes, tt))), refl)
work-shaped levels deep (work.Decide txn v cite) = (omega (arith, deep), (tt, (tt, (tt, (verdict-shaped (levels - 1) (omega (arith, deep)) v, tt)))), refl)
work-shaped levels deep (work.Release txn) = (omega (arith, deep), (tt, (tt, tt)), refl)
work-shaped levels deep (work.Peek file) = (omega (arith, deep), (tt, (tt, tt)), refl)
work-shaped levels deep (work.Refresh file version content from) =
    (omega (arith, deep), (tt, (tt, (cited-shaped (levels - 1) (omega (arith, deep)) from, (tt, (tt, tt))))), refl)

node-ask-shaped : (a : NodeAsk) → IsShaped (nodes.node_ask_value a) 123
node-ask-shaped (ask.Work a) = work-shaped 123 (omega arith) a
node-ask-shaped (ask.CrashIn after a) = (omega arith, (tt, (work-shaped 122 (omega arith) a, (tt, tt))), refl)
node-ask-shaped _ = kind-shaped 123 (omega arith) _

node-refusal-shaped : (r : NodeRefusal) → IsShaped (nodes.node_refusal_value r) 123
node-refusal-shaped (refusal.Held by) = (omega arith, (tt, (tt, (tt, tt))), refl)
node-refusal-shaped (refusal.NotLocked file) = (omega arith, (tt, (tt, (tt, tt))), refl)
node-refusal-shaped _ = code-shaped 123 (omega arith) _

copy-shaped : (kind : List ℕ) (version : ℕ) (content : List ℕ) → IsShaped (nodes.copy_value kind version content) 123
copy-shaped kind version content = (omega arith, (tt, (tt, (tt, tt))), refl)

node-reply-shaped : (r : NodeReply) → IsShaped (nodes.node_reply_value r) 123
node-reply-shaped (reply.Granted version content) = copy-shaped _ version content
node-reply-shaped (reply.Yes held writes) =
    (omega arith, (list-shaped nodes.held_value 122 (omega arith) (held-shaped 121 (omega arith)) held, (tt, (list-shaped nodes.write_value 122 (omega arith) (write-shaped 121 (omega arith)) writes, tt))), refl)
node-reply-shaped (reply.Copy version content) = copy-shaped _ version content
node-reply-shaped (reply.Refused r) = node-refusal-shaped r
node-reply-shaped _ = kind-shaped 123 (omega arith) _

entry-shaped : {A R : Type 0} (levels : ℕ) (ask_value : A → Data) (reply_value : R → Data) → 0 < levels → ((a : A) → IsShaped (ask_value a) (levels - 1)) → ((r : R) → IsShaped (reply_value r) (levels - 1))
    → (entry : Entry A R) → IsShaped (entry_value ask_value reply_value entry) levels
entry-shaped levels ask_value reply_value deep a r entry = (deep, (a entry.ask, (r entry.reply, tt)), refl)

pub node-entry-shaped : (entry : NodeEntry) → IsShaped (nodes.node_entry_value entry) 124
node-entry-shaped = entry-shaped 124 nodes.node_ask_value nodes.node_reply_value (omega arith) node-ask-shaped node-reply-shaped

-- ---- the desk

grant-shaped : (grant : Grant) → IsShaped (forms.grant_value grant) 120
grant-shaped grant = (omega arith, (tt, (tt, (tt, (tt, (tt, tt))))), refl)

op-shaped : (op : Op) → IsShaped (forms.op_value op) 122
op-shaped op = (omega arith, (tt, (tt, (list-shaped forms.grant_value 121 (omega arith) grant-shaped op.grants, (tt, (tt, tt))))), refl)

vote-shaped : (vote : Vote) → IsShaped (forms.vote_value vote) 122
vote-shaped vote =
    (omega arith, (list-shaped nodes.held_value 121 (omega arith) (held-shaped 120 (omega arith)) vote.held, (tt, (tt, (list-shaped nodes.write_value 121 (omega arith) (write-shaped 120 (omega arith)) vote.writes, tt)))), refl)

desk-ask-shaped : (a : DeskAsk) → IsShaped (forms.desk_ask_value a) 124
desk-ask-shaped desk.Begin = kind-shaped 124 (omega arith) _
desk-ask-shaped (desk.Commit txn ops votes) =
    (omega arith, (tt, (list-shaped forms.op_value 123 (omega arith) op-shaped ops, (tt, (list-shaped forms.vote_value 123 (omega arith) vote-shaped votes, tt)))), refl)
desk-ask-shaped (desk.Resolve txn) = (omega arith, (tt, (tt, tt)), refl)

desk-refusal-shaped : (r : DeskRefusal) → IsShaped (forms.desk_refusal_value r) 124
desk-refusal-shaped (desk_refusal.Decided v) = (omega arith, (tt, (tt, (verdict-shaped 123 (omega arith) v, tt))), refl)
desk-refusal-shaped (desk_refusal.BadEvidence rule) = (omega arith, (tt, (tt, (tt, tt))), refl)
desk-refusal-shaped _ = code-shaped 124 (omega arith) _

desk-reply-shaped : (r : DeskReply) → IsShaped (forms.desk_reply_value r) 124
desk-reply-shaped (desk_reply.Verdict v) = (omega arith, (tt, (verdict-shaped 123 (omega arith) v, tt)), refl)
desk-reply-shaped (desk_reply.Refused r) = desk-refusal-shaped r
desk-reply-shaped _ = (omega arith, (tt, (tt, tt)), refl)

pub desk-entry-shaped : (entry : DeskEntry) → IsShaped (forms.desk_entry_value entry) 125
desk-entry-shaped = entry-shaped 125 forms.desk_ask_value forms.desk_reply_value (omega arith) desk-ask-shaped desk-reply-shaped

-- ---- the view

servers-shaped : (list : ServerList) → IsShaped (forms.servers_value list) 123
servers-shaped list = list-shaped whole 123 (omega arith) (λ n. tt) list.servers

view-ask-shaped : (a : ViewAsk) → IsShaped (forms.view_ask_value a) 124
view-ask-shaped (view.SetCost server read write) = (omega arith, (tt, (tt, (tt, (tt, tt)))), refl)
view-ask-shaped (view.Mark server up) = (omega arith, (tt, (tt, (tt, tt))), refl)
view-ask-shaped (view.Choose purpose) = (omega arith, (tt, (tt, tt)), refl)

view-refusal-shaped : (r : ViewRefusal) → IsShaped (forms.view_refusal_value r) 124
view-refusal-shaped (view_refusal.Blocked blocker) = (omega arith, (tt, (tt, (servers-shaped blocker, tt))), refl)
view-refusal-shaped _ = code-shaped 124 (omega arith) _

view-reply-shaped : (r : ViewReply) → IsShaped (forms.view_reply_value r) 124
view-reply-shaped (view_reply.Chosen quorum cost) = (omega arith, (tt, (tt, (servers-shaped quorum, tt))), refl)
view-reply-shaped (view_reply.Refused r) = view-refusal-shaped r
view-reply-shaped _ = kind-shaped 124 (omega arith) _

pub view-entry-shaped : (entry : ViewEntry) → IsShaped (forms.view_entry_value entry) 125
view-entry-shaped = entry-shaped 125 forms.view_ask_value forms.view_reply_value (omega arith) view-ask-shaped view-reply-shaped

-- ---- the journals of all parts

limits-shaped : (limits : LimitsView) → IsShaped (limits_value limits) 126
limits-shaped limits = (omega arith, (tt, (tt, (tt, tt))), refl)

pub journals-shaped : (journals : JournalsView) → IsShaped (journals_value journals) 127
journals-shaped journals = (
  omega arith,
  (
    list-shaped forms.desk_entry_value 126 (omega arith) desk-entry-shaped journals.desk,
    (
      tt,
      (
        tt,
        (
          limits-shaped journals.limits,
          (
            list-shaped (list_value nodes.node_entry_value) 126 (omega arith) (list-shaped nodes.node_entry_value 125 (omega arith) node-entry-shaped) journals.servers,
            (list-shaped forms.view_entry_value 126 (omega arith) view-entry-shaped journals.view, tt),
          ),
        ),
      ),
    ),
  ),
  refl,
)
