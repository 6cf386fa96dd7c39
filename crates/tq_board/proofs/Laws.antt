-- Lists, names, contents and entries are read again from their values. What a part is asked and replies is read again
-- from its value.
-- The text of journals is read as the journals. The line of an entry is read as the entry.
use Rattle.std.proofs.Common.{◌≡◌, nat_lt, ◌≤◌, suc, ℕ, false, cond, List, [], ◌∷◌, length, Option, Some, None, refl, ap, ◌∙◌, sym, nat_le, ◌&&◌, ◌+◌, ◌^◌, Bool, true, ◌++◌, arith}
use Rattle.std.proofs.lemmas.{Bool.{le-leb, le-ltb, eq-eqb}, List.Elements.recursion_from_All}
use Rattle.std.specs.{List.AllByRecursion, Prelude.IsUtf8}
use Rattle.hex.{specs.Hex.encode_lower, proofs.HexLemmas.decode_of-encode_lower}
use Rattle.serde_json.specs.{Data.{Data, Items}, Written.compact_text}
use Rattle.tq_shape.specs.{declared.part.Entry.Entry, Limits.LimitsView}
use Rattle.tq_json.specs.declared.format.Format.TheVariants.{Two}
use Rattle.tq_json.specs.Member.{name_of, content_of, content_read, short_enough, ◌>>=◌, each, number_of}
use Rattle.tq_json_read.specs.Frame.{entry, count, journal, node_entry, desk_entry, view_entry, IsAlone}
use Rattle.tq_board.specs.{Values.{whole, value_items, list_value, entry_value, IsFitting}, Nodes.node_entry_value}
use Rattle.tq_board.specs.Sound.{IsFile, IsContent, IsAny, IsWrite, IsHeldLock, IsWork, IsNodeAsk, IsNodeRefusal, IsNodeReply, IsNodeEntry, IsGrant, IsOp, IsVote, IsDeskAsk, IsDeskEntry, IsViewReply, IsViewEntry, AreSound, HasLimits}
use Rattle.tq_board.specs.Form.{desk_entry_value, limits_value, journals_value, view_entry_value}
use Rattle.tq_board.{specs.Lines.{IsTextOf, line_of}, proofs.ReadBack.read-line}
use Rattle.tq_board.proofs.Shapes.{journals-shaped, node-entry-shaped, desk-entry-shaped, view-entry-shaped, deeper, IsShaped}
use Rattle.tq_store.specs.declared.write.Write.{Write}
use Rattle.tq_locks.specs.{declared.mode.Mode.Mode, Locks.mode_text}
use Rattle.tq_locks.specs.declared.mode.Mode.TheVariants as mode
use Rattle.tq_asks.specs.declared.ask.{CitedVote.CitedVote, HeldLock.HeldLock, NodeAsk.NodeAsk, NodeRefusal.NodeRefusal}
use Rattle.tq_asks.specs.declared.ask.{NodeReply.NodeReply, Verdict.Verdict, WorkAsk.WorkAsk}
use Rattle.tq_asks.specs.declared.ask.NodeAsk.TheVariants as ask
use Rattle.tq_asks.specs.declared.ask.NodeRefusal.TheVariants as refusal
use Rattle.tq_asks.specs.declared.ask.NodeReply.TheVariants as reply
use Rattle.tq_asks.specs.declared.ask.Verdict.TheVariants as verdict
use Rattle.tq_asks.specs.declared.ask.WorkAsk.TheVariants as work
use Rattle.tq_node.specs.NodeJournal.{NodeEntry}
use Rattle.tq_evidence.specs.declared.{grant.Grant.Grant, op.Op.Op, op.OpKind.OpKind, rule.Rule.Rule, vote.Vote.Vote}
use Rattle.tq_evidence.specs.Evidence.{rule_number, rule_at}
use Rattle.tq_evidence.specs.declared.op.OpKind.TheVariants as op_kind
use Rattle.tq_evidence.specs.declared.rule.Rule.TheVariants as rules
use Rattle.tq_desk.specs.declared.ask.{DeskAsk.DeskAsk, DeskRefusal.DeskRefusal, DeskReply.DeskReply}
use Rattle.tq_desk.specs.DeskJournal.{DeskEntry}
use Rattle.tq_desk.specs.declared.ask.DeskAsk.TheVariants as desk
use Rattle.tq_desk.specs.declared.ask.DeskRefusal.TheVariants as desk_refusal
use Rattle.tq_desk.specs.declared.ask.DeskReply.TheVariants as desk_reply
use Rattle.tq_live.specs.declared.purpose.Purpose.TheVariants as purpose
use Rattle.tq_live.specs.declared.view.{ViewAsk.ViewAsk, ViewReply.ViewReply}
use Rattle.tq_live.specs.declared.view.ViewAsk.TheVariants as view
use Rattle.tq_live.specs.declared.view.ViewReply.TheVariants as view_reply
use Rattle.tq_live.specs.declared.view.ViewRefusal.TheVariants as view_refusal
use Rattle.tq_tables.specs.Journals.{ViewEntry, IsOfTree, JournalsView}
use Rattle.tq_json_read.specs.Locking as locking
use Rattle.tq_json_read.specs.Nodes as node_form
use Rattle.tq_json_read.specs.Desks as desk_form
use Rattle.tq_json_read.specs.Views as view_form
use Rattle.tq_board.specs.Nodes as nodes
use Rattle.tq_board.specs.Form as forms
use Rattle.tq_json_read.specs.Frame as frame

pub name-again : (name : List ℕ) → IsFile name → name_of name ≡ Some name
name-again name h = ap (λ b. cond b (Some name) None) h

pub content-again : (bytes : List ℕ) → IsContent bytes → content_of Two (encode_lower bytes) ≡ Some bytes
content-again bytes h =
    ap (λ r. content_read r >>= short_enough Two) (decode_of-encode_lower bytes h.0)
    ∙ ap (λ b. cond b (Some bytes) None) (le-leb (length bytes) 4000 h.1)

pub each-again : {A : Type 0} (form : Data → Option A) (value : A → Data) (P : A → Type 0) → ((x : A) → P x → form (value x) ≡ Some x)
    → (xs : List A) → AllByRecursion P xs → each form (value_items value xs) ≡ Some xs
each-again form value P again [] h = refl
each-again form value P again (x ∷ xs) h = rw (again x h.0, each-again form value P again xs h.1)

pub all : {A : Type 0} (P : A → Type 0) → ((x : A) → P x) → (xs : List A) → AllByRecursion P xs
all P h [] = tt
all P h (x ∷ xs) = (h x, all P h xs)

pub both : {A : Type 0} (P Q : A → Type 0) (xs : List A) → AllByRecursion P xs → AllByRecursion Q xs → AllByRecursion (λ x. P x × Q x) xs
both P Q [] p q = tt
both P Q (x ∷ xs) p q = ((p.0, q.0), both P Q xs p.1 q.1)

pub numbers-again : (numbers : List ℕ) → each number_of (value_items whole numbers) ≡ Some numbers
numbers-again [] = refl
numbers-again (n ∷ ns) = rw (numbers-again ns)

pub entry-again : {A R : Type 0} (ask_form : Data → Option A) (reply_form : Data → Option R) (ask_value : A → Data) (reply_value : R → Data) (x : Entry A R)
    → ask_form (ask_value x.ask) ≡ Some x.ask → reply_form (reply_value x.reply) ≡ Some x.reply → entry ask_form reply_form (entry_value ask_value reply_value x) ≡ Some x
entry-again ask_form reply_form ask_value reply_value x asked replied = rw (asked, replied)

pub count-value_items : {A : Type 0} (value : A → Data) (xs : List A) → count (value_items value xs) ≡ length xs
count-value_items value [] = refl
count-value_items value (x ∷ xs) = ap suc (count-value_items value xs)

pub journal-again : {A : Type 0} (form : Data → Option A) (value : A → Data) (P : A → Type 0) → ((x : A) → P x → form (value x) ≡ Some x)
    → (limit : ℕ) (xs : List A) → length xs ≤ limit → AllByRecursion P xs → journal form limit (list_value value xs) ≡ Some xs
journal-again form value P again limit xs few_enough h =
    let room : nat_lt limit (count (value_items value xs)) ≡ false = ap (λ n. nat_lt limit n) (count-value_items value xs) ∙ le-ltb limit (length xs) few_enough in
    ap (λ b. cond b None (Some (value_items value xs)) >>= each form) room ∙ each-again form value P again xs h

-- ---- servers

mode-again : (m : Mode) → locking.mode_of (mode_text m) ≡ Some m
mode-again mode.Shared = refl
mode-again mode.Exclusive = refl

write-again : (write : Write) → IsWrite write → locking.write Two (nodes.write_value write) ≡ Some write
write-again write h = rw (content-again write.content h.1, name-again write.file h.0)

held-again : (lock : HeldLock) → IsHeldLock lock → locking.held_lock (nodes.held_value lock) ≡ Some lock
held-again lock h = rw (name-again lock.file h, mode-again lock.mode)

cited-again : (vote : CitedVote) → IsAny vote → locking.citation (nodes.cited_value vote) ≡ Some vote
cited-again vote h = refl

writes-again : (writes : List Write) → AllByRecursion IsWrite writes → each (locking.write Two) (value_items nodes.write_value writes) ≡ Some writes
writes-again writes h = each-again (locking.write Two) nodes.write_value IsWrite write-again writes h

locks-again : (held : List HeldLock) → AllByRecursion IsHeldLock held → each locking.held_lock (value_items nodes.held_value held) ≡ Some held
locks-again held h = each-again locking.held_lock nodes.held_value IsHeldLock held-again held h

votes-again : (votes : List CitedVote) → each locking.citation (value_items nodes.cited_value votes) ≡ Some votes
votes-again votes = each-again locking.citation nodes.cited_value IsAny cited-again votes (all IsAny (λ vote. tt) votes)

verdict-again : (v : Verdict) → locking.verdict (nodes.verdict_value v) ≡ Some v
verdict-again verdict.Abort = refl
verdict-again (verdict.Commit votes) = rw (votes-again votes)

work-again : (w : WorkAsk) → IsWork w → node_form.work_at Two (nodes.work_value w) ≡ Some w
work-again (work.Lock m txn file) h = rw (name-again file h, mode-again m)
work-again (work.Prepare txn writes) h = rw (writes-again writes h)
work-again (work.Decide txn v cite) h = rw (verdict-again v)
work-again (work.Peek file) h = rw (name-again file h)
work-again (work.Refresh file version content from) h = rw (name-again file h.0, content-again content h.1)
work-again _ h = refl

node-ask-again : (a : NodeAsk) → IsNodeAsk a → node_form.node_ask Two (nodes.node_ask_value a) ≡ Some a
node-ask-again (ask.Work (work.Lock m txn file)) h = rw (name-again file h, mode-again m)
node-ask-again (ask.Work (work.Prepare txn writes)) h = rw (writes-again writes h)
node-ask-again (ask.Work (work.Decide txn v cite)) h = rw (verdict-again v)
node-ask-again (ask.Work (work.Peek file)) h = rw (name-again file h)
node-ask-again (ask.Work (work.Refresh file version content from)) h = rw (name-again file h.0, content-again content h.1)
node-ask-again (ask.CrashIn after a) h = rw (le-leb after 4294967295 h.1, work-again a h.0)
node-ask-again _ h = refl

node-refusal-again : (r : NodeRefusal) → IsNodeRefusal r → node_form.node_reply Two (nodes.node_refusal_value r) ≡ Some (reply.Refused r)
node-refusal-again (refusal.NotLocked file) h = rw (name-again file h)
node-refusal-again _ h = refl

node-reply-again : (r : NodeReply) → IsNodeReply r → node_form.node_reply Two (nodes.node_reply_value r) ≡ Some r
node-reply-again (reply.Granted version content) h = rw (content-again content h)
node-reply-again (reply.Yes held writes) h = rw (locks-again held h.0, writes-again writes h.1)
node-reply-again (reply.Copy version content) h = rw (content-again content h)
node-reply-again (reply.Refused r) h = node-refusal-again r h
node-reply-again _ h = refl

pub node-entry-again : (entry : NodeEntry) → IsNodeEntry entry → node_entry Two (nodes.node_entry_value entry) ≡ Some entry
node-entry-again entry h =
    entry-again (node_form.node_ask Two) (node_form.node_reply Two) nodes.node_ask_value nodes.node_reply_value entry (node-ask-again entry.ask h.0) (node-reply-again entry.reply h.1)

-- ---- the desk

kind-again : (k : OpKind) → desk_form.kind_of (forms.kind_text k) ≡ Some k
kind-again op_kind.Read = refl
kind-again op_kind.Write = refl

grant-again : (grant : Grant) → IsGrant grant → desk_form.grant Two (forms.grant_value grant) ≡ Some grant
grant-again grant h = rw (mode-again grant.mode, content-again grant.content h)

grants-again : (grants : List Grant) → AllByRecursion IsGrant grants → each (desk_form.grant Two) (value_items forms.grant_value grants) ≡ Some grants
grants-again grants h = each-again (desk_form.grant Two) forms.grant_value IsGrant grant-again grants h

op-again : (op : Op) → IsOp op → desk_form.op Two (forms.op_value op) ≡ Some op
op-again op h = rw (name-again op.file h.0, kind-again op.kind, content-again op.content h.1, grants-again op.grants h.2)

vote-again : (vote : Vote) → IsVote vote → desk_form.vote Two (forms.vote_value vote) ≡ Some vote
vote-again vote h = rw (locks-again vote.held h.0, writes-again vote.writes h.1)

ops-again : (ops : List Op) → AllByRecursion IsOp ops → each (desk_form.op Two) (value_items forms.op_value ops) ≡ Some ops
ops-again ops h = each-again (desk_form.op Two) forms.op_value IsOp op-again ops h

cast-votes-again : (votes : List Vote) → AllByRecursion IsVote votes → each (desk_form.vote Two) (value_items forms.vote_value votes) ≡ Some votes
cast-votes-again votes h = each-again (desk_form.vote Two) forms.vote_value IsVote vote-again votes h

desk-ask-again : (a : DeskAsk) → IsDeskAsk a → desk_form.desk_ask Two (forms.desk_ask_value a) ≡ Some a
desk-ask-again (desk.Commit txn ops votes) h = rw (ops-again ops h.0, cast-votes-again votes h.1)
desk-ask-again _ h = refl

rule-again : (rule : Rule) → rule_at (rule_number rule) ≡ Some rule
rule-again rules.Quorum = refl
rule-again _ = refl

desk-refusal-again : (r : DeskRefusal) → desk_form.desk_reply (forms.desk_refusal_value r) ≡ Some (desk_reply.Refused r)
desk-refusal-again (desk_refusal.Decided v) = rw (verdict-again v)
desk-refusal-again (desk_refusal.BadEvidence rule) = rw (rule-again rule)
desk-refusal-again _ = refl

desk-reply-again : (r : DeskReply) → desk_form.desk_reply (forms.desk_reply_value r) ≡ Some r
desk-reply-again (desk_reply.Verdict v) = rw (verdict-again v)
desk-reply-again (desk_reply.Refused r) = desk-refusal-again r
desk-reply-again _ = refl

pub desk-entry-again : (entry : DeskEntry) → IsDeskEntry entry → desk_entry Two (forms.desk_entry_value entry) ≡ Some entry
desk-entry-again entry h =
    entry-again (desk_form.desk_ask Two) desk_form.desk_reply forms.desk_ask_value forms.desk_reply_value entry (desk-ask-again entry.ask h.0) (desk-reply-again entry.reply)

-- ---- the view

view-ask-again : (a : ViewAsk) → view_form.view_ask Two (forms.view_ask_value a) ≡ Some a
view-ask-again (view.SetCost server read write) = refl
view-ask-again (view.Mark server up) = refl
view-ask-again (view.Choose purpose.Read) = refl
view-ask-again (view.Choose purpose.Write) = refl

view-reply-again : (levels : ℕ) (r : ViewReply) → IsViewReply r × IsOfTree levels r → view_form.view_reply levels (forms.view_reply_value r) ≡ Some r
view-reply-again levels (view_reply.Chosen quorum cost) h = rw (numbers-again quorum.servers, sym h.1, h.0)
view-reply-again levels (view_reply.Refused (view_refusal.Blocked blocker)) h = rw (numbers-again blocker.servers, sym h.1, h.0)
view-reply-again levels _ h = refl

pub view-entry-again : (levels : ℕ) (entry : ViewEntry) → IsViewEntry entry × IsOfTree levels entry.reply → view_entry Two levels (forms.view_entry_value entry) ≡ Some entry
view-entry-again levels entry h =
    entry-again (view_form.view_ask Two) (view_form.view_reply levels) forms.view_ask_value forms.view_reply_value entry (view-ask-again entry.ask) (view-reply-again levels entry.reply (h.0.1, h.1))

-- ---- journals

two-tests : (a b : Bool) → a ≡ true → b ≡ true → (a && b) ≡ true
two-tests a b p q = rw (p, q)

within : (most n : ℕ) → 1 ≤ n → n ≤ most → cond (nat_le 1 n && nat_le n most) (Some n) None ≡ Some n
within most n least top = ap (λ b. cond b (Some n) None) (two-tests (nat_le 1 n) (nat_le n most) (le-leb 1 n least) (le-leb n most top))

limits-again : (limits : LimitsView) → HasLimits limits → frame.limits (limits_value limits) ≡ Some limits
limits-again limits h =
    rw (within 1000000 limits.entries h.2.0 h.2.1, within 1000 limits.files h.0.0 h.0.1, within 64 limits.ops h.1.0 h.1.1)

one-each-again : (levels : ℕ) (values : Items) → count values + 1 ≡ 2 ^ levels → frame.one_each levels values ≡ Some values
one-each-again levels values e = ap (λ b. cond b (Some values) None) (eq-eqb (count values + 1) (2 ^ levels) e)

servers-again : (levels limit : ℕ) (servers : List (List NodeEntry)) → length servers + 1 ≡ 2 ^ levels → AllByRecursion (λ entries. length entries ≤ limit) servers → AllByRecursion (AllByRecursion IsNodeEntry) servers
    → (frame.one_each levels (value_items (list_value node_entry_value) servers) >>= each (journal (node_entry Two) limit)) ≡ Some servers
servers-again levels limit servers e few sound =
    ap (λ o. o >>= each (journal (node_entry Two) limit)) (one-each-again levels (value_items (list_value node_entry_value) servers) (ap (λ n. n + 1) (count-value_items (list_value node_entry_value) servers) ∙ e))
    ∙ each-again (journal (node_entry Two) limit) (list_value node_entry_value) (λ entries. (length entries ≤ limit) × AllByRecursion IsNodeEntry entries)
    (λ entries h. journal-again (node_entry Two) node_entry_value IsNodeEntry node-entry-again limit entries h.0 h.1)
    servers (both (λ entries. length entries ≤ limit) (AllByRecursion IsNodeEntry) servers few sound)

journals-again : (journals : JournalsView) → AreSound journals → frame.journals_in Two (journals_value journals) ≡ Some journals
journals-again journals h =
    let limit = journals.limits.entries in
    let levels = within 10 journals.levels h.levels.0 h.levels.1 in
    let limits = limits-again journals.limits h.limits in
    let servers = servers-again journals.levels limit journals.servers h.fit.one_each (recursion_from_All (λ entries. length entries ≤ limit) journals.servers h.fit.servers_fit) h.servers in
    let desk = journal-again (desk_entry Two) desk_entry_value IsDeskEntry desk-entry-again limit journals.desk h.fit.desk_fits h.desk in
    let of_tree = both IsViewEntry (λ entry. IsOfTree journals.levels entry.reply) journals.view h.view (recursion_from_All (λ entry. IsOfTree journals.levels entry.reply) journals.view h.fit.of_tree) in
    let view = journal-again (view_entry Two journals.levels) view_entry_value (λ entry. IsViewEntry entry × IsOfTree journals.levels entry.reply) (view-entry-again journals.levels) limit journals.view h.fit.view_fits of_tree in
    rw (levels, limits, servers, desk, view)

pub text-again : (journals : JournalsView) (text : List ℕ) → IsUtf8 text → text ≡ compact_text (journals_value journals) ++ 10 ∷ []
    → IsFitting (journals_value journals) → AreSound journals → IsTextOf text journals
text-again journals text utf8 same fits sound =
    let value = journals_value journals in
    (value, (utf8, rw same (read-line value (journals-shaped journals) fits)), (refl, journals-again journals sound))

-- ---- lines back

line-back : {X : Type 0} (form : Data → Option X) (value : Data) (x : X) (text : List ℕ) → IsShaped value 125 → form value ≡ Some x
    → IsUtf8 text → text ≡ line_of value → IsFitting value → IsAlone form text (Some x)
line-back form value x text shaped again utf8 is fits = (value, (utf8, rw is (read-line value (deeper value 125 127 (omega arith) shaped) fits)), again)

pub node-line-back : (entry : NodeEntry) (text : List ℕ) → IsUtf8 text → text ≡ line_of (node_entry_value entry) → IsFitting (node_entry_value entry) → IsNodeEntry entry
    → IsAlone (node_entry Two) text (Some entry)
node-line-back entry text utf8 is fits sound =
    line-back (node_entry Two) (node_entry_value entry) entry text (deeper (node_entry_value entry) 124 125 (omega arith) (node-entry-shaped entry)) (node-entry-again entry sound) utf8 is fits

pub desk-line-back : (entry : DeskEntry) (text : List ℕ) → IsUtf8 text → text ≡ line_of (desk_entry_value entry) → IsFitting (desk_entry_value entry) → IsDeskEntry entry
    → IsAlone (desk_entry Two) text (Some entry)
desk-line-back entry text utf8 is fits sound =
    line-back (desk_entry Two) (desk_entry_value entry) entry text (desk-entry-shaped entry) (desk-entry-again entry sound) utf8 is fits

-- its quorum or blocker is of the tree
pub view-line-back : (levels : ℕ) (entry : ViewEntry) (text : List ℕ) → IsUtf8 text → text ≡ line_of (view_entry_value entry) → IsFitting (view_entry_value entry) → IsViewEntry entry → IsOfTree levels entry.reply
    → IsAlone (view_entry Two levels) text (Some entry)
view-line-back levels entry text utf8 is fits sound of_tree =
    line-back (view_entry Two levels) (view_entry_value entry) entry text (view-entry-shaped entry) (view-entry-again levels entry (sound, of_tree)) utf8 is fits
