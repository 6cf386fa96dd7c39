-- What the view and the desk are asked and what they reply, as values. The journals of all parts of a system, as one value of
-- format 2.
use Rattle.std.specs.Prelude.{codes, ℕ, List, [], ◌∷◌, ◌++◌}
use Rattle.serde_json.specs.{Data.{Data, object, member, no_members, string, boolean}, Written.compact_text}
use Rattle.tq_coterie.specs.Coterie.{ServerList}
use Rattle.tq_live.specs.{Costs.purpose_text, declared.{purpose.Purpose.Purpose, view.ViewAsk.ViewAsk}}
use Rattle.tq_live.specs.declared.view.{ViewAsk.TheVariants.{SetCost, Mark, Choose}, ViewReply.ViewReply}
use Rattle.tq_live.specs.declared.view.ViewRefusal.{ViewRefusal, TheVariants.{NoSuchServer, BadCost, Blocked}}
use Rattle.tq_live.specs.declared.view.ViewReply.TheVariants as told
use Rattle.tq_tables.specs.Journals.{ViewEntry, JournalsView}
use Rattle.tq_board.specs.Values.{whole, list_value, kind_value, code_value, entry_value, content_value}
use Rattle.tq_board.specs.Nodes.{mode_value, write_value, held_value, verdict_value, node_entry_value}
use Rattle.tq_evidence.specs.declared.{grant.Grant.Grant, op.Op.Op, op.OpKind.OpKind, vote.Vote.Vote, rule.Rule.Rule}
use Rattle.tq_evidence.specs.{declared.op.OpKind.TheVariants.{Read, Write}, Evidence.rule_number}
use Rattle.tq_desk.specs.declared.ask.{DeskAsk.DeskAsk, DeskAsk.TheVariants.{Begin, Commit, Resolve}}
use Rattle.tq_desk.specs.{declared.ask.DeskRefusal.DeskRefusal, declared.ask.DeskReply.DeskReply, DeskJournal.DeskEntry}
use Rattle.tq_desk.specs.declared.ask.DeskRefusal.TheVariants.{NoSuchTxn, Decided, TooManyOps, BadEvidence, TooManyFiles}
use Rattle.tq_desk.specs.declared.ask.DeskReply.TheVariants.{Txn, Verdict, Committed, Refused}
use Rattle.tq_shape.specs.Limits.{LimitsView}
use Rattle.tq_json.specs.{declared.format.Format.TheVariants.Two, Member.format_number}

-- the servers of a quorum or of a blocker, by their numbers
abbrev pub servers_value : ServerList → Data
servers_value list = list_value whole list.servers

-- a purpose by its word
abbrev pub purpose_value : Purpose → Data
purpose_value purpose = string (purpose_text purpose)

abbrev pub view_ask_value : ViewAsk → Data
view_ask_value (SetCost server read write) =
    object (member (codes "is") (string (codes "setcost"))
    (member (codes "read") (whole read)
    (member (codes "server") (whole server)
    (member (codes "write") (whole write) no_members))))
view_ask_value (Mark server up) =
    object (member (codes "is") (string (codes "mark"))
    (member (codes "server") (whole server)
    (member (codes "up") (boolean up) no_members)))
view_ask_value (Choose purpose) =
    object (member (codes "is") (string (codes "choose"))
    (member (codes "purpose") (purpose_value purpose) no_members))

abbrev pub view_refusal_value : ViewRefusal → Data
view_refusal_value NoSuchServer = code_value 31
view_refusal_value BadCost = code_value 32
view_refusal_value (Blocked blocker) =
    object (member (codes "code") (whole 33)
    (member (codes "is") (string (codes "refused"))
    (member (codes "servers") (servers_value blocker) no_members)))

abbrev pub view_reply_value : ViewReply → Data
view_reply_value told.CostSet = kind_value (codes "costset")
view_reply_value told.Marked = kind_value (codes "marked")
view_reply_value (told.Chosen quorum cost) =
    object (member (codes "cost") (whole cost)
    (member (codes "is") (string (codes "chosen"))
    (member (codes "servers") (servers_value quorum) no_members)))
view_reply_value (told.Refused refusal) = view_refusal_value refusal

abbrev pub view_entry_value : ViewEntry → Data
view_entry_value = entry_value view_ask_value view_reply_value

-- ---- desk

abbrev pub kind_text : OpKind → List ℕ
kind_text Read = codes "read"
kind_text Write = codes "write"

abbrev pub op_kind_value : OpKind → Data
op_kind_value kind = string (kind_text kind)

abbrev pub grant_value : Grant → Data
grant_value grant =
    object (member (codes "content") (content_value grant.content)
    (member (codes "mode") (mode_value grant.mode)
    (member (codes "number") (whole grant.number)
    (member (codes "server") (whole grant.server)
    (member (codes "version") (whole grant.version) no_members)))))

abbrev pub op_value : Op → Data
op_value op =
    object (member (codes "content") (content_value op.content)
    (member (codes "file") (string op.file)
    (member (codes "grants") (list_value grant_value op.grants)
    (member (codes "kind") (op_kind_value op.kind)
    (member (codes "version") (whole op.version) no_members)))))

abbrev pub vote_value : Vote → Data
vote_value vote =
    object (member (codes "held") (list_value held_value vote.held)
    (member (codes "number") (whole vote.number)
    (member (codes "server") (whole vote.server)
    (member (codes "writes") (list_value write_value vote.writes) no_members))))

abbrev pub desk_ask_value : DeskAsk → Data
desk_ask_value Begin = kind_value (codes "begin")
desk_ask_value (Commit txn ops votes) =
    object (member (codes "is") (string (codes "commit"))
    (member (codes "ops") (list_value op_value ops)
    (member (codes "txn") (whole txn)
    (member (codes "votes") (list_value vote_value votes) no_members))))
desk_ask_value (Resolve txn) =
    object (member (codes "is") (string (codes "resolve"))
    (member (codes "txn") (whole txn) no_members))

-- a rule by its number
abbrev pub rule_value : Rule → Data
rule_value rule = whole (rule_number rule)

abbrev pub desk_refusal_value : DeskRefusal → Data
desk_refusal_value NoSuchTxn = code_value 21
desk_refusal_value (Decided verdict) =
    object (member (codes "code") (whole 22)
    (member (codes "is") (string (codes "refused"))
    (member (codes "verdict") (verdict_value verdict) no_members)))
desk_refusal_value TooManyOps = code_value 24
desk_refusal_value (BadEvidence rule) =
    object (member (codes "code") (whole 23)
    (member (codes "is") (string (codes "refused"))
    (member (codes "rule") (rule_value rule) no_members)))
desk_refusal_value TooManyFiles = code_value 25

abbrev pub desk_reply_value : DeskReply → Data
desk_reply_value (Txn txn) =
    object (member (codes "is") (string (codes "txn"))
    (member (codes "txn") (whole txn) no_members))
desk_reply_value (Verdict verdict) =
    object (member (codes "is") (string (codes "verdict"))
    (member (codes "verdict") (verdict_value verdict) no_members))
desk_reply_value (Committed serial) =
    object (member (codes "is") (string (codes "committed"))
    (member (codes "serial") (whole serial) no_members))
desk_reply_value (Refused refusal) = desk_refusal_value refusal

abbrev pub desk_entry_value : DeskEntry → Data
desk_entry_value = entry_value desk_ask_value desk_reply_value

-- ---- journals

abbrev pub limits_value : LimitsView → Data
limits_value limits =
    object (member (codes "entries") (whole limits.entries)
    (member (codes "files") (whole limits.files)
    (member (codes "ops") (whole limits.ops) no_members)))

abbrev pub journals_value : JournalsView → Data
journals_value journals =
    object (member (codes "desk") (list_value desk_entry_value journals.desk)
    (member (codes "format") (whole (format_number Two))
    (member (codes "levels") (whole journals.levels)
    (member (codes "limits") (limits_value journals.limits)
    (member (codes "servers") (list_value (list_value node_entry_value) journals.servers)
    (member (codes "view") (list_value view_entry_value journals.view) no_members))))))

-- the journals as one line: the text of their value, and a line feed
abbrev pub journals_line : JournalsView → List ℕ
journals_line journals = compact_text (journals_value journals) ++ 10 ∷ []
