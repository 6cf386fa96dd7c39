-- Founded citations: the entry that is cited stands in the world, with the content that is cited.
use Rattle.std.specs.Prelude.{◌==◌, ◌&&◌, ℕ, Bool, true, false, not, List, [], ◌∷◌, Option, Some, None, find, if◌then◌else◌}
use Rattle.std.specs.{Cmp.Lexicographic.pointwise, Option.{option_and_then, option_map, option_map_or}}
use Rattle.tq_shape.specs.{declared.part.Part.TheVariants.{Server, Desk}, Journal.or_else}
use Rattle.tq_asks.specs.declared.ask.{CitedVote.CitedVote, NodeAsk.NodeAsk, NodeReply.NodeReply, Verdict.Verdict}
use Rattle.tq_asks.specs.{declared.ask.WorkAsk.WorkAsk, Verdicts.same_verdict}
use Rattle.tq_asks.specs.declared.ask.NodeAsk.TheVariants as node_asks
use Rattle.tq_asks.specs.declared.ask.NodeReply.TheVariants as node_replies
use Rattle.tq_asks.specs.declared.ask.Verdict.TheVariants as verdicts
use Rattle.tq_asks.specs.declared.ask.WorkAsk.TheVariants as work
use Rattle.tq_desk.specs.declared.ask.{DeskAsk.DeskAsk, DeskReply.DeskReply}
use Rattle.tq_desk.specs.declared.ask.DeskAsk.TheVariants as desk_asks
use Rattle.tq_desk.specs.declared.ask.DeskRefusal.TheVariants as desk_refusals
use Rattle.tq_desk.specs.declared.ask.DeskReply.TheVariants as desk_replies
use Rattle.tq_evidence.specs.declared.{grant.Grant.Grant, op.Op.Op, vote.Vote.Vote}
use Rattle.tq_store.specs.Names.{same_name}
use Rattle.tq_tables.specs.{Same.{same_mode, same_lock, same_write}, Journals.JournalsView}
use Rattle.tq_core.specs.{declared.citation.Citation.Citation, World.{item_at, server_entry}}

-- ---- what an entry says

-- the vote is cited by this server and number
abbrev pub cites : CitedVote → Vote → Bool
cites cited vote = cited.server == vote.server && cited.number == vote.number

abbrev pub cites_votes : Verdict → List Vote → Bool
cites_votes verdicts.Abort votes = false
cites_votes (verdicts.Commit cited) votes = pointwise cites cited votes

-- a lock asked for by the transaction on the file was granted, as the grant has it
abbrev pub is_granted : ℕ → List ℕ → Grant → NodeAsk → NodeReply → Bool
is_granted txn file grant (node_asks.Work (work.Lock mode t f)) (node_replies.Granted version content) =
    t == txn && same_name f file && same_mode mode grant.mode && version == grant.version && same_name content grant.content
is_granted txn file grant ask reply = false

-- the transaction's Prepare was answered Yes, with the locks and writes of the vote
abbrev pub is_voted : ℕ → Vote → NodeAsk → NodeReply → Bool
is_voted txn vote (node_asks.Work (work.Prepare t asked)) (node_replies.Yes held writes) =
    t == txn && pointwise same_lock held vote.held && pointwise same_write writes vote.writes
is_voted txn vote ask reply = false

-- a peek at the file told this copy
abbrev pub is_peeked : List ℕ → ℕ → List ℕ → NodeAsk → NodeReply → Bool
is_peeked file version content (node_asks.Work (work.Peek f)) (node_replies.Copy v c) = same_name f file && v == version && same_name c content
is_peeked file version content ask reply = false

-- the transaction ended so: its commit was recorded, or its end was told
abbrev pub is_ended : ℕ → Verdict → DeskAsk → DeskReply → Bool
is_ended txn verdict (desk_asks.Commit t ops votes) (desk_replies.Committed serial) = t == txn && cites_votes verdict votes
is_ended txn verdict (desk_asks.Commit t ops votes) (desk_replies.Refused (desk_refusals.Decided final)) = t == txn && same_verdict final verdict
is_ended txn verdict (desk_asks.Resolve t) (desk_replies.Verdict final) = t == txn && same_verdict final verdict
is_ended txn verdict ask reply = false

-- ---- what is cited stands in the world

abbrev pub is_founded_grant : JournalsView → ℕ → List ℕ → Grant → Bool
is_founded_grant world txn file grant = option_map_or (λ entry. is_granted txn file grant entry.ask entry.reply) (server_entry world grant.server grant.number) false

abbrev pub is_founded_vote : JournalsView → ℕ → Vote → Bool
is_founded_vote world txn vote = option_map_or (λ entry. is_voted txn vote entry.ask entry.reply) (server_entry world vote.server vote.number) false

abbrev pub is_founded_copy : JournalsView → List ℕ → ℕ → List ℕ → CitedVote → Bool
is_founded_copy world file version content from =
    option_map_or (λ entry. is_peeked file version content entry.ask entry.reply) (server_entry world from.server from.number) false

abbrev pub is_founded_verdict : JournalsView → ℕ → Verdict → ℕ → Bool
is_founded_verdict world txn verdict cite = option_map_or (λ entry. is_ended txn verdict entry.ask entry.reply) (item_at world.desk cite) false

-- ---- the first citation of an ask that is not founded

abbrev pub cited_grant : Grant → Citation
cited_grant grant = record { part = Server grant.server; number = grant.number }

abbrev pub cited_vote : Vote → Citation
cited_vote vote = record { part = Server vote.server; number = vote.number }

-- the first grant that is not founded
abbrev pub unfounded_grant : JournalsView → ℕ → List ℕ → List Grant → Option Citation
unfounded_grant world txn file grants = option_map cited_grant (find (λ grant. not (is_founded_grant world txn file grant)) grants)

abbrev pub unfounded_op : JournalsView → ℕ → List Op → Option Citation
unfounded_op world txn [] = None
unfounded_op world txn (op ∷ ops) = or_else (unfounded_grant world txn op.file op.grants) (unfounded_op world txn ops)

abbrev pub unfounded_vote : JournalsView → ℕ → List Vote → Option Citation
unfounded_vote world txn votes = option_map cited_vote (find (λ vote. not (is_founded_vote world txn vote)) votes)

-- a Commit cites its grants, op by op, and then its votes
abbrev pub unfounded_in_desk_ask : JournalsView → DeskAsk → Option Citation
unfounded_in_desk_ask world (desk_asks.Commit txn ops votes) = or_else (unfounded_op world txn ops) (unfounded_vote world txn votes)
unfounded_in_desk_ask world ask = None

-- what a server's ask cites: a Decide the desk's entry with its verdict, a Refresh the Peek that told its copy
abbrev pub cited_in_work : WorkAsk → Option Citation
cited_in_work (work.Decide txn verdict cite) = Some (record { part = Desk; number = cite })
cited_in_work (work.Refresh file version content from) =
    Some (record { part = Server from.server; number = from.number })
cited_in_work ask = None

abbrev pub cited_in_node_ask : NodeAsk → Option Citation
cited_in_node_ask (node_asks.Work ask) = cited_in_work ask
cited_in_node_ask (node_asks.CrashIn after ask) = cited_in_work ask
cited_in_node_ask ask = None

-- the entry that it cites tells that verdict, or that copy
abbrev pub is_founded_work : JournalsView → WorkAsk → Bool
is_founded_work world (work.Decide txn verdict cite) = is_founded_verdict world txn verdict cite
is_founded_work world (work.Refresh file version content from) =
    is_founded_copy world file version content from
is_founded_work world ask = true

-- the citation, unless it is founded
abbrev pub unless : Bool → Citation → Option Citation
unless founded citation = if founded then None else Some citation

-- what the ask cites, unless that is founded
abbrev pub unfounded_in_work : JournalsView → WorkAsk → Option Citation
unfounded_in_work world ask = option_and_then (unless (is_founded_work world ask)) (cited_in_work ask)

abbrev pub unfounded_in_node_ask : JournalsView → NodeAsk → Option Citation
unfounded_in_node_ask world (node_asks.Work ask) = unfounded_in_work world ask
unfounded_in_node_ask world (node_asks.CrashIn after ask) = unfounded_in_work world ask
unfounded_in_node_ask world ask = None
