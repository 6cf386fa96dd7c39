-- Which part of a system a part is. What a caller of a cluster was told.
use Rattle.std.specs.Prelude.{◌≡◌, ℕ, ◌≤◌, ◌⊎◌, ◌-◌, ◌^◌, List, [], ◌∷◌, Result, Ok, Err, IfOk, IfErr, OnErr, get_or, max, set, replicate}
use Rattle.std.specs.List.{AllByRecursion}
use Rattle.tq_shape.specs.{Limits.LimitsView, declared.part.Part.Part, declared.fault.AskFault.AskFault}
use Rattle.tq_node.specs.{Node.{NodeView, server_after}, Records.node_reply}
use Rattle.tq_desk.specs.{DeskStep.{DeskView, desk_reply, desk_after}, declared.ask.DeskAsk.DeskAsk}
use Rattle.tq_desk.specs.declared.ask.DeskReply.{DeskReply}
use Rattle.tq_live.specs.{Live.Live, View.{view_state, view_reply, view_after}, declared.view.ViewAsk.ViewAsk}
use Rattle.tq_live.specs.declared.view.ViewReply.{ViewReply}
use Rattle.tq_shape.specs.declared.part.Part.TheVariants as parts
use Rattle.tq_cells.specs.Passes.{IsToldByOneOf}
use Rattle.tq_asks.specs.declared.ask.{NodeAsk.NodeAsk, NodeReply.NodeReply}
use Rattle.tq_node.specs.Node as node
use Rattle.tq_desk.specs.DeskStep as desk
use Rattle.tq_txn.specs.{declared.asker.Exchange.Exchange, Dialogue.{Told, unless_memory}}
use Rattle.tq_txn.specs.declared.asker.Exchange.TheVariants as exchanges
use Rattle.tq_shape.specs.declared.fault.AskFault.TheVariants as faults
use Rattle.tq_cluster.specs.declared.asked.Numbered.{Numbered}

-- the server of that number in a tree of so many levels; a desk of so many levels and those limits; the view of such a tree
abbrev pub IsServerOf : ℕ → ℕ → NodeView → Type 0
IsServerOf levels number server = (server.levels ≡ levels) × (server.server ≡ number)

abbrev pub IsDeskOf : ℕ → LimitsView → DeskView → Type 0
IsDeskOf levels limits desk = (desk.levels ≡ levels) × (desk.limits ≡ limits)

abbrev pub IsViewOf : ℕ → Live → Type 0
IsViewOf levels view = view.levels ≡ levels

-- ---- told

-- of each part the greatest number of an entry that one was told of, 0 where of none: of the servers upwards from server 1,
-- of the desk and of the view
pub record SeenView : Type 0 where
  pub servers : List ℕ
  pub desk : ℕ
  pub view : ℕ

-- a caller asks the servers of a tree of those levels, was told this of its asks, in their order, and has seen so far
pub record CallerView : Type 0 where
  pub levels : ℕ
  pub told : List Exchange
  pub seen : SeenView

-- nothing was seen of the parts of a system
abbrev pub nothing_seen : ℕ → SeenView
nothing_seen levels = record { servers = replicate (2 ^ levels - 1) 0; desk = 0; view = 0 }

-- the greatest number that the caller was told of the part
abbrev pub seen_of : CallerView → Part → ℕ
seen_of caller (parts.Server number) = get_or caller.seen.servers (number - 1) 0
seen_of caller parts.Desk = caller.seen.desk
seen_of caller parts.View = caller.seen.view

-- the caller, who has seen that number of the part, and of the others as before
abbrev pub having_seen : CallerView → Part → ℕ → CallerView
having_seen caller (parts.Server number) seen = record caller { seen = record caller.seen { servers = set caller.seen.servers (number - 1) seen } }
having_seen caller parts.Desk seen = record caller { seen = record caller.seen { desk = seen } }
having_seen caller parts.View seen = record caller { seen = record caller.seen { view = seen } }

-- of each part the caller has seen then what it had seen of it before, or more
abbrev pub SeesOn : CallerView → CallerView → Type 0
SeesOn old new = (part : Part) → seen_of old part ≤ seen_of new part

-- the part was asked: its caller has seen of it the greatest number that it was told, and at a fault what it had seen;
-- the fault is want of memory or the full journal of the part; what it has seen of other parts stays, and its tree
pub record IsHeard {A : Type 0} (part : Part) (result : Result A AskFault) (number : A → ℕ) (old new : CallerView) : Type 0 where
  pub seen : IfOk result (λ told. seen_of new part ≡ max (seen_of old part) (number told))
  pub not_told : OnErr result (new.seen ≡ old.seen)
  pub fault : IfErr result (λ fault. (fault ≡ faults.Memory) ⊎ (fault ≡ faults.JournalFull part))
  pub others : new.seen ≡ (having_seen old part (seen_of new part)).seen
  pub tree : new.levels ≡ old.levels

-- the number of a server by its name, 0 for another part
abbrev pub server_of : Part → ℕ
server_of (parts.Server number) = number
server_of other = 0

-- what an ask adds to what its caller was told: the exchange of it; nothing where memory was refused
abbrev pub exchanges_of : {A R : Type 0} → (A → Told R → Exchange) → A → Result (Numbered A R) AskFault → List Exchange
exchanges_of exchange ask (Ok told) = exchange ask (Ok (record { number = told.number; reply = told.reply })) ∷ []
exchanges_of exchange ask (Err fault) = unless_memory fault (exchange ask (Err fault))

-- a legal journal of the server of that number in such a tree has this entry at this number; of the desk of such a system; of
-- the view of such a tree
abbrev pub IsToldByServer : ℕ → ℕ → ℕ → NodeAsk → NodeReply → Type 0
IsToldByServer levels server = IsToldByOneOf (IsServerOf levels server) (λ (s : NodeView) (n : ℕ) (a : NodeAsk). node_reply s.server s.state a) (λ s n a. server_after s n a) (λ s. node.opening_server s.levels s.server)

abbrev pub IsToldByDesk : ℕ → LimitsView → ℕ → DeskAsk → DeskReply → Type 0
IsToldByDesk levels limits = IsToldByOneOf (IsDeskOf levels limits) (λ (s : DeskView) (n : ℕ) (a : DeskAsk). desk_reply s a) (λ s n a. desk_after s a) (λ s. desk.opening_desk s.levels s.limits)

abbrev pub IsToldByView : ℕ → ℕ → ViewAsk → ViewReply → Type 0
IsToldByView levels = IsToldByOneOf (IsViewOf levels) (λ (s : Live) (n : ℕ) (a : ViewAsk). view_reply s a) (λ s n a. view_after s a) (λ s. view_state s.levels [])

-- the exchange is one of a part of a system with so many levels: what was told stands so in a legal journal of that part, of the
-- desk by some limits; or the ask was not taken since the part's journal is full
abbrev pub IsOfPart : ℕ → Exchange → Type 0
IsOfPart levels (exchanges.Node server ask (Ok told)) = IsToldByServer levels server told.number ask told.reply
IsOfPart levels (exchanges.Node server ask (Err fault)) = fault ≡ faults.JournalFull (parts.Server server)
IsOfPart levels (exchanges.Desk ask (Ok told)) = (limits : LimitsView) × IsToldByDesk levels limits told.number ask told.reply
IsOfPart levels (exchanges.Desk ask (Err fault)) = fault ≡ faults.JournalFull parts.Desk
IsOfPart levels (exchanges.View ask (Ok told)) = IsToldByView levels told.number ask told.reply
IsOfPart levels (exchanges.View ask (Err fault)) = fault ≡ faults.JournalFull parts.View

-- each of these exchanges is
abbrev pub AreOfParts : ℕ → List Exchange → Type 0
AreOfParts levels told = AllByRecursion (IsOfPart levels) told

-- all that these callers were told was told by parts of the systems that they ask
abbrev pub AreToldByParts : List CallerView → Type 0
AreToldByParts callers = AllByRecursion (λ (c : CallerView). AreOfParts c.levels c.told) callers
