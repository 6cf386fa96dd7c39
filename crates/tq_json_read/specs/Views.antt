-- What the view is asked, and what it replies.
use Rattle.std.specs.{Prelude.{ℕ, ◌==◌, Bool, List, Option, Some, None, option_map, cond, codes}, Str.bytes_eq}
use Rattle.serde_json.specs.Data.{Data}
use Rattle.tq_coterie.specs.Coterie.{ServerList, is_quorum}
use Rattle.tq_live.specs.{Costs.purpose_of, declared.purpose.Purpose.Purpose, declared.purpose.Purpose.TheVariants.Read}
use Rattle.tq_live.specs.declared.view.{ViewAsk.ViewAsk, ViewAsk.TheVariants.{SetCost, Mark, Choose}}
use Rattle.tq_live.specs.declared.view.{ViewReply.ViewReply, ViewReply.TheVariants.{CostSet, Marked, Chosen, Refused}}
use Rattle.tq_live.specs.declared.view.ViewRefusal.TheVariants.{NoSuchServer, BadCost, Blocked}
use Rattle.tq_json_read.specs.declared.{view_ask.ViewMembers.ViewMembers, view_reply.Servers.Servers}
use Rattle.tq_json.specs.declared.format.{Format.Format, Format.TheVariants.{One, Two}}
use Rattle.tq_json.specs.Member.{◌>>=◌, text_at, number_at, number_of, flag_at, items_at, each}

-- ---- asks

-- one cost, which is that for reading and that for writing
abbrev pub set_one_cost : Option ℕ → Option ℕ → Option ViewAsk
set_one_cost cost server = do
  cost ← cost
  server ← server
  Some (SetCost server cost cost)

abbrev pub set_costs : Option ℕ → Option ℕ → Option ℕ → Option ViewAsk
set_costs read server write = do
  read ← read
  server ← server
  write ← write
  Some (SetCost server read write)

abbrev pub set_cost : Format → ViewMembers → Option ViewAsk
set_cost One members = set_one_cost members.cost members.server
set_cost Two members = set_costs members.read members.server members.write

abbrev pub mark : Option ℕ → Option Bool → Option ViewAsk
mark server up = do
  server ← server
  up ← up
  Some (Mark server up)

-- the purpose that the object names
abbrev pub purpose_at : Data → Option Purpose
purpose_at value = do
  text ← text_at (codes "purpose") value
  purpose_of text

-- without a purpose it is for reading
abbrev pub choose : Format → Option Purpose → Option ViewAsk
choose One purpose = Some (Choose Read)
choose Two purpose = option_map Choose purpose

abbrev pub view_ask_by : Format → Option (List ℕ) → ViewMembers → Option ViewAsk
view_ask_by format kind members = do
  kind ← kind
  cond (bytes_eq kind (codes "setcost")) (set_cost format members)
      (cond (bytes_eq kind (codes "mark")) (mark members.server members.up)
      (cond (bytes_eq kind (codes "choose")) (choose format members.purpose) None))

-- the ask that a value of the form is
abbrev pub view_ask : Format → Data → Option ViewAsk
view_ask format value = view_ask_by format (text_at (codes "is") value) (record {
  cost = number_at (codes "cost") value;
  purpose = purpose_at value;
  read = number_at (codes "read") value;
  server = number_at (codes "server") value;
  up = flag_at (codes "up") value;
  write = number_at (codes "write") value;
})

-- ---- replies, in a tree of so many levels

-- the member of the coterie that the numbers are, in this order
abbrev pub member_of : ℕ → List ℕ → Option ServerList
member_of levels numbers = cond (is_quorum levels numbers) (Some (record { servers = numbers; levels = levels })) None

abbrev pub servers_at : Data → Option (List ℕ)
servers_at value = do
  values ← items_at (codes "servers") value
  each number_of values

-- the same as the reader keeps them
abbrev pub kept : Option (List ℕ) → Option Servers
kept numbers = option_map (λ numbers. record { numbers = numbers }) numbers

abbrev pub chosen_reply : ℕ → Option ℕ → Option Servers → Option ViewReply
chosen_reply levels cost servers = do
  cost ← cost
  servers ← servers
  quorum ← member_of levels servers.numbers
  Some (Chosen quorum cost)

abbrev pub blocked_reply : ℕ → Option Servers → Option ViewReply
blocked_reply levels servers = do
  servers ← servers
  blocker ← member_of levels servers.numbers
  Some (Refused (Blocked blocker))

abbrev pub view_refused_by : ℕ → ℕ → Option Servers → Option ViewReply
view_refused_by levels code servers =
    cond (code == 31) (Some (Refused NoSuchServer))
    (cond (code == 32) (Some (Refused BadCost))
    (cond (code == 33) (blocked_reply levels servers) None))

abbrev pub view_refused : ℕ → Option ℕ → Option Servers → Option ViewReply
view_refused levels code servers = do
  code ← code
  view_refused_by levels code servers

abbrev pub view_reply_by : ℕ → Option (List ℕ) → Option ℕ → Option ℕ → Option Servers → Option ViewReply
view_reply_by levels kind code cost servers = do
  kind ← kind
  cond (bytes_eq kind (codes "costset")) (Some CostSet)
      (cond (bytes_eq kind (codes "marked")) (Some Marked)
      (cond (bytes_eq kind (codes "chosen")) (chosen_reply levels cost servers)
      (cond (bytes_eq kind (codes "refused")) (view_refused levels code servers) None)))

-- the reply that a value of the form is
abbrev pub view_reply : ℕ → Data → Option ViewReply
view_reply levels value = view_reply_by levels (text_at (codes "is") value) (number_at (codes "code") value) (number_at (codes "cost") value) (kept (servers_at value))
