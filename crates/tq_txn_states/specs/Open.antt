-- The place in a list before the first value that is later, or its end. Lists in order: sets of servers as the
-- ascending lists of their numbers, and a value put at its place. An open transaction: what it has read and written,
-- and what an answer that it is told makes of it.
use Rattle.std.specs.Prelude.{ℕ, Bool, List, length, position, ◌≡◌, ◌==◌, ◌≤◌, true, false, [], ◌∷◌, fold, nat_lt, if◌then◌else◌, ◌+◌, ◌^◌, not, ◌&&◌, nat_le, Option, Some, None, is_none}
use Rattle.std.specs.{Option.{unwrap_or, option_map}, List.{list_all, list_any, find, filter_map}, Ordering.is_lt}
use Rattle.tq_shape.specs.{Tree.Server, Limits.LimitsView, Journal.{refuse, refuse_for, or_else, is_empty}}
use Rattle.tq_coterie.specs.Coterie.{has, with_server, numbers_of, is_quorum}
use Rattle.tq_evidence.specs.Evidence.{rises, is_write, servers_of, greatest, newest, is_server_of, ops_rise, are_quorums, are_exclusive, are_versions, has_quorum, has_exclusive_grants, has_version, writes_file, granters}
use Rattle.tq_evidence.specs.declared.{grant.Grant.Grant, op.{Op.Op, OpKind.{OpKind, TheVariants.{Read, Write}}}}
use Rattle.tq_store.specs.{Copies.name_cmp, declared.copies.FileCopy.FileCopy, Names.same_name}
use Rattle.tq_locks.specs.{Locks.is_exclusive, declared.mode.Mode.Mode}
use Rattle.tq_asks.specs.declared.ask.{NodeAsk.NodeAsk, NodeAsk.TheVariants.Work, NodeReply.NodeReply}
use Rattle.tq_asks.specs.declared.ask.{NodeReply.TheVariants.Granted, WorkAsk.TheVariants.Lock}
use Rattle.tq_txn_states.specs.declared.{told.NodeTold.NodeTold, fault.TxnFault.TxnFault}
use Rattle.tq_txn_states.specs.declared.fault.TxnFault.TheVariants.{Memory, AlreadyThere, TooManyOps, NotAGrant, NotAMember, VersionFull, NoOps}

abbrev pub place_before : {X : Type 0} → (X → Bool) → List X → ℕ
place_before later xs = unwrap_or (position later xs) (length xs)

-- ---- sets

-- the set with a server, which it may have already
abbrev pub with_number : List ℕ → ℕ → List ℕ
with_number numbers number = if has numbers number then numbers else with_server number numbers

abbrev pub with_numbers : List ℕ → List ℕ → List ℕ
with_numbers numbers others = fold with_number numbers others

-- what is seen of a set that may grow: its servers, the levels of their tree, and how many more take no memory
pub record RoomySet : Type 0 where
  pub servers : List ℕ
  pub levels : ℕ
  pub room : ℕ

-- a set that is to grow by these servers has room for them, and one that is not has them all
abbrev pub IsReady : RoomySet → Bool → List ℕ → Type 0
IsReady set true numbers = length numbers ≤ set.room
IsReady set false numbers = list_all (has set.servers) numbers ≡ true

-- each server of the first set is in the second
abbrev pub IsWithin : List ℕ → List ℕ → Type 0
IsWithin few many = (server : ℕ) → has few server ≡ true → has many server ≡ true

-- the list with a value more, before the first that is later
abbrev pub put : {X : Type 0} → (X → Bool) → X → List X → List X
put later x [] = x ∷ []
put later x (first ∷ rest) = if later first then x ∷ first ∷ rest else first ∷ put later x rest

-- the servers with one more, before the first above it
abbrev pub with_id : Server → List Server → List Server
with_id server ids = put (λ id. nat_lt server.number id.number) server ids

-- the list with the first value that passes the test changed
abbrev pub with_first_changed : {X : Type 0} → (X → Bool) → (X → X) → List X → List X
with_first_changed test change [] = []
with_first_changed test change (first ∷ rest) = if test first then change first ∷ rest else first ∷ with_first_changed test change rest

-- the servers strictly ascend, and are of a tree of these levels
pub record IsServerSet (levels : ℕ) (ids : List Server) : Type 0 where
  pub rise : rises (numbers_of ids) ≡ true
  pub tree : list_all (λ id. id.levels == levels) ids ≡ true

-- ---- open

-- a transaction: its tree's levels, its limits and number; its operations, by file and a read before a write;
-- the servers of their quorums; and the servers that granted it a lock, as far as it was handed them
pub record OpenView : Type 0 where
  pub levels : ℕ
  pub limits : LimitsView
  pub txn : ℕ
  pub ops : List Op
  pub voters : List ℕ
  pub touched : List ℕ

-- the transaction that did nothing yet
abbrev pub opening_txn : ℕ → LimitsView → ℕ → OpenView
opening_txn levels limits txn = record { levels = levels; limits = limits; txn = txn; ops = []; voters = []; touched = [] }

-- the servers of the operations are the voters, and no other
abbrev pub HasVoters : OpenView → Type 0
HasVoters old = (server : ℕ) → has old.voters server ≡ is_server_of old.ops server

-- what an open transaction keeps: operations that are good evidence as far as they go
pub record IsOpen (open_txn : OpenView) : Type 0 where
  pub rise : ops_rise open_txn.ops ≡ true
  pub quorums : are_quorums open_txn.levels open_txn.ops ≡ true
  pub exclusive : are_exclusive open_txn.ops ≡ true
  pub versions : are_versions open_txn.ops ≡ true
  pub voters : HasVoters open_txn

abbrev pub has_all_ops : OpenView → Bool
has_all_ops old = nat_le old.limits.ops (length old.ops)

-- ---- faults

-- a fault is memory refused, or has this cause
abbrev pub ComesOf : Option TxnFault → TxnFault → Type 0
ComesOf cause Memory = Unit {0}
ComesOf cause fault = cause ≡ Some fault

-- a transaction comes back as it was, with a fault of which this is known
abbrev pub IsBack : {S : Type 0} → S → (TxnFault → Type 0) → S × TxnFault → Type 0
IsBack old P back = (back.0 ≡ old) × P back.1

-- ---- grants

-- a read rests on locks of either mode, a write on exclusive ones
abbrev pub fits : OpKind → Mode → Bool
fits Read mode = true
fits Write mode = is_exclusive mode

-- the grant that an answer tells of: a lock of the transaction on the file, of a mode that fits
abbrev pub granted_by : OpKind → ℕ → List ℕ → ℕ → ℕ → NodeAsk → NodeReply → Option Grant
granted_by kind txn file server number (Work (Lock mode locker locked)) (Granted version content) =
    if locker == txn && same_name locked file && fits kind mode then Some (record { server = server; number = number; mode = mode; version = version; content = content }) else None
granted_by kind txn file server number ask reply = None

abbrev pub grant_of : OpKind → ℕ → List ℕ → NodeTold → Option Grant
grant_of kind txn file told = granted_by kind txn file told.server told.number told.ask told.reply

abbrev pub grants_of : OpKind → ℕ → List ℕ → List NodeTold → List Grant
grants_of kind txn file answers = filter_map (grant_of kind txn file) answers

-- the server of the first answer that is no such grant
abbrev pub not_a_grant : OpKind → ℕ → List ℕ → List NodeTold → Option ℕ
not_a_grant kind txn file answers = option_map (λ told. told.server) (find (λ told. is_none (grant_of kind txn file told)) answers)

-- the servers of the grants, in their order, ascend and are a member of the coterie
abbrev pub is_member : ℕ → List Grant → Bool
is_member levels grants = rises (granters grants) && is_quorum levels (granters grants)

-- ---- reads and writes

abbrev pub is_used : List Op → List ℕ → Bool
is_used ops file = list_any (λ op. same_name op.file file) ops

abbrev pub is_read_of : List ℕ → Op → Bool
is_read_of file op = not (is_write op) && same_name op.file file

abbrev pub is_written : List Op → List ℕ → Bool
is_written ops file = list_any (writes_file file) ops

-- the transaction's read of a file, and its write to it
abbrev pub op_read : OpenView → List ℕ → Option Op
op_read old file = find (is_read_of file) old.ops

abbrev pub op_written : OpenView → List ℕ → Option Op
op_written old file = find (writes_file file) old.ops

-- the content that the transaction writes to the file
abbrev pub pending_content : OpenView → List ℕ → Option (List ℕ)
pending_content old file = option_map (λ op. op.content) (op_written old file)

-- the copy that a grant answered, version 0 and no content where there is none
abbrev pub copy_in : Option Grant → FileCopy
copy_in None = record { version = 0; content = [] }
copy_in (Some grant) = record { version = grant.version; content = grant.content }

-- what is read: the first copy of the greatest version granted
abbrev pub read_copy : List Grant → FileCopy
read_copy grants = copy_in (newest grants)

abbrev pub read_op : List ℕ → List Grant → Op
read_op file grants = record { file = file; kind = Read; version = (read_copy grants).version; content = (read_copy grants).content; grants = grants }

-- a write is one above the greatest version granted
abbrev pub write_op : List ℕ → List ℕ → List Grant → Op
write_op file content grants = record { file = file; kind = Write; version = greatest grants + 1; content = content; grants = grants }

-- what any operation is refused for
abbrev pub grants_fault : OpKind → OpenView → List ℕ → List NodeTold → Option TxnFault
grants_fault kind old file answers =
    refuse (has_all_ops old) TooManyOps
    (refuse_for (not_a_grant kind old.txn file answers) NotAGrant
    (refuse (not (is_member old.levels (grants_of kind old.txn file answers))) NotAMember None))

abbrev pub read_fault : OpenView → List ℕ → List NodeTold → Option TxnFault
read_fault old file answers = refuse (is_used old.ops file) AlreadyThere (grants_fault Read old file answers)

-- the version after this one does not fit
abbrev pub is_full : ℕ → Bool
is_full version = not (nat_lt (version + 1) (2 ^ 64))

-- what a write by these grants is refused for
abbrev pub version_fault : List Grant → Option TxnFault
version_fault grants = refuse (is_full (greatest grants)) VersionFull None

abbrev pub write_fault : OpenView → List ℕ → List NodeTold → Option TxnFault
write_fault old file answers =
    refuse (is_written old.ops file) AlreadyThere
    (or_else (grants_fault Write old file answers)
    (version_fault (grants_of Write old.txn file answers)))

-- a further operation is good evidence: of a quorum, exclusive where it writes, of the version that it should have,
-- and the file has no such operation yet, nor a write before a read
pub record IsGoodOp (old : OpenView) (op : Op) : Type 0 where
  pub quorum : has_quorum old.levels op ≡ true
  pub exclusive : has_exclusive_grants op ≡ true
  pub version : has_version op ≡ true
  pub fresh : (if is_write op then is_written old.ops op.file else is_used old.ops op.file) ≡ false

-- the operations with one more, before those of later files
abbrev pub with_op : List Op → Op → List Op
with_op ops op = put (λ other. is_lt (name_cmp op.file other.file)) op ops

-- the transaction after an operation: its servers vote, and have granted a lock
abbrev pub txn_after_op : OpenView → Op → OpenView
txn_after_op old op =
    record old {
      ops = with_op old.ops op;
      voters = with_numbers old.voters (servers_of op);
      touched = with_numbers old.touched (servers_of op);
    }

abbrev pub read_after : OpenView → List ℕ → List NodeTold → OpenView
read_after old file answers = txn_after_op old (read_op file (grants_of Read old.txn file answers))

abbrev pub write_after : OpenView → List ℕ → List ℕ → List NodeTold → OpenView
write_after old file content answers = txn_after_op old (write_op file content (grants_of Write old.txn file answers))

abbrev pub touched_by : OpenView → ℕ → OpenView
touched_by old server = record old { touched = with_number old.touched server }

-- the transaction afterwards: each server that granted it a lock is still noted, there may be more, and all else is as it was
pub record IsTouched (old after : OpenView) : Type 0 where
  pub levels : after.levels ≡ old.levels
  pub limits : after.limits ≡ old.limits
  pub txn : after.txn ≡ old.txn
  pub ops : after.ops ≡ old.ops
  pub voters : after.voters ≡ old.voters
  pub touched : IsWithin old.touched after.touched

-- the operations with other content to write to the file
abbrev pub with_content : List ℕ → List ℕ → List Op → List Op
with_content file content ops = with_first_changed (writes_file file) (λ op. record op { content = content }) ops

abbrev pub txn_after_rewrite : OpenView → List ℕ → List ℕ → OpenView
txn_after_rewrite old file content = record old { ops = with_content file content old.ops }

abbrev pub close_fault : OpenView → Option TxnFault
close_fault old = refuse (is_empty old.ops) NoOps None
