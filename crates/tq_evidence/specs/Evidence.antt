-- The six rules of evidence by their numbers. The evidence of a commit: what its grants and votes have to show, rule
-- by rule. A predicate on one ask alone. Evidence gone through in order: each op's grants strictly ascend by server,
-- and so do the votes. The locks that a vote lists, put in a table by file: for each file the least number that it is
-- held since.
use Rattle.std.specs.Prelude.{ℕ, ◌==◌, cond, Option, Some, None, ◌≡◌, ◌+◌, Bool, true, false, not, ◌&&◌, ◌||◌, nat_lt, nat_le, max, List, [], ◌∷◌, map, filter, fold, length, position, if◌then◌else◌, min}
use Rattle.std.specs.{Cmp.Lexicographic.pointwise, List.{list_any, list_all, find, insert}, Option.unwrap_or}
use Rattle.std.specs.{Ordering.{is_lt, is_gt, is_eq}, Coded.{Coded, coded_list, coded_ℕ}}
use Rattle.tq_evidence.specs.declared.{rule.Rule.Rule, grant.Grant.Grant, op.Op.Op, op.OpKind.TheVariants.{Read, Write}}
use Rattle.tq_evidence.specs.declared.rule.Rule.TheVariants.{Quorum, Exclusive, Covered, Writes, Versions, SomeOp}
use Rattle.tq_evidence.specs.declared.vote.Vote.{Vote}
use Rattle.tq_store.specs.{Copies.name_cmp, declared.write.Write.Write as FileWrite, Names.same_name}
use Rattle.tq_locks.specs.Locks.{is_exclusive}
use Rattle.tq_coterie.specs.Coterie.{is_quorum}
use Rattle.tq_evidence.specs.declared.rule.Rule.TheVariants as rules
use Rattle.std.specs.FinMap as fin
use Rattle.tq_asks.specs.declared.ask.HeldLock.{HeldLock}

abbrev pub rule_number : Rule → ℕ
rule_number Quorum = 1
rule_number Exclusive = 2
rule_number Covered = 3
rule_number Writes = 4
rule_number Versions = 5
rule_number SomeOp = 6

-- the rule of that number
abbrev pub rule_at : ℕ → Option Rule
rule_at number =
    cond (number == 1) (Some Quorum)
    (cond (number == 2) (Some Exclusive)
    (cond (number == 3) (Some Covered)
    (cond (number == 4) (Some Writes)
    (cond (number == 5) (Some Versions)
    (cond (number == 6) (Some SomeOp) None)))))

-- ---- evidence

abbrev pub is_write : Op → Bool
is_write op = elim op.kind [ Read ↦ false | Write ↦ true ]

-- the op writes the file
abbrev pub writes_file : List ℕ → Op → Bool
writes_file file op = is_write op && same_name op.file file

-- the servers of grants
abbrev pub granters : List Grant → List ℕ
granters grants = map (λ grant. grant.server) grants

-- the servers of an op are those of its grants
abbrev pub servers_of : Op → List ℕ
servers_of op = granters op.grants

abbrev pub has_server : Op → ℕ → Bool
has_server op server = list_any (λ grant. grant.server == server) op.grants

abbrev pub rises : List ℕ → Bool
rises [] = true
rises (first ∷ []) = true
rises (first ∷ second ∷ rest) = nat_lt first second && rises (second ∷ rest)

-- ---- rule 1: for each op the servers, in the order given, strictly ascend and are a member of the coterie

abbrev pub has_quorum : ℕ → Op → Bool
has_quorum levels op = rises (servers_of op) && is_quorum levels (servers_of op)

abbrev pub are_quorums : ℕ → List Op → Bool
are_quorums levels ops = list_all (has_quorum levels) ops

-- ---- rule 2: each grant of a write is exclusive

abbrev pub is_exclusively_granted : List Grant → Bool
is_exclusively_granted grants = list_all (λ grant. is_exclusive grant.mode) grants

abbrev pub has_exclusive_grants : Op → Bool
has_exclusive_grants op = not (is_write op) || is_exclusively_granted op.grants

abbrev pub are_exclusive : List Op → Bool
are_exclusive ops = list_all has_exclusive_grants ops

-- ---- rule 3: the votes strictly ascend by server and name exactly the servers of the ops, and each grant is covered by the vote of its server

abbrev pub votes_rise : List Vote → Bool
votes_rise [] = true
votes_rise (first ∷ []) = true
votes_rise (first ∷ second ∷ rest) = nat_lt first.server second.server && votes_rise (second ∷ rest)

abbrev pub is_server_of : List Op → ℕ → Bool
is_server_of ops server = list_any (λ op. has_server op server) ops

abbrev pub are_of_servers : List Op → List Vote → Bool
are_of_servers ops votes = list_all (λ vote. is_server_of ops vote.server) votes

-- the vote lists a lock of the file from no later than that number
abbrev pub holds_since : Vote → List ℕ → ℕ → Bool
holds_since vote file number = list_any (λ lock. same_name lock.file file && nat_le lock.since number) vote.held

-- the vote is of the grant's server, comes after the grant, and holds the file from no later than the grant
abbrev pub covers : List ℕ → Grant → Vote → Bool
covers file grant vote = vote.server == grant.server && nat_lt grant.number vote.number && holds_since vote file grant.number

abbrev pub is_grant_covered : List Vote → List ℕ → Grant → Bool
is_grant_covered votes file grant = list_any (covers file grant) votes

abbrev pub is_covered : List Vote → Op → Bool
is_covered votes op = list_all (is_grant_covered votes op.file) op.grants

abbrev pub are_grants_covered : List Op → List Vote → Bool
are_grants_covered ops votes = list_all (is_covered votes) ops

abbrev pub are_covered : List Op → List Vote → Bool
are_covered ops votes = votes_rise votes && are_of_servers ops votes && are_grants_covered ops votes

-- ---- rule 4: each vote's writes are those of the write ops that have its server, ascending by file

-- where an op of the file goes among ops that ascend by file: after those of its file
abbrev pub place_among : {X : Type 0} → (X → Op) → List ℕ → List X → ℕ
place_among now file ops = unwrap_or (position (λ op. is_gt (name_cmp (now op).file file)) ops) (length ops)

abbrev pub place_of : List ℕ → List Op → ℕ
place_of file ops = place_among (λ op. op) file ops

abbrev pub put_op : List Op → Op → List Op
put_op done op = insert done (place_of op.file done) op

-- the writes, ascending by file; those of one file stay in their order
abbrev pub writes_by_file : List Op → List Op
writes_by_file ops = fold put_op [] (filter is_write ops)

abbrev pub is_write_of : FileWrite → Op → Bool
is_write_of write op = same_name write.file op.file && write.version == op.version && same_name write.content op.content

-- the writes voted are those that have the server
abbrev pub are_writes_at : ℕ → List FileWrite → List Op → Bool
are_writes_at server voted writes = pointwise is_write_of voted (filter (λ op. has_server op server) writes)

abbrev pub has_writes : List Op → Vote → Bool
has_writes writes vote = are_writes_at vote.server vote.writes writes

abbrev pub have_writes : List Op → List Vote → Bool
have_writes ops votes = list_all (has_writes (writes_by_file ops)) votes

-- ---- rule 5: the ops ascend by file, a read before a write and one of each at most, and have their versions

-- the greatest version granted
abbrev pub greatest : List Grant → ℕ
greatest grants = fold (λ most grant. max most grant.version) 0 grants

-- the first grant of the greatest version
abbrev pub newest : List Grant → Option Grant
newest grants = find (λ grant. grant.version == greatest grants) grants

-- by file, a read before a write
abbrev pub stands_before : Op → Op → Bool
stands_before a b = is_lt (name_cmp a.file b.file) || (is_eq (name_cmp a.file b.file) && not (is_write a) && is_write b)

abbrev pub ops_rise : List Op → Bool
ops_rise [] = true
ops_rise (first ∷ []) = true
ops_rise (first ∷ second ∷ rest) = stands_before first second && ops_rise (second ∷ rest)

abbrev pub reads_copy : Op → Option Grant → Bool
reads_copy op None = false
reads_copy op (Some grant) = op.version == grant.version && same_name op.content grant.content

-- a write is one above the greatest version granted, a read the copy of the first grant of that version
abbrev pub has_version : Op → Bool
has_version op = if is_write op then op.version == greatest op.grants + 1 else reads_copy op (newest op.grants)

abbrev pub are_versions : List Op → Bool
are_versions ops = list_all has_version ops

abbrev pub have_versions : List Op → Bool
have_versions ops = ops_rise ops && are_versions ops

-- ---- rule 6: there is an op
abbrev pub is_some_op : List Op → Bool
is_some_op [] = false
is_some_op (op ∷ ops) = true

abbrev pub rule_unless : Bool → Rule → Option Rule → Option Rule
rule_unless holds rule next = if holds then next else Some rule

-- the first rule that fails
abbrev pub failed_rule : ℕ → List Op → List Vote → Option Rule
failed_rule levels ops votes =
    rule_unless (are_quorums levels ops) rules.Quorum
    (rule_unless (are_exclusive ops) rules.Exclusive
    (rule_unless (are_covered ops votes) rules.Covered
    (rule_unless (have_writes ops votes) rules.Writes
    (rule_unless (have_versions ops) rules.Versions
    (rule_unless (is_some_op ops) rules.SomeOp None)))))

-- the evidence is good
abbrev pub IsGood : ℕ → List Op → List Vote → Type 0
IsGood levels ops votes = failed_rule levels ops votes ≡ None

-- ---- in order

-- each op's servers strictly ascend
abbrev pub are_in_order : List Op → Bool
are_in_order ops = list_all (λ op. rises (servers_of op)) ops

abbrev pub is_granter : List Grant → ℕ → Bool
is_granter grants server = list_any (λ grant. grant.server == server) grants

-- the votes cover the grants: both walked through together, each vote looked at once
abbrev pub walk : List ℕ → List Vote → List Grant → Bool
walk file [] [] = true
walk file [] (grant ∷ grants) = false
walk file (vote ∷ votes) [] = true
walk file (vote ∷ votes) (grant ∷ grants) =
    if nat_lt vote.server grant.server then walk file votes (grant ∷ grants) else covers file grant vote && walk file votes grants

abbrev pub is_walked : List Vote → Op → Bool
is_walked votes op = walk op.file votes op.grants

abbrev pub are_walked : List Vote → List Op → Bool
are_walked votes ops = list_all (is_walked votes) ops

-- ---- held

abbrev pub LeastSince : Type 0
LeastSince = fin.FinMap name_cmp ℕ

abbrev pub least_code : Coded LeastSince
least_code = fin.code (coded_list coded_ℕ) coded_ℕ

-- the least of a number known and one more
abbrev pub lesser : Option ℕ → ℕ → ℕ
lesser None since = since
lesser (Some known) since = min since known

abbrev pub with_since : LeastSince → List ℕ → ℕ → LeastSince
with_since least file since = fin.insert least file (lesser (fin.get least file) since)

abbrev pub noted_all : LeastSince → List HeldLock → LeastSince
noted_all least held = fold (λ sofar lock. with_since sofar lock.file lock.since) least held

abbrev pub least_since : List HeldLock → LeastSince
least_since held = noted_all fin.empty held

-- there is a number, and it is no later than that one
abbrev pub is_since : Option ℕ → ℕ → Bool
is_since None number = false
is_since (Some since) number = nat_le since number

-- the table, where there is one, is that of the locks
abbrev pub IsTableOf : Option LeastSince → List HeldLock → Type 0
IsTableOf None held = Unit {0}
IsTableOf (Some table) held = table ≡ least_since held
