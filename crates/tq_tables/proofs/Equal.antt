-- Tests of lists whose items are tested alike. Asks and replies that pass the test of being the same are the same, and
-- the other way round.
use Rattle.std.proofs.Common.{◌≡◌, ◌==◌, ◌&&◌, ◌∙◌, Bool, true, false, List, [], ◌∷◌, refl, ap, ℕ, Some, sym}
use Rattle.std.proofs.lemmas.Bool.{and_parts, eqb-true, eq-eqb, false≢true}
use Rattle.std.specs.{Cmp.Lexicographic.{pointwise, pointwise_decides}, Bool.Decides}
use Rattle.tq_locks.specs.declared.mode.{Mode.Mode, Mode.TheVariants.{Shared, Exclusive}}
use Rattle.tq_locks.specs.contracts.mode.ModePartialEq.TheImpl as modes_eq
use Rattle.tq_evidence.specs.declared.{grant.Grant.Grant, op.Op.Op, op.OpKind.OpKind, vote.Vote.Vote, rule.Rule.Rule}
use Rattle.tq_evidence.specs.Evidence.{rule_number, rule_at}
use Rattle.tq_evidence.specs.contracts.grant.GrantPartialEq.TheImpl as grant_eq
use Rattle.tq_evidence.specs.declared.op.OpKind.TheVariants as kinds
use Rattle.tq_evidence.specs.contracts.op.OpKindPartialEq.TheImpl as kinds_eq
use Rattle.tq_evidence.specs.contracts.op.OpPartialEq.TheImpl as op_eq
use Rattle.tq_store.{specs.{Names.same_name, declared.write.Write.Write}, proofs.Padded.{same_name-is, same_name-refl}}
use Rattle.tq_tables.specs.Same.{same_mode, same_kind, same_grant, same_op, same_lock, same_write, same_work, same_node_ask, same_reason, same_node_reply, same_vote, same_desk_ask, same_desk_reason, same_desk_reply}
use Rattle.tq_asks.specs.declared.ask.{CitedVote.CitedVote, HeldLock.HeldLock, Verdict.Verdict, WorkAsk.WorkAsk}
use Rattle.tq_asks.specs.declared.ask.{NodeAsk.NodeAsk, NodeRefusal.NodeRefusal, NodeReply.NodeReply}
use Rattle.tq_asks.specs.Verdicts.{same_cited, same_verdict}
use Rattle.tq_asks.specs.declared.ask.Verdict.TheVariants as verdicts
use Rattle.tq_asks.specs.declared.ask.WorkAsk.TheVariants as work
use Rattle.tq_asks.specs.declared.ask.NodeAsk.TheVariants as node_asks
use Rattle.tq_asks.specs.declared.ask.NodeRefusal.TheVariants as reasons
use Rattle.tq_asks.specs.declared.ask.NodeReply.TheVariants as replies
use Rattle.tq_evidence.specs.declared.rule.Rule.TheVariants as rules
use Rattle.tq_desk.specs.declared.ask.{DeskAsk.DeskAsk, DeskRefusal.DeskRefusal, DeskReply.DeskReply}
use Rattle.tq_desk.specs.declared.ask.DeskAsk.TheVariants as desk_asks
use Rattle.tq_desk.specs.declared.ask.DeskRefusal.TheVariants as desk_reasons
use Rattle.tq_desk.specs.declared.ask.DeskReply.TheVariants as desk_replies

pub pointwise-same : {A : Type 0} (f g : A → A → Bool) → ((a b : A) → f a b ≡ g a b) → (xs ys : List A) → pointwise f xs ys ≡ pointwise g xs ys
pointwise-same f g same [] [] = refl
pointwise-same f g same [] (y ∷ ys) = refl
pointwise-same f g same (x ∷ xs) [] = refl
pointwise-same f g same (x ∷ xs) (y ∷ ys) = λ i. same x y i && pointwise-same f g same xs ys i

-- ---- the test of operations that is derived

pub regrouped : (f k v c g : Bool) → (f && (k && (v && (c && g)))) ≡ (f && k && v && c && g)
regrouped false k v c g = refl
regrouped true false v c g = refl
regrouped true true false c g = refl
regrouped true true true c g = refl

pub kind-same : (k l : OpKind) → kinds_eq.eq-value.it k l ≡ same_kind k l
kind-same kinds.Read kinds.Read = refl
kind-same kinds.Read kinds.Write = refl
kind-same kinds.Write kinds.Read = refl
kind-same kinds.Write kinds.Write = refl

mode-same : (k l : Mode) → modes_eq.eq-value.it k l ≡ same_mode k l
mode-same Shared Shared = refl
mode-same Shared Exclusive = refl
mode-same Exclusive Shared = refl
mode-same Exclusive Exclusive = refl

grant-same : (a b : Grant) → grant_eq.eq-value.it a b ≡ same_grant a b
grant-same a b =
    regrouped (a.server == b.server) (a.number == b.number) _ (a.version == b.version) (same_name a.content b.content)
    ∙ ap (λ (k : Bool). a.server == b.server && a.number == b.number && k && a.version == b.version && same_name a.content b.content) (mode-same a.mode b.mode)

pub op-same : (a b : Op) → op_eq.eq-value.it a b ≡ same_op a b
op-same a b =
    regrouped (same_name a.file b.file) _ (a.version == b.version) (same_name a.content b.content) _
    ∙ (λ i. same_name a.file b.file && kind-same a.kind b.kind i && a.version == b.version && same_name a.content b.content && pointwise-same grant_eq.eq-value.it same_grant grant-same a.grants b.grants i)

-- ---- equal

number-self : (a : ℕ) → (a == a) ≡ true
number-self a = eq-eqb a a refl

module _ {A : Type 0} (test : A → A → Bool) (is : (a b : A) → test a b ≡ true → a ≡ b) (self : (a : A) → test a a ≡ true) where
  -- a test that only equal values pass, and that each value passes with itself, decides equality
  pub decides : (a b : A) → Decides (test a b) (a ≡ b)
  decides a b = (is a b, λ same. ap (test a) (sym same) ∙ self a)

  -- and so it does item by item
  list-is : (a b : List A) → pointwise test a b ≡ true → a ≡ b
  list-is a b same = (pointwise_decides decides a b).0 same

  list-self : (a : List A) → pointwise test a a ≡ true
  list-self a = (pointwise_decides decides a a).1 refl

mode-is : (a b : Mode) → same_mode a b ≡ true → a ≡ b
mode-is Shared Shared same = refl
mode-is Exclusive Exclusive same = refl
mode-is a b same = absurd (false≢true same)

mode-self : (a : Mode) → same_mode a a ≡ true
mode-self Shared = refl
mode-self Exclusive = refl

lock-is : (a b : HeldLock) → same_lock a b ≡ true → a ≡ b
lock-is a b same =
    let rest = and_parts _ _ same in
    let first = and_parts _ _ rest.0 in
    λ i. record { file = same_name-is a.file b.file first.0 i; mode = mode-is a.mode b.mode first.1 i; since = eqb-true a.since b.since rest.1 i }

lock-self : (a : HeldLock) → same_lock a a ≡ true
lock-self a = simp (same_name-refl, mode-self, number-self)

locks-are : (a b : List HeldLock) → pointwise same_lock a b ≡ true → a ≡ b
locks-are = list-is same_lock lock-is lock-self

locks-self : (a : List HeldLock) → pointwise same_lock a a ≡ true
locks-self = list-self same_lock lock-is lock-self

write-is : (a b : Write) → same_write a b ≡ true → a ≡ b
write-is a b same =
    let rest = and_parts _ _ same in
    let first = and_parts _ _ rest.0 in
    λ i. record { file = same_name-is a.file b.file first.0 i; version = eqb-true a.version b.version first.1 i; content = same_name-is a.content b.content rest.1 i }

write-self : (a : Write) → same_write a a ≡ true
write-self a = simp (same_name-refl, number-self)

writes-are : (a b : List Write) → pointwise same_write a b ≡ true → a ≡ b
writes-are = list-is same_write write-is write-self

writes-self : (a : List Write) → pointwise same_write a a ≡ true
writes-self = list-self same_write write-is write-self

cited-is : (a b : CitedVote) → same_cited a b ≡ true → a ≡ b
cited-is a b same =
    let parts = and_parts _ _ same in
    λ i. record { server = eqb-true a.server b.server parts.0 i; number = eqb-true a.number b.number parts.1 i }

cited-self : (a : CitedVote) → same_cited a a ≡ true
cited-self a = simp number-self

pub verdict-is : (a b : Verdict) → same_verdict a b ≡ true → a ≡ b
verdict-is verdicts.Abort verdicts.Abort same = refl
verdict-is (verdicts.Commit votes) (verdicts.Commit others) same = ap (λ v. verdicts.Commit v) (list-is same_cited cited-is cited-self votes others same)
verdict-is a b same = absurd (false≢true same)

verdict-self : (a : Verdict) → same_verdict a a ≡ true
verdict-self verdicts.Abort = refl
verdict-self (verdicts.Commit votes) = list-self same_cited cited-is cited-self votes

-- ---- a server's asks

pub work-is : (a b : WorkAsk) → same_work a b ≡ true → a ≡ b
work-is (work.Lock m t f) (work.Lock n u g) same =
    let rest = and_parts _ _ same in
    let first = and_parts _ _ rest.0 in
    λ i. work.Lock (mode-is m n rest.1 i) (eqb-true t u first.0 i) (same_name-is f g first.1 i)
work-is (work.Prepare t a) (work.Prepare u b) same =
    let parts = and_parts _ _ same in
    λ i. work.Prepare (eqb-true t u parts.0 i) (writes-are a b parts.1 i)
work-is (work.Decide t v c) (work.Decide u w d) same =
    let rest = and_parts _ _ same in
    let first = and_parts _ _ rest.0 in
    λ i. work.Decide (eqb-true t u first.0 i) (verdict-is v w first.1 i) (eqb-true c d rest.1 i)
work-is (work.Release t) (work.Release u) same = ap (λ n. work.Release n) (eqb-true t u same)
work-is (work.Peek f) (work.Peek g) same = ap (λ n. work.Peek n) (same_name-is f g same)
work-is (work.Refresh f v c s) (work.Refresh g w d r) same =
    let last = and_parts _ _ same in
    let rest = and_parts _ _ last.0 in
    let first = and_parts _ _ rest.0 in
    λ i. work.Refresh (same_name-is f g first.0 i) (eqb-true v w first.1 i) (same_name-is c d rest.1 i) (cited-is s r last.1 i)
work-is a b same = absurd (false≢true same)

work-self : (a : WorkAsk) → same_work a a ≡ true
work-self (work.Lock m t f) = simp (number-self, same_name-refl, mode-self)
work-self (work.Prepare t a) = simp (number-self, writes-self)
work-self (work.Decide t v c) = simp (number-self, verdict-self)
work-self (work.Release t) = number-self t
work-self (work.Peek f) = same_name-refl f
work-self (work.Refresh f v c s) = simp (same_name-refl, number-self)

pub node_ask-is : (a b : NodeAsk) → same_node_ask a b ≡ true → a ≡ b
node_ask-is (node_asks.Work a) (node_asks.Work b) same = ap (λ w. node_asks.Work w) (work-is a b same)
node_ask-is node_asks.Crash node_asks.Crash same = refl
node_ask-is node_asks.Return node_asks.Return same = refl
node_ask-is (node_asks.CrashIn k a) (node_asks.CrashIn l b) same =
    let parts = and_parts _ _ same in
    λ i. node_asks.CrashIn (eqb-true k l parts.1 i) (work-is a b parts.0 i)
node_ask-is a b same = absurd (false≢true same)

pub node_ask-self : (a : NodeAsk) → same_node_ask a a ≡ true
node_ask-self (node_asks.Work a) = work-self a
node_ask-self (node_asks.CrashIn k a) = simp (work-self, number-self)
node_ask-self a = refl

-- ---- a server's replies

reason-is : (a b : NodeRefusal) → same_reason a b ≡ true → a ≡ b
reason-is reasons.Down reasons.Down same = refl
reason-is reasons.AlreadyUp reasons.AlreadyUp same = refl
reason-is reasons.AlreadyDown reasons.AlreadyDown same = refl
reason-is (reasons.Held a) (reasons.Held b) same = ap (λ n. reasons.Held n) (eqb-true a b same)
reason-is reasons.Prepared reasons.Prepared same = refl
reason-is (reasons.NotLocked a) (reasons.NotLocked b) same = ap (λ n. reasons.NotLocked n) (same_name-is a b same)
reason-is reasons.BadWrites reasons.BadWrites same = refl
reason-is reasons.NotNewer reasons.NotNewer same = refl
reason-is reasons.NothingHere reasons.NothingHere same = refl
reason-is a b same = absurd (false≢true same)

reason-self : (a : NodeRefusal) → same_reason a a ≡ true
reason-self (reasons.Held a) = number-self a
reason-self (reasons.NotLocked a) = same_name-refl a
reason-self a = refl

pub node_reply-is : (a b : NodeReply) → same_node_reply a b ≡ true → a ≡ b
node_reply-is (replies.Granted v c) (replies.Granted w d) same =
    let parts = and_parts _ _ same in
    λ i. replies.Granted (eqb-true v w parts.0 i) (same_name-is c d parts.1 i)
node_reply-is (replies.Yes a b) (replies.Yes c d) same =
    let parts = and_parts _ _ same in
    λ i. replies.Yes (locks-are a c parts.0 i) (writes-are b d parts.1 i)
node_reply-is replies.Installed replies.Installed same = refl
node_reply-is replies.Discarded replies.Discarded same = refl
node_reply-is replies.Released replies.Released same = refl
node_reply-is (replies.Copy v c) (replies.Copy w d) same =
    let parts = and_parts _ _ same in
    λ i. replies.Copy (eqb-true v w parts.0 i) (same_name-is c d parts.1 i)
node_reply-is replies.Refreshed replies.Refreshed same = refl
node_reply-is replies.Crashed replies.Crashed same = refl
node_reply-is replies.Returned replies.Returned same = refl
node_reply-is (replies.Refused a) (replies.Refused b) same = ap (λ r. replies.Refused r) (reason-is a b same)
node_reply-is a b same = absurd (false≢true same)

pub node_reply-self : (a : NodeReply) → same_node_reply a a ≡ true
node_reply-self (replies.Granted v c) = simp (number-self, same_name-refl)
node_reply-self (replies.Yes a b) = simp (locks-self, writes-self)
node_reply-self (replies.Copy v c) = simp (number-self, same_name-refl)
node_reply-self (replies.Refused a) = reason-self a
node_reply-self a = refl

-- ---- the desk's asks

kind-is : (a b : OpKind) → same_kind a b ≡ true → a ≡ b
kind-is kinds.Read kinds.Read same = refl
kind-is kinds.Write kinds.Write same = refl
kind-is a b same = absurd (false≢true same)

kind-self : (a : OpKind) → same_kind a a ≡ true
kind-self kinds.Read = refl
kind-self kinds.Write = refl

grant-is : (a b : Grant) → same_grant a b ≡ true → a ≡ b
grant-is a b same =
    let last = and_parts _ _ same in
    let fourth = and_parts _ _ last.0 in
    let third = and_parts _ _ fourth.0 in
    let first = and_parts _ _ third.0 in
    let mode = mode-is a.mode b.mode third.1 in
    let content = same_name-is a.content b.content last.1 in
    λ i. record { server = eqb-true a.server b.server first.0 i; number = eqb-true a.number b.number first.1 i; mode = mode i; version = eqb-true a.version b.version fourth.1 i; content = content i }

grant-self : (a : Grant) → same_grant a a ≡ true
grant-self a = simp (number-self, mode-self, same_name-refl)

op-is : (a b : Op) → same_op a b ≡ true → a ≡ b
op-is a b same =
    let last = and_parts _ _ same in
    let fourth = and_parts _ _ last.0 in
    let third = and_parts _ _ fourth.0 in
    let first = and_parts _ _ third.0 in
    let content = same_name-is a.content b.content fourth.1 in
    let grants = list-is same_grant grant-is grant-self a.grants b.grants last.1 in
    λ i. record { file = same_name-is a.file b.file first.0 i; kind = kind-is a.kind b.kind first.1 i; version = eqb-true a.version b.version third.1 i; content = content i; grants = grants i }

op-self : (a : Op) → same_op a a ≡ true
op-self a = simp (same_name-refl, kind-self, number-self, list-self same_grant grant-is grant-self)

vote-is : (a b : Vote) → same_vote a b ≡ true → a ≡ b
vote-is a b same =
    let last = and_parts _ _ same in
    let third = and_parts _ _ last.0 in
    let first = and_parts _ _ third.0 in
    let held = locks-are a.held b.held third.1 in
    λ i. record { server = eqb-true a.server b.server first.0 i; number = eqb-true a.number b.number first.1 i; held = held i; writes = writes-are a.writes b.writes last.1 i }

vote-self : (a : Vote) → same_vote a a ≡ true
vote-self a = simp (number-self, locks-self, writes-self)

pub desk_ask-is : (a b : DeskAsk) → same_desk_ask a b ≡ true → a ≡ b
desk_ask-is desk_asks.Begin desk_asks.Begin same = refl
desk_ask-is (desk_asks.Commit t a v) (desk_asks.Commit u b w) same =
    let rest = and_parts _ _ same in
    let first = and_parts _ _ rest.0 in
    λ i. desk_asks.Commit (eqb-true t u first.0 i) (list-is same_op op-is op-self a b first.1 i) (list-is same_vote vote-is vote-self v w rest.1 i)
desk_ask-is (desk_asks.Resolve t) (desk_asks.Resolve u) same = ap (λ n. desk_asks.Resolve n) (eqb-true t u same)
desk_ask-is a b same = absurd (false≢true same)

pub desk_ask-self : (a : DeskAsk) → same_desk_ask a a ≡ true
desk_ask-self desk_asks.Begin = refl
desk_ask-self (desk_asks.Commit t a v) = simp (number-self, list-self same_op op-is op-self, list-self same_vote vote-is vote-self)
desk_ask-self (desk_asks.Resolve t) = number-self t

-- ---- the desk's replies

rule-again : (rule : Rule) → rule_at (rule_number rule) ≡ Some rule
rule-again rules.Quorum = refl
rule-again rules.Exclusive = refl
rule-again rules.Covered = refl
rule-again rules.Writes = refl
rule-again rules.Versions = refl
rule-again rules.SomeOp = refl

rule-is : (a b : Rule) → (rule_number a == rule_number b) ≡ true → a ≡ b
rule-is a b same =
    let numbered = sym (rule-again a) ∙ ap rule_at (eqb-true (rule_number a) (rule_number b) same) ∙ rule-again b in
    cc

desk_reason-is : (a b : DeskRefusal) → same_desk_reason a b ≡ true → a ≡ b
desk_reason-is desk_reasons.NoSuchTxn desk_reasons.NoSuchTxn same = refl
desk_reason-is (desk_reasons.Decided a) (desk_reasons.Decided b) same = ap (λ v. desk_reasons.Decided v) (verdict-is a b same)
desk_reason-is desk_reasons.TooManyOps desk_reasons.TooManyOps same = refl
desk_reason-is (desk_reasons.BadEvidence a) (desk_reasons.BadEvidence b) same = ap (λ rule. desk_reasons.BadEvidence rule) (rule-is a b same)
desk_reason-is desk_reasons.TooManyFiles desk_reasons.TooManyFiles same = refl
desk_reason-is a b same = absurd (false≢true same)

desk_reason-self : (a : DeskRefusal) → same_desk_reason a a ≡ true
desk_reason-self (desk_reasons.Decided a) = verdict-self a
desk_reason-self (desk_reasons.BadEvidence a) = number-self (rule_number a)
desk_reason-self a = refl

pub desk_reply-is : (a b : DeskReply) → same_desk_reply a b ≡ true → a ≡ b
desk_reply-is (desk_replies.Txn a) (desk_replies.Txn b) same = ap (λ n. desk_replies.Txn n) (eqb-true a b same)
desk_reply-is (desk_replies.Verdict a) (desk_replies.Verdict b) same = ap (λ v. desk_replies.Verdict v) (verdict-is a b same)
desk_reply-is (desk_replies.Committed a) (desk_replies.Committed b) same = ap (λ n. desk_replies.Committed n) (eqb-true a b same)
desk_reply-is (desk_replies.Refused a) (desk_replies.Refused b) same = ap (λ r. desk_replies.Refused r) (desk_reason-is a b same)
desk_reply-is a b same = absurd (false≢true same)

pub desk_reply-self : (a : DeskReply) → same_desk_reply a a ≡ true
desk_reply-self (desk_replies.Txn a) = number-self a
desk_reply-self (desk_replies.Verdict a) = verdict-self a
desk_reply-self (desk_replies.Committed a) = number-self a
desk_reply-self (desk_replies.Refused a) = desk_reason-self a
