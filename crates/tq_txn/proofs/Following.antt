-- Parts of a dialogue after one another, whatever each ends with.
use Rattle.std.proofs.Common.{◌≡◌, ℕ, Bool, true, false, cond, List, ◌∷◌, Option, Some, None, Result, Ok, Err, sym, ap, ◌∙◌, subst, ◌+◌, ◌<◌, ◌≤◌, length, get_or, drop, arith}
use Rattle.std.proofs.lemmas.List.{drop_more, at_drop_all}
use Rattle.tq_shape.specs.{Limits.LimitsView, Journal.is_empty, declared.fault.AskFault.AskFault}
use Rattle.tq_shape.specs.Tree.{Server, IsServer}
use Rattle.tq_txn_states.specs.{Open.{OpenView, close_fault}, Voting.{VotingView, voting_of}}
use Rattle.tq_txn_states.specs.declared.fault.{TxnFault.TxnFault, TxnFault.TheVariants.NoOps}
use Rattle.tq_txn.specs.declared.txn.Txn.TheVariants as states
use Rattle.tq_txn.specs.declared.{asker.Exchange.Exchange, asker.ViewTold.ViewTold, fault.LineFault.LineFault}
use Rattle.tq_txn.specs.Dialogue.{Dialogue, Ends, Follows, LineEnd, then_line, ended_by, line_result}
use Rattle.tq_txn.specs.Script.{closing, commit_asked, given_up, is_answered, line_asked, mark_asked, script_asked, server_marked, view_wait, voting_asked, was_answered}
use Rattle.tq_txn.proofs.LineLaws.{begins_then, follows_end, follows_then}
use Rattle.tq_shape.specs.declared.fault.AskFault.TheVariants as ask_faults
use Rattle.tq_txn.specs.declared.fault.LineFault.TheVariants as faults
use Rattle.tq_live.specs.View.{is_server}
use Rattle.tq_syntax.specs.declared.script.Line.{Line}

-- memory ran out in the first part
pub follows_cut : {A B : Type 0} (line : Dialogue A) (next : A → Dialogue B) (old new : List Exchange) → Follows line old new None → Follows (then_line line next) old new None
follows_cut line next old new first = (first.0, first.1, begins_then line next first.0 first.2)

-- ---- a line that was answered, refused, or cut off

module _ {A S B : Type 0} (line : Dialogue (LineEnd A S)) (next : Bool → S → Dialogue B) where
  -- it was_answered on as it was answered
  pub follows_went : (answer : Result A LineFault) (after : S) (answered : Bool) (old mid new : List Exchange) (end : Option B) → Some answered ≡ was_answered answer → Follows line old mid (ended_by answer after) → Follows (next answered after) mid new end → Follows (then_line line (λ e. next (is_answered e.answer) e.after)) old new end
  follows_went (Ok a) after answered old mid new end is first rest =
      let P : Bool → Type 0 = λ b. Follows (next b after) mid new end in
      let same : answered ≡ true = cc in
      follows_then line (λ e. next (is_answered e.answer) e.after) (record { answer = Ok a; after = after }) old mid new end first (subst P same rest)
  follows_went (Err faults.Memory) after answered old mid new end is first rest = absurd cc
  follows_went (Err fault) after answered old mid new end is first rest =
      let P : Bool → Type 0 = λ b. Follows (next b after) mid new end in
      let same : answered ≡ false = cc in
      follows_then line (λ e. next (is_answered e.answer) e.after) (record { answer = Err fault; after = after }) old mid new end first (subst P same rest)

  pub follows_went_out : (answer : Result A LineFault) (after : S) (old new : List Exchange) → None ≡ was_answered answer → Follows line old new (ended_by answer after) → Follows (then_line line (λ e. next (is_answered e.answer) e.after)) old new None
  follows_went_out (Ok a) after old new is first = absurd cc
  follows_went_out (Err faults.Memory) after old new is first = follows_cut line (λ e. next (is_answered e.answer) e.after) old new first
  follows_went_out (Err fault) after old new is first = absurd cc

-- what read or wrote something is voted on
pub follows_closed : (txn : OpenView) (voting : VotingView) (old new : List Exchange) (end : Option (Option OpenView)) → close_fault txn ≡ None → voting ≡ voting_of txn → Follows (voting_asked voting) old new end → Follows (commit_asked txn) old new end
follows_closed txn voting old new end none same follows =
    let no_fault : Option TxnFault = None in
    let P : VotingView → Type 0 = λ v. Follows (voting_asked v) old new end in
    elim (is_empty txn.ops) as (λ b. cond b (Some NoOps) no_fault ≡ None → Follows (cond b (given_up (states.Open txn)) (voting_asked (voting_of txn))) old new end) [
      | true ↦ λ is. absurd cc
      | false ↦ λ is. subst P same follows
    ] none

-- ---- the view's answer is passed over

pub follows_passed : {A : Type 0} (line : Dialogue (LineEnd ViewTold A)) (answer : Result ViewTold AskFault) (after : A) (old new : List Exchange) → Follows line old new (ended_by (line_result answer) after) → Follows (then_line line (λ end. Ends tt)) old new (view_wait answer)
follows_passed line (Ok told) after old new first = follows_then line (λ end. Ends tt) (record { answer = Ok told; after = after }) old new new (Some tt) first (follows_end tt new)
follows_passed line (Err ask_faults.Memory) after old new first = follows_cut line (λ end. Ends tt) old new first
follows_passed line (Err fault) after old new first = follows_then line (λ end. Ends tt) (record { answer = line_result (Err fault); after = after }) old new new (Some tt) first (follows_end tt new)

-- ---- a server of the tree

mark_by : (levels server : ℕ) (up : Bool) (old new : List Exchange) (end : Option (Unit {0})) → is_server levels server ≡ true → Follows (server_marked server up) old new end → Follows (mark_asked levels server up) old new end
mark_by levels server up old new end is follows = rw is follows

pub follows_mark : (levels server : ℕ) (id : Server) (up : Bool) (old new : List Exchange) (end : Option (Unit {0})) → IsServer levels server → id.number ≡ server → Follows (server_marked id.number up) old new end → Follows (mark_asked levels server up) old new end
follows_mark levels server id up old new end is same follows =
    let P : ℕ → Type 0 = λ n. Follows (server_marked n up) old new end in
    mark_by levels server up old new end (grind (arith, is.0, is.1)) (subst P same follows)

-- ---- lines one after another

module _ (levels : ℕ) (limits : LimitsView) (lines : List Line) (index : ℕ) where
  -- a line, and those behind it
  pub next_line : (line : Line) (txn left : Option OpenView) (old mid new : List Exchange) (end : Option (Unit {0})) → index < length lines → line ≡ get_or lines index line → Follows (line_asked levels limits line txn) old mid (Some left) → Follows (script_asked levels limits (drop (index + 1) lines) left) mid new end → Follows (script_asked levels limits (drop index lines) txn) old new end
  next_line line txn left old mid new end less is first rest =
      let whole : drop index lines ≡ line ∷ drop (index + 1) lines = drop_more lines index line less ∙ ap (λ l. l ∷ drop (index + 1) lines) (sym is) in
      let P : List Line → Type 0 = λ ls. Follows (script_asked levels limits ls txn) old new end in
      subst P (sym whole) (follows_then (line_asked levels limits line txn) (λ t. script_asked levels limits (drop (index + 1) lines) t) left old mid new end first rest)

  -- memory ran out in a line
  pub last_line : (line : Line) (txn : Option OpenView) (old new : List Exchange) → index < length lines → line ≡ get_or lines index line → Follows (line_asked levels limits line txn) old new None → Follows (script_asked levels limits (drop index lines) txn) old new None
  last_line line txn old new less is first =
      let whole : drop index lines ≡ line ∷ drop (index + 1) lines = drop_more lines index line less ∙ ap (λ l. l ∷ drop (index + 1) lines) (sym is) in
      let P : List Line → Type 0 = λ ls. Follows (script_asked levels limits ls txn) old new None in
      subst P (sym whole) (follows_cut (line_asked levels limits line txn) (λ t. script_asked levels limits (drop (index + 1) lines) t) old new first)

  -- no line is left
  pub no_line : (txn : Option OpenView) (old new : List Exchange) (end : Option (Unit {0})) → length lines ≤ index → Follows (then_line (closing txn) (λ none. Ends tt)) old new end → Follows (script_asked levels limits (drop index lines) txn) old new end
  no_line txn old new end over follows =
      let P : Dialogue (Unit {0}) → Type 0 = λ d. Follows d old new end in
      subst P (sym (at_drop_all (λ ls. script_asked levels limits ls txn) lines index over)) follows
