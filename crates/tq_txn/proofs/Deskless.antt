-- The parts of a line that ask servers alone.
use Rattle.std.specs.List.{list_any}
use Rattle.std.proofs.Common.{◌≡◌, ap, ◌∙◌, ℕ, Bool, true, false, cond, List, [], ◌∷◌, ◌++◌, Option, Some, None, Result, Ok, Err, sym, subst, inl, inr}
use Rattle.tq_asks.specs.declared.ask.{NodeReply.NodeReply, NodeRefusal.NodeRefusal}
use Rattle.tq_desk.specs.declared.ask.DeskReply.{DeskReply}
use Rattle.tq_live.specs.declared.view.ViewReply.{ViewReply}
use Rattle.tq_txn_states.specs.declared.{fault.TxnFault.TxnFault, told.NodeTold.NodeTold}
use Rattle.tq_txn_states.specs.Ended.{EndedView, decide_ask}
use Rattle.tq_txn_states.specs.Voting.{VotingView, has_vote, ask_fault, prepare_ask, vote_fault, vote_after}
use Rattle.tq_txn.specs.declared.{asker.Exchange.Exchange, fault.LineFault.LineFault, txn.Txn.Txn}
use Rattle.tq_txn.specs.Commits.{is_abort, abort_answer, end_aborted, abort_end, prepares_line, commit_end}
use Rattle.tq_txn.specs.Dialogue.{Told, Dialogue, Ends, AsksNode, AsksDesk, AsksView, Makes, Begins, Follows, LineEnd, then_line, line_done, go_on, and_then, unless, on_told, node_line}
use Rattle.tq_txn.specs.Lines.{answers, refusal_in, refused_at, vote_answer, first_prepare, prepare_line, any_line, is_nothing_here, release_line, end_line, ending_line}
use Rattle.tq_txn.{specs.Told.{CitesTold, CitesSince, tells_end}, proofs.EndLaws.Untold}
use Rattle.tq_txn.specs.declared.asker.Exchange.TheVariants as exchanges
use Rattle.tq_txn.specs.declared.txn.Txn.TheVariants as states

-- the desk is not asked
abbrev pub IsDeskless : {A : Type 0} → Dialogue A → Type 0
IsDeskless (Ends a) = Unit {0}
IsDeskless (AsksNode server ask next) = (answer : Told NodeReply) → IsDeskless (next answer)
IsDeskless (AsksDesk ask next) = ⊥
IsDeskless (AsksView ask next) = (answer : Told ViewReply) → IsDeskless (next answer)

makes_begins : {A : Type 0} (line : Dialogue A) (told : List Exchange) (end : A) → Makes line told end → Begins line told
makes_begins (Ends a) told end made = made.0
makes_begins (AsksNode server ask next) told end made = inr (made.0, made.1, made.2, makes_begins (next made.0) made.1 end made.3)
makes_begins (AsksDesk ask next) told end made = inr (made.0, made.1, made.2, makes_begins (next made.0) made.1 end made.3)
makes_begins (AsksView ask next) told end made = inr (made.0, made.1, made.2, makes_begins (next made.0) made.1 end made.3)

begins_cites : {A : Type 0} (line : Dialogue A) (before more : List Exchange) → IsDeskless line → Begins line more → CitesTold before more
begins_cites (Ends a) before more none begun = subst (CitesTold before) (sym begun) tt
begins_cites (AsksNode server ask next) before more none begun =
    elim begun [
      | inl nothing ↦ subst (CitesTold before) (sym nothing) tt
      | inr some ↦ subst (CitesTold before) (sym some.2) (tt, begins_cites (next some.0) (before ++ exchanges.Node server ask some.0 ∷ []) some.1 (none some.0) some.3)
    ]
begins_cites (AsksDesk ask next) before more none begun = absurd none
begins_cites (AsksView ask next) before more none begun =
    elim begun [
      | inl nothing ↦ subst (CitesTold before) (sym nothing) tt
      | inr some ↦ subst (CitesTold before) (sym some.2) (tt, begins_cites (next some.0) (before ++ exchanges.View ask some.0 ∷ []) some.1 (none some.0) some.3)
    ]

pub deskless_cites : {A : Type 0} (line : Dialogue A) (old new : List Exchange) (end : Option A) → IsDeskless line → Follows line old new end → CitesSince old new
deskless_cites line old new None none follows = (follows.0, follows.1, begins_cites line old follows.0 none follows.2)
deskless_cites line old new (Some end) none follows = (follows.0, follows.1, begins_cites line old follows.0 none (makes_begins line follows.0 end follows.2))

-- so it tells of no end
module _ (number : ℕ) where
  begins_untold : {A : Type 0} (line : Dialogue A) (more : List Exchange) → IsDeskless line → Begins line more → list_any (tells_end number) more ≡ false
  begins_untold (Ends a) more none begun = ap (list_any (tells_end number)) begun
  begins_untold (AsksNode server ask next) more none begun =
      elim begun [
        | inl nothing ↦ ap (list_any (tells_end number)) nothing
        | inr some ↦ ap (list_any (tells_end number)) some.2 ∙ begins_untold (next some.0) some.1 (none some.0) some.3
      ]
  begins_untold (AsksDesk ask next) more none begun = absurd none
  begins_untold (AsksView ask next) more none begun =
      elim begun [
        | inl nothing ↦ ap (list_any (tells_end number)) nothing
        | inr some ↦ ap (list_any (tells_end number)) some.2 ∙ begins_untold (next some.0) some.1 (none some.0) some.3
      ]

  pub deskless_untold : {A : Type 0} (line : Dialogue A) (old new : List Exchange) (end : Option A) → IsDeskless line → Follows line old new end → Untold number old new
  deskless_untold line old new None none follows = (follows.0, follows.1, begins_untold line follows.0 none follows.2)
  deskless_untold line old new (Some end) none follows = (follows.0, follows.1, begins_untold line follows.0 none (makes_begins line follows.0 end follows.2))

-- ---- parts after one another

deskless_then : {A B : Type 0} (line : Dialogue A) (next : A → Dialogue B) → IsDeskless line → ((a : A) → IsDeskless (next a)) → IsDeskless (then_line line next)
deskless_then (Ends a) next none rest = rest a
deskless_then (AsksNode server ask more) next none rest = λ answer. deskless_then (more answer) next (none answer) rest
deskless_then (AsksDesk ask more) next none rest = absurd none
deskless_then (AsksView ask more) next none rest = λ answer. deskless_then (more answer) next (none answer) rest

deskless_go_on : {A B T : Type 0} (result : Result A LineFault) (after : T) (next : A → Dialogue (LineEnd B T)) → ((a : A) → IsDeskless (next a)) → IsDeskless (go_on result after next)
deskless_go_on (Ok a) after next rest = rest a
deskless_go_on (Err fault) after next rest = tt

deskless_on : {A S B T : Type 0} (line : Dialogue (LineEnd A S)) (left : S → T) (next : A → S → Dialogue (LineEnd B T)) → IsDeskless line → ((a : A) (s : S) → IsDeskless (next a s)) → IsDeskless (and_then line left next)
deskless_on {A} {S} line left next none rest =
    deskless_then line (λ (end : LineEnd A S). go_on end.answer (left end.after) (λ a. next a end.after)) none (λ end. deskless_go_on end.answer (left end.after) (λ a. next a end.after) (λ a. rest a end.after))

deskless_unless : {A S : Type 0} (cause : Option TxnFault) (after : S) (line : Dialogue (LineEnd A S)) → IsDeskless line → IsDeskless (unless cause after line)
deskless_unless None after line none = none
deskless_unless (Some fault) after line none = tt

deskless_refused : {A S : Type 0} (server : ℕ) (found : Option NodeRefusal) (after : S) (line : Dialogue (LineEnd A S)) → IsDeskless line → IsDeskless (refused_at server found after line)
deskless_refused server None after line none = none
deskless_refused server (Some refusal) after line none = tt

deskless_told : {R T : Type 0} (told_as : ℕ → R → T) (answer : Told R) → IsDeskless (on_told told_as answer)
deskless_told told_as (Ok answered) = tt
deskless_told told_as (Err fault) = tt

-- ---- the votes

deskless_voted : (old : VotingView) (told : NodeTold) → IsDeskless (vote_answer old told)
deskless_voted old told =
    deskless_refused told.server (refusal_in told.reply) old (unless (vote_fault old told) old (line_done tt (vote_after old told))) (deskless_unless (vote_fault old told) old (line_done tt (vote_after old told)) tt)

deskless_first : (old : VotingView) (server : ℕ) → IsDeskless (first_prepare old server)
deskless_first old server =
    deskless_unless (ask_fault old.txn server) old (and_then (node_line server (prepare_ask old.txn server)) (λ none. old) (λ told none. vote_answer old told))
    (deskless_on (node_line server (prepare_ask old.txn server)) (λ none. old) (λ told none. vote_answer old told) (λ answer. deskless_told _ answer) (λ told none. deskless_voted old told))

deskless_prepare : (old : VotingView) (server : ℕ) → IsDeskless (prepare_line old server)
deskless_prepare old server =
    elim (has_vote old.votes server) as (λ b. IsDeskless (cond b (line_done tt old) (first_prepare old server))) [
      | true ↦ tt
      | false ↦ deskless_first old server
    ]

pub deskless_prepares : (servers : List ℕ) (old : VotingView) → IsDeskless (prepares_line servers old)
deskless_prepares [] old = tt
deskless_prepares (server ∷ servers) old = deskless_on (prepare_line old server) (λ new. new) (λ all new. prepares_line servers new) (deskless_prepare old server) (λ all new. deskless_prepares servers new)

-- ---- the ending

deskless_release : (txn server : ℕ) (wanted : Bool) → IsDeskless (release_line txn server wanted)
deskless_release txn server true = λ answer. tt
deskless_release txn server false = tt

deskless_end : (old : EndedView) (server : ℕ) → IsDeskless (end_line old server)
deskless_end old server =
    deskless_on (any_line server (decide_ask old)) (λ none. none) (λ reply none. release_line old.txn server (is_nothing_here reply)) (λ answer. tt) (λ reply none. deskless_release old.txn server (is_nothing_here reply))

deskless_ending : (old : EndedView) (servers : List ℕ) → IsDeskless (ending_line old servers)
deskless_ending old [] = tt
deskless_ending old (server ∷ servers) = deskless_on (end_line old server) (λ none. none) (λ all none. ending_line old servers) (deskless_end old server) (λ all none. deskless_ending old servers)

pub deskless_commit_end : (serial : ℕ) (txn : Txn) → IsDeskless (commit_end serial txn)
deskless_commit_end serial (states.Ended ended) = deskless_on (ending_line ended ended.servers) (λ none. states.Ended ended) (λ all none. line_done serial (states.Ended ended)) (deskless_ending ended ended.servers) (λ all none. tt)
deskless_commit_end serial (states.Open old) = tt
deskless_commit_end serial (states.Voting old) = tt

deskless_end_aborted : (reply : DeskReply) (txn : Txn) → IsDeskless (end_aborted reply txn)
deskless_end_aborted reply (states.Ended ended) = deskless_on (ending_line ended ended.servers) (λ none. states.Ended ended) (λ all none. line_done tt (states.Ended ended)) (deskless_ending ended ended.servers) (λ all none. tt)
deskless_end_aborted reply (states.Open old) = tt
deskless_end_aborted reply (states.Voting old) = tt

pub deskless_abort_end : (reply : DeskReply) (txn : Txn) → IsDeskless (abort_end reply txn)
deskless_abort_end reply txn =
    elim (is_abort reply) as (λ b. IsDeskless (cond b (end_aborted reply txn) (answers (abort_answer reply) txn))) [
      | true ↦ deskless_end_aborted reply txn
      | false ↦ tt
    ]
