-- What was told along a line, one ask or one part of it after another. What was told along a line in which a server
-- stops.
use Rattle.std.proofs.Common.{◌≡◌, ◌<◌, ℕ, Bool, false, List, [], ◌∷◌, ◌++◌, Option, Some, None, Result, Ok, Err, refl, sym, ap, ◌∙◌, subst, inl, inr, append_assoc, append-nil, ◌+◌, suc, length, drop, get_or, arith}
use Rattle.std.{proofs.Math.Seq.drop-cons, specs.{Prelude.{IfOk, OnErr}, Option.option_map, Result.result_ok}}
use Rattle.tq_asks.specs.declared.ask.{NodeAsk.{NodeAsk, TheVariants.CrashIn}, NodeReply.NodeReply, WorkAsk.WorkAsk}
use Rattle.tq_desk.specs.declared.ask.{DeskAsk.DeskAsk, DeskReply.DeskReply}
use Rattle.tq_live.specs.declared.{purpose.Purpose.Purpose, view.ViewAsk.ViewAsk, view.ViewReply.ViewReply}
use Rattle.tq_shape.specs.{declared.fault.AskFault.AskFault, Tree.Server}
use Rattle.tq_shape.specs.declared.fault.AskFault.TheVariants as ask_faults
use Rattle.tq_txn.specs.declared.{asker.Exchange.Exchange, asker.ViewTold.ViewTold, fault.LineFault.LineFault}
use Rattle.tq_txn.specs.Lines.{LocksView, purpose_of, choose_line, next_lock, locks_line, quorum_line, read_end, quorum_read, read_line, write_end, quorum_write, write_line, refusal_in, vote_answer, prepare_line, any_answer, any_line, is_nothing_here, release_line, end_line, ending_line, down_line, stop_line, prepare_stop_line}
use Rattle.tq_txn.specs.declared.txn.{ReadAnswer.ReadAnswer, ReadAnswer.TheVariants.Copy}
use Rattle.tq_txn.specs.Dialogue.{Told, Dialogue, Ends, AsksNode, AsksDesk, AsksView, Makes, Begins, Follows, then_line, LineEnd, line_done, go_on, and_then, unless, ended_by, fault_of_ask, fault_of_txn, line_result, node_exchange, desk_exchange, view_exchange, node_line, desk_line, view_line}
use Rattle.tq_txn.specs.declared.asker.Exchange.TheVariants as exchanges
use Rattle.tq_txn.specs.declared.fault.LineFault.TheVariants as faults
use Rattle.tq_txn_states.specs.declared.{fault.TxnFault.TxnFault, told.DeskTold.DeskTold, told.NodeTold.NodeTold}
use Rattle.tq_txn_states.specs.Ended.{EndedView, decide_ask}
use Rattle.tq_txn_states.specs.Voting.{VotingView, has_vote, ask_fault, prepare_ask, vote_fault, vote_after, prepare_work}
use Rattle.tq_txn_states.specs.Open.{OpenView, ComesOf, has_all_ops, pending_content, op_read, op_written, read_fault, read_copy, read_after, write_fault, write_after, grants_of}
use Rattle.tq_txn_states.specs.declared.fault.TxnFault.TheVariants as txn_faults
use Rattle.tq_locks.specs.declared.mode.Mode.{Mode}
use Rattle.tq_coterie.specs.Coterie.{numbers_of}
use Rattle.tq_store.specs.declared.copies.FileCopy.{FileCopy}
use Rattle.tq_evidence.specs.declared.op.OpKind.TheVariants as kinds
use Rattle.tq_evidence.specs.Evidence.{greatest}

begins_none : {A : Type 0} (line : Dialogue A) → Begins line []
begins_none (Ends a) = refl
begins_none (AsksNode server ask next) = inl refl
begins_none (AsksDesk ask next) = inl refl
begins_none (AsksView ask next) = inl refl

-- memory ran out before any ask
pub follows_memory : {A : Type 0} (line : Dialogue A) (old : List Exchange) → Follows line old old None
follows_memory line old = ([], sym (append-nil old), begins_none line)

pub follows_end : {A : Type 0} (a : A) (old : List Exchange) → Follows (Ends a) old old (Some a)
follows_end a old = ([], sym (append-nil old), (refl, refl))

longer : (old mid new more : List Exchange) (entry : Exchange) → mid ≡ old ++ entry ∷ [] → new ≡ mid ++ more → new ≡ old ++ entry ∷ more
longer old mid new more entry first rest = rest ∙ ap (λ told. told ++ more) first ∙ append_assoc old (entry ∷ []) more

-- an ask of a server, and the rest
pub follows_node : {A : Type 0} (server : ℕ) (ask : NodeAsk) (next : Told NodeReply → Dialogue A) (answer : Told NodeReply) (old mid new : List Exchange) (end : Option A) → mid ≡ old ++ exchanges.Node server ask answer ∷ [] → Follows (next answer) mid new end → Follows (AsksNode server ask next) old new end
follows_node server ask next answer old mid new None first rest = (exchanges.Node server ask answer ∷ rest.0, longer old mid new rest.0 _ first rest.1, inr (answer, rest.0, refl, rest.2))
follows_node server ask next answer old mid new (Some end) first rest = (exchanges.Node server ask answer ∷ rest.0, longer old mid new rest.0 _ first rest.1, (answer, rest.0, refl, rest.2))

pub follows_desk : {A : Type 0} (ask : DeskAsk) (next : Told DeskReply → Dialogue A) (answer : Told DeskReply) (old mid new : List Exchange) (end : Option A) → mid ≡ old ++ exchanges.Desk ask answer ∷ [] → Follows (next answer) mid new end → Follows (AsksDesk ask next) old new end
follows_desk ask next answer old mid new None first rest = (exchanges.Desk ask answer ∷ rest.0, longer old mid new rest.0 _ first rest.1, inr (answer, rest.0, refl, rest.2))
follows_desk ask next answer old mid new (Some end) first rest = (exchanges.Desk ask answer ∷ rest.0, longer old mid new rest.0 _ first rest.1, (answer, rest.0, refl, rest.2))

pub follows_view : {A : Type 0} (ask : ViewAsk) (next : Told ViewReply → Dialogue A) (answer : Told ViewReply) (old mid new : List Exchange) (end : Option A) → mid ≡ old ++ exchanges.View ask answer ∷ [] → Follows (next answer) mid new end → Follows (AsksView ask next) old new end
follows_view ask next answer old mid new None first rest = (exchanges.View ask answer ∷ rest.0, longer old mid new rest.0 _ first rest.1, inr (answer, rest.0, refl, rest.2))
follows_view ask next answer old mid new (Some end) first rest = (exchanges.View ask answer ∷ rest.0, longer old mid new rest.0 _ first rest.1, (answer, rest.0, refl, rest.2))

-- ---- parts after one another

makes_then : {A B : Type 0} (line : Dialogue A) (next : A → Dialogue B) (told more : List Exchange) (a : A) (b : B) → Makes line told a → Makes (next a) more b → Makes (then_line line next) (told ++ more) b
makes_then {A} {B} (Ends x) next told more a b first rest =
    let P : A → Type 0 = λ y. Makes (next y) more b in
    let Q : List Exchange → Type 0 = λ t. Makes (next x) (t ++ more) b in
    subst Q (sym first.0) (subst P first.1 rest)
makes_then (AsksNode server ask line) next told more a b first rest = (first.0, first.1 ++ more, ap (λ t. t ++ more) first.2, makes_then (line first.0) next first.1 more a b first.3 rest)
makes_then (AsksDesk ask line) next told more a b first rest = (first.0, first.1 ++ more, ap (λ t. t ++ more) first.2, makes_then (line first.0) next first.1 more a b first.3 rest)
makes_then (AsksView ask line) next told more a b first rest = (first.0, first.1 ++ more, ap (λ t. t ++ more) first.2, makes_then (line first.0) next first.1 more a b first.3 rest)

begins_after : {A B : Type 0} (line : Dialogue A) (next : A → Dialogue B) (told more : List Exchange) (a : A) → Makes line told a → Begins (next a) more → Begins (then_line line next) (told ++ more)
begins_after {A} {B} (Ends x) next told more a first rest =
    let P : A → Type 0 = λ y. Begins (next y) more in
    let Q : List Exchange → Type 0 = λ t. Begins (next x) (t ++ more) in
    subst Q (sym first.0) (subst P first.1 rest)
begins_after (AsksNode server ask line) next told more a first rest = inr (first.0, first.1 ++ more, ap (λ t. t ++ more) first.2, begins_after (line first.0) next first.1 more a first.3 rest)
begins_after (AsksDesk ask line) next told more a first rest = inr (first.0, first.1 ++ more, ap (λ t. t ++ more) first.2, begins_after (line first.0) next first.1 more a first.3 rest)
begins_after (AsksView ask line) next told more a first rest = inr (first.0, first.1 ++ more, ap (λ t. t ++ more) first.2, begins_after (line first.0) next first.1 more a first.3 rest)

pub begins_then : {A B : Type 0} (line : Dialogue A) (next : A → Dialogue B) (told : List Exchange) → Begins line told → Begins (then_line line next) told
begins_then {A} {B} (Ends x) next told first =
    let Q : List Exchange → Type 0 = λ t. Begins (next x) t in
    subst Q (sym first) (begins_none (next x))
begins_then (AsksNode server ask line) next told first =
    elim first [
      | inl none ↦ inl none
      | inr some ↦ inr (some.0, some.1, some.2, begins_then (line some.0) next some.1 some.3)
    ]
begins_then (AsksDesk ask line) next told first =
    elim first [
      | inl none ↦ inl none
      | inr some ↦ inr (some.0, some.1, some.2, begins_then (line some.0) next some.1 some.3)
    ]
begins_then (AsksView ask line) next told first =
    elim first [
      | inl none ↦ inl none
      | inr some ↦ inr (some.0, some.1, some.2, begins_then (line some.0) next some.1 some.3)
    ]

pub further : (old mid new first more : List Exchange) → mid ≡ old ++ first → new ≡ mid ++ more → new ≡ old ++ (first ++ more)
further old mid new first more a b = b ∙ ap (λ t. t ++ more) a ∙ append_assoc old first more

-- a part that ended, and the rest
pub follows_then : {A B : Type 0} (line : Dialogue A) (next : A → Dialogue B) (a : A) (old mid new : List Exchange) (end : Option B) → Follows line old mid (Some a) → Follows (next a) mid new end → Follows (then_line line next) old new end
follows_then line next a old mid new None first rest = (first.0 ++ rest.0, further old mid new first.0 rest.0 first.1 rest.1, begins_after line next first.0 rest.0 a first.2 rest.2)
follows_then line next a old mid new (Some end) first rest = (first.0 ++ rest.0, further old mid new first.0 rest.0 first.1 rest.1, makes_then line next first.0 rest.0 a end first.2 rest.2)

module _ {A S B T : Type 0} (line : Dialogue (LineEnd A S)) (left : S → T) (next : A → S → Dialogue (LineEnd B T)) where
  -- where the first part ends well, the line goes on with the next
  pub follows_on : (a : A) (s : S) (old mid new : List Exchange) (end : Option (LineEnd B T)) → Follows line old mid (ended_by (Ok a) s) → Follows (next a s) mid new end → Follows (and_then line left next) old new end
  follows_on a s old mid new end first rest = follows_then line (λ e. go_on e.answer (left e.after) (λ x. next x e.after)) (record { answer = Ok a; after = s }) old mid new end first rest

  pub stopped : (fault : LineFault) (s : S) (old new : List Exchange) → Follows line old new (Some (record { answer = Err fault; after = s })) → Follows (and_then line left next) old new (Some (record { answer = Err fault; after = left s }))
  stopped fault s old new first =
      follows_then line (λ e. go_on e.answer (left e.after) (λ x. next x e.after)) (record { answer = Err fault; after = s }) old new new (Some (record { answer = Err fault; after = left s })) first (follows_end _ new)

  -- the first part was refused, or memory ran out in it
  pub follows_off : (fault : LineFault) (s : S) (t : T) (old new : List Exchange) → (t ≡ left s) → Follows line old new (ended_by (Err fault) s) → Follows (and_then line left next) old new (ended_by (Err fault) t)
  follows_off faults.Memory s t old new is first = (first.0, first.1, begins_then line (λ e. go_on e.answer (left e.after) (λ x. next x e.after)) first.0 first.2)
  follows_off fault s t old new is first = rw is (stopped fault s old new first)

-- a fault of the transaction ends the line
pub follows_fault : {A S : Type 0} (cause : Option TxnFault) (fault : TxnFault) (after : S) (line : Dialogue (LineEnd A S)) (old : List Exchange) → ComesOf cause fault → Follows (unless cause after line) old old (ended_by (Err (fault_of_txn fault)) after)
follows_fault cause txn_faults.Memory after line old is = follows_memory (unless cause after line) old
follows_fault cause fault after line old is = rw is (follows_end _ old)

-- an answer ends the line
pub follows_answer : {A S : Type 0} (result : Result A LineFault) (after : S) (old : List Exchange) → Follows (Ends (record { answer = result; after = after })) old old (ended_by result after)
follows_answer (Ok a) after old = follows_end _ old
follows_answer {A} {S} (Err faults.Memory) after old = let line : Dialogue (LineEnd A S) = Ends (record { answer = Err faults.Memory; after = after }) in follows_memory line old
follows_answer (Err fault) after old = follows_end _ old

-- ---- one ask

pub told_node : (server : ℕ) (ask : NodeAsk) (told : NodeTold) (old new : List Exchange) → new ≡ old ++ node_exchange server ask (Ok told) → told.server ≡ server → told.ask ≡ ask → Follows (node_line server ask) old new (Some (record { answer = Ok told; after = tt }))
told_node server ask told old new grown servers asks =
    let same : told ≡ record { server = server; number = told.number; ask = ask; reply = told.reply } = λ i. record { server = servers i; number = told.number; ask = asks i; reply = told.reply } in
    let P : NodeTold → Type 0 = λ t. Follows (node_line server ask) old new (Some (record { answer = Ok t; after = tt })) in
    subst P (sym same) (follows_node server ask _ (Ok (record { number = told.number; reply = told.reply })) old new new (Some (record { answer = Ok record { server = server; number = told.number; ask = ask; reply = told.reply }; after = tt })) grown (follows_end _ new))

pub told_desk : (ask : DeskAsk) (told : DeskTold) (old new : List Exchange) → new ≡ old ++ desk_exchange ask (Ok told) → told.ask ≡ ask → Follows (desk_line ask) old new (Some (record { answer = Ok told; after = tt }))
told_desk ask told old new grown asks =
    let same : told ≡ record { number = told.number; ask = ask; reply = told.reply } = λ i. record { number = told.number; ask = asks i; reply = told.reply } in
    let P : DeskTold → Type 0 = λ t. Follows (desk_line ask) old new (Some (record { answer = Ok t; after = tt })) in
    subst P (sym same) (follows_desk ask _ (Ok (record { number = told.number; reply = told.reply })) old new new (Some (record { answer = Ok record { number = told.number; ask = ask; reply = told.reply }; after = tt })) grown (follows_end _ new))

pub refused_desk : (ask : DeskAsk) (fault : AskFault) (old new : List Exchange) → new ≡ old ++ desk_exchange ask (Err fault) → Follows (desk_line ask) old new (ended_by (Err (fault_of_ask fault)) tt)
refused_desk ask ask_faults.Memory old new grown = ([], grown, inl refl)
refused_desk ask (ask_faults.JournalFull part) old new grown = follows_desk ask _ (Err (ask_faults.JournalFull part)) old new new (Some (record { answer = Err (faults.JournalFull part); after = tt })) grown (follows_end _ new)
refused_desk ask (ask_faults.Unfounded part number) old new grown = follows_desk ask _ (Err (ask_faults.Unfounded part number)) old new new (Some (record { answer = Err (faults.Unfounded part number); after = tt })) grown (follows_end _ new)

pub told_view : (ask : ViewAsk) (told : ViewTold) (old new : List Exchange) → new ≡ old ++ view_exchange ask (Ok told) → told.ask ≡ ask → Follows (view_line ask) old new (Some (record { answer = Ok told; after = tt }))
told_view ask told old new grown asks =
    let same : told ≡ record { number = told.number; ask = ask; reply = told.reply } = λ i. record { number = told.number; ask = asks i; reply = told.reply } in
    let P : ViewTold → Type 0 = λ t. Follows (view_line ask) old new (Some (record { answer = Ok t; after = tt })) in
    subst P (sym same) (follows_view ask _ (Ok (record { number = told.number; reply = told.reply })) old new new (Some (record { answer = Ok record { number = told.number; ask = ask; reply = told.reply }; after = tt })) grown (follows_end _ new))

pub refused_view : (ask : ViewAsk) (fault : AskFault) (old new : List Exchange) → new ≡ old ++ view_exchange ask (Err fault) → Follows (view_line ask) old new (ended_by (Err (fault_of_ask fault)) tt)
refused_view ask ask_faults.Memory old new grown = ([], grown, inl refl)
refused_view ask (ask_faults.JournalFull part) old new grown = follows_view ask _ (Err (ask_faults.JournalFull part)) old new new (Some (record { answer = Err (faults.JournalFull part); after = tt })) grown (follows_end _ new)
refused_view ask (ask_faults.Unfounded part number) old new grown = follows_view ask _ (Err (ask_faults.Unfounded part number)) old new new (Some (record { answer = Err (faults.Unfounded part number); after = tt })) grown (follows_end _ new)

pub asked_desk : (ask : DeskAsk) (result : Result DeskTold AskFault) (old new : List Exchange) → new ≡ old ++ desk_exchange ask result → IfOk result (λ t. t.ask ≡ ask) → Follows (desk_line ask) old new (ended_by (line_result result) tt)
asked_desk ask (Ok told) old new grown same = told_desk ask told old new grown same
asked_desk ask (Err fault) old new grown same = refused_desk ask fault old new grown

pub asked_view : (ask : ViewAsk) (result : Result ViewTold AskFault) (old new : List Exchange) → new ≡ old ++ view_exchange ask result → IfOk result (λ t. t.ask ≡ ask) → Follows (view_line ask) old new (ended_by (line_result result) tt)
asked_view ask (Ok told) old new grown same = told_view ask told old new grown same
asked_view ask (Err fault) old new grown same = refused_view ask fault old new grown

-- ---- parts of the lines

pub follows_unless : {A S : Type 0} (cause : Option TxnFault) (a : A) (before after : S) (old : List Exchange) → cause ≡ None → Follows (unless cause before (line_done a after)) old old (Some (record { answer = Ok a; after = after }))
follows_unless cause a before after old none = rw none (follows_end _ old)

-- what is left of a list from a place on: the value there, and those behind it
pub left_from : {X : Type 0} (xs : List X) (place : ℕ) (x : X) → place < length xs → x ≡ get_or xs place x → drop place xs ≡ x ∷ drop (place + 1) xs
left_from xs place x less is =
    let next : suc place ≡ place + 1 = omega arith in
    drop-cons xs place x less ∙ (λ i. sym is i ∷ drop (next i) xs)

module _ (file : List ℕ) (mode : Mode) (servers rest : List Server) (server : Server) (old new : LocksView) (is : servers ≡ server ∷ rest) where
  pub locks_off : (fault : LineFault) (told after : List Exchange) → Follows (next_lock file mode server.number old) told after (ended_by (Err fault) new) → Follows (locks_line file mode (numbers_of servers) old) told after (ended_by (Err fault) new)
  locks_off fault told after first =
      rw is (follows_off (next_lock file mode server.number old) (λ s. s) (λ all s. locks_line file mode (numbers_of rest) s) fault new new told after refl first)

  pub locks_on : (told mid after : List Exchange) (end : Option (LineEnd (Unit {0}) LocksView)) → Follows (next_lock file mode server.number old) told mid (Some (record { answer = Ok tt; after = new })) → Follows (locks_line file mode (numbers_of rest) new) mid after end → Follows (locks_line file mode (numbers_of servers) old) told after end
  locks_on told mid after end first more =
      rw is (follows_on (next_lock file mode server.number old) (λ s. s) (λ all s. locks_line file mode (numbers_of rest) s) tt new told mid after end first more)

module _ (file : List ℕ) (mode : Mode) (levels : ℕ) (old : OpenView) (same : levels ≡ old.levels) (purpose : Purpose) (fits : purpose ≡ purpose_of mode) where
  chosen_line : (told after : List Exchange) (end : Option (LineEnd (List ℕ) (Unit {0}))) → Follows (choose_line levels purpose) told after end → Follows (choose_line old.levels (purpose_of mode)) told after end
  chosen_line told after end first =
      let P : ℕ → Type 0 = λ l. Follows (choose_line l (purpose_of mode)) told after end in
      let Q : Purpose → Type 0 = λ p. Follows (choose_line levels p) told after end in
      subst P same (subst Q fits first)

  pub quorum_off : (fault : LineFault) (told after : List Exchange) → Follows (choose_line levels purpose) told after (ended_by (Err fault) tt) → Follows (quorum_line file mode old) told after (ended_by (Err fault) old)
  quorum_off fault told after first =
      follows_off (choose_line old.levels (purpose_of mode)) (λ none. old) (λ servers none. and_then (locks_line file mode servers (record { answers = []; txn = old })) (λ new. new.txn) (λ all new. line_done new.answers new.txn)) fault tt old told after refl
      (chosen_line told after (ended_by (Err fault) tt) first)

  module _ (servers : List ℕ) (ids : List Server) (none : List NodeTold) (numbers : numbers_of ids ≡ servers) (empty : none ≡ []) (told mid : List Exchange) (first : Follows (choose_line levels purpose) told mid (Some (record { answer = Ok servers; after = tt }))) where
    locked : (after : List Exchange) (end : Option (LineEnd (Unit {0}) LocksView)) → Follows (locks_line file mode (numbers_of ids) (record { answers = none; txn = old })) mid after end → Follows (locks_line file mode servers (record { answers = []; txn = old })) mid after end
    locked after end more =
        let P : List ℕ → List NodeTold → Type 0 = λ ns xs. Follows (locks_line file mode ns (record { answers = xs; txn = old })) mid after end in
        let Q : List ℕ → Type 0 = λ ns. P ns [] in let R : List NodeTold → Type 0 = λ xs. P (numbers_of ids) xs in subst Q numbers (subst R empty more)

    pub quorum_stopped : (fault : LineFault) (new : LocksView) (after : List Exchange) → Follows (locks_line file mode (numbers_of ids) (record { answers = none; txn = old })) mid after (ended_by (Err fault) new) → Follows (quorum_line file mode old) told after (ended_by (Err fault) new.txn)
    quorum_stopped fault new after more =
        follows_on (choose_line old.levels (purpose_of mode)) (λ none. old) (λ servers none. and_then (locks_line file mode servers (record { answers = []; txn = old })) (λ s. s.txn) (λ all s. line_done s.answers s.txn)) servers tt told mid after (ended_by (Err fault) new.txn)
        (chosen_line told mid (Some record { answer = Ok servers; after = tt }) first)
        (follows_off (locks_line file mode servers (record { answers = []; txn = old })) (λ s. s.txn) (λ all s. line_done s.answers s.txn) fault new new.txn mid after refl (locked after (ended_by (Err fault) new) more))

    pub quorum_locked : (new : LocksView) (after : List Exchange) → Follows (locks_line file mode (numbers_of ids) (record { answers = none; txn = old })) mid after (Some (record { answer = Ok tt; after = new })) → Follows (quorum_line file mode old) told after (Some (record { answer = Ok new.answers; after = new.txn }))
    quorum_locked new after more =
        follows_on (choose_line old.levels (purpose_of mode)) (λ none. old) (λ servers none. and_then (locks_line file mode servers (record { answers = []; txn = old })) (λ s. s.txn) (λ all s. line_done s.answers s.txn)) servers tt told mid after (Some (record { answer = Ok new.answers; after = new.txn }))
        (chosen_line told mid (Some record { answer = Ok servers; after = tt }) first)
        (follows_on (locks_line file mode servers (record { answers = []; txn = old })) (λ s. s.txn) (λ all s. line_done s.answers s.txn) tt new mid after after (Some (record { answer = Ok new.answers; after = new.txn })) (locked after (Some record { answer = Ok tt; after = new }) more) (follows_end _ after))

-- an ask of which any answer is taken, and what a call answers of it
abbrev any_end : Option NodeReply → LineEnd (Option NodeReply) (Unit {0})
any_end reply = record { answer = Ok reply; after = tt }

any_told : (server : ℕ) (ask : NodeAsk) (told : Result NodeTold AskFault) (old new : List Exchange) → new ≡ old ++ node_exchange server ask told → Follows (any_line server ask) old new (option_map any_end (any_answer told))
any_told server ask (Ok told) old new grown = (node_exchange server ask (Ok told), grown, (Ok (record { number = told.number; reply = told.reply }), [], refl, (refl, refl)))
any_told server ask (Err ask_faults.Memory) old new grown = ([], grown, inl refl)
any_told server ask (Err fault) old new grown = (node_exchange server ask (Err fault), grown, (Err fault, [], refl, (refl, refl)))

pub any_on : {E : Type 0} (server : ℕ) (ask : NodeAsk) (told : Result NodeTold AskFault) (result : Result (Option NodeReply) E) (old new : List Exchange) → new ≡ old ++ node_exchange server ask told → result_ok result ≡ any_answer told
    → IfOk result (λ reply. Follows (any_line server ask) old new (Some (record { answer = Ok reply; after = tt }))) × OnErr result (Follows (any_line server ask) old new None)
any_on server ask told (Ok reply) old new grown is = (subst (λ (o : Option (Option NodeReply)). Follows (any_line server ask) old new (option_map any_end o)) (sym is) (any_told server ask told old new grown), tt)
any_on server ask told (Err fault) old new grown is = (tt, subst (λ (o : Option (Option NodeReply)). Follows (any_line server ask) old new (option_map any_end o)) (sym is) (any_told server ask told old new grown))

-- a server is told the verdict by an ask that says it, and is then asked to release the locks where nothing was prepared
pub end_told : (ended : EndedView) (server : ℕ) (ask : NodeAsk) (reply : Option NodeReply) (txn : ℕ) (wanted : Bool) (result : Result (Unit {0}) LineFault) (told mid new : List Exchange) → ask ≡ decide_ask ended → txn ≡ ended.txn → wanted ≡ is_nothing_here reply
    → Follows (any_line server ask) told mid (Some (record { answer = Ok reply; after = tt })) → Follows (release_line txn server wanted) mid new (ended_by result tt) → Follows (end_line ended server) told new (ended_by result tt)
end_told ended server ask reply txn wanted result told mid new is same nothing first rest =
    let P : NodeAsk → Type 0 = λ a. Follows (any_line server a) told mid (Some (record { answer = Ok reply; after = tt })) in
    let Q : ℕ → Type 0 = λ t. Follows (release_line t server wanted) mid new (ended_by result tt) in
    let R : Bool → Type 0 = λ w. Follows (release_line ended.txn server w) mid new (ended_by result tt) in
    follows_on (any_line server (decide_ask ended)) (λ none. none) (λ reply none. release_line ended.txn server (is_nothing_here reply)) reply tt told mid new (ended_by result tt) (subst P is first) (subst R nothing (subst Q same rest))

module _ (ended : EndedView) (servers rest : List Server) (server : Server) (is : servers ≡ server ∷ rest) where
  pub ending_off : (fault : LineFault) (told new : List Exchange) → Follows (end_line ended server.number) told new (ended_by (Err fault) tt) → Follows (ending_line ended (numbers_of servers)) told new (ended_by (Err fault) tt)
  ending_off fault told new first =
      rw is (follows_off (end_line ended server.number) (λ none. none) (λ all none. ending_line ended (numbers_of rest)) fault tt tt told new refl first)

  pub ending_on : (told mid new : List Exchange) (end : Option (LineEnd (Unit {0}) (Unit {0}))) → Follows (end_line ended server.number) told mid (Some (record { answer = Ok tt; after = tt })) → Follows (ending_line ended (numbers_of rest)) mid new end → Follows (ending_line ended (numbers_of servers)) told new end
  ending_on told mid new end first more =
      rw is (follows_on (end_line ended server.number) (λ none. none) (λ all none. ending_line ended (numbers_of rest)) tt tt told mid new end first more)

-- ---- what was not read or written before

pub first_of_reads : (old : OpenView) (file : List ℕ) (told new : List Exchange) (end : Option (LineEnd ReadAnswer OpenView)) → pending_content old file ≡ None → op_read old file ≡ None → has_all_ops old ≡ false → Follows (quorum_read old file) told new end → Follows (read_line old file) told new end
first_of_reads old file told new end unwritten unread few follows = rw (unwritten, unread, few) follows

pub first_of_writes : (old : OpenView) (file content : List ℕ) (told new : List Exchange) (end : Option (LineEnd ℕ OpenView)) → op_written old file ≡ None → has_all_ops old ≡ false → Follows (quorum_write old file content) told new end → Follows (write_line old file content) told new end
first_of_writes old file content told new end unwritten few follows = rw (unwritten, few) follows

-- ---- how a read, a write and a vote end

pub read_ended : (file : List ℕ) (answers given : List NodeTold) (old new : OpenView) (copy : FileCopy) (told : List Exchange) → given ≡ answers → read_fault old file given ≡ None → copy ≡ read_copy (grants_of kinds.Read old.txn file given) → new ≡ read_after old file given → Follows (read_end file answers old) told told (Some (record { answer = Ok (Copy copy); after = new }))
read_ended file answers given old new copy told same none copies news =
    let best = read_copy (grants_of kinds.Read old.txn file given) in
    let Q : FileCopy → Type 0 = λ x. Follows (read_end file given old) told told (Some (record { answer = Ok (Copy x); after = read_after old file given })) in
    let R : OpenView → Type 0 = λ v. Follows (read_end file given old) told told (Some (record { answer = Ok (Copy copy); after = v })) in
    let S : List NodeTold → Type 0 = λ xs. Follows (read_end file xs old) told told (Some (record { answer = Ok (Copy copy); after = new })) in
    subst S same (subst R (sym news) (subst Q (sym copies) (follows_unless (read_fault old file given) (Copy best) old (read_after old file given) told none)))

pub read_refused : (file : List ℕ) (answers given : List NodeTold) (old new : OpenView) (fault : TxnFault) (line_fault : LineFault) (told : List Exchange) → given ≡ answers → ComesOf (read_fault old file given) fault → new ≡ old → line_fault ≡ fault_of_txn fault → Follows (read_end file answers old) told told (ended_by (Err line_fault) new)
read_refused file answers given old new fault line_fault told same comes news faults_are =
    let Q : LineFault → Type 0 = λ x. Follows (read_end file given old) told told (ended_by (Err x) old) in
    let R : OpenView → Type 0 = λ v. Follows (read_end file given old) told told (ended_by (Err line_fault) v) in
    let S : List NodeTold → Type 0 = λ xs. Follows (read_end file xs old) told told (ended_by (Err line_fault) new) in
    subst S same (subst R (sym news) (subst Q (sym faults_are) (follows_fault (read_fault old file given) fault old (line_done (Copy (read_copy (grants_of kinds.Read old.txn file given))) (read_after old file given)) told comes)))

pub write_ended : (file content : List ℕ) (answers given : List NodeTold) (old new : OpenView) (version : ℕ) (told : List Exchange) → given ≡ answers → write_fault old file given ≡ None → version ≡ greatest (grants_of kinds.Write old.txn file given) + 1 → new ≡ write_after old file content given → Follows (write_end file content answers old) told told (Some (record { answer = Ok version; after = new }))
write_ended file content answers given old new version told same none versions news =
    let best = greatest (grants_of kinds.Write old.txn file given) + 1 in
    let Q : ℕ → Type 0 = λ x. Follows (write_end file content given old) told told (Some (record { answer = Ok x; after = write_after old file content given })) in
    let R : OpenView → Type 0 = λ v. Follows (write_end file content given old) told told (Some (record { answer = Ok version; after = v })) in
    let S : List NodeTold → Type 0 = λ xs. Follows (write_end file content xs old) told told (Some (record { answer = Ok version; after = new })) in
    subst S same (subst R (sym news) (subst Q (sym versions) (follows_unless (write_fault old file given) best old (write_after old file content given) told none)))

pub write_refused : (file content : List ℕ) (answers given : List NodeTold) (old new : OpenView) (fault : TxnFault) (line_fault : LineFault) (told : List Exchange) → given ≡ answers → ComesOf (write_fault old file given) fault → new ≡ old → line_fault ≡ fault_of_txn fault → Follows (write_end file content answers old) told told (ended_by (Err line_fault) new)
write_refused file content answers given old new fault line_fault told same comes news faults_are =
    let Q : LineFault → Type 0 = λ x. Follows (write_end file content given old) told told (ended_by (Err x) old) in
    let R : OpenView → Type 0 = λ v. Follows (write_end file content given old) told told (ended_by (Err line_fault) v) in
    let S : List NodeTold → Type 0 = λ xs. Follows (write_end file content xs old) told told (ended_by (Err line_fault) new) in
    subst S same (subst R (sym news) (subst Q (sym faults_are) (follows_fault (write_fault old file given) fault old (line_done (greatest (grants_of kinds.Write old.txn file given) + 1) (write_after old file content given)) told comes)))

pub vote_refused : (old new : VotingView) (answer : NodeTold) (fault : TxnFault) (line_fault : LineFault) (told : List Exchange) → refusal_in answer.reply ≡ None → ComesOf (vote_fault old answer) fault → new ≡ old → line_fault ≡ fault_of_txn fault → Follows (vote_answer old answer) told told (ended_by (Err line_fault) new)
vote_refused old new answer fault line_fault told none comes news faults_are =
    let Q : LineFault → Type 0 = λ x. Follows (vote_answer old answer) told told (ended_by (Err x) old) in
    let R : VotingView → Type 0 = λ v. Follows (vote_answer old answer) told told (ended_by (Err line_fault) v) in
    subst R (sym news) (subst Q (sym faults_are) (rw none (follows_fault (vote_fault old answer) fault old (line_done tt (vote_after old answer)) told comes)))

pub vote_asked : (old new : VotingView) (server : ℕ) (ask : NodeAsk) (answer : NodeTold) (result : Result (Unit {0}) LineFault) (told after : List Exchange) → has_vote old.votes server ≡ false → ask_fault old.txn server ≡ None → ask ≡ prepare_ask old.txn server → Follows (node_line server ask) told after (Some (record { answer = Ok answer; after = tt })) → Follows (vote_answer old answer) after after (ended_by result new) → Follows (prepare_line old server) told after (ended_by result new)
vote_asked old new server ask answer result told after new_voter may asks first last =
    let P : NodeAsk → Type 0 = λ a. Follows (node_line server a) told after (Some (record { answer = Ok answer; after = tt })) in
    rw (new_voter, may) (follows_on (node_line server (prepare_ask old.txn server)) (λ none. old) (λ t none. vote_answer old t) answer tt told after after (ended_by result new) (subst P asks first) last)

-- ---- stop laws

-- ---- the stop, and the mark

module _ (server : ℕ) (ask : WorkAsk) (after : ℕ) (old : List Exchange) where
  -- memory ran out in the ask
  pub stop_off : (new : List Exchange) → Follows (any_line server (CrashIn after ask)) old new None → Follows (stop_line server ask after) old new None
  stop_off new first = follows_off (any_line server (CrashIn after ask)) (λ none. none) (λ reply none. down_line server) faults.Memory tt tt old new refl first

  pub stop_on : (reply : Option NodeReply) (mid new : List Exchange) (end : Option (LineEnd (Unit {0}) (Unit {0})))
      → Follows (any_line server (CrashIn after ask)) old mid (Some (record { answer = Ok reply; after = tt })) → Follows (down_line server) mid new end → Follows (stop_line server ask after) old new end
  stop_on reply mid new end first rest = follows_on (any_line server (CrashIn after ask)) (λ none. none) (λ reply none. down_line server) reply tt old mid new end first rest

-- ---- a stop in a vote that met a fault

pub vote_unstopped : (old : VotingView) (server after : ℕ) (ask : WorkAsk) (fault : LineFault) (told new : List Exchange) → has_vote old.votes server ≡ false → ask_fault old.txn server ≡ None → ask ≡ prepare_work old.txn server
    → Follows (stop_line server ask after) told new (ended_by (Err fault) tt) → Follows (prepare_stop_line old server after) told new (ended_by (Err fault) old)
vote_unstopped old server after ask fault told new new_voter may asks first =
    let P : WorkAsk → Type 0 = λ a. Follows (stop_line server a after) told new (ended_by (Err fault) tt) in
    rw (new_voter, may)
    (follows_off (stop_line server (prepare_work old.txn server) after) (λ none. old) (λ all none. line_done false old) fault tt old told new refl (subst P asks first))
