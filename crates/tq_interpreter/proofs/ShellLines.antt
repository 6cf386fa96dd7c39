-- The asks of a line, each told what the service answers, are its run. A line of a transaction whose asks are the
-- dialogue's is run so, and says this. A line of the shell whose asks are the dialogue's is answered so.
use Rattle.std.proofs.Common.{◌≡◌, ◌∙◌, ◌-◌, ◌<◌, cond, nat_lt, arith, ℕ, true, List, [], ◌∷◌, ◌++◌, Some, None, append_assoc, append-nil, refl, sym, ap, subst, false, Option, Result, Ok, Err, ◌+◌, length, get_or, inl, inr}
use Rattle.std.proofs.lemmas.{Option.slice_get_read, List.Elements.{All-nil, All-push, All-weaker}}
use Rattle.std.specs.{Prelude.{slice_get, IfOk, slice_set}, Global.Vec}
use Rattle.tq_tables.specs.Journals.{JournalsView}
use Rattle.tq_core.specs.declared.answer.Step.TheVariants as steps
use Rattle.tq_core.specs.{Steps.world_after, World.item_at}
use Rattle.tq_txn.specs.declared.{asker.Exchange.Exchange, fault.LineFault.LineFault, txn.Txn.Txn}
use Rattle.tq_txn.specs.Dialogue.{Told, Dialogue, Ends, AsksNode, AsksDesk, AsksView, Makes, Follows, then_line, LineEnd, ended_by, desk_exchange, desk_line, line_result}
use Rattle.tq_txn.specs.Told.{IsEnding, Knows, levels_of}
use Rattle.tq_txn.specs.declared.asker.Exchange.TheVariants as exchanges
use Rattle.tq_interpreter.specs.Recorded.{Ran, run_line, exchange_first, node_told, desk_told, view_told, RecorderView, Replays, IsReplayed, Matches, step_of, mark_of, coded_numbers, Progress}
use Rattle.tq_interpreter.specs.declared.{txn_slot.TxnSlot.TxnSlot, states.Closed.Closed}
use Rattle.tq_interpreter.specs.TxnAsked.{TxnAnswer, IsAnswered, IsClosed, is_refused_memory, line_asked}
use Rattle.tq_interpreter.specs.Answer.{World, Answer, answer, answer_of_run, IsWhole, LineAnswer, begin_end, begin_reply, of_txn, refresh_line, text_answer, refresh_asked}
use Rattle.tq_interpreter.specs.Known.{with_kept, AreKept, IsKept, IsLater, Known, fresh, known_of}
use base.Stored.{Gv, gnil, gnum, gcons}
use Rattle.tq_tables.specs.contracts.journals.Journals as journals_type
use Rattle.tq_txn.specs.declared.fault.LineFault.TheVariants as faults
use Rattle.tq_interpreter.specs.declared.states.Closed.TheVariants as closed
use Rattle.tq_txn_states.specs.{Voting.VotingView, declared.told.DeskTold.DeskTold, Open.{OpenView, opening_txn}}
use Rattle.tq_txn_states.specs.Voting.{IsOpTold, IsVoteTold, KeepsOnly}
use Rattle.tq_text.specs.Print.{printed_line}
use Rattle.tq_shape.specs.{declared.fault.AskFault.AskFault, Limits.LimitsView}
use Rattle.tq_shape.specs.declared.fault.AskFault.TheVariants as ask_faults
use Rattle.tq_desk.specs.declared.ask.{DeskAsk.TheVariants.Begin, DeskReply.DeskReply}
use Rattle.tq_txn.proofs.{LineLaws.{asked_desk, further}, CommitLaws.levels_still}
use Rattle.tq_txn.proofs.KnownLaws.{grown_along, knows_grow, open_fresh}
use Rattle.tq_syntax.specs.declared.line.Line.TheVariants as shell_lines
use Rattle.tq_syntax.specs.declared.line.TxnLine.{TxnLine}
use Rattle.tq_desk.specs.declared.ask.DeskReply.TheVariants as desk_replies
use Rattle.tq_txn.specs.declared.txn.Txn.TheVariants as states

pub item_of : {E : Type 0} (items : List E) (number place : ℕ) (x : E) → 0 < number → number - 1 ≡ place → slice_get items place ≡ Some x → item_at items number ≡ Some x
item_of items number place x less same is =
    let above : nat_lt 0 number ≡ true = grind (arith, less) in
    ap (λ b. cond b (slice_get items (number - 1)) None) above ∙ ap (λ p. slice_get items p) same ∙ is

replays_more : (told more : List Exchange) (old mid new : JournalsView) → Replays old told mid → Replays old (told ++ more) new → Replays mid more new
replays_more [] more old mid new first all =
    subst (λ (w : JournalsView). Replays w more new) (sym first) all
replays_more (x ∷ told) more old mid new first all = replays_more told more (world_after old (step_of x)) mid new first.1 all.1

pub replays_push : (told : List Exchange) (x : Exchange) (old mid : JournalsView) → Replays old told mid → Matches mid x → Replays old (told ++ x ∷ []) (world_after mid (step_of x))
replays_push [] x old mid first exchanges =
    (subst (λ (w : JournalsView). Matches w x) first exchanges, ap (λ w. world_after w (step_of x)) first)
replays_push (y ∷ told) x old mid first exchanges = (first.0, replays_push told x (world_after old (step_of y)) mid first.1 exchanges)

-- an ask that was told what the service answers, and then the run of what follows
asked_first : {A R : Type 0} (ask : Told R → Exchange) (run : Told R → Ran A) (told is : Told R) (more all : List Exchange) (end : A) (new : JournalsView) → told ≡ is → all ≡ ask told ∷ more
    → run told ≡ record { exchanges = more; end = end; after = new } → exchange_first (ask is) (run is) ≡ record { exchanges = all; end = end; after = new }
asked_first ask run told is more all end new same listed ran =
    ap (λ t. exchange_first (ask t) (run t)) (sym same) ∙ ap (exchange_first (ask told)) ran ∙ ap (λ t. record { exchanges = t; end = end; after = new }) (sym listed)

-- the asks of a line, each told what the service answers, are its run
makes_ran : {A : Type 0} (line : Dialogue A) (old new : JournalsView) (told : List Exchange) (end : A) → Makes line told end → Replays old told new → run_line old line ≡ record { exchanges = told; end = end; after = new }
makes_ran (Ends a) old new told end made replays =
    let same : new ≡ old = subst (λ (t : List Exchange). Replays old t new) made.0 replays in
    λ i. record { exchanges = sym made.0 i; end = sym made.1 i; after = sym same i }
makes_ran (AsksNode server ask next) old new told end made replays =
    let replayed = subst (λ (t : List Exchange). Replays old t new) made.2 replays in
    let after = world_after old (steps.Node server ask) in
    asked_first (exchanges.Node server ask) (λ t. run_line after (next t)) made.0 (node_told old server ask) made.1 told end new replayed.0 made.2 (makes_ran (next made.0) after new made.1 end made.3 replayed.1)
makes_ran (AsksDesk ask next) old new told end made replays =
    let replayed = subst (λ (t : List Exchange). Replays old t new) made.2 replays in
    let after = world_after old (steps.Desk ask) in
    asked_first (exchanges.Desk ask) (λ t. run_line after (next t)) made.0 (desk_told old ask) made.1 told end new replayed.0 made.2 (makes_ran (next made.0) after new made.1 end made.3 replayed.1)
makes_ran (AsksView ask next) old new told end made replays =
    let replayed = subst (λ (t : List Exchange). Replays old t new) made.2 replays in
    let after = world_after old (steps.View ask) in
    asked_first (exchanges.View ask) (λ t. run_line after (next t)) made.0 (view_told old ask) made.1 told end new replayed.0 made.2 (makes_ran (next made.0) after new made.1 end made.3 replayed.1)

first_of : (n m : ℕ) (more rest : List ℕ) → n ∷ more ≡ m ∷ rest → n ≡ m
first_of n m more rest is = cc

behind : (n m : ℕ) (more rest : List ℕ) → n ∷ more ≡ m ∷ rest → more ≡ rest
behind n m more rest is = cc

apart : (n m : ℕ) (more rest : List ℕ) → n ∷ more ≡ m ∷ rest → (n ≡ m → ⊥) → ⊥
apart n m more rest is other = other (first_of n m more rest is)

-- a list of numbers has one tree, and what stands behind it
one_tree : (a b : Gv) (more rest : List ℕ) → coded_numbers a ++ more ≡ coded_numbers b ++ rest → (a ≡ b) × (more ≡ rest)
one_tree gnil gnil more rest is = (refl, behind 0 0 more rest is)
one_tree gnil (gnum m) more rest is = absurd (apart 0 1 more (m ∷ rest) is (λ same. omega (arith, same)))
one_tree gnil (gcons c d) more rest is = absurd (apart 0 2 more ((coded_numbers c ++ coded_numbers d) ++ rest) is (λ same. omega (arith, same)))
one_tree (gnum n) gnil more rest is = absurd (apart 1 0 (n ∷ more) rest is (λ same. omega (arith, same)))
one_tree (gnum n) (gnum m) more rest is =
    let tails = behind 1 1 (n ∷ more) (m ∷ rest) is in
    (ap gnum (first_of n m more rest tails), behind n m more rest tails)
one_tree (gnum n) (gcons c d) more rest is = absurd (apart 1 2 (n ∷ more) ((coded_numbers c ++ coded_numbers d) ++ rest) is (λ same. omega (arith, same)))
one_tree (gcons a b) gnil more rest is = absurd (apart 2 0 ((coded_numbers a ++ coded_numbers b) ++ more) rest is (λ same. omega (arith, same)))
one_tree (gcons a b) (gnum m) more rest is = absurd (apart 2 1 ((coded_numbers a ++ coded_numbers b) ++ more) (m ∷ rest) is (λ same. omega (arith, same)))
one_tree (gcons a b) (gcons c d) more rest is =
    let tails = behind 2 2 ((coded_numbers a ++ coded_numbers b) ++ more) ((coded_numbers c ++ coded_numbers d) ++ rest) is in
    let first = one_tree a c (coded_numbers b ++ more) (coded_numbers d ++ rest) (sym (append_assoc (coded_numbers a) (coded_numbers b) more) ∙ tails ∙ append_assoc (coded_numbers c) (coded_numbers d) rest) in
    let second = one_tree b d more rest first.1 in
    (λ i. gcons (first.0 i) (second.0 i), second.1)

-- what is told behind a mark tells where the asks began
split_mark : (one two : JournalsView) (more rest : List Exchange) → mark_of one ∷ more ≡ mark_of two ∷ rest → (one ≡ two) × (more ≡ rest)
split_mark one two more rest is =
    let numbers : coded_numbers (journals_type.the_row.coded.code one) ≡ coded_numbers (journals_type.the_row.coded.code two) = cc in
    (journals_type.the_row.coded.inj one two (one_tree _ _ [] [] (ap (λ l. l ++ []) numbers)).0, cc)

-- what the one recorder was told more than the other leads from the journals of that to its own
pub replays_on : (old new : RecorderView) (more : List Exchange) → IsReplayed old → IsReplayed new → new.journals.levels ≡ old.journals.levels → new.told ≡ old.told ++ more → Replays old.journals more new.journals
replays_on old new more replayed_old replayed_new levels grown =
    let start = replayed_old.start in
    let all = split_mark replayed_new.start start replayed_new.since (replayed_old.since ++ more) (sym replayed_new.told_is ∙ grown ∙ ap (λ t. t ++ more) replayed_old.told_is) in
    replays_more replayed_old.since more start old.journals new.journals replayed_old.replays
    (subst (λ (t : List Exchange). Replays start t new.journals) all.1 (subst (λ (s : JournalsView). Replays s replayed_new.since new.journals) all.0 replayed_new.replays))

-- a line whose asks lead from what the one recorder was told to what the other was told is run in the world of the first
pub follows_ran : {A : Type 0} (line : Dialogue A) (old new : RecorderView) (end : A) → IsReplayed old → IsReplayed new → new.journals.levels ≡ old.journals.levels → Follows line old.told new.told (Some end)
    → (more : List Exchange) × (run_line old.journals line ≡ record { exchanges = more; end = end; after = new.journals })
follows_ran line old new end replayed_old replayed_new levels follows =
    (follows.0, makes_ran line old.journals new.journals follows.0 end follows.2 (replays_on old new follows.0 replayed_old replayed_new levels follows.1))

-- a run whose end is made into something else
abbrev pub ran_as : {A B : Type 0} → (A → B) → Ran A → Ran B
ran_as f ran = record { exchanges = ran.exchanges; end = f ran.end; after = ran.after }

pub then_ran : {A B : Type 0} (line : Dialogue A) (f : A → B) (old : JournalsView) → run_line old (then_line line (λ end. Ends (f end))) ≡ ran_as f (run_line old line)
then_ran (Ends a) f old = refl
then_ran (AsksNode server ask next) f old =
    ap (λ r. exchange_first (exchanges.Node server ask (node_told old server ask)) r) (then_ran (next (node_told old server ask)) f (world_after old (steps.Node server ask)))
then_ran (AsksDesk ask next) f old =
    ap (λ r. exchange_first (exchanges.Desk ask (desk_told old ask)) r) (then_ran (next (desk_told old ask)) f (world_after old (steps.Desk ask)))
then_ran (AsksView ask next) f old =
    ap (λ r. exchange_first (exchanges.View ask (view_told old ask)) r) (then_ran (next (view_told old ask)) f (world_after old (steps.View ask)))

-- ---- answered

abbrev pub got_to : JournalsView → List ℕ → Progress
got_to journals text = record { journals = journals; text = text }

-- the end of a line that did not meet want of memory
pub ended_some : {A S : Type 0} (result : Result A LineFault) (after : S) → is_refused_memory result ≡ false → ended_by result after ≡ Some (record { answer = result; after = after })
ended_some (Ok a) after fine = refl
ended_some (Err faults.Memory) after fine = absurd cc
ended_some (Err fault) after fine = refl

pub line_ran : {A S B : Type 0} (line : Dialogue (LineEnd A S)) (f : LineEnd A S → B) (old new : RecorderView) (result : Result A LineFault) (after : S)
    → IsReplayed old → IsReplayed new → new.journals.levels ≡ old.journals.levels → Follows line old.told new.told (ended_by result after) → is_refused_memory result ≡ false
    → (more : List Exchange) × (run_line old.journals (then_line line (λ end. Ends (f end))) ≡ record { exchanges = more; end = f (record { answer = result; after = after }); after = new.journals })
line_ran {A} {S} line f old new result after replayed_old replayed_new levels follows fine =
    let ran = follows_ran line old new (record { answer = result; after = after }) replayed_old replayed_new levels (subst (λ (end : Option (LineEnd A S)). Follows line old.told new.told end) (ended_some result after fine) follows) in
    (ran.0, then_ran line f old.journals ∙ ap (ran_as f) ran.1)

-- a line of a transaction that was printed so, of whose end is made what is said
pub said_by : {A S : Type 0} (line : Dialogue (LineEnd A S)) (f : LineEnd A S → TxnAnswer) (old new : RecorderView) (result : Result A LineFault) (after : S) (before written : List ℕ) (left : TxnSlot)
    → IsReplayed old → IsReplayed new → new.journals.levels ≡ old.journals.levels → Follows line old.told new.told (ended_by result after) → is_refused_memory result ≡ false
    → written ≡ before ++ printed_line (f (record { answer = result; after = after })).text → left ≡ (f (record { answer = result; after = after })).kept
    → IsAnswered (then_line line (λ end. Ends (f end))) (got_to old.journals before) (got_to new.journals written) left
said_by line f old new result after before written left replayed_old replayed_new levels follows fine wrote is =
    let ran = line_ran line f old new result after replayed_old replayed_new levels follows fine in
    record {
      text = wrote ∙ ap (λ (r : Ran TxnAnswer). before ++ printed_line r.end.text) (sym ran.1);
      journals = ap (λ (r : Ran TxnAnswer). r.after) (sym ran.1);
      kept = is ∙ ap (λ (r : Ran TxnAnswer). r.end.kept) (sym ran.1);
    }

-- a line that is another in the state of the transaction
pub answered_as : (line found : Dialogue TxnAnswer) (old new : JournalsView) (before mid after : List ℕ) (left : TxnSlot) → line ≡ found → mid ≡ before → IsAnswered found (got_to old mid) (got_to new after) left → IsAnswered line (got_to old before) (got_to new after) left
answered_as line found old new before mid after left lines texts said =
    subst (λ (d : Dialogue TxnAnswer). IsAnswered d (got_to old before) (got_to new after) left) (sym lines) (subst (λ (t : List ℕ). IsAnswered found (got_to old t) (got_to new after) left) texts said)

-- ---- shell lines

-- a line of the shell that was answered so
pub answered_by : {A S : Type 0} (line : Dialogue (LineEnd A S)) (f : LineEnd A S → LineAnswer) (old new : RecorderView) (result : Result A LineFault) (after : S)
    → IsReplayed old → IsReplayed new → new.journals.levels ≡ old.journals.levels → Follows line old.told new.told (ended_by result after) → is_refused_memory result ≡ false
    → ((f (record { answer = result; after = after })).text ≡ (answer_of_run (run_line old.journals (then_line line (λ end. Ends (f end))))).text)
    × (record { journals = new.journals; known = (f (record { answer = result; after = after })).known } ≡ (answer_of_run (run_line old.journals (then_line line (λ end. Ends (f end))))).after)
answered_by line f old new result after replayed_old replayed_new levels follows fine =
    let ran = line_ran line f old new result after replayed_old replayed_new levels follows fine in
    (ap (λ (r : Ran LineAnswer). r.end.text) (sym ran.1), ap (λ (r : Ran LineAnswer). (answer_of_run r).after) (sym ran.1))

-- a line of a transaction that is kept, answered so
pub txn_answered : (w : World) (number place : ℕ) (line : TxnLine) (kept new : TxnSlot) (after : JournalsView) (before text : List ℕ) → number ≡ w.known.others + place + 1 → place < length w.known.txns → kept ≡ get_or w.known.txns place kept
    → IsAnswered (line_asked w.known.levels line number kept) (got_to w.journals before) (got_to after text) new
    → (text ≡ before ++ (answer w (shell_lines.Txn number line)).text)
    × (record { journals = after; known = record { levels = w.known.levels; limits = w.known.limits; others = w.known.others; txns = slice_set w.known.txns place new } } ≡ (answer w (shell_lines.Txn number line)).after)
txn_answered w number place line kept new after before text is less here said =
    let minus : number - w.known.others - 1 ≡ place = omega (arith, is) in
    let some : 0 < number - w.known.others = omega (arith, is) in
    let item = item_of w.known.txns (number - w.known.others) place kept some minus (slice_get_read w.known.txns (length w.known.txns) place kept refl less here) in
    let tree = line_asked w.known.levels line number kept in
    let f : TxnAnswer → LineAnswer = λ end. record { text = printed_line end.text; known = with_kept w.known number end.kept } in
    let same : answer w (shell_lines.Txn number line) ≡ answer_of_run (ran_as f (run_line w.journals tree)) =
    ap (λ o. answer_of_run (run_line w.journals (of_txn w.known number o (line_asked w.known.levels line)))) item ∙ ap answer_of_run (then_ran tree f w.journals) in
    let end : record { journals = after; known = record { levels = w.known.levels; limits = w.known.limits; others = w.known.others; txns = slice_set w.known.txns place new } } ≡ (answer_of_run (ran_as f (run_line w.journals tree))).after =
    λ i. record { journals = said.journals i; known = record { levels = w.known.levels; limits = w.known.limits; others = w.known.others; txns = slice_set w.known.txns (sym minus i) (said.kept i) } } in
    (said.text ∙ ap (λ (a : Answer). before ++ a.text) (sym same), end ∙ ap (λ (a : Answer). a.after) (sym same))

-- the line of the shell says that, and what is known stays
pub refresh_answered : (journals : JournalsView) (known : Known) → ((run_line journals (refresh_asked journals)).end ≡ (answer_of_run (run_line journals (refresh_line journals known))).text)
    × (record { journals = (run_line journals (refresh_asked journals)).after; known = known } ≡ (answer_of_run (run_line journals (refresh_line journals known))).after)
refresh_answered journals known =
    let ran = then_ran (refresh_asked journals) (text_answer known) journals in
    (ap (λ r. (answer_of_run r).text) (sym ran), ap (λ r. (answer_of_run r).after) (sym ran))

-- ---- later

pub later_none : (now : RecorderView) → IsLater now now
later_none now = record { tree = refl; told = ([], sym (append-nil now.told)) }

pub later_by : (old new : RecorderView) (more : List Exchange) → new.journals.levels ≡ old.journals.levels → new.told ≡ old.told ++ more → IsLater old new
later_by old new more tree grown = record { tree = tree; told = (more, grown) }

pub later_asked : {A : Type 0} (line : Dialogue A) (old new : RecorderView) (end : Option A) → new.journals.levels ≡ old.journals.levels → Follows line old.told new.told end → IsLater old new
later_asked line old new end tree follows = record { tree = tree; told = grown_along line old.told new.told end follows }

pub later_on : (old mid new : RecorderView) → IsLater old mid → IsLater mid new → IsLater old new
later_on old mid new first rest = record {
  tree = rest.tree ∙ first.tree;
  told = (first.told.0 ++ rest.told.0, further old.told mid.told new.told first.told.0 rest.told.0 first.told.1 rest.told.1);
}

-- what is kept is kept still, while others are asked
pub kept_on : (old new : RecorderView) (txn : Txn) → IsLater old new → IsKept old txn → IsKept new txn
kept_on old new txn later is = record { levels = is.levels ∙ sym later.tree; knows = knows_grow old.told new.told later.told txn is.knows }

pub are_kept_on : (old new : RecorderView) (txns : List TxnSlot) → IsLater old new → AreKept old txns → AreKept new txns
are_kept_on old new txns later each = All-weaker (λ (k : TxnSlot). IsKept old k.txn) (λ (k : TxnSlot). IsKept new k.txn) (λ k is. kept_on old new k.txn later is) txns each

-- what the shell keeps of its recorder
pub shell_on : (old new : RecorderView) (levels : ℕ) (txns : List TxnSlot) → IsLater old new → (old.journals.levels ≡ levels) × AreKept old txns → (new.journals.levels ≡ levels) × AreKept new txns
shell_on old new levels txns later is = (later.tree ∙ is.0, are_kept_on old new txns later is.1)

-- a transaction that did nothing yet keeps nothing
pub kept_new : (now : RecorderView) (txn : OpenView) → txn.levels ≡ now.journals.levels → KeepsOnly [] txn → IsKept now (states.Open txn)
kept_new now txn tree none = let is = open_fresh now.journals.levels now.told txn tree none in record { levels = is.0; knows = is.1 }

-- one that knows what it knew, and one that may have ended
pub kept_by : (old new : RecorderView) (before after : Txn) → new.journals.levels ≡ old.journals.levels → levels_of after ≡ levels_of before → (Knows old.told before → Knows new.told after) → IsKept old before → IsKept new after
kept_by old new before after tree levels knows is = record { levels = levels ∙ is.levels ∙ sym tree; knows = knows is.knows }

pub kept_ending : (old new : RecorderView) (before after : Txn) → new.journals.levels ≡ old.journals.levels → IsEnding before old.told new.told after → IsKept old before → IsKept new after
kept_ending old new before after tree ending is = kept_by old new before after tree (levels_still before after ending.still) ending.knows is

-- the transaction as it votes is kept as it was
pub voting_kept : (now : RecorderView) (kept txn : Txn) (state : Closed) (voting : VotingView) (before after : List ℕ) → IsKept now kept → txn ≡ kept → state ≡ closed.Voting voting → IsClosed txn state before after → IsKept now (states.Voting voting)
voting_kept now kept txn state voting before after is same votes all =
    (subst (λ (s : Closed). IsClosed txn s before after) votes all).1 now (subst (IsKept now) (sym same) is)

-- one that was begun is kept, beside those before it
pub begun_kept : (levels : ℕ) (limits : LimitsView) (others : ℕ) (now : RecorderView) (old new : Vec TxnSlot) (result : Result DeskTold LineFault) → levels ≡ now.journals.levels → (begin_end (known_of levels limits others old) result).known ≡ known_of levels limits others new
    → AreKept now old.items → AreKept now new.items
begun_kept levels limits others now old new result tree known each = subst (λ (k : Known). AreKept now k.txns) known (by result)
  where
    by_reply : (reply : DeskReply) → AreKept now (begin_reply (known_of levels limits others old) reply).known.txns
    by_reply (desk_replies.Txn number) = All-push (λ (k : TxnSlot). IsKept now k.txn) old.items (fresh levels limits number) each
        (kept_new now (opening_txn levels limits number) tree (All-nil (IsOpTold number []), All-nil (IsVoteTold number [])))
    by_reply (desk_replies.Refused refusal) = each
    by_reply other = each

    by : (result : Result DeskTold LineFault) → AreKept now (begin_end (known_of levels limits others old) result).known.txns
    by (Ok told) = by_reply told.reply
    by (Err fault) = each

-- the world stands before the line that begins a transaction, or behind it
pub begun_whole : (old new : RecorderView) (before after : Known) (result : Result DeskTold AskFault) → IsReplayed old → IsReplayed new → new.journals.levels ≡ old.journals.levels → new.told ≡ old.told ++ desk_exchange Begin result → IfOk result (λ told. told.ask ≡ Begin)
    → (begin_end before (line_result result)).known ≡ after → IsWhole (record { journals = old.journals; known = before }) shell_lines.Begin (record { journals = new.journals; known = after })
begun_whole old new before after (Err ask_faults.Memory) replayed_old replayed_new levels grown same known =
    inl (λ i. record { journals = replays_on old new [] replayed_old replayed_new levels grown i; known = sym known i })
begun_whole old new before after result replayed_old replayed_new levels grown same known =
    let ran = answered_by (desk_line Begin) (λ end. begin_end before end.answer) old new (line_result result) tt replayed_old replayed_new levels (asked_desk Begin result old.told new.told grown same) refl in
    inr ((λ i. record { journals = new.journals; known = sym known i }) ∙ ran.1)
