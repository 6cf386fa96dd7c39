-- Steps one after another: what they are told, and the run that they make.
use Rattle.std.proofs.Common.{◌≡◌, ℕ, Bool, true, false, List, [], ◌∷◌, ◌++◌, length, Option, Some, None, refl, sym, ap, subst, ◌∙◌, nat_le}
use Rattle.std.{proofs.lemmas.List.Sums.fold-append, specs.Prelude.{Result, Ok, Err, OnOk, OnErr, if◌then◌else◌}}
use Rattle.tq_shape.specs.{declared.part.Part.Part, Journal.state_at}
use Rattle.tq_tables.specs.Journals.{JournalsView}
use Rattle.tq_node.specs.NodeJournal.{NodeEntry}
use Rattle.tq_core.specs.declared.{answer.{Answer.Answer, Refusal.Refusal, Step.Step}, citation.Citation.Citation}
use Rattle.tq_core.specs.declared.answer.Refusal.TheVariants.{Memory, NoSuchServer, JournalFull, Unfounded}
use Rattle.tq_core.specs.{World.item_at, Founded.{unfounded_in_node_ask, unfounded_in_desk_ask}}
use Rattle.tq_core.specs.Steps.{refuse_unfounded, refuse_at, refusal, answer, world_with_step, told_at, world_after, run_from, is_memory, taken_steps, IsTold, AreTold}
use Rattle.tq_core.specs.declared.answer.Step.TheVariants as steps

-- ---- no step is refused for want of memory

is_for_memory : Option Refusal → Bool
is_for_memory None = false
is_for_memory (Some Memory) = true
is_for_memory (Some reason) = false

citation_for : (citation : Option Citation) → is_for_memory (refuse_unfounded citation) ≡ false
unfolding is_for_memory
citation_for None = refl
citation_for (Some citation) = refl

entry_for : (part : Part) (full : Bool) (citation : Option Citation) → is_for_memory (if full then Some (JournalFull part) else refuse_unfounded citation) ≡ false
unfolding is_for_memory
entry_for part true citation = refl
entry_for part false citation = citation_for citation

at_for : (world : JournalsView) (server : ℕ) (entries : Option (List NodeEntry)) (citation : Option Citation) → is_for_memory (refuse_at world server entries citation) ≡ false
unfolding is_for_memory
at_for world server None citation = refl
at_for world server (Some entries) citation = entry_for (Rattle.tq_shape.specs.declared.part.Part.TheVariants.Server server) (nat_le world.limits.entries (length entries)) citation

never_memory : (world : JournalsView) (step : Step) → is_for_memory (refusal world step) ≡ false
never_memory world (steps.Node server ask) = at_for world server (item_at world.servers server) (unfounded_in_node_ask world ask)
never_memory world (steps.Desk ask) = entry_for Rattle.tq_shape.specs.declared.part.Part.TheVariants.Desk (nat_le world.limits.entries (length world.desk)) (unfounded_in_desk_ask world ask)
never_memory world (steps.View ask) = entry_for Rattle.tq_shape.specs.declared.part.Part.TheVariants.View (nat_le world.limits.entries (length world.view)) None

-- ---- a step

told_reason : (world : JournalsView) (step : Step) (reason : Refusal) → refusal world step ≡ Some reason → is_for_memory (Some reason) ≡ false → IsTold world step (Err reason)
unfolding is_for_memory
told_reason world step Memory is never = cc
told_reason world step NoSuchServer is never = sym (ap (λ r. told_at r (answer world step)) is)
told_reason world step (JournalFull part) is never = sym (ap (λ r. told_at r (answer world step)) is)
told_reason world step (Unfounded part number) is never = sym (ap (λ r. told_at r (answer world step)) is)

-- a refused step is told why
pub told_refusal : (world : JournalsView) (step : Step) (reason : Refusal) → Some reason ≡ refusal world step → IsTold world step (Err reason)
told_refusal world step reason is = told_reason world step reason (sym is) (ap is_for_memory is ∙ never_memory world step)

-- a step that is not refused is answered
pub told_answer : (world : JournalsView) (step : Step) (answered : Answer) → refusal world step ≡ None → answered ≡ answer world step → IsTold world step (Ok answered)
told_answer world step answered none is = ap (λ a. Ok a) is ∙ sym (ap (λ r. told_at r (answer world step)) none)

pub world_grown : (world : JournalsView) (step : Step) → refusal world step ≡ None → world_after world step ≡ world_with_step world step
world_grown world step none = ap (λ r. state_at r world (world_with_step world step)) none

-- ---- steps

pub told-push : (world : JournalsView) (steps : List Step) (results : List (Result Answer Refusal)) (step : Step) (result : Result Answer Refusal)
    → AreTold world steps results → IsTold (run_from world (taken_steps steps results)) step result
    → AreTold world (steps ++ step ∷ []) (results ++ result ∷ [])
told-push world [] [] step result told is = (is, tt)
told-push world [] (r ∷ rs) step result told is = absurd told
told-push world (s ∷ ss) [] step result told is = absurd told
told-push world (s ∷ ss) (r ∷ rs) step result told is =
    (told.0, by (is_memory r) told.1 is (λ t i. told-push world ss rs step result t i) (λ t i. told-push (world_after world s) ss rs step result t i))
  where
    by : (memory : Bool) → AreTold (if memory then world else world_after world s) ss rs
        → IsTold (run_from world (if memory then taken_steps ss rs else s ∷ taken_steps ss rs)) step result
        → (AreTold world ss rs → IsTold (run_from world (taken_steps ss rs)) step result → AreTold world (ss ++ step ∷ []) (rs ++ result ∷ []))
        → (AreTold (world_after world s) ss rs → IsTold (run_from (world_after world s) (taken_steps ss rs)) step result → AreTold (world_after world s) (ss ++ step ∷ []) (rs ++ result ∷ []))
        → AreTold (if memory then world else world_after world s) (ss ++ step ∷ []) (rs ++ result ∷ [])
    by true t i same next = same t i
    by false t i same next = next t i

-- the steps taken, with one more
pub taken-push : (world : JournalsView) (steps : List Step) (results : List (Result Answer Refusal)) (step : Step) (result : Result Answer Refusal)
    → AreTold world steps results
    → taken_steps (steps ++ step ∷ []) (results ++ result ∷ []) ≡ taken_steps steps results ++ (if is_memory result then [] else step ∷ [])
taken-push world [] [] step result told = refl
taken-push world [] (r ∷ rs) step result told = absurd told
taken-push world (s ∷ ss) [] step result told = absurd told
taken-push world (s ∷ ss) (r ∷ rs) step result told =
    by (is_memory r) told.1 (λ t. taken-push world ss rs step result t) (λ t. taken-push (world_after world s) ss rs step result t)
  where
    by : (memory : Bool) → AreTold (if memory then world else world_after world s) ss rs
        → (AreTold world ss rs → taken_steps (ss ++ step ∷ []) (rs ++ result ∷ []) ≡ taken_steps ss rs ++ (if is_memory result then [] else step ∷ []))
        → (AreTold (world_after world s) ss rs → taken_steps (ss ++ step ∷ []) (rs ++ result ∷ []) ≡ taken_steps ss rs ++ (if is_memory result then [] else step ∷ []))
        → (if memory then taken_steps (ss ++ step ∷ []) (rs ++ result ∷ []) else s ∷ taken_steps (ss ++ step ∷ []) (rs ++ result ∷ []))
        ≡ (if memory then taken_steps ss rs else s ∷ taken_steps ss rs) ++ (if is_memory result then [] else step ∷ [])
    by true t same next = same t
    by false t same next = ap (λ rest. s ∷ rest) (next t)

pub run_from-append : (world : JournalsView) (first next : List Step) → run_from world (first ++ next) ≡ run_from (run_from world first) next
run_from-append world first next = fold-append world_after world first next

-- the world after one step more
pub run-push : (world : JournalsView) (steps : List Step) (results : List (Result Answer Refusal)) (step : Step) (result : Result Answer Refusal)
    → AreTold world steps results
    → run_from world (taken_steps (steps ++ step ∷ []) (results ++ result ∷ [])) ≡ (if is_memory result then run_from world (taken_steps steps results) else world_after (run_from world (taken_steps steps results)) step)
run-push world steps results step result told =
    ap (run_from world) (taken-push world steps results step result told)
    ∙ run_from-append world (taken_steps steps results) (if is_memory result then [] else step ∷ [])
    ∙ by (is_memory result)
  where
    by : (memory : Bool) → run_from (run_from world (taken_steps steps results)) (if memory then [] else step ∷ []) ≡ (if memory then run_from world (taken_steps steps results) else world_after (run_from world (taken_steps steps results)) step)
    by true = refl
    by false = refl

-- a step that was told a reason left the world as it was
told_same : (old new : JournalsView) (refused : Option Refusal) (answered : Answer) (reason : Refusal) → Err reason ≡ told_at refused answered → state_at refused old new ≡ old
told_same old new None answered reason is = absurd (let apart : Path (Result Answer Refusal) (Err reason) (Ok answered) = is in cc)
told_same old new (Some other) answered reason is = refl

told_after : (now after : JournalsView) (step : Step) (result : Result Answer Refusal) → IsTold now step result → OnOk result (after ≡ world_after now step) → OnErr result (after ≡ now)
    → after ≡ (if is_memory result then now else world_after now step)
told_after now after step (Ok answered) told ok err = ok
told_after now after step (Err Memory) told ok err = err
told_after now after step (Err NoSuchServer) told ok err = err ∙ sym (told_same now (world_with_step now step) (refusal now step) (answer now step) NoSuchServer told)
told_after now after step (Err (JournalFull part)) told ok err = err ∙ sym (told_same now (world_with_step now step) (refusal now step) (answer now step) (JournalFull part) told)
told_after now after step (Err (Unfounded part number)) told ok err = err ∙ sym (told_same now (world_with_step now step) (refusal now step) (answer now step) (Unfounded part number) told)

-- one step more
pub told-next : (start now : JournalsView) (steps : List Step) (results more : List (Result Answer Refusal)) (step : Step) (result : Result Answer Refusal)
    → AreTold start steps results → now ≡ run_from start (taken_steps steps results) → IsTold now step result → more ≡ results ++ result ∷ []
    → AreTold start (steps ++ step ∷ []) more
told-next start now steps results more step result told is next pushed =
    subst (λ (rs : List (Result Answer Refusal)). AreTold start (steps ++ step ∷ []) rs) (sym pushed)
    (told-push start steps results step result told (subst (λ (w : JournalsView). IsTold w step result) is next))

pub run-next : (start now after : JournalsView) (steps : List Step) (results more : List (Result Answer Refusal)) (step : Step) (result : Result Answer Refusal)
    → AreTold start steps results → now ≡ run_from start (taken_steps steps results) → IsTold now step result
    → OnOk result (after ≡ world_after now step) → OnErr result (after ≡ now) → more ≡ results ++ result ∷ []
    → after ≡ run_from start (taken_steps (steps ++ step ∷ []) more)
run-next start now after steps results more step result told is next ok err pushed =
    told_after now after step result next ok err
    ∙ ap (λ (w : JournalsView). if is_memory result then w else world_after w step) is
    ∙ sym (run-push start steps results step result told)
    ∙ ap (λ (rs : List (Result Answer Refusal)). run_from start (taken_steps (steps ++ step ∷ []) rs)) (sym pushed)
