-- A server's plans may be made, and lead where its asks do.
use Rattle.std.specs.Prelude.{◌==◌, nat_le, nat_lt, not, take, if◌then◌else◌}
use Rattle.std.proofs.Common.{◌≡◌, ◌<◌, ◌+◌, suc, zero, length, sym, subst, ◌∙◌, inl, inr, ◌++◌, ℕ, Bool, true, false, List, [], ◌∷◌, Option, Some, None, IsSome, is_some, map, filter, refl, ap, arith}
use Rattle.std.proofs.lemmas.Bool.{eq-eqb, eqb-true, false≢true, leb-false, leb-true, ltb-false, ltb-true}
use Rattle.std.proofs.lemmas.List.{append-nil, take-append-le, take_all}
use Rattle.std.specs.FinMap as fin
use Rattle.tq_store.specs.{Copies.{installed_all, is_newer}, declared.write.Write.Write}
use Rattle.tq_locks.specs.Locks.{blocker, locks_after_release}
use Rattle.tq_intents.specs.{Kept.{AreDead, is_dead, vote_records}, declared.record.KeptLock.KeptLock}
use Rattle.tq_intents.specs.declared.record.{OpenVote.OpenVote, Record.Record}
use Rattle.tq_intents.specs.declared.record.Record.TheVariants as stable
use Rattle.tq_asks.specs.declared.ask.{NodeAsk.NodeAsk, WorkAsk.WorkAsk, NodeRefusal.NodeRefusal}
use Rattle.tq_asks.specs.declared.ask.NodeAsk.TheVariants as asks
use Rattle.tq_asks.specs.declared.ask.WorkAsk.TheVariants as work
use Rattle.tq_asks.specs.declared.ask.NodeRefusal.TheVariants as refusals
use Rattle.tq_node.specs.{declared.change.NodeStep.NodeStep, Node.{NodeView, server_after, opening_server}}
use Rattle.tq_node.specs.Records.{Records, NodeState, has_vote, installs, refusal, open_vote, work_refusal, kept_records, records_after, work_after, work_writes, writes_of}
use Rattle.tq_node.specs.NodeChanges.{cut_step, end_step, is_stop, work_step, state_left, step_of, node_change, node_changed, records_of, records_after_step, NodeFits, StepFits}
use Rattle.tq_node.specs.declared.change.NodeStep.TheVariants as steps
use Rattle.tq_shape.specs.Journal.{state_at, refuse-none, refuse_for-none}

-- ---- a plan may be made

no_vote : (o : Option OpenVote) → is_some o ≡ false → o ≡ None
no_vote None h = refl
no_vote (Some vote) h = cc

a_vote : (b : Bool) → not b ≡ false → b ≡ true
a_vote true h = refl
a_vote false h = cc

end_fits : (old : Records) (number txn : ℕ) (comes : Bool) → IsSome (fin.get old.votes txn) → StepFits old number (end_step old txn comes)
end_fits old number txn true open_vote = (open_vote, (refl, (refl, refl)))
end_fits old number txn false open_vote = (open_vote, refl)

work_fits : (server : ℕ) (old : Records) (number : ℕ) (ask : WorkAsk) → work_refusal old ask ≡ None → StepFits old number (work_step server old number ask)
work_fits server old number (work.Lock mode txn file) h =
    let up = refuse-none old.down refusals.Down _ h in
    let vote = refuse-none (has_vote old txn) refusals.Prepared _ up.1 in
    (no_vote (fin.get old.votes txn) vote.0, (refuse_for-none (blocker old.locks file txn mode) refusals.Held None vote.1).0)
work_fits server old number (work.Prepare txn writes) h =
    let up = refuse-none old.down refusals.Down _ h in
    let vote = refuse-none (has_vote old txn) refusals.Prepared _ up.1 in
    (no_vote (fin.get old.votes txn) vote.0, (refl, refl))
work_fits server old number (work.Decide txn verdict cite) h =
    let up = refuse-none old.down refusals.Down _ h in
    let vote = refuse-none (not (has_vote old txn)) refusals.NothingHere None up.1 in
    end_fits old number txn (installs server old txn verdict) (a_vote (has_vote old txn) vote.0)
work_fits server old number (work.Release txn) h =
    let up = refuse-none old.down refusals.Down _ h in
    let vote = refuse-none (has_vote old txn) refusals.Prepared _ up.1 in
    no_vote (fin.get old.votes txn) vote.0
work_fits server old number (work.Peek file) h = tt
work_fits server old number (work.Refresh file version content from) h = tt

-- the first records of a vote, without its last, are intents and locks of its number
dead_locks : (txn n : ℕ) (locks : List KeptLock) (k : ℕ) → k < length (map (stable.Keep txn n) locks ++ stable.Prepared txn n ∷ []) → AreDead n (take k (map (stable.Keep txn n) locks ++ stable.Prepared txn n ∷ []))
dead_locks txn n [] zero less r has = absurd has
dead_locks txn n [] (suc k) less r has = absurd (omega arith)
dead_locks txn n (lock ∷ locks) zero less r has = absurd has
dead_locks txn n (lock ∷ locks) (suc k) less r (inl e) = subst (λ (x : Record). is_dead n x ≡ true) e (eq-eqb n n refl)
dead_locks txn n (lock ∷ locks) (suc k) less r (inr has) = dead_locks txn n locks k (omega arith) r has

dead_vote : (txn n : ℕ) (writes : List Write) (locks : List KeptLock) (k : ℕ) → k < length (vote_records txn n writes locks) → AreDead n (take k (vote_records txn n writes locks))
dead_vote txn n [] locks k less r has = dead_locks txn n locks k less r has
dead_vote txn n (write ∷ writes) locks zero less r has = absurd has
dead_vote txn n (write ∷ writes) locks (suc k) less r (inl e) = subst (λ (x : Record). is_dead n x ≡ true) e (eq-eqb n n refl)
dead_vote txn n (write ∷ writes) locks (suc k) less r (inr has) = dead_vote txn n writes locks k (omega arith) r has

vote_fits : (old : Records) (number txn : ℕ) (vote : OpenVote) (after : ℕ) (b : Bool) → nat_lt after (length (vote_records txn vote.number vote.writes vote.locks)) ≡ b → StepFits old number (steps.Vote txn vote)
    → StepFits old number (if b then steps.Unfinished (take after (vote_records txn vote.number vote.writes vote.locks)) else steps.Vote txn vote)
vote_fits old number txn vote after true e h =
    subst (λ (n : ℕ). AreDead n (take after (vote_records txn vote.number vote.writes vote.locks))) h.1.0
    (dead_vote txn vote.number vote.writes vote.locks after (ltb-true after (length (vote_records txn vote.number vote.writes vote.locks)) e))
vote_fits old number txn vote after false e h = h

part_fits : (old : Records) (number : ℕ) (part whole : NodeStep) (b : Bool) → StepFits old number part → StepFits old number whole → StepFits old number (if b then part else whole)
part_fits old number part whole true p w = p
part_fits old number part whole false p w = w

cut_fits : (old : Records) (number after : ℕ) (step : NodeStep) → StepFits old number step → StepFits old number (cut_step after step)
cut_fits old number after (steps.Vote txn vote) h = vote_fits old number txn vote after (nat_lt after (length (vote_records txn vote.number vote.writes vote.locks))) refl h
cut_fits old number after (steps.Install txn vote writes newer) h = part_fits old number (steps.Copies (take after newer)) (steps.Install txn vote writes newer) (nat_le after (length newer)) tt h
cut_fits old number after (steps.Discard txn vote) h = part_fits old number steps.Nothing (steps.Discard txn vote) (after == 0) tt h
cut_fits old number after (steps.Refresh write) h = part_fits old number steps.Nothing (steps.Refresh write) (after == 0) tt tt
cut_fits old number after steps.Nothing h = tt
cut_fits old number after (steps.Lock txn file mode version) h = tt
cut_fits old number after (steps.Release txn) h = tt
cut_fits old number after (steps.Unfinished records) h = tt
cut_fits old number after (steps.Copies newer) h = tt
cut_fits old number after steps.Crash h = tt
cut_fits old number after steps.Return h = tt

stop_fits : (server : ℕ) (old : Records) (number : ℕ) (ask : WorkAsk) (after : ℕ) (reason : Option NodeRefusal) → work_refusal old ask ≡ reason
    → StepFits old number (state_at reason steps.Nothing (cut_step after (work_step server old number ask)))
stop_fits server old number ask after None e = cut_fits old number after (work_step server old number ask) (work_fits server old number ask e)
stop_fits server old number ask after (Some reason) e = tt

fits_of : (server : ℕ) (old : Records) (number : ℕ) (ask : NodeAsk) → refusal old ask ≡ None → StepFits old number (step_of server old number ask)
fits_of server old number (asks.Work ask) h = work_fits server old number ask h
fits_of server old number asks.Crash h = tt
fits_of server old number asks.Return h = tt
fits_of server old number (asks.CrashIn after ask) h = stop_fits server old number ask after (work_refusal old ask) refl

fits_at : (old : Records) (number : ℕ) (step : NodeStep) (reason : Option NodeRefusal) → (reason ≡ None → StepFits old number step) → StepFits old number (state_at reason steps.Nothing step)
fits_at old number step None h = h refl
fits_at old number step (Some reason) h = tt

pub change_fits : (old : NodeView) (number : ℕ) (ask : NodeAsk) → old.last < number → NodeFits old (node_change old number ask)
change_fits old number ask less =
    (less, fits_at old.state.records number (step_of old.server old.state.records number ask) (refusal old.state.records ask) (fits_of old.server old.state.records number ask))

-- ---- a plan leads where its ask does

end_records : (old : Records) (number txn : ℕ) (comes : Bool)
    → records_after_step old number (end_step old txn comes)
    ≡ record old {
      copies = if comes then installed_all old.copies (open_vote old txn).writes else old.copies;
      locks = locks_after_release old.locks txn;
      votes = fin.remove old.votes txn;
    }
end_records old number txn true = refl
end_records old number txn false = refl

end_writes : (old : Records) (txn : ℕ) (comes : Bool)
    → records_of (end_step old txn comes)
    ≡ (if comes then map stable.Copy (filter (is_newer old.copies) (open_vote old txn).writes) else []) ++ stable.Gone txn (open_vote old txn).number ∷ []
end_writes old txn true = refl
end_writes old txn false = refl

work_lead : (server : ℕ) (old : Records) (number : ℕ) (ask : WorkAsk) → records_after_step old number (work_step server old number ask) ≡ work_after server old number ask
work_lead server old number (work.Lock mode txn file) = refl
work_lead server old number (work.Prepare txn writes) = refl
work_lead server old number (work.Decide txn verdict cite) = end_records old number txn (installs server old txn verdict)
work_lead server old number (work.Release txn) = refl
work_lead server old number (work.Peek file) = refl
work_lead server old number (work.Refresh file version content from) = refl

work_writes_lead : (server : ℕ) (old : Records) (number : ℕ) (ask : WorkAsk) → records_of (work_step server old number ask) ≡ work_writes server old number ask
work_writes_lead server old number (work.Lock mode txn file) = refl
work_writes_lead server old number (work.Prepare txn writes) = refl
work_writes_lead server old number (work.Decide txn verdict cite) = end_writes old txn (installs server old txn verdict)
work_writes_lead server old number (work.Release txn) = refl
work_writes_lead server old number (work.Peek file) = refl
work_writes_lead server old number (work.Refresh file version content from) = refl

-- ---- what a stop leaves of a step writes the first so many of its records

none_of_none : (k : ℕ) → ◌≡◌ {A = List Record} [] (take k [])
none_of_none zero = refl
none_of_none (suc k) = refl

one_or_none : (after : ℕ) (only : Record) (b : Bool) → (after == 0) ≡ b → (if b then [] else only ∷ []) ≡ take after (only ∷ [])
one_or_none zero only true e = refl
one_or_none zero only false e = absurd (false≢true (sym e ∙ eq-eqb 0 0 refl))
one_or_none (suc k) only true e = let is = eqb-true (suc k) 0 e in absurd (omega arith)
one_or_none (suc k) only false e = ap (λ (list : List Record). only ∷ list) (none_of_none k)

cut_one : (after : ℕ) (step : NodeStep) (only : Record) (b : Bool) → (after == 0) ≡ b → records_of step ≡ only ∷ [] → records_of (if b then steps.Nothing else step) ≡ take after (only ∷ [])
cut_one after step only true e is = one_or_none after only true e
cut_one after step only false e is = is ∙ one_or_none after only false e

cut_vote : (txn : ℕ) (vote : OpenVote) (after : ℕ) (b : Bool) → nat_lt after (length (vote_records txn vote.number vote.writes vote.locks)) ≡ b
    → records_of (if b then steps.Unfinished (take after (vote_records txn vote.number vote.writes vote.locks)) else steps.Vote txn vote) ≡ take after (vote_records txn vote.number vote.writes vote.locks)
cut_vote txn vote after true e = refl
cut_vote txn vote after false e = sym (take_all after (vote_records txn vote.number vote.writes vote.locks) (ltb-false after (length (vote_records txn vote.number vote.writes vote.locks)) e))

copies_taken : (k : ℕ) (newer : List Write) → map stable.Copy (take k newer) ≡ take k (map stable.Copy newer)
copies_taken zero newer = refl
copies_taken (suc k) [] = refl
copies_taken (suc k) (write ∷ newer) = ap (λ (list : List Record). stable.Copy write ∷ list) (copies_taken k newer)

copies_many : (newer : List Write) → length (map stable.Copy newer) ≡ length newer
copies_many [] = refl
copies_many (write ∷ newer) = ap suc (copies_many newer)

with_end : (newer : List Write) (only : Record) → length (map stable.Copy newer ++ only ∷ []) ≡ suc (length newer)
with_end [] only = refl
with_end (write ∷ newer) only = ap suc (with_end newer only)

cut_install : (txn number : ℕ) (writes newer : List Write) (after : ℕ) (b : Bool) → nat_le after (length newer) ≡ b
    → records_of (if b then steps.Copies (take after newer) else steps.Install txn number writes newer) ≡ take after (map stable.Copy newer ++ stable.Gone txn number ∷ [])
cut_install txn number writes newer after true e =
    let few = leb-true after (length newer) e in
    let many = copies_many newer in
    copies_taken after newer ∙ sym (take-append-le after (map stable.Copy newer) (stable.Gone txn number ∷ []) (omega arith))
cut_install txn number writes newer after false e =
    let more = leb-false after (length newer) e in
    let many = with_end newer (stable.Gone txn number) in
    sym (take_all after (map stable.Copy newer ++ stable.Gone txn number ∷ []) (omega arith))

cut_end : (old : Records) (txn after : ℕ) (comes : Bool) → records_of (cut_step after (end_step old txn comes)) ≡ take after (records_of (end_step old txn comes))
cut_end old txn after true =
    let newer = filter (is_newer old.copies) (open_vote old txn).writes in
    cut_install txn (open_vote old txn).number (open_vote old txn).writes newer after (nat_le after (length newer)) refl
cut_end old txn after false = cut_one after (steps.Discard txn (open_vote old txn).number) (stable.Gone txn (open_vote old txn).number) (after == 0) refl refl

cut_work : (server : ℕ) (old : Records) (number : ℕ) (ask : WorkAsk) (after : ℕ) → records_of (cut_step after (work_step server old number ask)) ≡ take after (records_of (work_step server old number ask))
cut_work server old number (work.Lock mode txn file) after = none_of_none after
cut_work server old number (work.Prepare txn writes) after = cut_vote txn _ after _ refl
cut_work server old number (work.Decide txn verdict cite) after = cut_end old txn after (installs server old txn verdict)
cut_work server old number (work.Release txn) after = none_of_none after
cut_work server old number (work.Peek file) after = none_of_none after
cut_work server old number (work.Refresh file version content from) after = cut_one after (steps.Refresh (record { file = file; version = version; content = content })) _ (after == 0) refl refl

stop_lead : (server : ℕ) (old : Records) (number : ℕ) (ask : WorkAsk) (after : ℕ) (reason : Option NodeRefusal)
    → records_of (state_at reason steps.Nothing (cut_step after (work_step server old number ask))) ≡ take after (state_at reason [] (work_writes server old number ask))
stop_lead server old number ask after None = cut_work server old number ask after ∙ ap (take after) (work_writes_lead server old number ask)
stop_lead server old number ask after (Some reason) = none_of_none after

-- the records of an ask's step are those that the ask writes
pub writes_lead : (server : ℕ) (old : Records) (number : ℕ) (ask : NodeAsk) → records_of (step_of server old number ask) ≡ writes_of server old number ask
writes_lead server old number (asks.Work ask) = work_writes_lead server old number ask
writes_lead server old number asks.Crash = refl
writes_lead server old number asks.Return = refl
writes_lead server old number (asks.CrashIn after ask) = stop_lead server old number ask after (work_refusal old ask)

-- the raw records with their stable list, after a step
abbrev pub state_stepped : NodeState → ℕ → NodeStep → NodeState
state_stepped old number step = record { records = records_after_step old.records number step; stable = old.stable ++ records_of step }

leads_at : (old new : NodeState) (number : ℕ) (step : NodeStep) (stops : Bool) (reason : Option NodeRefusal) → state_left stops (state_stepped old number step) ≡ new
    → state_left (state_at reason false stops) (state_stepped old number (state_at reason steps.Nothing step)) ≡ state_at reason old new
leads_at old new number step stops None h = h
leads_at old new number step stops (Some reason) h =
    let with_list : List Record → NodeState = λ list. record { records = old.records; stable = list } in
    ap with_list (append-nil old.stable)

leads_of : (server : ℕ) (old : NodeState) (number : ℕ) (ask : NodeAsk)
    → state_left (is_stop ask) (state_stepped old number (step_of server old.records number ask)) ≡ record { records = records_after server old number ask; stable = old.stable ++ writes_of server old.records number ask }
leads_of server old number (asks.Work ask) = λ i. record {
  records = work_lead server old.records number ask i;
  stable = old.stable ++ work_writes_lead server old.records number ask i;
}
leads_of server old number asks.Crash = refl
leads_of server old number asks.Return = refl
leads_of server old number (asks.CrashIn after ask) =
    let behind : List Record → NodeState = λ list. record { records = kept_records (old.stable ++ list); stable = old.stable ++ list } in
    ap behind (writes_lead server old.records number (asks.CrashIn after ask))

pub change_leads : (old : NodeView) (number : ℕ) (ask : NodeAsk) → node_changed old (node_change old number ask) ≡ server_after old number ask
change_leads old number ask =
    let step = step_of old.server old.state.records number ask in
    let state = leads_at old.state _ number step (is_stop ask) (refusal old.state.records ask) (leads_of old.server old.state number ask) in
    λ i. record { levels = old.levels; server = old.server; state = state i; last = number }

pub opens_ready : (levels server : ℕ) → (opening_server levels server).last < 1
opens_ready levels server = omega arith

pub stays_ready : (old : NodeView) (number : ℕ) (ask : NodeAsk) → (server_after old number ask).last < number + 1
stays_ready old number ask = omega arith
