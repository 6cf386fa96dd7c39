-- What an ask of the desk is to change, and the desk with a change made. The desk's plans may be made, and lead where
-- its asks do; its settings stay, and at most one transaction begins.
use Rattle.std.specs.Prelude.{◌≡◌, ℕ, ◌+◌, List, Option, Some, None, map, filter, fold, not}
use Rattle.std.proofs.Common.{◌≤◌, ◌<◌, [], ◌∷◌, refl, ap, arith}
use Rattle.std.specs.FinMap as fin
use Rattle.tq_asks.specs.declared.ask.{CitedVote.CitedVote, Verdict.Verdict}
use Rattle.tq_asks.specs.declared.ask.Verdict.TheVariants as verdicts
use Rattle.tq_desk.specs.declared.ask.{DeskAsk.DeskAsk, DeskRefusal.DeskRefusal, DeskReply.DeskReply}
use Rattle.tq_desk.specs.declared.desk.{DeskChange.DeskChange, DeskChange.TheVariants.{Nothing, Begin, Abort, Commit}}
use Rattle.tq_desk.specs.DeskStep.{DeskView, FileSet, desk_after_abort, cited_votes, desk_refusal, desk_reply, with_file, desk_after_commit, desk_after, desk_answered, is_begun, opening_desk, finals_after_resolve, with_files}
use Rattle.tq_desk.specs.declared.ask.DeskAsk.TheVariants as asks
use Rattle.tq_shape.specs.{declared.answers.Plan.Plan, Limits.LimitsView}
use Rattle.tq_shape.specs.Journal.{state_at, refuse-none, refuse_for-none}
use Rattle.tq_evidence.specs.{declared.op.Op.Op, Evidence.is_write, declared.vote.Vote.Vote}
use Rattle.tq_desk.specs.declared.ask.DeskRefusal.TheVariants as refusals

-- the files that the ops write, one after another
abbrev pub names_written : List Op → List (List ℕ)
names_written ops = map (λ op. op.file) (filter is_write ops)

abbrev pub with_names : FileSet → List (List ℕ) → FileSet
with_names files names = fold with_file files names

-- the change of an ask that is not refused

abbrev pub abort_unless : Option Verdict → ℕ → DeskChange
abort_unless None txn = Abort txn
abort_unless (Some ended) txn = Nothing

abbrev pub change_of : DeskView → DeskAsk → DeskChange
change_of old asks.Begin = Begin (old.begun + 1)
change_of old (asks.Resolve txn) = abort_unless (fin.get old.finals txn) txn
change_of old (asks.Commit txn ops votes) = Commit txn (cited_votes votes) (names_written ops)

abbrev pub change_at : Option DeskRefusal → DeskChange → DeskChange
change_at None change = change
change_at (Some reason) change = Nothing

abbrev pub desk_change : DeskView → DeskAsk → DeskChange
desk_change old ask = change_at (desk_refusal old ask) (change_of old ask)

-- the plan of an ask: its reply, and its change
pub record IsDeskPlan (old : DeskView) (ask : DeskAsk) (plan : Plan DeskReply DeskChange) : Type 0 where
  pub reply : plan.reply ≡ desk_reply old ask
  pub change : plan.change ≡ desk_change old ask

-- a transaction that is to end has not ended
abbrev pub DeskFits : DeskView → DeskChange → Type 0
DeskFits old Nothing = Unit {0}
DeskFits old (Begin txn) = Unit {0}
DeskFits old (Abort txn) = fin.get old.finals txn ≡ None
DeskFits old (Commit txn votes files) = fin.get old.finals txn ≡ None

-- the desk with the commit of a transaction that had not ended
abbrev pub with_commit : DeskView → ℕ → List CitedVote → List (List ℕ) → DeskView
with_commit old txn votes files =
    record old {
      finals = fin.insert old.finals txn (verdicts.Commit votes);
      commits = old.commits + 1;
      files = with_names old.files files;
    }

abbrev pub desk_changed : DeskView → DeskChange → DeskView
desk_changed old Nothing = old
desk_changed old (Begin txn) = record old { begun = txn }
desk_changed old (Abort txn) = desk_after_abort old txn
desk_changed old (Commit txn votes files) = with_commit old txn votes files

-- ---- desk plans

-- ---- a plan may be made

not_ended : (old : DeskView) (txn : ℕ) (ops : List Op) (votes : List Vote) → desk_refusal old (asks.Commit txn ops votes) ≡ None → fin.get old.finals txn ≡ None
not_ended old txn ops votes h = (refuse_for-none (fin.get old.finals txn) refusals.Decided _ (refuse-none (not (is_begun old txn)) refusals.NoSuchTxn _ h).1).0

abort_fits : (old : DeskView) (txn : ℕ) (ended : Option Verdict) → fin.get old.finals txn ≡ ended → DeskFits old (abort_unless ended txn)
abort_fits old txn None h = h
abort_fits old txn (Some verdict) h = tt

fits_at : (old : DeskView) (change : DeskChange) (reason : Option DeskRefusal) → (reason ≡ None → DeskFits old change) → DeskFits old (change_at reason change)
fits_at old change None h = h refl
fits_at old change (Some reason) h = tt

pub change_fits : (old : DeskView) (ask : DeskAsk) → DeskFits old (desk_change old ask)
change_fits old asks.Begin = tt
change_fits old (asks.Resolve txn) =
    fits_at old (change_of old (asks.Resolve txn)) (desk_refusal old (asks.Resolve txn)) (λ h. abort_fits old txn (fin.get old.finals txn) refl)
change_fits old (asks.Commit txn ops votes) =
    fits_at old (change_of old (asks.Commit txn ops votes)) (desk_refusal old (asks.Commit txn ops votes)) (not_ended old txn ops votes)

-- ---- a plan leads where its ask does

pub names_same : (files : FileSet) (ops : List Op) → with_names files (names_written ops) ≡ with_files files ops
names_same files ops = fused files (filter is_write ops)
  where
    fused : (files : FileSet) (ops : List Op) → fold with_file files (map (λ op. op.file) ops) ≡ fold (λ done op. with_file done op.file) files ops
    fused files [] = refl
    fused files (op ∷ ops) = fused (with_file files op.file) ops

abort_leads : (old : DeskView) (txn : ℕ) (ended : Option Verdict) → desk_changed old (abort_unless ended txn) ≡ record old { finals = finals_after_resolve ended old.finals txn }
abort_leads old txn None = refl
abort_leads old txn (Some verdict) = refl

leads_of : (old : DeskView) (ask : DeskAsk) → desk_changed old (change_of old ask) ≡ desk_answered old ask
leads_of old asks.Begin = refl
leads_of old (asks.Resolve txn) = abort_leads old txn (fin.get old.finals txn)
leads_of old (asks.Commit txn ops votes) = ap (λ files. record (desk_after_commit old txn ops votes) { files = files }) (names_same old.files ops)

leads_at : (old new : DeskView) (change : DeskChange) (reason : Option DeskRefusal) → desk_changed old change ≡ new → desk_changed old (change_at reason change) ≡ state_at reason old new
leads_at old new change None h = h
leads_at old new change (Some reason) h = refl

pub change_leads : (old : DeskView) (ask : DeskAsk) → desk_changed old (desk_change old ask) ≡ desk_after old ask
change_leads old ask = leads_at old (desk_answered old ask) (change_of old ask) (desk_refusal old ask) (leads_of old ask)

-- ---- what stays

opens_same : (old new : DeskView) (reason : Option DeskRefusal) → opening_desk new.levels new.limits ≡ opening_desk old.levels old.limits → opening_desk (state_at reason old new).levels (state_at reason old new).limits ≡ opening_desk old.levels old.limits
opens_same old new None h = h
opens_same old new (Some reason) h = refl

answered_opens : (old : DeskView) (ask : DeskAsk) → opening_desk (desk_answered old ask).levels (desk_answered old ask).limits ≡ opening_desk old.levels old.limits
answered_opens old asks.Begin = refl
answered_opens old (asks.Resolve txn) = refl
answered_opens old (asks.Commit txn ops votes) = refl

pub keeps_settings : (old : DeskView) (ask : DeskAsk) → opening_desk (desk_after old ask).levels (desk_after old ask).limits ≡ opening_desk old.levels old.limits
keeps_settings old ask = opens_same old (desk_answered old ask) (desk_refusal old ask) (answered_opens old ask)

one_at : (old new : DeskView) (n : ℕ) (reason : Option DeskRefusal) → old.begun < n → new.begun ≤ old.begun + 1 → (state_at reason old new).begun < n + 1
one_at old new n None less most = omega arith
one_at old new n (Some reason) less most = omega arith

one_more : (old : DeskView) (ask : DeskAsk) → (desk_answered old ask).begun ≤ old.begun + 1
one_more old asks.Begin = omega arith
one_more old (asks.Resolve txn) = omega arith
one_more old (asks.Commit txn ops votes) = omega arith

pub stays_ready : (old : DeskView) (n : ℕ) (ask : DeskAsk) → old.begun < n → (desk_after old ask).begun < n + 1
stays_ready old n ask less = one_at old (desk_answered old ask) n (desk_refusal old ask) less (one_more old ask)

pub opens_ready : (levels : ℕ) (limits : LimitsView) → (opening_desk levels limits).begun < 1
opens_ready levels limits = omega arith
