-- Prefixes that pulls continue. Jobs that are put one after another.
use Rattle.std.proofs.Common.{◌≡◌, ◌≢◌, ◌⊎◌, ◌≤◌, ◌+◌, ◌-◌, ◌^◌, ℕ, zero, suc, List, [], ◌∷◌, ◌++◌, length, set, get_or, inl, inr, refl, sym, ap, subst, ◌∙◌, arith, append_assoc, append-nil, ◌<◌, ◌==◌, Bool, false, cond, drop, map}
use Rattle.std.proofs.lemmas.{List.{get_or-set_other, drop_all, drop_more, map-append}, Bool.cases_eq}
use Rattle.std.{proofs.lemmas.Bool.Decides.nat_tests, specs.{Prelude.{Result, Ok, Err, OnOk, OnErr}, List.flat_map}}
use Rattle.tq_shape.specs.{Tree.IsServer, declared.part.Part.Part}
use Rattle.tq_shape.specs.declared.part.Part.TheVariants as parts
use Rattle.tq_tables.specs.Journals.{JournalsView}
use Rattle.tq_mirror.specs.declared.{entries.Entries.Entries, fault.PullFault.PullFault}
use Rattle.tq_mirror.specs.Prefixes.{IsPartOf, prefix_length, server_prefix, journals_with}
use Rattle.tq_mirror.specs.declared.entries.Entries.TheVariants as entries
use Rattle.tq_cluster.specs.{Told.{CallerView, seen_of, having_seen}, declared.workers.Message.Message}
use Rattle.tq_cluster.specs.Rounds.{EachContinues, Continues, HasSeenAll, HasSeenServers, HasPulled, planned_on, with_jobs, with_plan}
use Rattle.tq_cluster.specs.declared.rounds.Round.{Round}
use Rattle.tq_refresh.specs.declared.{file_jobs.FileJobs.FileJobs, job.Job.Job}
use Rattle.tq_cluster.specs.declared.workers.Message.TheVariants as messages
use Rattle.tq_cluster.specs.declared.rounds.Round.TheVariants as ends

each-same : {E : Type 0} (xs : List (List E)) → EachContinues xs xs
each-same [] = tt
each-same (x ∷ xs) = (([], sym (append-nil x)), each-same xs)

each-set : {E : Type 0} (xs ys : List (List E)) (place : ℕ) (more : List E) → EachContinues xs ys → EachContinues xs (set ys place (get_or ys place [] ++ more))
each-set [] [] place more each = tt
each-set [] (y ∷ ys) place more each = absurd each
each-set (x ∷ xs) [] place more each = absurd each
each-set (x ∷ xs) (y ∷ ys) zero more each =
    ((each.0.0 ++ more, ap (λ l. l ++ more) each.0.1 ∙ append_assoc x each.0.0 more), each.1)
each-set (x ∷ xs) (y ∷ ys) (suc place) more each = (each.0, each-set xs ys place more each.1)

pub continues-same : (prefixes : JournalsView) → Continues prefixes prefixes
continues-same prefixes =
    record { levels = refl; limits = refl; servers = each-same prefixes.servers; desk = ([], sym (append-nil prefixes.desk)); view = ([], sym (append-nil prefixes.view)) }

pub continues-grown : (old new : JournalsView) (part : Part) (more : Entries) → Continues old new → Continues old (journals_with new part more)
continues-grown old new (parts.Server number) (entries.Server more) before =
    record { levels = before.levels; limits = before.limits; servers = each-set old.servers new.servers (number - 1) more before.servers; desk = before.desk; view = before.view }
continues-grown old new parts.Desk (entries.Desk more) before =
    record { levels = before.levels; limits = before.limits; servers = before.servers; desk = (before.desk.0 ++ more, ap (λ l. l ++ more) before.desk.1 ∙ append_assoc old.desk before.desk.0 more); view = before.view }
continues-grown old new parts.View (entries.View more) before =
    record { levels = before.levels; limits = before.limits; servers = before.servers; desk = before.desk; view = (before.view.0 ++ more, ap (λ l. l ++ more) before.view.1 ∙ append_assoc old.view before.view.0 more) }
continues-grown old new part more before = before

-- ---- what was seen of the parts before

-- another server's prefix, and what was seen of it, is as it was
pub other-prefix : (prefixes : JournalsView) (there number : ℕ) (more : Entries) → number - 1 ≢ there - 1
    → prefix_length (journals_with prefixes (parts.Server there) more) (parts.Server number) ≡ prefix_length prefixes (parts.Server number)
other-prefix prefixes there number (entries.Server more) other =
    ap length (get_or-set_other prefixes.servers (there - 1) (number - 1) (server_prefix prefixes there ++ more) [] other)
other-prefix prefixes there number (entries.Desk more) other = refl
other-prefix prefixes there number (entries.View more) other = refl

pub other-seen : (caller : CallerView) (there number seen : ℕ) → number - 1 ≢ there - 1 → seen_of (having_seen caller (parts.Server there) seen) (parts.Server number) ≡ seen_of caller (parts.Server number)
other-seen caller there number seen other = get_or-set_other caller.seen.servers (there - 1) (number - 1) seen 0 other

-- the next server was pulled
pub servers-next : (prefixes : JournalsView) (caller : CallerView) (place seen : ℕ) (more : Entries) → HasSeenServers prefixes caller place
    → (new : JournalsView) (after : CallerView) → new ≡ journals_with prefixes (parts.Server (place + 1)) more → after ≡ having_seen caller (parts.Server (place + 1)) seen
    → seen_of after (parts.Server (place + 1)) ≤ prefix_length new (parts.Server (place + 1)) → HasSeenServers new after (place + 1)
servers-next prefixes caller place seen more before new after grew sees here number least most = by (cases_eq number (place + 1))
  where
    by : (number ≡ place + 1) ⊎ (number ≡ place + 1 → ⊥) → seen_of after (parts.Server number) ≤ prefix_length new (parts.Server number)
    by (inl same) = subst (λ (n : ℕ). seen_of after (parts.Server n) ≤ prefix_length new (parts.Server n)) (sym same) here
    by (inr apart) =
        let other : number - 1 ≢ place + 1 - 1 = λ same. apart (omega (arith, same, least)) in
        let old = before number least (omega (arith, apart, most)) in
        let long = ap (λ (o : JournalsView). prefix_length o (parts.Server number)) grew ∙ other-prefix prefixes (place + 1) number more other in
        let saw = ap (λ (c : CallerView). seen_of c (parts.Server number)) sees ∙ other-seen caller (place + 1) number seen other in
        omega (arith, old, long, saw)

-- the desk was pulled, and the view
pub servers-desk : (prefixes : JournalsView) (caller : CallerView) (count seen : ℕ) (more : Entries) → HasSeenServers prefixes caller count
    → HasSeenServers (journals_with prefixes parts.Desk more) (having_seen caller parts.Desk seen) count
servers-desk prefixes caller count seen (entries.Server more) before number least most = before number least most
servers-desk prefixes caller count seen (entries.Desk more) before number least most = before number least most
servers-desk prefixes caller count seen (entries.View more) before number least most = before number least most

servers-view : (prefixes : JournalsView) (caller : CallerView) (count seen : ℕ) (more : Entries) → HasSeenServers prefixes caller count
    → HasSeenServers (journals_with prefixes parts.View more) (having_seen caller parts.View seen) count
servers-view prefixes caller count seen (entries.Server more) before number least most = before number least most
servers-view prefixes caller count seen (entries.Desk more) before number least most = before number least most
servers-view prefixes caller count seen (entries.View more) before number least most = before number least most

desk-view : (prefixes : JournalsView) (caller : CallerView) (seen : ℕ) (more : Entries) → seen_of caller parts.Desk ≤ prefix_length prefixes parts.Desk
    → seen_of (having_seen caller parts.View seen) parts.Desk ≤ prefix_length (journals_with prefixes parts.View more) parts.Desk
desk-view prefixes caller seen (entries.Server more) before = before
desk-view prefixes caller seen (entries.Desk more) before = before
desk-view prefixes caller seen (entries.View more) before = before

-- all parts were pulled
pub all-seen : (start : JournalsView) (first : CallerView) (levels : ℕ) (of_desk of_view : Entries) (seen_desk seen_view : ℕ) (middle last : JournalsView) (second third : CallerView)
    → HasSeenServers start first (2 ^ levels - 1) → middle ≡ journals_with start parts.Desk of_desk → second ≡ having_seen first parts.Desk seen_desk
    → last ≡ journals_with middle parts.View of_view → third ≡ having_seen second parts.View seen_view
    → seen_of second parts.Desk ≤ prefix_length middle parts.Desk → seen_of third parts.View ≤ prefix_length last parts.View → last.levels ≡ levels → HasSeenAll last third
all-seen start first levels of_desk of_view seen_desk seen_view middle last second third servers grew saw grew_more saw_more desk view same =
    let with_desk : HasSeenServers middle second (2 ^ levels - 1) =
    subst (λ (o : JournalsView). HasSeenServers o second (2 ^ levels - 1)) (sym grew)
    (subst (λ (c : CallerView). HasSeenServers (journals_with start parts.Desk of_desk) c (2 ^ levels - 1)) (sym saw) (servers-desk start first (2 ^ levels - 1) seen_desk of_desk servers)) in
    let with_view : HasSeenServers last third (2 ^ levels - 1) =
    subst (λ (o : JournalsView). HasSeenServers o third (2 ^ levels - 1)) (sym grew_more)
    (subst (λ (c : CallerView). HasSeenServers (journals_with middle parts.View of_view) c (2 ^ levels - 1)) (sym saw_more) (servers-view middle second (2 ^ levels - 1) seen_view of_view with_desk)) in
    let desk_still : seen_of third parts.Desk ≤ prefix_length last parts.Desk =
    subst (λ (o : JournalsView). seen_of third parts.Desk ≤ prefix_length o parts.Desk) (sym grew_more)
    (subst (λ (c : CallerView). seen_of c parts.Desk ≤ prefix_length (journals_with middle parts.View of_view) parts.Desk) (sym saw_more) (desk-view middle second seen_view of_view desk)) in
    λ part. by part with_view desk_still view same
  where
    by : (part : Part) → HasSeenServers last third (2 ^ levels - 1) → seen_of third parts.Desk ≤ prefix_length last parts.Desk → seen_of third parts.View ≤ prefix_length last parts.View → last.levels ≡ levels
        → IsPartOf last.levels part → seen_of third part ≤ prefix_length last part
    by (parts.Server number) servers desk view same there =
        let within : IsServer levels number = subst (λ (l : ℕ). IsServer l number) same there in
        let most = within.1 in
        servers number within.0 (omega (arith, most))
    by parts.Desk servers desk view same there = desk
    by parts.View servers desk view same there = view

-- ---- after one more pull, that was taken or not

pub continues-after : {T : Type 0} (start old new : JournalsView) (part : Part) (r : Result T PullFault) → OnOk r ((more : Entries) × (new ≡ journals_with old part more)) → OnErr r (new ≡ old)
    → Continues start old → Continues start new
continues-after start old new part (Ok x) grew same before = subst (λ (o : JournalsView). Continues start o) (sym grew.1) (continues-grown start old part grew.0 before)
continues-after start old new part (Err f) grew same before = subst (λ (o : JournalsView). Continues start o) (sym same) before

pub seen-after : {T : Type 0} (start : JournalsView) (first : CallerView) (levels : ℕ) (of_desk : Entries) (seen_desk seen_view : ℕ) (middle last : JournalsView) (second third : CallerView) (r : Result T PullFault)
    → HasSeenServers start first (2 ^ levels - 1) → middle ≡ journals_with start parts.Desk of_desk → second ≡ having_seen first parts.Desk seen_desk
    → OnOk r ((more : Entries) × (last ≡ journals_with middle parts.View more)) → third ≡ having_seen second parts.View seen_view
    → seen_of second parts.Desk ≤ prefix_length middle parts.Desk → OnOk r (seen_of third parts.View ≤ prefix_length last parts.View) → last.levels ≡ levels → OnOk r (HasSeenAll last third)
seen-after start first levels of_desk seen_desk seen_view middle last second third (Ok x) servers grew saw grew_more saw_more desk view same =
    all-seen start first levels of_desk grew_more.0 seen_desk seen_view middle last second third servers grew saw grew_more.1 saw_more desk view same
seen-after start first levels of_desk seen_desk seen_view middle last second third (Err f) servers grew saw grew_more saw_more desk view same = tt

-- ---- puts

abbrev message : Job → Message
message job = messages.Job job

-- a job was put, and the others are left
pub one_put : (old new : List Message) (job : Job) (jobs : List Job) → new ≡ old ++ messages.Job job ∷ [] → with_jobs new jobs ≡ with_jobs old (job ∷ jobs)
one_put old new job jobs is = ap (λ put. put ++ map message jobs) is ∙ append_assoc old (message job ∷ []) (map message jobs)

-- so were some, one after another
some_put : (old new : List Message) (some jobs : List Job) → new ≡ with_jobs old some → with_jobs new jobs ≡ with_jobs old (some ++ jobs)
some_put old new some jobs is =
    ap (λ put. put ++ map message jobs) is ∙ append_assoc old (map message some) (map message jobs)
    ∙ ap (λ rest. old ++ rest) (sym (map-append message some jobs))

module _ (makes : FileJobs → List Job) (files : List FileJobs) (i : ℕ) where
  -- those of one file more were put
  pub file_put : (f : FileJobs) → i < length files → f ≡ get_or files i f → (old new total : List Message) → new ≡ with_jobs old (makes f)
      → with_jobs old (flat_map makes (drop i files)) ≡ total → with_jobs new (flat_map makes (drop (i + 1) files)) ≡ total
  file_put f less item old new total is so_far =
      some_put old new (makes f) (flat_map makes (drop (i + 1) files)) is
      ∙ ap (λ left. with_jobs old (flat_map makes left)) (sym (drop_more files i f less ∙ ap (λ g. g ∷ drop (i + 1) files) (sym item)))
      ∙ so_far

  -- and those of all files
  pub files_put : (put total : List Message) → length files ≤ i → with_jobs put (flat_map makes (drop i files)) ≡ total → put ≡ total
  files_put put total all so_far =
      sym (append-nil put) ∙ ap (λ left. with_jobs put (flat_map makes left)) (sym (drop_all i files all)) ∙ so_far

-- ---- of a round

-- where there are workers the jobs of the plan are put
pub for_workers : (workers : ℕ) (board : JournalsView) (put : List Message) → (workers ≡ 0 → ⊥) → with_plan workers board put ≡ with_jobs put (planned_on board)
for_workers workers board put some =
    let none : (workers == 0) ≡ false = grind (arith, nat_tests, some) in
    ap (λ (test : Bool). cond test put (with_jobs put (planned_on board))) none
