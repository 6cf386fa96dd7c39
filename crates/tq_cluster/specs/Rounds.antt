-- What pulls do to the prefixes on a board. What a round puts into the queue of jobs.
use Rattle.std.specs.Prelude.{◌≡◌, ◌≤◌, ◌<◌, ◌-◌, ◌^◌, ◌⊎◌, ℕ, zero, suc, max, List, [], ◌∷◌, ◌++◌, Result, Ok, Err, OnOk, OnErr, IfErr, ⊤, ◌==◌, cond, map}
use Rattle.tq_shape.specs.{declared.part.Part.Part, Limits.LimitsView}
use Rattle.tq_shape.specs.declared.part.Part.TheVariants as parts
use Rattle.tq_desk.specs.DeskJournal.{DeskEntry}
use Rattle.tq_tables.specs.{Journals.{JournalsView, ViewEntry, no_entries}, Tables.tables_of}
use Rattle.tq_cells.specs.Passes.{last_behind}
use Rattle.tq_mirror.specs.declared.{entries.Entries.Entries, fault.PullFault.PullFault}
use Rattle.tq_mirror.specs.Prefixes.{IsForeign, IsPartOf, IsPullFault, journals_with, prefix_length, ComesBefore}
use Rattle.tq_mirror.specs.declared.fault.PullFault.TheVariants as faults
use Rattle.tq_cluster.specs.{Told.{CallerView, having_seen, seen_of, nothing_seen}, declared.workers.Message.Message}
use Rattle.tq_cluster.specs.declared.rounds.Round.{Round}
use Rattle.tq_refresh.specs.{declared.job.Job.Job, Plan.plan_of}
use Rattle.tq_cluster.specs.declared.workers.Message.TheVariants as messages
use Rattle.tq_cluster.specs.declared.rounds.Round.TheVariants as ends

-- each list is the one at its place before with more behind it
abbrev pub EachContinues : {E : Type 0} → List (List E) → List (List E) → Type 0
EachContinues [] [] = ⊤
EachContinues {E} (old ∷ olds) (new ∷ news) = ((more : List E) × (new ≡ old ++ more)) × EachContinues olds news
EachContinues olds news = ⊥

-- they are of the same system, and each prefix is the one before with more behind it
pub record Continues (old new : JournalsView) : Type 0 where
  pub levels : new.levels ≡ old.levels
  pub limits : new.limits ≡ old.limits
  pub servers : EachContinues old.servers new.servers
  pub desk : (more : List DeskEntry) × (new.desk ≡ old.desk ++ more)
  pub view : (more : List ViewEntry) × (new.view ≡ old.view ++ more)

-- the prefix of each part has what the caller has seen of it
abbrev pub HasSeenAll : JournalsView → CallerView → Type 0
HasSeenAll prefixes caller = (part : Part) → IsPartOf prefixes.levels part → seen_of caller part ≤ prefix_length prefixes part

-- of the first servers, so many of them
abbrev pub HasSeenServers : JournalsView → CallerView → ℕ → Type 0
HasSeenServers prefixes caller count = (number : ℕ) → 0 < number → number ≤ count → seen_of caller (parts.Server number) ≤ prefix_length prefixes (parts.Server number)

-- the number of the last entry that came of a part, where what was pulled of it went from the one to the other; 0 where none came
abbrev pub last_come : JournalsView → JournalsView → Part → ℕ
last_come old new part = last_behind (prefix_length old part) (prefix_length new part - prefix_length old part)

-- a pull of the part onto the prefixes, by one who had seen and then has seen so many of its entries: at Ok the prefix grew, and
-- has what was seen; at a fault it is as it was, and some entries were not those that come next; one saw just what came
pub record IsPull {T : Type 0} (part : Part) (old new : JournalsView) (before after : ℕ) (end : Result T PullFault) : Type 0 where
  pub grows : OnOk end ((more : Entries) × (new ≡ journals_with old part more))
  pub seen : OnOk end (after ≤ prefix_length new part)
  pub err : OnErr end (new ≡ old)
  pub fault : IfErr end (λ fault. (more : Entries) × IsPullFault old part more after fault)
  pub saw : after ≡ max before (last_come old new part)

-- the greatest number that a caller was told of the part then
abbrev pub seen_then : JournalsView → JournalsView → CallerView → Part → ℕ
seen_then old new caller part = max (seen_of caller part) (last_come old new part)

-- a pull of the part was taken: its prefix grew and has what the caller has seen of it, who was told of just what came
pub record IsPulled (part : Part) (old new : JournalsView) (been caller : CallerView) : Type 0 where
  pub grows : (more : Entries) × (new ≡ journals_with old part more)
  pub seen : seen_of caller part ≤ prefix_length new part
  pub saw : caller ≡ having_seen been part (seen_then old new been part)

-- it was not, and all is as it was
pub record IsNotPulled (part : Part) (old new : JournalsView) (been caller : CallerView) (fault : PullFault) : Type 0 where
  pub same_board : new ≡ old
  pub same_caller : caller ≡ been
  pub why : (more : Entries) × IsPullFault old part more (seen_of been part) fault

-- the parts were pulled one after another, up to one that was not, or all: so the pull ended
abbrev pub ArePulled : List Part → JournalsView → JournalsView → CallerView → CallerView → Result (Unit {0}) PullFault → Type 0
ArePulled [] old new been caller end = (new ≡ old) × (caller ≡ been) × (end ≡ Ok tt)
ArePulled (part ∷ rest) old new been caller end =
    ((fault : PullFault) × (end ≡ Err fault) × IsNotPulled part old new been caller fault)
    ⊎ ((next : JournalsView) × (seen : CallerView) × IsPulled part old next been seen × ArePulled rest next new seen caller end)

-- so many servers upwards from that number; and all parts of a system, in the order in which they are pulled
abbrev pub servers_from : ℕ → ℕ → List Part
servers_from first zero = []
servers_from first (suc more) = parts.Server first ∷ servers_from (suc first) more

abbrev pub parts_of : ℕ → List Part
parts_of levels = servers_from 1 (2 ^ levels - 1) ++ parts.Desk ∷ parts.View ∷ []

-- of each part the caller was told just of the entries that came onto the board
abbrev pub SawWhatCame : JournalsView → JournalsView → CallerView → CallerView → Type 0
SawWhatCame old new before after = (part : Part) → seen_of after part ≡ seen_then old new before part

-- of each part before that one
abbrev pub HasSeenBefore : JournalsView → CallerView → Part → Type 0
HasSeenBefore prefixes caller part = (before : Part) → IsPartOf prefixes.levels before → ComesBefore before part → seen_of caller before ≤ prefix_length prefixes before

-- these entries of a part of the system were not taken, and those before it were pulled
pub record StoppedAt (prefixes : JournalsView) (caller : CallerView) (part : Part) (given : Entries) : Type 0 where
  pub is_part : IsPartOf prefixes.levels part
  pub before : HasSeenBefore prefixes caller part
  pub foreign : IsForeign prefixes part given (seen_of caller part)

-- a pull of all parts ended so: memory was refused, or at the part that the fault names
abbrev pub EndedAt : JournalsView → CallerView → PullFault → Type 0
EndedAt prefixes caller faults.Memory = ⊤
EndedAt prefixes caller (faults.Foreign part given) = StoppedAt prefixes caller part given

-- ---- rounds

-- the jobs stand behind what was put
abbrev pub with_jobs : List Message → List Job → List Message
with_jobs put jobs = put ++ map (λ (job : Job). messages.Job job) jobs

-- the jobs of the plan over what a board pulled
abbrev pub planned_on : JournalsView → List Job
planned_on board = plan_of (tables_of board) (tables_of board).view

-- where there are workers they stand behind what was put
abbrev pub with_plan : ℕ → JournalsView → List Message → List Message
with_plan workers board put = cond (workers == 0) put (with_jobs put (planned_on board))

-- what a round put for so many workers that ended so: the jobs of the plan; none where there are no workers, where foreign
-- entries were pulled or memory was refused
abbrev pub IsPut : Round → ℕ → JournalsView → List Message → List Message → Type 0
IsPut ends.Put workers board old new = new ≡ with_plan workers board old
IsPut ends.Refused workers board old new = 0 < workers
IsPut ends.Foreign workers board old new = new ≡ old
IsPut ends.Memory workers board old new = new ≡ old

-- how the pull of a round ended that ended so
abbrev pub HasPulled : Round → JournalsView → CallerView → Type 0
HasPulled ends.Put board caller = HasSeenAll board caller
HasPulled ends.Refused board caller = HasSeenAll board caller
HasPulled ends.Foreign board caller = (part : Part) × (given : Entries) × StoppedAt board caller part given
HasPulled ends.Memory board caller = ⊤

-- a round took board and caller from the one to the other, put messages, and ended so
pub record IsRound (round : Round) (workers : ℕ) (before board : JournalsView) (been caller : CallerView) (old new : List Message) : Type 0 where
  pub continues : Continues before board
  pub saw : SawWhatCame before board been caller
  pub pulled : HasPulled round board caller
  pub put : IsPut round workers board old new

-- so many rounds were made, from a new board on, and memory was refused to none of them
abbrev pub AreRounds : ℕ → LimitsView → ℕ → ℕ → JournalsView → CallerView → List Message → List Message → Type 0
AreRounds levels limits workers zero board caller old new =
    (board ≡ no_entries levels limits) × (caller.seen ≡ nothing_seen levels) × (new ≡ old)
AreRounds levels limits workers (suc count) board caller old new =
    (before : JournalsView) × (been : CallerView) × (put : List Message) × (round : Round)
    × AreRounds levels limits workers count before been old put
    × IsRound round workers before board been caller put new × (round ≡ ends.Memory → ⊥)
