-- Parts that were pulled one after another.
use Rattle.std.proofs.Common.{◌≡◌, ◌⊎◌, ◌≤◌, ◌<◌, ◌+◌, ◌-◌, ℕ, zero, suc, List, [], ◌∷◌, ◌++◌, max, inl, inr, refl, sym, ap, subst, ◌∙◌, arith}
use Rattle.std.proofs.{Math.Path.transport, lemmas.List.set-get_or}
use Rattle.std.specs.Prelude.{Result, Ok, Err, IfErr, OnOk, OnErr, ⊤}
use Rattle.tq_shape.specs.declared.part.Part.{Part}
use Rattle.tq_shape.specs.declared.part.Part.TheVariants as parts
use Rattle.tq_tables.specs.Journals.{JournalsView}
use Rattle.tq_mirror.specs.declared.{entries.Entries.Entries, fault.PullFault.PullFault}
use Rattle.tq_mirror.specs.Prefixes.{IsPullFault, journals_with, prefix_length}
use Rattle.tq_cluster.{specs.Told.{CallerView, having_seen, seen_of}, proofs.Came.took_none}
use Rattle.tq_cluster.specs.Rounds.{ArePulled, IsNotPulled, IsPulled, seen_then, servers_from}

-- ---- one part

having-same : (caller : CallerView) (part : Part) → having_seen caller part (seen_of caller part) ≡ caller
having-same caller (parts.Server number) =
    λ i. record { levels = caller.levels; told = caller.told; seen = record { servers = set-get_or caller.seen.servers (number - 1) 0 i; desk = caller.seen.desk; view = caller.seen.view } }
having-same caller parts.Desk = refl
having-same caller parts.View = refl

module _ (part : Part) (old new : JournalsView) (been caller : CallerView) (saw : seen_of caller part ≡ seen_then old new been part) (others : caller ≡ having_seen been part (seen_of caller part)) where
  pub is-pulled : (more : Entries) × (new ≡ journals_with old part more) → seen_of caller part ≤ prefix_length new part → IsPulled part old new been caller
  is-pulled grew enough = record { grows = grew; seen = enough; saw = others ∙ ap (having_seen been part) saw }

  pub is-not-pulled : (fault : PullFault) → new ≡ old → (more : Entries) × IsPullFault old part more (seen_of caller part) fault → IsNotPulled part old new been caller fault
  is-not-pulled fault same why =
      let still : seen_of caller part ≡ seen_of been part = saw ∙ sym (took_none (seen_of been part) old new part same) in
      record {
        same_board = same;
        same_caller = others ∙ ap (having_seen been part) still ∙ having-same been part;
        why = (why.0, subst (λ (n : ℕ). IsPullFault old part why.0 n fault) still why.1);
      }

  -- the last of them
  pub last-pulled : (end : Result (Unit {0}) PullFault) → OnOk end ((more : Entries) × (new ≡ journals_with old part more)) → OnOk end (seen_of caller part ≤ prefix_length new part) → OnErr end (new ≡ old)
      → IfErr end (λ fault. (more : Entries) × IsPullFault old part more (seen_of caller part) fault) → ArePulled (part ∷ []) old new been caller end
  last-pulled (Ok x) grew enough same why = inr (new, caller, is-pulled grew enough, (refl, refl, refl))
  last-pulled (Err fault) grew enough same why = inl (fault, refl, is-not-pulled fault same why)

-- ---- one after another

ok≢err : (fault : PullFault) → Path (Result (Unit {0}) PullFault) (Ok tt) (Err fault) → ⊥
ok≢err fault same = subst (λ (r : Result (Unit {0}) PullFault). OnErr r ⊥) same tt

pub then-pulled : (front rest : List Part) (old next new : JournalsView) (been seen caller : CallerView) (end : Result (Unit {0}) PullFault) → ArePulled front old next been seen (Ok tt) → ArePulled rest next new seen caller end
    → ArePulled (front ++ rest) old new been caller end
then-pulled [] rest old next new been seen caller end first more = transport (λ i. ArePulled rest (first.0 i) new (first.1 i) caller end) more
then-pulled (p ∷ front) rest old next new been seen caller end (inl failed) more = absurd (ok≢err failed.0 failed.1)
then-pulled (p ∷ front) rest old next new been seen caller end (inr pulled) more =
    inr (pulled.0, pulled.1, pulled.2, then-pulled front rest pulled.0 next new pulled.1 seen caller end pulled.3 more)

-- those behind the one that was not pulled do not matter
pub not-all-pulled : (front rest : List Part) (old new : JournalsView) (been caller : CallerView) (fault : PullFault) → ArePulled front old new been caller (Err fault) → ArePulled (front ++ rest) old new been caller (Err fault)
not-all-pulled [] rest old new been caller fault pulled = absurd (ok≢err fault (sym pulled.2))
not-all-pulled (p ∷ front) rest old new been caller fault (inl failed) = inl failed
not-all-pulled (p ∷ front) rest old new been caller fault (inr pulled) = inr (pulled.0, pulled.1, pulled.2, not-all-pulled front rest pulled.0 new pulled.1 caller fault pulled.3)

-- ---- servers

split : (first count more total : ℕ) → total ≡ count + suc more → servers_from first total ≡ servers_from first count ++ parts.Server (first + count) ∷ servers_from (suc (first + count)) more
split first zero more zero is = absurd (omega (arith, is))
split first zero more (suc total) is =
    let same : first ≡ first + 0 = omega arith in
    let rest : total ≡ more = omega (arith, is) in
    λ i. parts.Server (same i) ∷ servers_from (suc (same i)) (rest i)
split first (suc count) more zero is = absurd (omega (arith, is))
split first (suc count) more (suc total) is =
    let same : suc first + count ≡ first + suc count = omega arith in
    ap (λ (names : List Part). parts.Server first ∷ names)
    (split (suc first) count more total (omega (arith, is)) ∙ ap (λ (n : ℕ). servers_from (suc first) count ++ parts.Server n ∷ servers_from (suc n) more) same)

-- the next server was pulled
pub next-server : (place : ℕ) (old next new : JournalsView) (been seen caller : CallerView) → ArePulled (servers_from 1 place) old next been seen (Ok tt) → IsPulled (parts.Server (place + 1)) next new seen caller
    → ArePulled (servers_from 1 (place + 1)) old new been caller (Ok tt)
next-server place old next new been seen caller first pulled =
    let more : 1 + place ≡ place + 1 = omega arith in
    let names : servers_from 1 (place + 1) ≡ servers_from 1 place ++ parts.Server (place + 1) ∷ [] = split 1 place 0 (place + 1) (omega arith) ∙ ap (λ (n : ℕ). servers_from 1 place ++ parts.Server n ∷ []) more in
    subst (λ (names : List Part). ArePulled names old new been caller (Ok tt)) (sym names)
    (then-pulled (servers_from 1 place) (parts.Server (place + 1) ∷ []) old next new been seen caller (Ok tt) first (inr (new, caller, pulled, (refl, refl, refl))))

-- the next server was not
pub no-server : (place count : ℕ) (old next new : JournalsView) (been seen caller : CallerView) (fault : PullFault) → place < count → ArePulled (servers_from 1 place) old next been seen (Ok tt)
    → IsNotPulled (parts.Server (place + 1)) next new seen caller fault → ArePulled (servers_from 1 count) old new been caller (Err fault)
no-server place count old next new been seen caller fault less first failed =
    let more : 1 + place ≡ place + 1 = omega arith in
    let left = count - suc place in
    let all : count ≡ place + suc left = omega (arith, less) in
    let rest = λ (n : ℕ). servers_from (suc n) left in
    let names : servers_from 1 count ≡ servers_from 1 place ++ parts.Server (place + 1) ∷ rest (place + 1) =
    split 1 place left count all ∙ ap (λ (n : ℕ). servers_from 1 place ++ parts.Server n ∷ rest n) more in
    subst (λ (names : List Part). ArePulled names old new been caller (Err fault)) (sym names)
    (then-pulled (servers_from 1 place) (parts.Server (place + 1) ∷ rest (place + 1)) old next new been seen caller (Err fault) first (inl (fault, refl, failed)))
