-- What came onto a board by pulls, and what its caller was told of it.
use Rattle.std.proofs.Common.{◌≡◌, ◌≢◌, ◌≤◌, ◌+◌, ◌-◌, ◌^◌, ℕ, zero, suc, List, [], ◌∷◌, length, max, get_or, inl, inr, refl, sym, ap, subst, ◌∙◌, arith, length-append}
use Rattle.std.proofs.{Math.Nat.{max-zero, zero-max, max-le, le-max_left, le-max_right}, lemmas.Bool.cases_eq}
use Rattle.std.specs.{Result.IsErrAnd, Prelude.{Result, Ok, Err, IfErr, OnOk, OnErr, ⊤}}
use Rattle.tq_cells.specs.Passes.{last_behind}
use Rattle.tq_shape.specs.{Tree.IsServer, declared.part.Part.Part}
use Rattle.tq_shape.specs.declared.part.Part.TheVariants as parts
use Rattle.tq_tables.specs.Journals.{JournalsView}
use Rattle.tq_mirror.specs.declared.{entries.Entries.Entries, fault.PullFault.PullFault}
use Rattle.tq_mirror.specs.Prefixes.{IsForeign, IsPartOf, IsPullFault, IsTaken, journals_with, prefix_length}
use Rattle.tq_mirror.specs.declared.entries.Entries.TheVariants as entries
use Rattle.tq_mirror.specs.declared.fault.PullFault.TheVariants as faults
use Rattle.tq_cluster.specs.Told.{CallerView, having_seen, seen_of}
use Rattle.tq_cluster.specs.Rounds.{Continues, EachContinues, EndedAt, HasSeenBefore, HasSeenServers, IsPull, SawWhatCame, seen_then}
use Rattle.tq_cluster.proofs.Pulled.{continues-grown, continues-same, other-prefix, other-seen, servers-desk}

-- ---- numbers

-- nothing came: what was seen stays
pub stays : (seen k : ℕ) → seen ≡ max seen (last_behind k (k - k))
stays seen k = let none : k - k ≡ 0 = omega arith in sym (ap (λ (n : ℕ). max seen (last_behind k n)) none ∙ max-zero seen)

max_nested : (s a b : ℕ) → a ≤ b → max (max s a) b ≡ max s b
max_nested s a b less = sym_le (max (max s a) b) (max s b) (max-le (max-le (le-max_left s b) (trans a b (max s b) less (le-max_right s b))) (le-max_right s b)) (max-le (trans s (max s a) (max (max s a) b) (le-max_left s a) (le-max_left (max s a) b)) (le-max_right (max s a) b))
  where
    trans : (x y z : ℕ) → x ≤ y → y ≤ z → x ≤ z
    trans x y z p q = omega (arith, p, q)

    sym_le : (x y : ℕ) → x ≤ y → y ≤ x → x ≡ y
    sym_le x y p q = omega (arith, p, q)

-- entries came, and more behind them
twice_told : (s k m n : ℕ) → max (max s (last_behind k m)) (last_behind (k + m) n) ≡ max s (last_behind k (m + n))
twice_told s k zero n =
    let same : k + 0 ≡ k = omega arith in
    let none : n ≡ 0 + n = omega arith in
    (λ i. max (max-zero s i) (last_behind (same i) n)) ∙ ap (λ (j : ℕ). max s (last_behind k j)) none
twice_told s k (suc m) zero =
    let none : suc m ≡ suc m + 0 = omega arith in
    max-zero (max s (k + suc m)) ∙ ap (λ (j : ℕ). max s (last_behind k j)) none
twice_told s k (suc m) (suc n) =
    let both : suc (m + suc n) ≡ suc m + suc n = omega arith in
    let end : k + suc m + suc n ≡ k + suc (m + suc n) = omega arith in
    max_nested s (k + suc m) (k + suc m + suc n) (omega arith) ∙ ap (max s) end ∙ ap (λ (j : ℕ). max s (last_behind k j)) both

twice : (s first middle last : ℕ) → first ≤ middle → middle ≤ last → max (max s (last_behind first (middle - first))) (last_behind middle (last - middle)) ≡ max s (last_behind first (last - first))
twice s first middle last one two =
    let at : middle ≡ first + (middle - first) = omega (arith, one) in
    let sum : (middle - first) + (last - middle) ≡ last - first = omega (arith, one, two) in
    ap (λ (j : ℕ). max (max s (last_behind first (middle - first))) (last_behind j (last - middle))) at
    ∙ twice_told s first (middle - first) (last - middle)
    ∙ ap (λ (j : ℕ). max s (last_behind first j)) sum

last-most : (number count : ℕ) → last_behind number count ≤ number + count
last-most number zero = omega arith
last-most number (suc count) = omega arith

-- ---- one pull, by a pass that was told of what came

module _ (old seen fresh known before after count : ℕ) (saw : seen ≡ max old fresh) (told : fresh ≡ max 0 (last_behind known count)) (at : known ≡ before) (grew : after ≡ before + count) where
  pub took : seen ≡ max old (last_behind before (after - before))
  took =
      let came : count ≡ after - before = omega (arith, grew) in
      saw ∙ ap (max old) (told ∙ zero-max (last_behind known count) ∙ (λ i. last_behind (at i) (came i)))

  pub took_enough : old ≤ after → seen ≤ after
  took_enough enough =
      let most = last-most known count in
      let is : last_behind known count ≤ after = omega (arith, most, at, grew) in
      subst (λ (n : ℕ). n ≤ after) (sym (saw ∙ ap (max old) (told ∙ zero-max (last_behind known count)))) (max-le enough is)

-- the part was pulled
pub pull-ok : {T : Type 0} (part : Part) (old new : JournalsView) (more : Entries) (before after fresh known count : ℕ) (x : T) → new ≡ journals_with old part more → before ≤ prefix_length new part → prefix_length new part ≡ prefix_length old part + count
    → after ≡ max before fresh → fresh ≡ max 0 (last_behind known count) → known ≡ prefix_length old part → IsPull part old new before after (Ok x)
pull-ok part old new more before after fresh known count x grew enough long saw told at =
    record {
      grows = (more, grew);
      seen = took_enough before after fresh known (prefix_length old part) (prefix_length new part) count saw told at long enough;
      err = tt;
      fault = tt;
      saw = took before after fresh known (prefix_length old part) (prefix_length new part) count saw told at long;
    }

pub took_none : (seen : ℕ) (old new : JournalsView) (part : Part) → new ≡ old → seen ≡ max seen (last_behind (prefix_length old part) (prefix_length new part - prefix_length old part))
took_none seen old new part same =
    subst (λ (o : JournalsView). seen ≡ max seen (last_behind (prefix_length old part) (prefix_length o part - prefix_length old part))) (sym same) (stays seen (prefix_length old part))

-- what came was not taken: the fault is passed on, and all is as it was
pub pull-refused : {T U : Type 0} (part : Part) (old new : JournalsView) (more : Entries) (least seen : ℕ) (fault : PullFault) (out : Result U PullFault) → least ≡ seen → IsErrAnd out (λ (f : PullFault). f ≡ fault)
    → IsTaken {T = T} old new part more least (Err fault) → IsPull part old new seen seen out
pull-refused part old new more least seen fault (Ok x) counted is taken = absurd is
pull-refused part old new more least seen fault (Err f) counted is taken =
    record {
      grows = tt;
      seen = tt;
      err = taken.err;
      fault = (more, subst (λ (n : ℕ). IsPullFault old part more n f) counted (subst (λ (o : PullFault). IsPullFault old part more least o) (sym is) taken.fault));
      saw = took_none seen old new part taken.err;
    }

-- nothing came, since memory was refused
pub pull-memory : {U : Type 0} (part : Part) (old : JournalsView) (seen : ℕ) (out : Result U PullFault) → IsErrAnd out (λ (f : PullFault). f ≡ faults.Memory) → IsPull part old old seen seen out
pull-memory part old seen out is =
    pull-refused {T = ℕ} part old old (entries.Desk []) seen seen faults.Memory out refl is (record { grown = tt; least = tt; count = tt; err = refl; fault = tt })

pub saw-same : (prefixes : JournalsView) (caller : CallerView) → SawWhatCame prefixes prefixes caller caller
saw-same prefixes caller part = stays (seen_of caller part) (prefix_length prefixes part)

-- a caller that was told of a part has seen what it had, or more
pub rises : (old new : JournalsView) (before after : CallerView) (part : Part) → seen_of after part ≡ seen_then old new before part → after ≡ having_seen before part (seen_of after part)
    → (seen : ℕ) × (seen_of before part ≤ seen) × (after ≡ having_seen before part seen)
rises old new before after part is others =
    (seen_of after part, subst (λ (n : ℕ). seen_of before part ≤ n) (sym is) (le-max_left (seen_of before part) (last_behind (prefix_length old part) (prefix_length new part - prefix_length old part))), others)

-- ---- one part was pulled after others

each-longer : {E : Type 0} (xs ys : List (List E)) (place : ℕ) → EachContinues xs ys → length (get_or xs place []) ≤ length (get_or ys place [])
each-longer [] [] place each = omega arith
each-longer [] (y ∷ ys) place each = absurd each
each-longer (x ∷ xs) [] place each = absurd each
each-longer (x ∷ xs) (y ∷ ys) zero each = (let sum = length-append x each.0.0 in let is = ap length each.0.1 in omega (arith, sum, is))
each-longer (x ∷ xs) (y ∷ ys) (suc place) each = each-longer xs ys place each.1

longer : (old new : JournalsView) (part : Part) → Continues old new → prefix_length old part ≤ prefix_length new part
longer old new (parts.Server number) on = each-longer old.servers new.servers (number - 1) on.servers
longer old new parts.Desk on = (let sum = length-append old.desk on.desk.0 in let is = ap length on.desk.1 in omega (arith, sum, is))
longer old new parts.View on = (let sum = length-append old.view on.view.0 in let is = ap length on.view.1 in omega (arith, sum, is))

-- they are not the same part
abbrev pub Apart : Part → Part → Type 0
Apart (parts.Server there) (parts.Server number) = number - 1 ≢ there - 1
Apart parts.Desk parts.Desk = ⊥
Apart parts.View parts.View = ⊥
Apart there part = ⊤

apart-length : (old : JournalsView) (there part : Part) (more : Entries) → Apart there part → prefix_length (journals_with old there more) part ≡ prefix_length old part
apart-length old (parts.Server there) (parts.Server number) more apart = other-prefix old there number more apart
apart-length old parts.Desk parts.Desk more apart = absurd apart
apart-length old parts.View parts.View more apart = absurd apart
apart-length old (parts.Server there) parts.Desk (entries.Server more) apart = refl
apart-length old (parts.Server there) parts.Desk (entries.Desk more) apart = refl
apart-length old (parts.Server there) parts.Desk (entries.View more) apart = refl
apart-length old (parts.Server there) parts.View (entries.Server more) apart = refl
apart-length old (parts.Server there) parts.View (entries.Desk more) apart = refl
apart-length old (parts.Server there) parts.View (entries.View more) apart = refl
apart-length old parts.Desk (parts.Server number) (entries.Server more) apart = refl
apart-length old parts.Desk (parts.Server number) (entries.Desk more) apart = refl
apart-length old parts.Desk (parts.Server number) (entries.View more) apart = refl
apart-length old parts.Desk parts.View (entries.Server more) apart = refl
apart-length old parts.Desk parts.View (entries.Desk more) apart = refl
apart-length old parts.Desk parts.View (entries.View more) apart = refl
apart-length old parts.View (parts.Server number) (entries.Server more) apart = refl
apart-length old parts.View (parts.Server number) (entries.Desk more) apart = refl
apart-length old parts.View (parts.Server number) (entries.View more) apart = refl
apart-length old parts.View parts.Desk (entries.Server more) apart = refl
apart-length old parts.View parts.Desk (entries.Desk more) apart = refl
apart-length old parts.View parts.Desk (entries.View more) apart = refl

apart-seen : (caller : CallerView) (there part : Part) (seen : ℕ) → Apart there part → seen_of (having_seen caller there seen) part ≡ seen_of caller part
apart-seen caller (parts.Server there) (parts.Server number) seen apart = other-seen caller there number seen apart
apart-seen caller parts.Desk parts.Desk seen apart = absurd apart
apart-seen caller parts.View parts.View seen apart = absurd apart
apart-seen caller (parts.Server there) parts.Desk seen apart = refl
apart-seen caller (parts.Server there) parts.View seen apart = refl
apart-seen caller parts.Desk (parts.Server number) seen apart = refl
apart-seen caller parts.Desk parts.View seen apart = refl
apart-seen caller parts.View (parts.Server number) seen apart = refl
apart-seen caller parts.View parts.Desk seen apart = refl

-- what was pulled went on at one part alone
pub record GoesOn (old new : JournalsView) (there : Part) : Type 0 where
  pub continues : Continues old new
  pub apart : (part : Part) → Apart there part → prefix_length new part ≡ prefix_length old part

pub goes-grown : (old new : JournalsView) (there : Part) (more : Entries) → new ≡ journals_with old there more → GoesOn old new there
goes-grown old new there more grew =
    record {
      continues = subst (λ (o : JournalsView). Continues old o) (sym grew) (continues-grown old old there more (continues-same old));
      apart = λ part apart. ap (λ (o : JournalsView). prefix_length o part) grew ∙ apart-length old there part more apart;
    }

pub goes-same : (old new : JournalsView) (there : Part) → new ≡ old → GoesOn old new there
goes-same old new there same =
    record {
      continues = subst (λ (o : JournalsView). Continues old o) (sym same) (continues-same old);
      apart = λ part apart. ap (λ (o : JournalsView). prefix_length o part) same;
    }

pub goes-after : {T : Type 0} (old new : JournalsView) (there : Part) (r : Result T PullFault) → OnOk r ((more : Entries) × (new ≡ journals_with old there more)) → OnErr r (new ≡ old) → GoesOn old new there
goes-after old new there (Ok x) grew same = goes-grown old new there grew.0 grew.1
goes-after old new there (Err f) grew same = goes-same old new there same

module _ (start old new : JournalsView) (first middle after : CallerView) (before : SawWhatCame start old first middle) (so_far : Continues start old) where
  still : (part : Part) → seen_of after part ≡ seen_of middle part → prefix_length new part ≡ prefix_length old part → seen_of after part ≡ seen_then start new first part
  still part seen long =
      seen ∙ before part ∙ ap (λ (n : ℕ). max (seen_of first part) (last_behind (prefix_length start part) (n - prefix_length start part))) (sym long)

  again : (part : Part) → Continues old new → seen_of after part ≡ seen_then old new middle part → seen_of after part ≡ seen_then start new first part
  again part on told =
      told
      ∙ ap (λ (s : ℕ). max s (last_behind (prefix_length old part) (prefix_length new part - prefix_length old part))) (before part)
      ∙ twice (seen_of first part) (prefix_length start part) (prefix_length old part) (prefix_length new part) (longer start old part so_far) (longer old new part on)

  -- the caller was told just of what came, this time too
  pub came : (there : Part) → GoesOn old new there → seen_of after there ≡ seen_then old new middle there → after ≡ having_seen middle there (seen_of after there) → SawWhatCame start new first after
  came there goes told others part = by there part goes told others
    where
      apart_from : (there part : Part) → GoesOn old new there → after ≡ having_seen middle there (seen_of after there) → Apart there part → seen_of after part ≡ seen_then start new first part
      apart_from there part goes others apart =
          still part (ap (λ (c : CallerView). seen_of c part) others ∙ apart-seen middle there part (seen_of after there) apart) (goes.apart part apart)

      by : (there part : Part) → GoesOn old new there → seen_of after there ≡ seen_then old new middle there → after ≡ having_seen middle there (seen_of after there) → seen_of after part ≡ seen_then start new first part
      by (parts.Server there) (parts.Server number) goes told others = elim (cases_eq (number - 1) (there - 1)) [
        | inl same ↦
            again (parts.Server number) goes.continues
            (subst (λ (p : ℕ). get_or after.seen.servers p 0 ≡ max (get_or middle.seen.servers p 0) (last_behind (length (get_or old.servers p [])) (length (get_or new.servers p []) - length (get_or old.servers p [])))) (sym same) told)
        | inr apart ↦ apart_from (parts.Server there) (parts.Server number) goes others apart
      ]
      by (parts.Server there) parts.Desk goes told others = apart_from (parts.Server there) parts.Desk goes others tt
      by (parts.Server there) parts.View goes told others = apart_from (parts.Server there) parts.View goes others tt
      by parts.Desk (parts.Server number) goes told others = apart_from parts.Desk (parts.Server number) goes others tt
      by parts.Desk parts.Desk goes told others = again parts.Desk goes.continues told
      by parts.Desk parts.View goes told others = apart_from parts.Desk parts.View goes others tt
      by parts.View (parts.Server number) goes told others = apart_from parts.View (parts.Server number) goes others tt
      by parts.View parts.Desk goes told others = apart_from parts.View parts.Desk goes others tt
      by parts.View parts.View goes told others = again parts.View goes.continues told

-- ---- a pull of all parts that ended at one

-- the fault is that of the part
pub ended-at : (prefixes : JournalsView) (caller : CallerView) (part : Part) (more : Entries) (fault : PullFault) → IsPartOf prefixes.levels part → HasSeenBefore prefixes caller part → IsPullFault prefixes part more (seen_of caller part) fault
    → EndedAt prefixes caller fault
ended-at prefixes caller part more faults.Memory is_part before why = tt
ended-at prefixes caller part more (faults.Foreign there given) is_part before why =
    let same = sym why.0 in
    record {
      is_part = subst (λ (p : Part). IsPartOf prefixes.levels p) same is_part;
      before = subst (λ (p : Part). HasSeenBefore prefixes caller p) same before;
      foreign = subst (λ (p : Part). IsForeign prefixes p given (seen_of caller p)) same (subst (λ (e : Entries). IsForeign prefixes part e (seen_of caller part)) (sym why.1.0) why.1.1);
    }

-- at a server
pub before-server : (prefixes new : JournalsView) (caller after : CallerView) (place seen : ℕ) → HasSeenServers prefixes caller place → new ≡ prefixes → after ≡ having_seen caller (parts.Server (place + 1)) seen
    → HasSeenBefore new after (parts.Server (place + 1))
before-server prefixes new caller after place seen servers same saw (parts.Server number) there less =
    let least = there.0 in
    let other : number - 1 ≢ place + 1 - 1 = λ e. omega (arith, e, less, least) in
    let was = servers number least (omega (arith, less)) in
    let long = ap (λ (o : JournalsView). prefix_length o (parts.Server number)) same in
    let sees = ap (λ (c : CallerView). seen_of c (parts.Server number)) saw ∙ other-seen caller (place + 1) number seen other in
    omega (arith, was, long, sees)
before-server prefixes new caller after place seen servers same saw parts.Desk there less = absurd less
before-server prefixes new caller after place seen servers same saw parts.View there less = absurd less

-- at the desk
pub before-desk : (prefixes new : JournalsView) (caller after : CallerView) (levels seen : ℕ) → HasSeenServers prefixes caller (2 ^ levels - 1) → new ≡ prefixes → after ≡ having_seen caller parts.Desk seen → new.levels ≡ levels
    → HasSeenBefore new after parts.Desk
before-desk prefixes new caller after levels seen servers same saw tree (parts.Server number) there less =
    let within : IsServer levels number = subst (λ (l : ℕ). IsServer l number) tree there in
    let most = within.1 in
    let was = servers number within.0 (omega (arith, most)) in
    let long = ap (λ (o : JournalsView). prefix_length o (parts.Server number)) same in
    let sees = ap (λ (c : CallerView). seen_of c (parts.Server number)) saw in
    omega (arith, was, long, sees)
before-desk prefixes new caller after levels seen servers same saw tree parts.Desk there less = absurd less
before-desk prefixes new caller after levels seen servers same saw tree parts.View there less = absurd less

-- at the view
before-view : (prefixes new : JournalsView) (caller after : CallerView) (levels seen : ℕ) → HasSeenServers prefixes caller (2 ^ levels - 1) → seen_of caller parts.Desk ≤ prefix_length prefixes parts.Desk → new ≡ prefixes
    → after ≡ having_seen caller parts.View seen → new.levels ≡ levels → HasSeenBefore new after parts.View
before-view prefixes new caller after levels seen servers desk same saw tree (parts.Server number) there less =
    let within : IsServer levels number = subst (λ (l : ℕ). IsServer l number) tree there in
    let most = within.1 in
    let was = servers number within.0 (omega (arith, most)) in
    let long = ap (λ (o : JournalsView). prefix_length o (parts.Server number)) same in
    let sees = ap (λ (c : CallerView). seen_of c (parts.Server number)) saw in
    omega (arith, was, long, sees)
before-view prefixes new caller after levels seen servers desk same saw tree parts.Desk there less =
    let long = ap (λ (o : JournalsView). prefix_length o parts.Desk) same in
    let sees = ap (λ (c : CallerView). seen_of c parts.Desk) saw in
    omega (arith, desk, long, sees)
before-view prefixes new caller after levels seen servers desk same saw tree parts.View there less = absurd less

-- the servers were pulled and the desk, and then the view was asked
pub ended-after : {T : Type 0} (start middle new : JournalsView) (first second after : CallerView) (levels : ℕ) (of_desk : Entries) (seen_desk : ℕ) (r : Result T PullFault)
    → HasSeenServers start first (2 ^ levels - 1) → middle ≡ journals_with start parts.Desk of_desk → second ≡ having_seen first parts.Desk seen_desk → seen_of second parts.Desk ≤ prefix_length middle parts.Desk
    → OnErr r (new ≡ middle) → after ≡ having_seen second parts.View (seen_of after parts.View) → middle.levels ≡ levels
    → IfErr r (λ f. (more : Entries) × IsPullFault middle parts.View more (seen_of after parts.View) f) → IfErr r (λ f. EndedAt new after f)
ended-after start middle new first second after levels of_desk seen_desk (Ok x) servers grew saw desk same told tree fault = tt
ended-after start middle new first second after levels of_desk seen_desk (Err f) servers grew saw desk same told tree fault =
    let with_desk : HasSeenServers middle second (2 ^ levels - 1) =
    subst (λ (o : JournalsView). HasSeenServers o second (2 ^ levels - 1)) (sym grew)
    (subst (λ (c : CallerView). HasSeenServers (journals_with start parts.Desk of_desk) c (2 ^ levels - 1)) (sym saw) (servers-desk start first (2 ^ levels - 1) seen_desk of_desk servers)) in
    ended-at new after parts.View fault.0 f tt (before-view middle new second after levels (seen_of after parts.View) with_desk desk same told (ap (λ (o : JournalsView). o.levels) same ∙ tree))
    (subst (λ (o : JournalsView). IsPullFault o parts.View fault.0 (seen_of after parts.View) f) (sym same) fault.1)
