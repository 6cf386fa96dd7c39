-- A copy that is written adds and ends no vote. The copies that a list of records stands for, after more records. The
-- copies that a list keeps, each as the first of the file's records with the greatest version.
use Rattle.std.proofs.Common.{◌≡◌, ℕ, Bool, false, cond, ◌||◌, List, [], ◌∷◌, ◌++◌, map, Option, Some, None, refl, ap, sym, subst, ◌∙◌, append_assoc, ◌+◌, ◌-◌, take, length, get_or, true, ◌&&◌, ◌<◌, ◌≤◌, filter, arith, nat_lt, nat_le, ◌==◌, max}
use Rattle.std.proofs.lemmas.{List.{append-nil, take_more}, List.Elements.filter-append, Bool.Decides.nat_tests}
use Rattle.std.specs.{List.{list_any, filter_map, cons_option, AllByRecursion, find}, Ordering.{nat_cmp, eq_by_cmp}}
use Rattle.std.specs.{Cmp.Lexicographic.{nat_list_cmp_total, pointwise, texts_ties}, Option.option_map}
use Rattle.std.specs.FinMap.{nat_cmp-IsAntisymmetric, slice_cmp-IsAntisymmetric, same_map}
use Rattle.std.specs.FinMap as fin
use Rattle.tq_store.specs.declared.{write.Write.Write, copies.FileCopy.FileCopy}
use Rattle.tq_store.specs.Copies.{Files, OnlyRises, name_cmp, copy_at, copy_of, copy_in, copies_after_install, installed_all, is_newer}
use Rattle.tq_store.proofs.Installed.{arrives, at_name, get-installed, put_where, rises-installed, rises_then}
use Rattle.tq_intents.specs.Kept.{IsIndex, ends_vote, write_of, lock_of, opened_vote, open_votes, kept_votes, kept_copies, with_copy, with_record, vote_records, KeepsNewest, copy_to, greatest_version, newest, newer_first}
use Rattle.tq_intents.specs.declared.record.{OpenVote.OpenVote, Record.Record, KeptLock.KeptLock}
use Rattle.tq_intents.specs.declared.record.Record.TheVariants.{Copy, Intent, Keep, Prepared, Gone}

pub push_none : {X Y : Type 0} (f : X → Option Y) (xs : List X) (x : X) → f x ≡ None → filter_map f (xs ++ x ∷ []) ≡ filter_map f xs
push_none f [] x e = ap (λ o. cons_option o []) e
push_none f (y ∷ ys) x e = ap (cons_option (f y)) (push_none f ys x e)

push_false : {X : Type 0} (p : X → Bool) (xs : List X) (x : X) → p x ≡ false → list_any p (xs ++ x ∷ []) ≡ list_any p xs
push_false p [] x e = ap (λ b. b || false) e
push_false p (y ∷ ys) x e = ap (λ b. p y || b) (push_false p ys x e)

same_opened : (list : List Record) (write : Write) (r : Record) → opened_vote (list ++ Copy write ∷ []) r ≡ opened_vote list r
same_opened list write (Copy other) = refl
same_opened list write (Intent t n other) = refl
same_opened list write (Keep t n lock) = refl
same_opened list write (Gone t n) = refl
same_opened list write (Prepared t n) = λ i.
    cond (push_false (ends_vote t n) list (Copy write) refl i) None
    (Some (t, record { number = n; writes = push_none (write_of t n) list (Copy write) refl i; locks = push_none (lock_of t n) list (Copy write) refl i }))

pub open_votes-push_copy : (list : List Record) (write : Write) → open_votes (list ++ Copy write ∷ []) ≡ open_votes list
open_votes-push_copy list write =
    ap (λ (f : Record → Option (ℕ × OpenVote)). filter_map f (list ++ Copy write ∷ [])) (λ i r. same_opened list write r i)
    ∙ push_none (opened_vote list) list (Copy write) refl

pub kept_votes-push_copy : (list : List Record) (write : Write) → kept_votes (list ++ Copy write ∷ []) ≡ kept_votes list
kept_votes-push_copy list write = ap (λ es. fin.from_entries {R = nat_cmp} es) (open_votes-push_copy list write)

-- each entry is the one of its key
abbrev pub AreOneEach : List (ℕ × OpenVote) → Type 0
AreOneEach es = AllByRecursion (λ e. fin.get (fin.from_entries {R = nat_cmp} es) e.0 ≡ Some e.1) es

pub IsIndex-push_copy : (old new : List Record) (entries : List (ℕ × OpenVote)) (write : Write) → new ≡ old ++ Copy write ∷ [] → IsIndex old entries → IsIndex new entries
IsIndex-push_copy old new entries write e h =
    record { one_each = subst AreOneEach (sym (ap open_votes e ∙ open_votes-push_copy old write)) h.one_each; each = λ txn. h.each txn ∙ ap (λ (m : fin.FinMap nat_cmp OpenVote). fin.get m txn) (sym (ap kept_votes e ∙ kept_votes-push_copy old write)) }

-- ---- more than one copy

pub open_votes-push_copies : (writes : List Write) (list : List Record) → open_votes (list ++ map Copy writes) ≡ open_votes list
open_votes-push_copies [] list = ap open_votes (append-nil list)
open_votes-push_copies (write ∷ writes) list =
    ap open_votes (sym (append_assoc list (Copy write ∷ []) (map Copy writes)))
    ∙ open_votes-push_copies writes (list ++ Copy write ∷ [])
    ∙ open_votes-push_copy list write

-- ---- copies push

-- what it has with an earlier record in front
abbrev pub fronted : FileCopy → Option FileCopy → Option FileCopy
fronted first had = cond (nat_lt 0 first.version && nat_le (copy_at had).version first.version) (Some first) had

-- at one file the two may be swapped
pub fronted-arrives : (first copy : FileCopy) (had : Option FileCopy) → fronted first (arrives had copy) ≡ arrives (fronted first had) copy
fronted-arrives first copy None = grind (arith, nat_tests)
fronted-arrives first copy (Some c) = grind (arith, nat_tests)

pub get-with_copy : (write : Write) (files : Files) (q : List ℕ) → fin.get (with_copy write files) q ≡ cond (eq_by_cmp name_cmp q write.file) (fronted (copy_in write) (fin.get files q)) (fin.get files q)
get-with_copy write files q =
    put_where files write.file (copy_in write) q (nat_lt 0 write.version && nat_le (copy_of files write.file).version write.version)
    ∙ at_name files write.file q (λ had. cond (nat_lt 0 write.version && nat_le (copy_at had).version write.version) (Some (copy_in write)) (fin.get files q)) (eq_by_cmp name_cmp q write.file) refl (fin.get files q)

both_ways : (d e : Bool) (first copy : FileCopy) (had : Option FileCopy) → cond d (fronted first (cond e (arrives had copy) had)) (cond e (arrives had copy) had) ≡ cond e (arrives (cond d (fronted first had) had) copy) (cond d (fronted first had) had)
both_ways true true first copy had = fronted-arrives first copy had
both_ways true false first copy had = refl
both_ways false true first copy had = refl
both_ways false false first copy had = refl

with_copy-installed : (write : Write) (files : Files) (name : List ℕ) (copy : FileCopy) → with_copy write (copies_after_install files name copy) ≡ copies_after_install (with_copy write files) name copy
with_copy-installed write files name copy = same_map nat_list_cmp_total (slice_cmp-IsAntisymmetric nat_cmp-IsAntisymmetric) _ _ (λ q.
    get-with_copy write (copies_after_install files name copy) q
    ∙ ap (λ had. cond (eq_by_cmp name_cmp q write.file) (fronted (copy_in write) had) had) (get-installed files name copy q)
    ∙ both_ways (eq_by_cmp name_cmp q write.file) (eq_by_cmp name_cmp q name) (copy_in write) copy (fin.get files q)
    ∙ ap (λ had. cond (eq_by_cmp name_cmp q name) (arrives had copy) had) (sym (get-with_copy write files q))
    ∙ sym (get-installed (with_copy write files) name copy q))

first_copy : (version : ℕ) → (nat_lt 0 version && nat_le 0 version) ≡ nat_lt 0 version
first_copy version = grind (arith, nat_tests)

first_installed : (write : Write) → with_copy write fin.empty ≡ copies_after_install fin.empty write.file (copy_in write)
first_installed write =
    ap (λ had. cond (nat_lt 0 write.version && nat_le (copy_at had).version write.version) (fin.insert fin.empty write.file (copy_in write)) fin.empty) (fin.get-empty name_cmp write.file)
    ∙ ap (λ b. cond b (fin.insert fin.empty write.file (copy_in write)) fin.empty) (first_copy write.version)
    ∙ ap (λ had. cond (nat_lt (copy_at had).version write.version) (fin.insert fin.empty write.file (copy_in write)) fin.empty) (sym (fin.get-empty name_cmp write.file))

-- a copy that is written last is installed
pub kept_copies-push_copy : (list : List Record) (write : Write) → kept_copies (list ++ Copy write ∷ []) ≡ copies_after_install (kept_copies list) write.file (copy_in write)
kept_copies-push_copy [] write = first_installed write
kept_copies-push_copy (Copy first ∷ rest) write = ap (with_copy first) (kept_copies-push_copy rest write) ∙ with_copy-installed first (kept_copies rest) write.file (copy_in write)
kept_copies-push_copy (Intent t n first ∷ rest) write = kept_copies-push_copy rest write
kept_copies-push_copy (Keep t n lock ∷ rest) write = kept_copies-push_copy rest write
kept_copies-push_copy (Prepared t n ∷ rest) write = kept_copies-push_copy rest write
kept_copies-push_copy (Gone t n ∷ rest) write = kept_copies-push_copy rest write

-- copies that are written last are installed
pub kept_copies-push_copies : (writes : List Write) (list : List Record) → kept_copies (list ++ map Copy writes) ≡ installed_all (kept_copies list) writes
kept_copies-push_copies [] list = ap kept_copies (append-nil list)
kept_copies-push_copies (write ∷ writes) list =
    ap kept_copies (sym (append_assoc list (Copy write ∷ []) (map Copy writes)))
    ∙ kept_copies-push_copies writes (list ++ Copy write ∷ [])
    ∙ ap (λ (files : Files). installed_all files writes) (kept_copies-push_copy list write)

-- records that have no copy leave the copies
pub kept_copies-others : (list more : List Record) → kept_copies more ≡ fin.empty → kept_copies (list ++ more) ≡ kept_copies list
kept_copies-others [] more e = e
kept_copies-others (Copy first ∷ rest) more e = ap (with_copy first) (kept_copies-others rest more e)
kept_copies-others (Intent t n first ∷ rest) more e = kept_copies-others rest more e
kept_copies-others (Keep t n lock ∷ rest) more e = kept_copies-others rest more e
kept_copies-others (Prepared t n ∷ rest) more e = kept_copies-others rest more e
kept_copies-others (Gone t n ∷ rest) more e = kept_copies-others rest more e

-- one more record
pub kept_copies-push : (list : List Record) (r : Record) → kept_copies (list ++ r ∷ []) ≡ with_record (kept_copies list) r
kept_copies-push list (Copy write) = kept_copies-push_copy list write
kept_copies-push list (Intent t n write) = kept_copies-others list (Intent t n write ∷ []) refl
kept_copies-push list (Keep t n lock) = kept_copies-others list (Keep t n lock ∷ []) refl
kept_copies-push list (Prepared t n) = kept_copies-others list (Prepared t n ∷ []) refl
kept_copies-push list (Gone t n) = kept_copies-others list (Gone t n ∷ []) refl

-- the copies that the first records keep, from record to record
pub kept_copies-more : (list : List Record) (i : ℕ) (r : Record) → i < length list → r ≡ get_or list i r → kept_copies (take (i + 1) list) ≡ with_record (kept_copies (take i list)) r
kept_copies-more list i r h e = ap kept_copies (take_more list i r h ∙ ap (λ x. take i list ++ x ∷ []) (sym e)) ∙ kept_copies-push (take i list) r

kept_copies-locks : (t n : ℕ) (locks : List KeptLock) → kept_copies (map (Keep t n) locks ++ Prepared t n ∷ []) ≡ fin.empty
kept_copies-locks t n [] = refl
kept_copies-locks t n (lock ∷ locks) = kept_copies-locks t n locks

pub kept_copies-vote : (t n : ℕ) (writes : List Write) (locks : List KeptLock) → kept_copies (vote_records t n writes locks) ≡ fin.empty
kept_copies-vote t n [] locks = kept_copies-locks t n locks
kept_copies-vote t n (write ∷ writes) locks = kept_copies-vote t n writes locks

-- ---- the writes that are not newer change nothing

older : (a b c : ℕ) → nat_lt a c ≡ false → a ≤ b → nat_lt b c ≡ false
older a b c h k = grind (arith, nat_tests, h, k)

skipped : (start now : Files) (write : Write) → OnlyRises start now → is_newer start write ≡ false → now ≡ copies_after_install now write.file (copy_in write)
skipped start now write r h = sym (ap (λ b. cond b (fin.insert now write.file (copy_in write)) now) (older _ _ write.version h (r write.file)))

newer_step : (start now : Files) (write : Write) (rest : List Write) (b : Bool) → is_newer start write ≡ b → OnlyRises start now → installed_all (copies_after_install now write.file (copy_in write)) (filter (is_newer start) rest) ≡ installed_all (copies_after_install now write.file (copy_in write)) rest
    → installed_all now (cond b (write ∷ filter (is_newer start) rest) (filter (is_newer start) rest)) ≡ installed_all (copies_after_install now write.file (copy_in write)) rest
newer_step start now write rest true h r f = f
newer_step start now write rest false h r f = ap (λ files. installed_all files (filter (is_newer start) rest)) (skipped start now write r h) ∙ f

newer_from : (start now : Files) (writes : List Write) → OnlyRises start now → installed_all now (filter (is_newer start) writes) ≡ installed_all now writes
newer_from start now [] r = refl
newer_from start now (write ∷ rest) r =
    newer_step start now write rest (is_newer start write) refl r
    (newer_from start (copies_after_install now write.file (copy_in write)) rest (λ q. rises_then _ _ _ (r q) (rises-installed now write.file (copy_in write) q)))

pub installed_all-newer : (files : Files) (writes : List Write) → installed_all files (filter (is_newer files) writes) ≡ installed_all files writes
installed_all-newer files writes = newer_from files files writes (λ q. omega arith)

-- the last of the first writes, which is above the copies or not
pub newer_first-last : (files : Files) (writes : List Write) (count : ℕ) (write : Write) (b : Bool) → 0 < count → count ≤ length writes → write ≡ get_or writes (count - 1) write → is_newer files write ≡ b
    → newer_first count files writes ≡ newer_first (count - 1) files writes ++ cond b (write ∷ []) []
newer_first-last files writes count write b some within at is =
    let place = count - 1 in
    let first = take place writes in
    let less : place < length writes = omega arith in
    let more : count ≡ place + 1 = omega arith in
    ap (λ n. newer_first n files writes) more
    ∙ ap (filter (is_newer files)) (take_more writes place write less ∙ ap (λ w. first ++ w ∷ []) (sym at))
    ∙ filter-append (is_newer files) first (write ∷ [])
    ∙ ap (λ b. newer_first place files writes ++ cond b (write ∷ []) []) is

-- writes that come, and one more
pub installed_all-push : (files : Files) (writes : List Write) (write : Write) → installed_all files (writes ++ write ∷ []) ≡ copies_after_install (installed_all files writes) write.file (copy_in write)
installed_all-push files [] write = refl
installed_all-push files (first ∷ rest) write = installed_all-push (copies_after_install files first.file (copy_in first)) rest write

-- ---- newest copies

greater : (v g : ℕ) → (nat_lt 0 v && nat_le g v) ≡ true → max v g ≡ v
greater v g h = grind (arith, nat_tests, h)

greater_test : (v g : ℕ) → (nat_lt 0 v && nat_le g v) ≡ true → (nat_lt 0 v && v == v) ≡ true
greater_test v g h = grind (arith, nat_tests, h)

lesser : (v g : ℕ) → (nat_lt 0 v && nat_le g v) ≡ false → max v g ≡ g
lesser v g h = grind (arith, nat_tests, h)

lesser_test : (v g : ℕ) → (nat_lt 0 v && nat_le g v) ≡ false → (nat_lt 0 v && v == g) ≡ false
lesser_test v g h = grind (arith, nat_tests, h)

-- the file's copy is that of the newest of the writes
pub record IsNewest (had : Option FileCopy) (writes : List Write) : Type 0 where
  pub copy : had ≡ option_map copy_in (newest writes)
  pub version : (copy_at had).version ≡ greatest_version writes

abbrev newest_at : ℕ → List Write → Option Write
newest_at most writes = find (λ write. nat_lt 0 write.version && write.version == most) writes

one_more : (had : Option FileCopy) (write : Write) (writes : List Write) (b : Bool) → (nat_lt 0 write.version && nat_le (greatest_version writes) write.version) ≡ b → IsNewest had writes → IsNewest (cond b (Some (copy_in write)) had) (write ∷ writes)
one_more had write writes true t h = record {
  copy = sym (ap (option_map copy_in)
      (ap (λ most. newest_at most (write ∷ writes)) (greater write.version (greatest_version writes) t)
      ∙ ap (λ (b : Bool). cond b (Some write) (newest_at write.version writes)) (greater_test write.version (greatest_version writes) t)));
  version = sym (greater write.version (greatest_version writes) t);
}
one_more had write writes false t h = record {
  copy = h.copy ∙ sym (ap (option_map copy_in)
      (ap (λ most. newest_at most (write ∷ writes)) (lesser write.version (greatest_version writes) t)
      ∙ ap (λ (b : Bool). cond b (Some write) (newest_at (greatest_version writes) writes)) (lesser_test write.version (greatest_version writes) t)));
  version = h.version ∙ sym (lesser write.version (greatest_version writes) t);
}

-- a record in front, of the file or of another
fronted_newest : (write : Write) (had : Option FileCopy) (writes : List Write) (b : Bool) → IsNewest had writes → IsNewest (cond b (fronted (copy_in write) had) had) (cons_option (cond b (Some write) None) writes)
fronted_newest write had writes false h = h
fronted_newest write had writes true h =
    subst (λ (n : ℕ). IsNewest (cond (nat_lt 0 write.version && nat_le n write.version) (Some (copy_in write)) had) (write ∷ writes)) (sym h.version)
    (one_more had write writes (nat_lt 0 write.version && nat_le (greatest_version writes) write.version) refl h)

IsNewest-get : (list : List Record) (file : List ℕ) → IsNewest (fin.get (kept_copies list) file) (filter_map (copy_to file) list)
IsNewest-get [] file = record { copy = fin.get-empty name_cmp file; version = ap (λ had. (copy_at had).version) (fin.get-empty name_cmp file) }
IsNewest-get (Copy write ∷ later) file =
    let had = fin.get (kept_copies later) file in
    let writes = filter_map (copy_to file) later in
    subst (λ (o : Option FileCopy). IsNewest o (filter_map (copy_to file) (Copy write ∷ later)))
    (sym (get-with_copy write (kept_copies later) file ∙ ap (λ b. cond b (fronted (copy_in write) had) had) (sym (texts_ties file write.file))))
    (fronted_newest write had writes (pointwise (◌==◌) file write.file) (IsNewest-get later file))
IsNewest-get (Intent t n write ∷ later) file = IsNewest-get later file
IsNewest-get (Keep t n lock ∷ later) file = IsNewest-get later file
IsNewest-get (Prepared t n ∷ later) file = IsNewest-get later file
IsNewest-get (Gone t n ∷ later) file = IsNewest-get later file

pub KeepsNewest-all : (list : List Record) → KeepsNewest list
KeepsNewest-all list file = ap copy_at (IsNewest-get list file).copy
