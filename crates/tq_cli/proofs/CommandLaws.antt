-- What clap finds in the program's words where it finds no fault with them.
use Rattle.std.proofs.Common.{◌≡◌, ◌∙◌, ◌⊎◌, inl, inr, ◌++◌, ◌||◌, ◌&&◌, ◌<◌, ◌≤◌, ◌^◌, ℕ, Bool, true, false, not, cond, List, [], ◌∷◌, Option, Some, None, is_some, refl, sym, ap, subst, slice_get, codes, arith}
use Rattle.std.specs.{Prelude.{Box, pos, Ok, Err, Result, option_map, option_and_then, unwrap_or}, List.find}
use Rattle.std.specs.{Result.{IsErrAnd, IfErr}, Str.bytes_eq, Str.Parse.ParsesUnsigned, Box.box_value}
use Rattle.clap.specs.{Kinds.{HasKind, IsAmong, Kinds, check_kinds, or_else, value_kinds, values_kinds}, Takes.is_given}
use Rattle.clap.specs.{Values.{kind_of, read_as}, ValueTests.accepts, Matches.{ReadsOne, one_text}}
use Rattle.clap.specs.Walk.{Row, Text, answers_to, nothing_held, row_text, rows_of, stop_after, without}
use Rattle.clap.specs.Simple.{App, Shape, argument_words, built, entered, filled, help_rule, label_of, names_of, rows_at, with_index}
use Rattle.clap.specs.{Faults.{entered_fault, fault_of, level_fault}, declared.error.Error.Error}
use Rattle.clap.specs.Words.{one_of, subcommand_name_of, subcommand_of, subcommand_rows, subcommand_rows_of, without_minus}
use Rattle.clap.specs.declared.{error.kind.ErrorKind.ErrorKind, builder.value_parser.Reading.Reading}
use Rattle.clap.specs.declared.builder.value_parser.{Reading.TheVariants.WithoutMinus, ValueParser.ValueParser}
use Rattle.clap.specs.declared.parser.matches.{Found.Found, ArgMatches.ArgMatches, SubCommand.SubCommand}
use Rattle.clap.specs.declared.parser.matches.ArgMatches.TheViews.{out-ArgMatches, out-SubCommand}
use Rattle.clap.proofs.{WalkLemmas.one_text-rows, ValueTestLemmas.accepts-Accepts, CallerReads.signed_reads}
use Rattle.clap.specs.declared.builder.value_parser.ValueParser.TheVariants as vp
use Rattle.clap.specs.declared.error.kind.ErrorKind.TheVariants as kinds
use Rattle.tq_cli.{specs.declared.command.WordsFault.WordsFault, proofs.ParseLaws.{Keeps, both_none, level_kept}}
use Rattle.tq_cli.specs.Command.{CanAsk, CanAskBare, CanAskOther, CanBeGiven, IsGivenOrZero, IsRefused, MayHaveNumber, fault_by, fault_for, HasNumber, IsGiven, audit_app, shell_app, threads_app, tq_app, upgrade_app}
use Rattle.tq_cli.proofs.RuleLaws.{AreNamed, IsClean, help_keeps, other_keeps, row_given, row_or_none, rows_found, not_found, none_asks, set_keeps, some_kind, sub_by, taken, first_byte}

pub passed_by : (passes : Bool) → cond passes [] (kinds.ValueValidation ∷ []) ≡ [] → passes ≡ true
passed_by true clean = refl
passed_by false clean = absurd (some_kind _ _ clean)

module _ (least most : ℕ) where
  -- of the values of an option the first passed the range
  abbrev pub Ranged : List Text → Reading → Type 0
  Ranged values how = (first : Text) × (more : List Text) × (values ≡ first ∷ more) × (accepts false (vp.Signed (pos least) (pos most)) first ≡ true) × (how ≡ WithoutMinus)

  pub ranged_grows : (values more : List Text) (how : Reading) → Ranged values how → Ranged (values ++ more) how
  ranged_grows values more how old = (old.0, old.1 ++ more, ap (λ l. l ++ more) old.2, old.3, old.4)

  ranged_fits : (values : List Text) → IsClean 1 (Some (vp.Signed (pos least) (pos most))) values → Ranged values WithoutMinus
  ranged_fits [] clean = absurd (some_kind _ _ clean.0)
  ranged_fits (first ∷ more) clean =
      let parser = vp.Signed (pos least) (pos most) in
      let one = both_none (value_kinds false parser first) (values_kinds false parser more) clean.1 in
      (first, more, refl, passed_by (accepts false parser first) one.0, refl)

module _ (name : Text) (least most : ℕ) where
  abbrev pub AreRanged : List Row → Type 0
  AreRanged rows = AreNamed name (Ranged least most) rows

  pub number_keeps : (long : Option Text) (is_required again : Bool) → Keeps AreRanged again (taken name long 1 (Some (vp.Signed (pos least) (pos most))) is_required)
  number_keeps long is_required again = set_keeps name (Ranged least most) (ranged_grows least most) name long 1 (Some (vp.Signed (pos least) (pos most))) is_required again (λ values clean same. ranged_fits least most values clean)

  -- an argument of another name keeps the rows of this one
  pub number_other : (id : Text) (long : Option Text) (names : ℕ) (parser : Option ValueParser) (is_required again : Bool) → bytes_eq id name ≡ false → Keeps AreRanged again (taken id long names parser is_required)
  number_other id long names parser is_required again other = other_keeps name (Ranged least most) (ranged_grows least most) id long names parser is_required again other

  pub number_help : (again : Bool) → Keeps AreRanged again (with_index 1 (filled help_rule))
  number_help again = help_keeps name (Ranged least most) (ranged_grows least most) again

  number_in : (rows : List Row) (row : Row) → find (λ r. bytes_eq r.id name) rows ≡ Some row → Ranged least most row.values row.reading → HasNumber name least most rows
  number_in rows row is fits =
      let text : row_text row ≡ Some (without_minus fits.0) =
      ap (λ how. option_map (read_as how) (slice_get row.values 0)) fits.4 ∙ ap (λ values. option_map (read_as WithoutMinus) (slice_get values 0)) fits.2 in (
        fits.0,
        ap (λ found. option_and_then row_text found) is ∙ text,
        accepts-Accepts false (vp.Signed (pos least) (pos most)) fits.0 fits.3,
      )

  -- where the option was given its number is there
  pub number_given : (rows : List Row) → AreRanged rows → is_given name rows ≡ true → HasNumber name least most rows
  number_given rows each given =
      let row = row_given name (Ranged least most) (ranged_grows least most) rows each given in
      number_in rows row.0 row.1 row.2

  -- no number is there, or one that passed the range
  pub number_or_none : (rows : List Row) → AreRanged rows → (one_of name rows ≡ None) ⊎ HasNumber name least most rows
  number_or_none rows each = elim (row_or_none name (Ranged least most) (ranged_grows least most) rows each) [
    | inl none ↦ inl (ap (λ found. option_and_then row_text found) none)
    | inr row ↦ inr (number_in rows row.0 row.1 row.2)
  ]

-- the number that is read of an option
pub number_read : (E : Type 0) (G : List ℕ → Result ℕ E → Type 0) (bits : ℕ) (found : Found) (name : Text) (least most : ℕ) (read : Option ℕ)
    → HasNumber name least most (rows_of found) → ((text : List ℕ) → one_text found name ≡ Some text → ReadsOne G text read)
    → ((text : List ℕ) (result : Result ℕ E) → G text result → ParsesUnsigned bits 10 text result) → most < 2 ^ bits
    → (number : ℕ) × (read ≡ Some number) × (least ≤ number) × (number ≤ most) × IsGiven name (rows_of found) number
number_read E G bits found name least most read has reads only fits =
    let one = reads (without_minus has.0) (one_text-rows found name ∙ has.1) in
    let got = signed_reads E G bits least most has.0 read one only fits has.2 in
    let number : ReadsOne G (without_minus has.0) (Some got.0) = subst (λ (r : Option ℕ). ReadsOne G (without_minus has.0) r) got.1 one in
    (got.0, got.1, got.2, got.3, (without_minus has.0, has.1, (only (without_minus has.0) (Ok got.0) number).1))

-- the number that is read of an option that may be left out
pub number_or_zero_read : (E : Type 0) (G : List ℕ → Result ℕ E → Type 0) (bits : ℕ) (found : Found) (name : Text) (most : ℕ) (read : Option ℕ)
    → MayHaveNumber name most (rows_of found) → (one_text found name ≡ None → read ≡ None) → ((text : List ℕ) → one_text found name ≡ Some text → ReadsOne G text read)
    → ((text : List ℕ) (result : Result ℕ E) → G text result → ParsesUnsigned bits 10 text result) → most < 2 ^ bits
    → IsGivenOrZero name most (rows_of found) (unwrap_or read 0)
number_or_zero_read E G bits found name most read has none reads only fits = elim has [
  | inl without ↦
      let nothing : read ≡ None = none (one_text-rows found name ∙ without) in
      rw (nothing, without) (refl, omega arith)
  | inr one ↦
      let got = number_read E G bits found name 0 most read one reads only fits in
      rw (got.1, got.4.1) (got.4.2, got.3)
]

-- `shell` as clap builds it
abbrev shell : Shape
shell = unwrap_or (slice_get (built tq_app).subs 0) shell_app.top

-- and `threads`
abbrev threads : Shape
threads = unwrap_or (slice_get (built tq_app).subs 1) threads_app.top

-- and `audit`
abbrev audit : Shape
audit = unwrap_or (slice_get (built tq_app).subs 2) audit_app.top

-- and `upgrade`
abbrev upgrade : Shape
upgrade = unwrap_or (slice_get (built tq_app).subs 3) upgrade_app.top

pub level_clean : (first below third fourth last : Kinds) → or_else first (or_else below (or_else third (or_else fourth last))) ≡ [] → (below ≡ []) × (last ≡ [])
level_clean first below third fourth last clean =
    let walked = both_none first _ clean in
    let entered = both_none below _ walked.1 in
    let settled = both_none third _ entered.1 in
    (entered.0, (both_none fourth last settled.1).1)

pub given_by : (is : Bool) → check_kinds false false (not is || (false || false)) ≡ [] → is ≡ true
given_by true clean = refl
given_by false clean = absurd (some_kind _ _ clean)

pub wanted_by : (is_there : Bool) → check_kinds (not is_there && false) (not is_there && true) false ≡ [] → is_there ≡ true
wanted_by true clean = refl
wanted_by false clean = absurd (some_kind _ _ clean)

shell_has_levels : (words : List Text) → level_fault shell [] nothing_held words false [] ≡ [] → HasNumber (codes "levels") 1 10 (rows_at shell words).1
shell_has_levels words clean =
    let rows = (rows_at shell words).1 in
    let levels = codes "levels" in
    let kept = level_kept (AreRanged levels 1 10) shell (number_keeps levels 1 10 (Some levels) true false, (number_help levels 1 10 false, tt)) [] nothing_held words false [] clean tt in
    number_given levels 1 10 rows kept.0 (given_by (is_given levels rows) kept.1)

others_given_by : (is : Bool) → check_kinds false false (not is || (false || (false || (false || false)))) ≡ [] → is ≡ true
others_given_by true clean = refl
others_given_by false clean = absurd (some_kind _ _ clean)

-- an option of another name with a number
abbrev pub numbers : ℕ → ℕ → Option ValueParser
numbers least most = Some (vp.Signed (pos least) (pos most))

threads_have : (words : List Text) → level_fault threads [] nothing_held words false [] ≡ [] → CanBeGiven (rows_at threads words).1
threads_have words clean =
    let rows = (rows_at threads words).1 in
    let levels = codes "levels" in
    let workers = codes "workers" in
    let rounds = codes "rounds" in
    let of_levels = level_kept (AreRanged levels 1 10) threads (number_keeps levels 1 10 (Some levels) true false, (number_other levels 1 10 workers (Some workers) 1 (numbers 0 2) false false refl, (number_other levels 1 10 rounds (Some rounds) 1 (numbers 0 1000) false false refl, (number_help levels 1 10 false, tt)))) [] nothing_held words false [] clean tt in
    let of_workers = level_kept (AreRanged workers 0 2) threads (number_other workers 0 2 levels (Some levels) 1 (numbers 1 10) true false refl, (number_keeps workers 0 2 (Some workers) false false, (number_other workers 0 2 rounds (Some rounds) 1 (numbers 0 1000) false false refl, (number_help workers 0 2 false, tt)))) [] nothing_held words false [] clean tt in
    let of_rounds = level_kept (AreRanged rounds 0 1000) threads (number_other rounds 0 1000 levels (Some levels) 1 (numbers 1 10) true false refl, (number_other rounds 0 1000 workers (Some workers) 1 (numbers 0 2) false false refl, (number_keeps rounds 0 1000 (Some rounds) false false, (number_help rounds 0 1000 false, tt)))) [] nothing_held words false [] clean tt in (
      number_given levels 1 10 rows of_levels.0 (others_given_by (is_given levels rows) of_levels.1),
      number_or_none workers 0 2 rows of_workers.0,
      number_or_none rounds 0 1000 rows of_rounds.0,
    )

stop_asks : (stop : Option (Text × List Text)) → entered_fault (built tq_app) stop ≡ [] → is_some (entered (built tq_app) stop) ≡ true → CanAsk (entered (built tq_app) stop)
stop_asks None clean there = absurd cc
stop_asks (Some p) clean there =
    let is_audit = answers_to p.0 (label_of audit) in
    let is_threads = answers_to p.0 (label_of threads) in
    let is_upgrade = answers_to p.0 (label_of upgrade) in
    let last = cond is_upgrade (Some upgrade) None in
    let later = cond is_audit (Some audit) last in
    sub_by p.1 CanAsk shell (answers_to p.0 (label_of shell)) (cond is_threads (Some threads) later) (λ c. inl ((rows_at shell p.1).1, refl, shell_has_levels p.1 c))
    (sub_by p.1 CanAsk threads is_threads later (λ c. inr (inl ((rows_at threads p.1).1, refl, threads_have p.1 c)))
    (sub_by p.1 CanAsk audit is_audit last (λ c. inr (inr (inl ((rows_at audit p.1).1, refl))))
    (sub_by p.1 CanAsk upgrade is_upgrade None (λ c. inr (inr (inr ((rows_at upgrade p.1).1, refl)))) (λ c t. none_asks p.1 CanAsk t)))) clean there

-- words without a fault name a subcommand, with the options that it needs
pub can_ask : (words : List Text) → fault_of tq_app words ≡ [] → CanAsk (subcommand_of tq_app words)
can_ask words clean =
    let stop = stop_after (built tq_app).top.rules (names_of (built tq_app)) (argument_words tq_app words) in
    let end = level_clean _ (entered_fault (built tq_app) stop) _ _ _ clean in
    stop_asks stop end.0 (wanted_by (is_some (entered (built tq_app) stop)) end.1)

-- an error of clap stands for want of memory, or for one of the faults that it finds
refused_as : (app : App) (words : List Text) (error : Error) (kind : ErrorKind) → kind_of error ≡ kind → (kind ≡ kinds.OutOfMemory) ⊎ IsAmong kind (fault_of app words) → IsRefused app words (fault_by kind error)
refused_as app words error kinds.OutOfMemory is has = tt
refused_as app words error kind is has = elim has [
  | inl memory ↦ absurd cc
  | inr among ↦ let P : ErrorKind → Type 0 = λ k. IsAmong k (fault_of app words) in subst P (sym is) among
]

pub refused_by : {T : Type 0} (app : App) (words : List Text) (error : Error) (result : Result T WordsFault) → HasKind (fault_of app words) error → IsErrAnd result (λ fault. fault ≡ fault_for error) → IfErr result (IsRefused app words)
refused_by app words error (Ok done) has is = tt
refused_by app words error (Err fault) has is = subst (IsRefused app words) (sym is) (refused_as app words error (kind_of error) refl has)

name_of : {Z : Type 0} (sub : Option (Box SubCommand Z)) → option_map (λ (p : Text × List Row). p.0) (subcommand_rows sub) ≡ option_map (λ b. (out-SubCommand (box_value b)).name.now) sub
name_of None = refl
name_of (Some sub) = refl

pub name_found : (matches : ArgMatches) → option_map (λ (p : Text × List Row). p.0) (subcommand_rows_of matches) ≡ subcommand_name_of matches
name_found matches = name_of (out-ArgMatches matches).subcommand

abbrev Any : List Row → Type 0
Any rows = Unit {0}

pub threads_given : (found : Option (Text × List Row)) (rows : List Row) → CanAskOther found → option_map (λ (p : Text × List Row). p.0) found ≡ Some (codes "threads") → option_map (λ (p : Text × List Row). p.1) found ≡ Some rows → CanBeGiven rows
threads_given found rows can name is = elim can [
  | inl threads ↦ rows_found (codes "threads") CanBeGiven found rows threads is
  | inr bare ↦ elim bare [
    | inl audit ↦ absurd (not_found (codes "audit") (codes "threads") Any found (λ (e : first_byte (Some (codes "audit")) ≡ first_byte (Some (codes "threads"))). omega (arith, e)) (audit.0, audit.1, tt) name)
    | inr upgrade ↦ absurd (not_found (codes "upgrade") (codes "threads") Any found (λ (e : first_byte (Some (codes "upgrade")) ≡ first_byte (Some (codes "threads"))). omega (arith, e)) (upgrade.0, upgrade.1, tt) name)
  ]
]

pub audit_given : (found : Option (Text × List Row)) → CanAskBare found → option_map (λ (p : Text × List Row). p.0) found ≡ Some (codes "audit") → (rows : List Row) × (found ≡ Some (codes "audit", rows))
audit_given found can name = elim can [
  | inl audit ↦ audit
  | inr upgrade ↦ absurd (not_found (codes "upgrade") (codes "audit") Any found (λ (e : first_byte (Some (codes "upgrade")) ≡ first_byte (Some (codes "audit"))). omega (arith, e)) (upgrade.0, upgrade.1, tt) name)
]
