-- What clap finds in the words of `tqd` where it finds no fault with them.
use Rattle.std.proofs.Common.{◌≡◌, ◌∙◌, inl, inr, ◌++◌, ◌||◌, ℕ, Bool, true, false, not, cond, List, [], ◌∷◌, Option, Some, None, is_some, map, refl, sym, ap, subst, slice_get, codes, arith}
use Rattle.std.specs.{Prelude.{pos, option_map, option_and_then}, Str.bytes_eq}
use Rattle.clap.specs.{Kinds.{check_kinds, value_kinds, values_kinds}, Values.read_as, ValueTests.accepts}
use Rattle.clap.specs.{Walk.{Row, Rule, Text, answers_to, many_of, nothing_held, stop_after}, Takes.is_given}
use Rattle.clap.specs.Simple.{Shape, argument_words, built, built_leaf, entered, filled, help_rule, inherited, label_of, marked_built, names_of, rows_at, with_index, with_leaf_noted}
use Rattle.clap.specs.{Faults.{entered_fault, fault_of, level_fault}, Words.{subcommand_of, without_minus}}
use Rattle.clap.specs.declared.builder.value_parser.Reading.{Reading, TheVariants.{AsWritten, WithoutMinus}}
use Rattle.clap.{specs.declared.builder.value_parser.ValueParser.ValueParser, proofs.ValueTestLemmas.accepts-Accepts}
use Rattle.clap.specs.declared.builder.value_parser.ValueParser.TheVariants as vp
use Rattle.tq_cli.specs.TqdWords.{CanAsk, CanAskLast, CanAskPart, CanBePart, CanBeServer, HasLimit, HasLimits, HasText, part_app, rehearse_app, server_app, tqd_app}
use Rattle.tq_cli.proofs.ParseLaws.{Each, Keeps, both_none, level_kept}
use Rattle.tq_cli.proofs.RuleLaws.{AreNamed, IsClean, help_keeps, other_keeps, row_given, row_or_none, rows_found, not_found, none_asks, set_keeps, some_kind, sub_by, taken, first_byte}
use Rattle.tq_cli.proofs.CommandLaws.{AreRanged, given_by, level_clean, number_given, number_help, number_keeps, number_other, numbers, passed_by, wanted_by}

-- there is a value
abbrev pub IsThere : List Text → Reading → Type 0
IsThere values how = (first : Text) × (more : List Text) × (values ≡ first ∷ more)

text_grows : (values more : List Text) (how : Reading) → IsThere values how → IsThere (values ++ more) how
text_grows values more how old = (old.0, old.1 ++ more, ap (λ l. l ++ more) old.2)

text_fits : (values : List Text) (how : Reading) → IsClean 1 None values → IsThere values how
text_fits [] how clean = absurd (some_kind _ _ clean.0)
text_fits (first ∷ more) how clean = (first, more, refl)

module _ (name : Text) where
  abbrev pub AreTexts : List Row → Type 0
  AreTexts rows = AreNamed name IsThere rows

  pub text_keeps : (long : Option Text) (is_required again : Bool) → Keeps AreTexts again (taken name long 1 None is_required)
  text_keeps long is_required again = set_keeps name IsThere text_grows name long 1 None is_required again (λ values clean same. text_fits values AsWritten clean)

  pub text_other : (id : Text) (long : Option Text) (names : ℕ) (parser : Option ValueParser) (is_required again : Bool) → bytes_eq id name ≡ false → Keeps AreTexts again (taken id long names parser is_required)
  text_other id long names parser is_required again other = other_keeps name IsThere text_grows id long names parser is_required again other

  pub text_help : (again : Bool) → Keeps AreTexts again (with_index 1 (filled help_rule))
  text_help again = help_keeps name IsThere text_grows again

  pub text_given : (rows : List Row) → AreTexts rows → is_given name rows ≡ true → HasText name rows
  text_given rows each given =
      let row = row_given name IsThere text_grows rows each given in
      (row.2.0, ap (λ found. option_and_then (λ (r : Row). slice_get r.values 0) found) row.1 ∙ ap (λ values. slice_get values 0) row.2.2)

-- three values passed the range of limits
abbrev limit : ValueParser
limit = vp.Signed (pos 1) (pos 1000000)

abbrev pub AreThree : List Text → Reading → Type 0
AreThree values how =
    (a b c : Text) × (more : List Text) × (values ≡ a ∷ b ∷ c ∷ more) × (accepts false limit a ≡ true) × (accepts false limit b ≡ true) × (accepts false limit c ≡ true) × (how ≡ WithoutMinus)

three_grow : (values more : List Text) (how : Reading) → AreThree values how → AreThree (values ++ more) how
three_grow values more how old = (old.0, old.1, old.2, old.3 ++ more, ap (λ l. l ++ more) old.4, old.5, old.6, old.7, old.8)

three_fit : (values : List Text) → IsClean 3 (Some limit) values → AreThree values WithoutMinus
three_fit [] clean = absurd (some_kind _ _ clean.0)
three_fit (a ∷ []) clean = absurd (some_kind _ _ clean.0)
three_fit (a ∷ b ∷ []) clean = absurd (some_kind _ _ clean.0)
three_fit (a ∷ b ∷ c ∷ more) clean =
    let first = both_none (value_kinds false limit a) (values_kinds false limit (b ∷ c ∷ more)) clean.1 in
    let second = both_none (value_kinds false limit b) (values_kinds false limit (c ∷ more)) first.1 in
    let third = both_none (value_kinds false limit c) (values_kinds false limit more) second.1 in
    (a, b, c, more, refl, passed_by (accepts false limit a) first.0, passed_by (accepts false limit b) second.0, passed_by (accepts false limit c) third.0, refl)

abbrev levels : Text
levels = codes "levels"

abbrev log : Text
log = codes "log"

abbrev limits : Text
limits = codes "limits"

abbrev number : Text
number = codes "server"

abbrev AreLimited : List Row → Type 0
AreLimited rows = AreNamed limits AreThree rows

has_limit : (text : Text) (more : List Text) → accepts false limit text ≡ true → HasLimit (without_minus text ∷ more)
has_limit text more passed = (text, more, refl, accepts-Accepts false limit text passed)

limits_in : (rows : List Row) → AreLimited rows → HasLimits (many_of limits rows)
limits_in rows each = elim (row_or_none limits AreThree three_grow rows each) [
  | inl none ↦ subst HasLimits (sym (ap (option_map (λ (r : Row). map (read_as r.reading) r.values)) none)) tt
  | inr row ↦
      let is = row.2 in
      let texts : many_of limits rows ≡ Some (without_minus is.0 ∷ without_minus is.1 ∷ without_minus is.2 ∷ map without_minus is.3) =
      ap (option_map (λ (r : Row). map (read_as r.reading) r.values)) row.1
      ∙ ap (λ how. Some (map (read_as how) row.0.values)) is.8 ∙ ap (λ values. Some (map (read_as WithoutMinus) values)) is.4 in
      subst HasLimits (sym texts) (
        has_limit is.0 (without_minus is.1 ∷ without_minus is.2 ∷ map without_minus is.3) is.5,
        has_limit is.1 (without_minus is.2 ∷ map without_minus is.3) is.6,
        has_limit is.2 (map without_minus is.3) is.7,
      )
]

-- ---- the subcommands as clap builds them

abbrev above : Shape
above = with_leaf_noted (marked_built tqd_app.top)

abbrev below : Shape → Shape
below shape = built_leaf (inherited above shape)

abbrev help : Rule
help = with_index 1 (filled help_rule)

-- the number of a server
abbrev server_number : Rule
server_number = taken number None 1 (numbers 1 1023) true

-- the options of a part before these rules
abbrev options : List Rule → List Rule
options rules = taken levels (Some levels) 1 (numbers 1 10) true ∷ taken log (Some log) 1 None true ∷ taken limits (Some limits) 3 (Some limit) false ∷ rules

levels_keep : (rules : List Rule) → Each (Keeps (AreRanged levels 1 10) false) rules → Each (Keeps (AreRanged levels 1 10) false) (options rules)
levels_keep rules others = (number_keeps levels 1 10 (Some levels) true false, (number_other levels 1 10 log (Some log) 1 None true false refl, (number_other levels 1 10 limits (Some limits) 3 (Some limit) false false refl, others)))

log_keeps : (rules : List Rule) → Each (Keeps (AreTexts log) false) rules → Each (Keeps (AreTexts log) false) (options rules)
log_keeps rules others = (text_other log levels (Some levels) 1 (numbers 1 10) true false refl, (text_keeps log (Some log) true false, (text_other log limits (Some limits) 3 (Some limit) false false refl, others)))

limits_other : (id : Text) (long : Option Text) (names : ℕ) (parser : Option ValueParser) (is_required : Bool) → bytes_eq id limits ≡ false → Keeps AreLimited false (taken id long names parser is_required)
limits_other id long names parser is_required other = other_keeps limits AreThree three_grow id long names parser is_required false other

limits_keep : (rules : List Rule) → Each (Keeps AreLimited false) rules → Each (Keeps AreLimited false) (options rules)
limits_keep rules others = (
  limits_other levels (Some levels) 1 (numbers 1 10) true refl,
  (limits_other log (Some log) 1 None true refl, (set_keeps limits AreThree three_grow limits (Some limits) 3 (Some limit) false false (λ values clean same. three_fit values clean), others)),
)

-- what is wanted of a part was given
part_given : (of_levels of_log : Bool) → check_kinds false false (not of_levels || (not of_log || (false || (false || false)))) ≡ [] → (of_levels ≡ true) × (of_log ≡ true)
part_given true true clean = (refl, refl)
part_given true false clean = absurd (some_kind _ _ clean)
part_given false of_log clean = absurd (some_kind _ _ clean)

server_given : (of_levels of_log of_number : Bool) → check_kinds false false (not of_levels || (not of_log || (false || (not of_number || (false || false))))) ≡ [] → (of_levels ≡ true) × (of_log ≡ true) × (of_number ≡ true)
server_given true true true clean = (refl, refl, refl)
server_given true true false clean = absurd (some_kind _ _ clean)
server_given true false of_number clean = absurd (some_kind _ _ clean)
server_given false of_log of_number clean = absurd (some_kind _ _ clean)

abbrev part : Text → Shape
part name = below (part_app name).top

part_can : (name : Text) (words : List Text) → level_fault (part name) [] nothing_held words false [] ≡ [] → CanBePart (rows_at (part name) words).1
part_can name words clean =
    let rows = (rows_at (part name) words).1 in
    let of_levels = level_kept (AreRanged levels 1 10) (part name) (levels_keep (help ∷ []) (number_help levels 1 10 false, tt)) [] nothing_held words false [] clean tt in
    let of_log = level_kept (AreTexts log) (part name) (log_keeps (help ∷ []) (text_help log false, tt)) [] nothing_held words false [] clean tt in
    let of_limits = level_kept AreLimited (part name) (limits_keep (help ∷ []) (help_keeps limits AreThree three_grow false, tt)) [] nothing_held words false [] clean tt in
    let given = part_given (is_given levels rows) (is_given log rows) of_levels.1 in
    (number_given levels 1 10 rows of_levels.0 given.0, text_given log rows of_log.0 given.1, limits_in rows of_limits.0)

abbrev server : Shape
server = below server_app.top

server_can : (words : List Text) → level_fault server [] nothing_held words false [] ≡ [] → CanBeServer (rows_at server words).1
server_can words clean =
    let rows = (rows_at server words).1 in
    let more = server_number ∷ help ∷ [] in
    let of_levels = level_kept (AreRanged levels 1 10) server (levels_keep more (number_other levels 1 10 number None 1 (numbers 1 1023) true false refl, (number_help levels 1 10 false, tt))) [] nothing_held words false [] clean tt in
    let of_log = level_kept (AreTexts log) server (log_keeps more (text_other log number None 1 (numbers 1 1023) true false refl, (text_help log false, tt))) [] nothing_held words false [] clean tt in
    let of_limits = level_kept AreLimited server (limits_keep more (limits_other number None 1 (numbers 1 1023) true refl, (help_keeps limits AreThree three_grow false, tt))) [] nothing_held words false [] clean tt in
    let of_number = level_kept (AreRanged number 1 1023) server
    (number_other number 1 1023 levels (Some levels) 1 (numbers 1 10) true false refl, (number_other number 1 1023 log (Some log) 1 None true false refl, (number_other number 1 1023 limits (Some limits) 3 (Some limit) false false refl, (number_keeps number 1 1023 None true false, (number_help number 1 1023 false, tt)))))
    [] nothing_held words false [] clean tt in
    let given = server_given (is_given levels rows) (is_given log rows) (is_given number rows) of_levels.1 in
    (number_given number 1 1023 rows of_number.0 given.2, (number_given levels 1 10 rows of_levels.0 given.0, text_given log rows of_log.0 given.1, limits_in rows of_limits.0))

abbrev rehearse : Shape
rehearse = below rehearse_app.top

rehearse_has_file : (words : List Text) → level_fault rehearse [] nothing_held words false [] ≡ [] → HasText (codes "file") (rows_at rehearse words).1
rehearse_has_file words clean =
    let rows = (rows_at rehearse words).1 in
    let file = codes "file" in
    let kept = level_kept (AreTexts file) rehearse (text_keeps file None true false, (text_help file false, tt)) [] nothing_held words false [] clean tt in
    text_given file rows kept.0 (given_by (is_given file rows) kept.1)

stop_asks : (stop : Option (Text × List Text)) → entered_fault (built tqd_app) stop ≡ [] → is_some (entered (built tqd_app) stop) ≡ true → CanAsk (entered (built tqd_app) stop)
stop_asks None clean there = absurd cc
stop_asks (Some p) clean there =
    let is_server = answers_to p.0 (label_of server) in
    let desk = codes "desk" in
    let view = codes "view" in
    let is_desk = answers_to p.0 (label_of (part desk)) in
    let is_view = answers_to p.0 (label_of (part view)) in
    let last = cond is_view (Some (part view)) None in
    let of_desk = cond is_desk (Some (part desk)) last in
    let of_server = cond is_server (Some server) of_desk in
    sub_by p.1 CanAsk rehearse (answers_to p.0 (label_of rehearse)) of_server (λ c. inl ((rows_at rehearse p.1).1, refl, rehearse_has_file p.1 c))
    (sub_by p.1 CanAsk server is_server of_desk (λ c. inr (inl ((rows_at server p.1).1, refl, server_can p.1 c)))
    (sub_by p.1 CanAsk (part desk) is_desk last (λ c. inr (inr (inl ((rows_at (part desk) p.1).1, refl, part_can desk p.1 c))))
    (sub_by p.1 CanAsk (part view) is_view None (λ c. inr (inr (inr ((rows_at (part view) p.1).1, refl, part_can view p.1 c)))) (λ c t. none_asks p.1 CanAsk t)))) clean there

-- words without a fault name a subcommand, with the options that it needs
pub can_ask : (words : List Text) → fault_of tqd_app words ≡ [] → CanAsk (subcommand_of tqd_app words)
can_ask words clean =
    let stop = stop_after (built tqd_app).top.rules (names_of (built tqd_app)) (argument_words tqd_app words) in
    let end = level_clean _ (entered_fault (built tqd_app) stop) _ _ _ clean in
    stop_asks stop end.0 (wanted_by (is_some (entered (built tqd_app) stop)) end.1)

-- the rows of a server, where one was found
pub server_rows : (found : Option (Text × List Row)) (rows : List Row) → CanAskPart found → option_map (λ (p : Text × List Row). p.0) found ≡ Some (codes "server") → option_map (λ (p : Text × List Row). p.1) found ≡ Some rows → CanBeServer rows
server_rows found rows can name is = elim can [
  | inl server ↦ rows_found (codes "server") CanBeServer found rows server is
  | inr last ↦ elim last [
    | inl desk ↦ absurd (not_found (codes "desk") (codes "server") CanBePart found (λ (e : first_byte (Some (codes "desk")) ≡ first_byte (Some (codes "server"))). omega (arith, e)) desk name)
    | inr view ↦ absurd (not_found (codes "view") (codes "server") CanBePart found (λ (e : first_byte (Some (codes "view")) ≡ first_byte (Some (codes "server"))). omega (arith, e)) view name)
  ]
]

-- and those of the desk or the view
pub last_rows : (found : Option (Text × List Row)) (rows : List Row) → CanAskLast found → option_map (λ (p : Text × List Row). p.1) found ≡ Some rows → CanBePart rows
last_rows found rows can is = elim can [
  | inl desk ↦ rows_found (codes "desk") CanBePart found rows desk is
  | inr view ↦ rows_found (codes "view") CanBePart found rows view is
]

-- one of the two was found
pub no_other : (found : Option (Text × List Row)) (name : Option Text) → CanAskLast found → option_map (λ (p : Text × List Row). p.0) found ≡ name → (name ≡ Some (codes "desk") → ⊥) → (name ≡ Some (codes "view") → ⊥) → ⊥
no_other found name can is no_desk no_view = elim can [
  | inl desk ↦ no_desk (sym is ∙ ap (option_map (λ (p : Text × List Row). p.0)) desk.1)
  | inr view ↦ no_view (sym is ∙ ap (option_map (λ (p : Text × List Row). p.0)) view.1)
]
