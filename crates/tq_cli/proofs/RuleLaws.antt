-- What the uses of arguments leave in the rows, and the subcommands that words name.
use Rattle.std.proofs.Common.{◌≡◌, ◌∙◌, ◌⊎◌, inl, inr, ◌++◌, ℕ, Bool, true, false, cond, List, [], ◌∷◌, Option, Some, None, is_some, length, refl, sym, ap, subst, codes, get_or}
use Rattle.std.specs.{Prelude.{unwrap_or, nat_lt, option_map}, List.find, Option.option_map_or, Str.bytes_eq}
use Rattle.clap.specs.{Facts.explicit_source, Kinds.{Kinds, range_kinds, values_kinds}, Values.reading_of}
use Rattle.clap.specs.Walk.{Row, Rule, Text, at_row, has_row, more_values, nothing_held, used, with_values, without}
use Rattle.clap.specs.{Takes.is_given, Simple.{Shape, filled, help_rule, rows_at, with_index}}
use Rattle.clap.specs.Faults.{level_fault, repeat_fault, set_fault, use_fault}
use Rattle.clap.specs.declared.builder.value_parser.{Reading.Reading, ValueParser.ValueParser}
use Rattle.clap.specs.declared.{error.kind.ErrorKind.ErrorKind, parser.matches.ValueSource.ValueSource}
use Rattle.clap.specs.declared.parser.matches.ValueSource.TheVariants.{CommandLine}
use Rattle.clap.specs.declared.builder.value_parser.ValueParser.TheVariants as vp
use Rattle.clap.specs.declared.error.kind.ErrorKind.TheVariants as kinds
use Rattle.tq_cli.{specs.Command.{IsFound, set_rule}, proofs.ParseLaws.{Keeps, both_none}}

-- a fact of each row
abbrev pub EachRow : (Row → Type 0) → List Row → Type 0
EachRow Q [] = Unit {0}
EachRow Q (row ∷ rows) = Q row × EachRow Q rows

EachRow-append : (Q : Row → Type 0) (rows more : List Row) → EachRow Q rows → EachRow Q more → EachRow Q (rows ++ more)
EachRow-append Q [] more each others = others
EachRow-append Q (row ∷ rows) more each others = (each.0, EachRow-append Q rows more each.1 others)

at_row_by : (Q : Row → Type 0) (row : Row) (rows changed others : List Row) (is : Bool) → Q row → EachRow Q rows → EachRow Q changed → EachRow Q others → EachRow Q (cond is (changed ++ rows) (row ∷ others))
at_row_by Q row rows changed others true here each changes later = EachRow-append Q changed rows changes each
at_row_by Q row rows changed others false here each changes later = (here, later)

at_row_keeps : (Q : Row → Type 0) (id : Text) (change : Row → List Row) (missing rows : List Row) → ((row : Row) → Q row → EachRow Q (change row)) → EachRow Q missing → EachRow Q rows → EachRow Q (at_row id change missing rows)
at_row_keeps Q id change missing [] changes new each = new
at_row_keeps Q id change missing (row ∷ rows) changes new each =
    at_row_by Q row rows (change row) (at_row id change missing rows) (bytes_eq row.id id) each.0 each.1 (changes row each.0) (at_row_keeps Q id change missing rows changes new each.1)

found_by : (Q : Row → Type 0) (name : Text) (first row : Row) (later : Option Row) (named : Bool) → bytes_eq first.id name ≡ named → Q first → (later ≡ Some row → Q row × (bytes_eq row.id name ≡ true)) → cond named (Some first) later ≡ Some row → Q row × (bytes_eq row.id name ≡ true)
found_by Q name first row later true named here there is =
    let same : first ≡ row = cc in
    let P : Row → Type 0 = λ r. Q r × (bytes_eq r.id name ≡ true) in
    subst P same (here, named)
found_by Q name first row later false named here there is = there is

row_found : (Q : Row → Type 0) (name : Text) (rows : List Row) (row : Row) → EachRow Q rows → find (λ r. bytes_eq r.id name) rows ≡ Some row → Q row × (bytes_eq row.id name ≡ true)
row_found Q name [] row each is = absurd cc
row_found Q name (first ∷ rows) row each is = found_by Q name first row (find (λ r. bytes_eq r.id name) rows) (bytes_eq first.id name) refl each.0 (row_found Q name rows row each.1) is

pub some_kind : (kind : ErrorKind) (kinds : Kinds) → kind ∷ kinds ≡ [] → ⊥
some_kind kind kinds is = absurd cc

rows_by : (P : List Row → Type 0) (rows : List Row) (has : Bool) → P rows → P (cond has rows rows)
rows_by P rows true kept = kept
rows_by P rows false kept = kept

pub differs : (is : Bool) → is ≡ false → is ≡ true → ⊥
differs true other same = absurd cc
differs false other same = absurd cc

-- so many values are wanted of an argument with so many names
abbrev pub wanted : ℕ → ℕ
wanted names = cond (nat_lt 1 names) names 1

-- an argument as clap fills it in
abbrev pub taken : Text → Option Text → ℕ → Option ValueParser → Bool → Rule
taken id long names parser is_required = with_index 1 (filled (set_rule id long names parser is_required))

-- what its values pass
abbrev pub parser_in : Option ValueParser → ValueParser
parser_in parser = unwrap_or parser vp.String

-- values without a fault
abbrev pub IsClean : ℕ → Option ValueParser → List Text → Type 0
IsClean names parser values = (range_kinds (wanted names) (wanted names) (length values) ≡ []) × (values_kinds false (parser_in parser) values ≡ [])

-- what holds of the values under a name, and of more of them
module _ (name : Text) (Q : List Text → Reading → Type 0) where
  abbrev Named : Row → Type 0
  Named row = bytes_eq row.id name ≡ true → Q row.values row.reading

  abbrev pub AreNamed : List Row → Type 0
  AreNamed rows = EachRow Named rows

module _ (name : Text) (Q : List Text → Reading → Type 0) (grows : (values more : List Text) (how : Reading) → Q values how → Q (values ++ more) how) where
  with_named : (id : Text) (how : Reading) (source : ValueSource) (values : List Text) (rows : List Row) → (bytes_eq id name ≡ true → Q values how) → AreNamed name Q rows → AreNamed name Q (with_values id how source values rows)
  with_named id how source values rows fits each =
      at_row_keeps (Named name Q) id (more_values source values) (record { id = id; values = values; count = None; source = Some source; reading = how } ∷ []) rows
      (λ row named. (λ same. grows row.values values row.reading (named same), tt)) (fits, tt) each

  without_named : (id : Text) (rows : List Row) → AreNamed name Q rows → AreNamed name Q (without id rows)
  without_named id rows each = at_row_keeps (Named name Q) id (λ row. []) [] rows (λ row named. tt) tt each

  module _ (id : Text) (long : Option Text) (names : ℕ) (parser : Option ValueParser) (is_required again : Bool)
      (fits : (values : List Text) → IsClean names parser values → bytes_eq id name ≡ true → Q values (reading_of (parser_in parser))) where
    set_used : (values : List Text) (rows : List Row) → set_fault again (taken id long names parser is_required) values rows ≡ [] → range_kinds (wanted names) (wanted names) (length values) ≡ [] → AreNamed name Q rows
        → AreNamed name Q (with_values id (reading_of (parser_in parser)) CommandLine values (without id rows))
    set_used values rows clean counted each =
        let once = both_none (repeat_fault again id rows) (values_kinds false (parser_in parser) values) clean in
        with_named id (reading_of (parser_in parser)) CommandLine values (without id rows) (fits values (counted, once.1)) (without_named id rows each)

    used_keeps : (values : List Text) (rows : List Row) → use_fault again (taken id long names parser is_required) values rows ≡ [] → AreNamed name Q rows → AreNamed name Q (used (taken id long names parser is_required) values rows)
    used_keeps [] rows clean each =
        let counted = both_none (range_kinds (wanted names) (wanted names) 0) (set_fault again (taken id long names parser is_required) [] rows) clean in
        set_used [] rows counted.1 counted.0 each
    used_keeps (first ∷ more) rows clean each =
        let counted = both_none (range_kinds (wanted names) (wanted names) (length (first ∷ more))) (set_fault again (taken id long names parser is_required) (first ∷ more) rows) clean in
        set_used (first ∷ more) rows counted.1 counted.0 each

    pub set_keeps : Keeps (AreNamed name Q) again (taken id long names parser is_required)
    set_keeps = (used_keeps, λ rows clean each. rows_by (AreNamed name Q) rows (has_row id rows) each)

  -- an argument of another name keeps the rows of this one
  pub other_keeps : (id : Text) (long : Option Text) (names : ℕ) (parser : Option ValueParser) (is_required again : Bool) → bytes_eq id name ≡ false → Keeps (AreNamed name Q) again (taken id long names parser is_required)
  other_keeps id long names parser is_required again other = set_keeps id long names parser is_required again (λ values clean same. absurd (differs (bytes_eq id name) other same))

  -- `--help` is a fault
  pub help_keeps : (again : Bool) → Keeps (AreNamed name Q) again (with_index 1 (filled help_rule))
  help_keeps again = (
    λ values rows clean each. absurd (some_kind _ _ (both_none (range_kinds 0 0 (length values)) (kinds.DisplayHelp ∷ []) clean).1),
    λ rows clean each. rows_by (AreNamed name Q) rows (has_row (codes "help") rows) each,
  )

  pub named_found : (rows : List Row) (row : Row) → AreNamed name Q rows → find (λ r. bytes_eq r.id name) rows ≡ Some row → Q row.values row.reading
  named_found rows row each is =
      let here = row_found (Named name Q) name rows row each is in
      here.0 here.1

  given_by : (rows : List Row) (found : Option Row) → AreNamed name Q rows → find (λ r. bytes_eq r.id name) rows ≡ found → option_map_or (λ r. explicit_source r.source) found false ≡ true
      → (row : Row) × (find (λ r. bytes_eq r.id name) rows ≡ Some row) × Q row.values row.reading
  given_by rows None each is given = absurd cc
  given_by rows (Some row) each is given = (row, is, named_found rows row each is)

  -- the row of what was given
  pub row_given : (rows : List Row) → AreNamed name Q rows → is_given name rows ≡ true → (row : Row) × (find (λ r. bytes_eq r.id name) rows ≡ Some row) × Q row.values row.reading
  row_given rows each given = given_by rows (find (λ r. bytes_eq r.id name) rows) each refl given

  may_by : (rows : List Row) (found : Option Row) → AreNamed name Q rows → find (λ r. bytes_eq r.id name) rows ≡ found
      → (find (λ r. bytes_eq r.id name) rows ≡ None) ⊎ ((row : Row) × (find (λ r. bytes_eq r.id name) rows ≡ Some row) × Q row.values row.reading)
  may_by rows None each is = inl is
  may_by rows (Some row) each is = inr (row, is, named_found rows row each is)

  -- the row of what may be given
  pub row_or_none : (rows : List Row) → AreNamed name Q rows → (find (λ r. bytes_eq r.id name) rows ≡ None) ⊎ ((row : Row) × (find (λ r. bytes_eq r.id name) rows ≡ Some row) × Q row.values row.reading)
  row_or_none rows each = may_by rows (find (λ r. bytes_eq r.id name) rows) each refl

-- ---- subcommands

-- a subcommand that the words may name, before others
module _ (words : List Text) where
  abbrev IsCleanly : Option Shape → Type 0
  IsCleanly found = option_map_or (λ s. level_fault s [] nothing_held words false []) found [] ≡ []

  abbrev with_rows : Option Shape → Option (Text × List Row)
  with_rows found = option_map (λ s. rows_at s words) found

  pub sub_by : (Asks : Option (Text × List Row) → Type 0) (shape : Shape) (is : Bool) (later : Option Shape) → (level_fault shape [] nothing_held words false [] ≡ [] → Asks (Some (rows_at shape words)))
      → (IsCleanly later → is_some (with_rows later) ≡ true → Asks (with_rows later)) → IsCleanly (cond is (Some shape) later) → is_some (with_rows (cond is (Some shape) later)) ≡ true → Asks (with_rows (cond is (Some shape) later))
  sub_by Asks shape true later here others clean there = here clean
  sub_by Asks shape false later here others clean there = others clean there

  pub none_asks : (Asks : Option (Text × List Row) → Type 0) → is_some (with_rows None) ≡ true → Asks (with_rows None)
  none_asks Asks there = absurd cc

-- what was found under a name

pub rows_found : (name : Text) (Holds : List Row → Type 0) (found : Option (Text × List Row)) (rows : List Row) → IsFound name Holds found → option_map (λ (p : Text × List Row). p.1) found ≡ Some rows → Holds rows
rows_found name Holds found rows is named =
    let same : Some is.0 ≡ Some rows = ap (option_map (λ (p : Text × List Row). p.1)) (sym is.1) ∙ named in
    let equal : is.0 ≡ rows = cc in
    subst Holds equal is.2

-- what was found under that name, with such rows
pub found_as : (name : Text) (Holds : List Row → Type 0) (found : Option (Text × List Row)) (rows : List Row) → option_map (λ (p : Text × List Row). p.0) found ≡ Some name → option_map (λ (p : Text × List Row). p.1) found ≡ Some rows → Holds rows → IsFound name Holds found
found_as name Holds None rows named is holds = absurd cc
found_as name Holds (Some p) rows named is holds =
    let same : p.0 ≡ name = cc in
    let equal : p.1 ≡ rows = cc in
    let first : Some p ≡ Some (name, p.1) = subst (λ (n : Text). Some p ≡ Some (n, p.1)) same refl in
    (rows, subst (λ (r : List Row). Some p ≡ Some (name, r)) equal first, holds)

-- where nothing was found under that name, it was found otherwise
pub found_else : (name : Text) (Holds : List Row → Type 0) (Other : Type 0) (found : Option (Text × List Row)) → IsFound name Holds found ⊎ Other → (option_map (λ (p : Text × List Row). p.0) found ≡ Some name → ⊥) → Other
found_else name Holds Other found can unnamed = elim can [
  | inl here ↦ absurd (unnamed (ap (option_map (λ (p : Text × List Row). p.0)) here.1))
  | inr other ↦ other
]

abbrev pub first_byte : Option Text → ℕ
first_byte None = 0
first_byte (Some text) = get_or text 0 0

-- nothing is found under two names with another first byte
pub not_found : (name other : Text) (Holds : List Row → Type 0) (found : Option (Text × List Row)) → (first_byte (Some name) ≡ first_byte (Some other) → ⊥) → IsFound name Holds found → option_map (λ (p : Text × List Row). p.0) found ≡ Some other → ⊥
not_found name other Holds found differ is named =
    let same : Some name ≡ Some other = ap (option_map (λ (p : Text × List Row). p.0)) (sym is.1) ∙ named in
    differ (ap first_byte same)
