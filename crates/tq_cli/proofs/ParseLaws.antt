-- What each use of an argument keeps, a parse without a fault keeps.
use Rattle.std.proofs.Common.{◌≡◌, ◌&&◌, subst, ℕ, zero, suc, Bool, true, false, cond, List, [], ◌∷◌, Option, Some, None, is_some, refl, length, fold, slice_get, drop}
use Rattle.std.specs.{Prelude.encode_utf8, List.find, Option.option_map_or, Str.{bytes_eq, chars}}
use Rattle.clap.specs.{Lexer.{long_of, short_of}, Kinds.{Kinds, or_else}, Simple.Shape}
use Rattle.clap.specs.Walk.{Held, Names, Outcome, Row, Rule, Step, Text, Waiting, Walk, after_flag, after_step, arg_by_id, arg_by_index, arg_by_long, arg_by_short, attached_value, bundle, bundle_met, bundle_step, done, finished, flag_met, idle, is_pending, long_met, long_or_other, next, option, option_met, option_word, plain, plain_word, positional, pushed, reacted, refused, settled, settled_rows, short_met, short_or_plain, subcommand, subcommand_met, subcommand_or_other, takes_several, takes_values, to_positional, trailing, used, used_by_id, value, waits, walk, walk_from, walked, walked_from, with_default, word_met}
use Rattle.clap.specs.Faults.{bundle_fault, bundle_step_fault, default_fault, defaults_fault, flag_word_fault, flags_fault, level_fault, long_fault, option_fault, other_fault, positional_fault, react_fault, settle_fault, short_fault, step_fault, stray_fault, bundle_fault, check_fault, turn_fault, use_fault, walk_fault, word_fault}
use Rattle.clap.specs.declared.error.kind.ErrorKind.TheVariants as kind

-- of two faults neither came
pub both_none : (first second : Kinds) → or_else first second ≡ [] → (first ≡ []) × (second ≡ [])
both_none [] second is = (refl, is)
both_none (kind ∷ kinds) second is = absurd cc

-- a fact of each rule
abbrev pub Each : (Rule → Type 0) → List Rule → Type 0
Each Q [] = Unit {0}
Each Q (rule ∷ rules) = Q rule × Each Q rules

found_by : (Q : Rule → Type 0) (first rule : Rule) (is_first : Bool) (later : Option Rule) → Q first → (later ≡ Some rule → Q rule) → cond is_first (Some first) later ≡ Some rule → Q rule
found_by Q first rule true later here there is =
    let same : first ≡ rule = cc in
    subst Q same here
found_by Q first rule false later here there is = there is

each_found : (Q : Rule → Type 0) (test : Rule → Bool) (rules : List Rule) (rule : Rule) → Each Q rules → find test rules ≡ Some rule → Q rule
each_found Q test [] rule each is = absurd cc
each_found Q test (first ∷ rules) rule each is = found_by Q first rule (test first) (find test rules) each.0 (each_found Q test rules rule each.1) is

-- a use of the rule without a fault, and its default, keep what holds of the rows
abbrev pub Keeps : (List Row → Type 0) → Bool → Rule → Type 0
Keeps P again rule = (
    (values : List Text) (rows : List Row) → use_fault again rule values rows ≡ [] → P rows → P (used rule values rows))
    × ((rows : List Row) → default_fault rows rule ≡ [] → P rows → P (with_default rows rule))

module _ (P : List Row → Type 0) (again : Bool) (rules : List Rule) (keeps : Each (Keeps P again) rules) where
  use_found : (test : Rule → Bool) (rule : Rule) → find test rules ≡ Some rule → Keeps P again rule
  use_found test rule is = each_found (Keeps P again) test rules rule keeps is

  used_kept : (id : Text) (values : List Text) (rows : List Row) (found : Option Rule) → arg_by_id rules id ≡ found → option_map_or (λ a. use_fault again a values rows) found [] ≡ [] → P rows → P (used_by_id found values rows)
  used_kept id values rows None is clean kept = kept
  used_kept id values rows (Some rule) is clean kept = (use_found _ rule is).0 values rows clean kept

  pending_kept : (pending : Option (Text × List Text)) (rows : List Row) → option_map_or (λ p. option_map_or (λ a. use_fault again a p.1 rows) (arg_by_id rules p.0) []) pending [] ≡ [] → P rows → P (settled_rows rules pending rows)
  pending_kept None rows clean kept = kept
  pending_kept (Some p) rows clean kept = used_kept p.0 p.1 rows (arg_by_id rules p.0) refl clean kept

  settled_kept : (held : Held) → settle_fault rules again held ≡ [] → P held.rows → P (settled rules held).rows
  settled_kept held clean kept = pending_kept held.pending held.rows clean kept

  reacted_kept : (rule : Rule) (values : List Text) (held : Held) → Keeps P again rule → react_fault rules again rule values held ≡ [] → P held.rows → P (reacted rules rule values held).rows
  reacted_kept rule values held keep clean kept =
      let both = both_none (settle_fault rules again held) (use_fault again rule values (settled rules held).rows) clean in
      keep.0 values (settled rules held).rows both.1 (settled_kept held both.0 kept)

  option_kept : (rule : Rule) (given : Option Text) (held : Held) → Keeps P again rule → option_fault rules again rule given held ≡ [] → P held.rows → P (option_met rules rule given held).0.rows
  option_kept rule (Some text) held keep clean kept = reacted_kept rule (text ∷ []) held keep clean kept
  option_kept rule None held keep clean kept = settled_kept held clean kept

  long_kept_by : (takes : Bool) (rule : Rule) (given : Option Text) (held : Held) → Keeps P again rule
      → cond takes (option_fault rules again rule given held) (cond (is_some given) (kind.TooManyValues ∷ []) (react_fault rules again rule [] held)) ≡ []
      → P held.rows → P (cond takes (option_met rules rule given held) (flag_met rules rule given held)).0.rows
  long_kept_by true rule given held keep clean kept = option_kept rule given held keep clean kept
  long_kept_by false rule (Some text) held keep clean kept = absurd cc
  long_kept_by false rule None held keep clean kept = reacted_kept rule [] held keep clean kept

  long_kept : (found : Option Rule) (name : Text) (given : Option Text) (held : Held) → arg_by_long rules name ≡ found → long_fault rules again found given held ≡ [] → P held.rows → P (long_met rules found given held).0.rows
  long_kept None name given held is clean kept = kept
  long_kept (Some rule) name given held is clean kept = long_kept_by (takes_values rule) rule given held (use_found _ rule is) clean kept

  -- flags in one word
  short_kept_by : (takes : Bool) (rule : Rule) (rest : Text) (held : Held) (after : Held → Held × Outcome) (fault : Held → Kinds) → Keeps P again rule
      → ((h : Held) → fault h ≡ [] → P h.rows → P (after h).0.rows)
      → cond takes (option_fault rules again rule (attached_value rest) held) (or_else (react_fault rules again rule [] held) (fault (reacted rules rule [] held))) ≡ []
      → P held.rows → P (cond takes (option_met rules rule (attached_value rest) held) (after (reacted rules rule [] held))).0.rows
  short_kept_by true rule rest held after fault keep later clean kept = option_kept rule (attached_value rest) held keep clean kept
  short_kept_by false rule rest held after fault keep later clean kept =
      let both = both_none (react_fault rules again rule [] held) (fault (reacted rules rule [] held)) clean in
      later (reacted rules rule [] held) both.1 (reacted_kept rule [] held keep both.0 kept)

  short_kept : (found : Option Rule) (letter : ℕ) (rest : Text) (held : Held) (after : Held → Held × Outcome) (fault : Held → Kinds) → arg_by_short rules letter ≡ found
      → ((h : Held) → fault h ≡ [] → P h.rows → P (after h).0.rows)
      → short_fault rules again found rest held fault ≡ [] → P held.rows → P (short_met rules found rest held after).0.rows
  short_kept None letter rest held after fault is later clean kept = kept
  short_kept (Some rule) letter rest held after fault is later clean kept = short_kept_by (takes_values rule) rule rest held after fault (use_found _ rule is) later clean kept

  bundle_step_kept : (first : Option ℕ) (flags : Text) (skip : ℕ) (so_far : Outcome) (held : Held) (after : Text → ℕ → Outcome → Held → Held × Outcome) (fault : Text → ℕ → Held → Kinds)
      → ((f : Text) (n : ℕ) (o : Outcome) (h : Held) → fault f n h ≡ [] → P h.rows → P (after f n o h).0.rows)
      → bundle_step_fault rules again first flags skip held fault ≡ [] → P held.rows → P (bundle_step rules first flags skip so_far held after).0.rows
  bundle_step_kept None flags skip so_far held after fault later clean kept = kept
  bundle_step_kept (Some letter) flags zero so_far held after fault later clean kept =
      let rest = drop (length (encode_utf8 letter)) flags in
      short_kept (arg_by_short rules letter) letter rest held (after rest 0 done) (fault rest 0) refl (λ h c k. later rest 0 done h c k) clean kept
  bundle_step_kept (Some letter) flags (suc skip) so_far held after fault later clean kept = later (drop (length (encode_utf8 letter)) flags) skip so_far held clean kept

  flags_kept : (count : ℕ) (flags : Text) (skip : ℕ) (so_far : Outcome) (held : Held) → flags_fault rules again count flags skip held ≡ [] → P held.rows → P (bundle_met rules count flags skip so_far held).0.rows
  unfolding flags_fault bundle_met
  flags_kept zero flags skip so_far held clean kept = kept
  flags_kept (suc count) flags skip so_far held clean kept =
      bundle_step_kept (slice_get (chars flags) 0) flags skip so_far held (bundle_met rules count) (flags_fault rules again count) (flags_kept count) clean kept

  -- a word
  option_word_kept : (found : Option Rule) (id word : Text) (held : Held) → P held.rows → P (option_word found id word held).0.rows
  option_word_kept None id word held kept = kept
  option_word_kept (Some rule) id word held kept = kept

  plain_kept : (waiting : Waiting) (word : Text) (held : Held) → P held.rows → P (plain_word rules waiting word held).0.rows
  plain_kept idle word held kept = kept
  plain_kept (option id) word held kept = option_word_kept (arg_by_id rules id) id word held kept
  plain_kept positional word held kept = kept

  after_flag_kept : (outcome : Outcome) (waiting : Waiting) (word : Text) (held : Held) → P held.rows → P (after_flag rules waiting word held outcome).0.rows
  after_flag_kept done waiting word held kept = kept
  after_flag_kept (waits id) waiting word held kept = kept
  after_flag_kept plain waiting word held kept = plain_kept waiting word held kept
  after_flag_kept refused waiting word held kept = plain_kept waiting word held kept

  short_word_kept : (flags : Option Text) (waiting : Waiting) (word : Text) (held : Held) → option_map_or (λ f. bundle_fault rules again f held) flags [] ≡ [] → P held.rows → P (short_or_plain rules waiting word flags held).0.rows
  short_word_kept None waiting word held clean kept = plain_kept waiting word held kept
  short_word_kept (Some flags) waiting word held clean kept =
      after_flag_kept (bundle rules flags held).1 waiting word (bundle rules flags held).0 (flags_kept (length flags) flags held.skip plain (record held { skip = 0 }) clean kept)

  flag_word_kept : (long : Option (Text × Option Text)) (waiting : Waiting) (word : Text) (held : Held) → flag_word_fault rules again long word held ≡ [] → P held.rows → P (long_or_other rules waiting word long held).0.rows
  flag_word_kept (Some p) waiting word held clean kept =
      after_flag_kept (long_met rules (arg_by_long rules p.0) p.1 held).1 waiting word (long_met rules (arg_by_long rules p.0) p.1 held).0 (long_kept (arg_by_long rules p.0) p.0 p.1 held refl clean kept)
  flag_word_kept None waiting word held clean kept = short_word_kept (short_of word) waiting word held clean kept

module _ (P : List Row → Type 0) (shape : Shape) (keeps : Each (Keeps P shape.args_override_self) shape.rules) where
  other_word_kept_by : (is_end : Bool) (waiting : Waiting) (position : ℕ) (word : Text) (held : Held)
      → cond is_end [] (flag_word_fault shape.rules shape.args_override_self (long_of word) word held) ≡ []
      → P held.rows → P (cond is_end (held, trailing position) (long_or_other shape.rules waiting word (long_of word) held)).0.rows
  other_word_kept_by true waiting position word held clean kept = kept
  other_word_kept_by false waiting position word held clean kept = flag_word_kept P shape.args_override_self shape.rules keeps (long_of word) waiting word held clean kept

  other_word_kept : (met : Option Text) (waiting : Waiting) (position : ℕ) (word : Text) (held : Held) → other_fault shape met word held ≡ [] → P held.rows → P (subcommand_or_other shape.rules met waiting position word held).0.rows
  other_word_kept (Some name) waiting position word held clean kept = kept
  other_word_kept None waiting position word held clean kept = other_word_kept_by (bytes_eq word (45 ∷ 45 ∷ [])) waiting position word held clean kept

  word_kept : (is_trailing : Bool) (names : Names) (waiting : Waiting) (position : ℕ) (word : Text) (held : Held) → word_fault shape names is_trailing waiting word held ≡ [] → P held.rows → P (word_met shape.rules names is_trailing waiting position word held).0.rows
  word_kept true names waiting position word held clean kept = kept
  word_kept false names waiting position word held clean kept = other_word_kept (subcommand_met names waiting word) waiting position word held clean kept

  positional_kept_by : (stays : Bool) (rule : Rule) (word : Text) (held : Held) → cond stays [] (settle_fault shape.rules shape.args_override_self held) ≡ [] → P held.rows → P (pushed rule.id word (cond stays held (settled shape.rules held))).rows
  positional_kept_by true rule word held clean kept = kept
  positional_kept_by false rule word held clean kept = settled_kept P shape.args_override_self shape.rules keeps held clean kept

  value_kept : (found : Option Rule) (word : Text) (walk : Walk) (held : Held) → option_map_or (λ a. positional_fault shape.rules shape.args_override_self a held) found (stray_fault shape) ≡ [] → P held.rows → P (to_positional shape.rules found word walk held).held.rows
  value_kept None word walk held clean kept = kept
  value_kept (Some rule) word walk held clean kept = positional_kept_by (is_pending rule held.pending && takes_several rule) rule word held clean kept

  step_kept : (step : Step) (word : Text) (walk : Walk) (held : Held) → step_fault shape walk.position held step ≡ [] → P held.rows → P (after_step shape.rules word walk held step).held.rows
  step_kept (next waiting) word walk held clean kept = kept
  step_kept (trailing position) word walk held clean kept = kept
  step_kept (subcommand name) word walk held clean kept = kept
  step_kept value word walk held clean kept = value_kept (arg_by_index shape.rules walk.position) word walk held clean kept

  turn_kept_by : (stopped : Option (Text × List Text)) (names : Names) (walk : Walk) (word : Text)
      → (let met = word_met shape.rules names walk.is_trailing walk.waiting walk.position word walk.held in
      cond (is_some stopped) [] (or_else (word_fault shape names walk.is_trailing walk.waiting word walk.held) (step_fault shape walk.position met.0 met.1))) ≡ []
      → P walk.held.rows → P (walked_from shape.rules names stopped walk word).held.rows
  turn_kept_by (Some p) names walk word clean kept = kept
  turn_kept_by None names walk word clean kept =
      let met = word_met shape.rules names walk.is_trailing walk.waiting walk.position word walk.held in
      let both = both_none (word_fault shape names walk.is_trailing walk.waiting word walk.held) (step_fault shape walk.position met.0 met.1) clean in
      step_kept met.1 word walk met.0 both.1 (word_kept walk.is_trailing names walk.waiting walk.position word walk.held both.0 kept)

  turn_kept : (names : Names) (walk : Walk) (word : Text) → turn_fault shape names walk word ≡ [] → P walk.held.rows → P (walked shape.rules names walk word).held.rows
  unfolding walked
  turn_kept names walk word clean kept = turn_kept_by walk.stopped names walk word clean kept

  walk_kept : (words : List Text) (names : Names) (from : Walk) → walk_fault shape names from words ≡ [] → P from.held.rows → P (fold (walked shape.rules names) from words).held.rows
  unfolding walk_fault
  walk_kept [] names from clean kept = kept
  walk_kept (word ∷ words) names from clean kept =
      let both = both_none (turn_fault shape names from word) (walk_fault shape names (walked shape.rules names from word) words) clean in
      walk_kept words names (walked shape.rules names from word) both.1 (turn_kept names from word both.0 kept)

  defaults_kept : (rules : List Rule) (rows : List Row) → Each (Keeps P shape.args_override_self) rules → defaults_fault rows rules ≡ [] → P rows → P (fold with_default rows rules)
  unfolding defaults_fault
  defaults_kept [] rows each clean kept = kept
  defaults_kept (rule ∷ rules) rows each clean kept =
      let both = both_none (default_fault rows rule) (defaults_fault (with_default rows rule) rules) clean in
      defaults_kept rules (with_default rows rule) each.1 both.1 (each.0.1 rows both.0 kept)

  -- the rows at the end of a command's words, and that its last checks passed
  pub level_kept : (names : Names) (held : Held) (words : List Text) (has_subcommand : Bool) (below : Kinds) → level_fault shape names held words has_subcommand below ≡ [] → P held.rows
      → P (finished shape.rules (walk shape.rules names held words).held) × (check_fault shape (finished shape.rules (walk shape.rules names held words).held) has_subcommand ≡ [])
  level_kept names held words has_subcommand below clean kept =
      let end = (walk shape.rules names held words).held in
      let walked_well = both_none (walk_fault shape names (walk_from held) words) _ clean in
      let below_well = both_none below _ walked_well.1 in
      let settled_well = both_none (settle_fault shape.rules shape.args_override_self end) _ below_well.1 in
      let given_well = both_none (defaults_fault (settled shape.rules end).rows shape.rules) _ settled_well.1 in
      let rows = walk_kept words names (walk_from held) walked_well.0 kept in (
        defaults_kept shape.rules (settled shape.rules end).rows keeps given_well.0 (settled_kept P shape.args_override_self shape.rules keeps end settled_well.0 rows),
        given_well.1,
      )
