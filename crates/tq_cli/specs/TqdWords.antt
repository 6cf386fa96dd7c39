-- The words of `tqd`, as clap reads them.
use Rattle.std.specs.Prelude.{◌≡◌, ◌⊎◌, ℕ, true, false, List, ◌∷◌, [], Option, Some, None, pos, codes, drop, option_map, slice_get, unwrap_or}
use Rattle.std.specs.Str.Parse.{digits_value, without_leading_plus}
use Rattle.clap.specs.Words.{App, IsSignedIn, Row, Rule, Text, fault_of, many_of, new_app, subcommand_of, with_rule, with_subcommand, without_minus}
use Rattle.clap.specs.Walk.{first_of}
use Rattle.clap.specs.declared.builder.value_parser.ValueParser.TheVariants as vp
use Rattle.tq_cli.specs.Command.{HasNumber, IsFound, IsGiven, levels_rule, set_rule, top_app}
use Rattle.tq_cli.specs.declared.tqd_words.{GivenLimits.GivenLimits, PartOptions.PartOptions, TqdWords.TqdWords}
use Rattle.tq_cli.specs.declared.tqd_words.TqdWords.TheVariants.{Rehearsal, Server, Desk, View}

-- a file, which is wanted
abbrev pub file_rule : Rule
file_rule = set_rule (codes "file") None 1 None true

-- the number of a server, which is wanted
abbrev pub server_rule : Rule
server_rule = set_rule (codes "server") None 1 (Some (vp.Signed (pos 1) (pos 1023))) true

-- the file of a log, which is wanted
abbrev pub log_rule : Rule
log_rule = set_rule (codes "log") (Some (codes "log")) 1 None true

-- three limits, or none
abbrev pub limits_rule : Rule
limits_rule = set_rule (codes "limits") (Some (codes "limits")) 3 (Some (vp.Signed (pos 1) (pos 1000000))) false

-- `rehearse FILE`
abbrev pub rehearse_app : App
rehearse_app = with_rule (new_app (codes "rehearse")) file_rule

-- `NAME --levels N --log FILE`
abbrev pub part_app_with_log : Text → App
part_app_with_log name = with_rule (with_rule (new_app name) levels_rule) log_rule

-- `NAME --levels N --log FILE [--limits FILES OPS ENTRIES]`
abbrev pub part_app : Text → App
part_app name = with_rule (part_app_with_log name) limits_rule

-- the same of a server, with its number
abbrev pub server_app : App
server_app = with_rule (part_app (codes "server")) server_rule

-- the program with its first subcommand alone
abbrev pub app_with_rehearsal : App
app_with_rehearsal = with_subcommand (top_app (codes "tqd")) rehearse_app.top

-- the program with its first two subcommands
abbrev pub app_with_server : App
app_with_server = with_subcommand app_with_rehearsal server_app.top

-- the program with its first three subcommands
abbrev pub app_with_desk : App
app_with_desk = with_subcommand app_with_server (part_app (codes "desk")).top

-- the program's words
abbrev pub tqd_app : App
tqd_app = with_subcommand app_with_desk (part_app (codes "view")).top

-- the text that was given under this name
abbrev pub IsText : Text → List Row → Text → Type 0
IsText name rows text = first_of name rows ≡ Some text

abbrev pub HasText : Text → List Row → Type 0
HasText name rows = (text : Text) × IsText name rows text

-- the number that the first of the texts spells, and the most where there are none
abbrev pub first_number : ℕ → Option (List Text) → ℕ
first_number most None = most
first_number most (Some texts) = digits_value 10 (without_leading_plus (unwrap_or (slice_get texts 0) []))

-- the limits are those that were given, or the greatest
abbrev pub AreLimits : Option (List Text) → GivenLimits → Type 0
AreLimits given limits =
    (limits.files ≡ first_number 1000 given) × (limits.ops ≡ first_number 64 (option_map (drop 1) given)) × (limits.entries ≡ first_number 1000000 (option_map (drop 2) given))

-- the options of a part say this
abbrev pub AreOptions : List Row → PartOptions → Type 0
AreOptions rows options =
    IsGiven (codes "levels") rows options.levels × IsText (codes "log") rows options.log.now × AreLimits (many_of (codes "limits") rows) options.limits

-- the first of the texts is a number in the range of limits
abbrev pub HasLimit : List Text → Type 0
HasLimit texts = (text : Text) × (more : List Text) × (texts ≡ without_minus text ∷ more) × IsSignedIn (pos 1) (pos 1000000) text

-- three such numbers come first
abbrev pub HasLimits : Option (List Text) → Type 0
HasLimits None = Unit {0}
HasLimits (Some texts) = HasLimit texts × HasLimit (drop 1 texts) × HasLimit (drop 2 texts)

-- the options of a part are such that they can be read
abbrev pub CanBePart : List Row → Type 0
CanBePart rows = HasNumber (codes "levels") 1 10 rows × HasText (codes "log") rows × HasLimits (many_of (codes "limits") rows)

abbrev pub CanBeServer : List Row → Type 0
CanBeServer rows = HasNumber (codes "server") 1 1023 rows × CanBePart rows

-- the subcommand that was found, with its options, asks for this
abbrev pub AsksFor : Option (Text × List Row) → TqdWords → Type 0
AsksFor found (Rehearsal file) = IsFound (codes "rehearse") (λ rows. IsText (codes "file") rows file.now) found
AsksFor found (Server number options) = IsFound (codes "server") (λ rows. IsGiven (codes "server") rows number × AreOptions rows options) found
AsksFor found (Desk options) = IsFound (codes "desk") (λ rows. AreOptions rows options) found
AsksFor found (View options) = IsFound (codes "view") (λ rows. AreOptions rows options) found

-- a subcommand of the program was found, with the options that it needs: the desk or the view; or a server; or a rehearsal
abbrev pub CanAskLast : Option (Text × List Row) → Type 0
CanAskLast found = IsFound (codes "desk") CanBePart found ⊎ IsFound (codes "view") CanBePart found

abbrev pub CanAskPart : Option (Text × List Row) → Type 0
CanAskPart found = IsFound (codes "server") CanBeServer found ⊎ CanAskLast found

abbrev pub CanAsk : Option (Text × List Row) → Type 0
CanAsk found = IsFound (codes "rehearse") (HasText (codes "file")) found ⊎ CanAskPart found

-- clap finds no fault with the words, and this is what they ask for
abbrev pub IsRead : List Text → TqdWords → Type 0
IsRead words read = (fault_of tqd_app words ≡ []) × AsksFor (subcommand_of tqd_app words) read
