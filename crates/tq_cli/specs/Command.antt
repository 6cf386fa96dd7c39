-- The words of the command line, as clap reads them.
use Rattle.std.specs.Prelude.{◌≡◌, ◌⊎◌, ◌≤◌, ℕ, Bool, true, false, List, [], map, String, Option, Some, None, pos, codes}
use Rattle.std.specs.{Str.Parse.{digits_value, without_leading_plus}, String.string_bytes}
use Rattle.clap.specs.Words.{App, IsAmong, IsSignedIn, Row, Rule, Text, fault_of, kind_of, new_app, new_rule, one_of, subcommand_of, with_rule, without_minus, with_subcommand}
use Rattle.clap.specs.{Simple.on_top, declared.builder.action.ArgAction.TheVariants.Set, declared.error.Error.Error}
use Rattle.clap.specs.declared.{builder.value_parser.ValueParser.ValueParser, error.kind.ErrorKind.ErrorKind}
use Rattle.clap.specs.declared.error.kind.ErrorKind.TheVariants.{OutOfMemory}
use Rattle.clap.specs.declared.builder.value_parser.ValueParser.TheVariants as vp
use Rattle.tq_cli.specs.declared.command.{Words.Words, Words.TheVariants.{Shell, Threads, Audit, Upgrade}}
use Rattle.tq_cli.specs.declared.command.{WordsFault.WordsFault, WordsFault.TheVariants.{Memory, Refused}}

-- an argument that is given a value, or as many as it has names, each of which passes its parser
abbrev pub set_rule : Text → Option Text → ℕ → Option ValueParser → Bool → Rule
set_rule name long names parser is_required =
    record (new_rule name) { long = long; value_names = names; action = Some Set; parser = parser; required = is_required }

-- an option that is given a number in a range
abbrev pub number_rule : Text → ℕ → ℕ → Bool → Rule
number_rule name least most is_required = set_rule name (Some name) 1 (Some (vp.Signed (pos least) (pos most))) is_required

abbrev pub levels_rule : Rule
levels_rule = number_rule (codes "levels") 1 10 true

abbrev pub workers_rule : Rule
workers_rule = number_rule (codes "workers") 0 2 false

abbrev pub rounds_rule : Rule
rounds_rule = number_rule (codes "rounds") 0 1000 false

-- `shell --levels N`
abbrev pub shell_app : App
shell_app = with_rule (new_app (codes "shell")) levels_rule

-- `threads --levels N`
abbrev pub threads_app_with_levels : App
threads_app_with_levels = with_rule (new_app (codes "threads")) levels_rule

-- `threads --levels N [--workers W]`
abbrev pub threads_app_with_workers : App
threads_app_with_workers = with_rule threads_app_with_levels workers_rule

-- `threads --levels N [--workers W] [--rounds R]`
abbrev pub threads_app : App
threads_app = with_rule threads_app_with_workers rounds_rule

-- `audit`, which has no options
abbrev pub audit_app : App
audit_app = new_app (codes "audit")

-- `upgrade`, which has none either
abbrev pub upgrade_app : App
upgrade_app = new_app (codes "upgrade")

-- a program without its subcommands, of which one is wanted
abbrev pub top_app : Text → App
top_app name = on_top (λ top. record top { has_version = true; disable_help_subcommand = true; subcommand_required = true }) (new_app name)

-- the program with its first subcommand alone
abbrev pub app_with_shell : App
app_with_shell = with_subcommand (top_app (codes "tq")) shell_app.top

-- the program with its first two subcommands
abbrev pub app_with_threads : App
app_with_threads = with_subcommand app_with_shell threads_app.top

-- the program with its first three subcommands
abbrev pub app_with_audit : App
app_with_audit = with_subcommand app_with_threads audit_app.top

-- the program's words: a subcommand with its options
abbrev pub tq_app : App
tq_app = with_subcommand app_with_audit upgrade_app.top

-- the number that was given under this name
abbrev pub IsGiven : Text → List Row → ℕ → Type 0
IsGiven name rows number = (text : Text) × (one_of name rows ≡ Some text) × (number ≡ digits_value 10 (without_leading_plus text))

-- the number that a text spells, and 0 where there is no text
abbrev pub number_or_zero : Option Text → ℕ
number_or_zero None = 0
number_or_zero (Some text) = digits_value 10 (without_leading_plus text)

-- the number that was given under this name, which is not above the most, or 0 where none was given
abbrev pub IsGivenOrZero : Text → ℕ → List Row → ℕ → Type 0
IsGivenOrZero name most rows number = (number ≡ number_or_zero (one_of name rows)) × (number ≤ most)

-- a number in the range was given under this name
abbrev pub HasNumber : Text → ℕ → ℕ → List Row → Type 0
HasNumber name least most rows = (text : Text) × (one_of name rows ≡ Some (without_minus text)) × IsSignedIn (pos least) (pos most) text

-- no number was given under this name, or one that is not above the most
abbrev pub MayHaveNumber : Text → ℕ → List Row → Type 0
MayHaveNumber name most rows = (one_of name rows ≡ None) ⊎ HasNumber name 0 most rows

-- the options of `threads` say this
abbrev pub AreGiven : List Row → ℕ → ℕ → ℕ → Type 0
AreGiven rows levels workers rounds =
    IsGiven (codes "levels") rows levels × IsGivenOrZero (codes "workers") 2 rows workers × IsGivenOrZero (codes "rounds") 1000 rows rounds

-- the options of `threads` are such that they can be read
abbrev pub CanBeGiven : List Row → Type 0
CanBeGiven rows = HasNumber (codes "levels") 1 10 rows × MayHaveNumber (codes "workers") 2 rows × MayHaveNumber (codes "rounds") 1000 rows

-- a subcommand of that name was found, with such rows
abbrev pub IsFound : Text → (List Row → Type 0) → Option (Text × List Row) → Type 0
IsFound name Holds found = (rows : List Row) × (found ≡ Some (name, rows)) × Holds rows

-- the subcommand that was found, with its options, asks for this
abbrev pub AsksFor : Option (Text × List Row) → Words → Type 0
AsksFor found (Shell levels) = (rows : List Row) × (found ≡ Some (codes "shell", rows)) × IsGiven (codes "levels") rows levels
AsksFor found (Threads levels workers rounds) = (rows : List Row) × (found ≡ Some (codes "threads", rows)) × AreGiven rows levels workers rounds
AsksFor found Audit = (rows : List Row) × (found ≡ Some (codes "audit", rows))
AsksFor found Upgrade = (rows : List Row) × (found ≡ Some (codes "upgrade", rows))

-- a subcommand that needs no options was found
abbrev pub CanAskBare : Option (Text × List Row) → Type 0
CanAskBare found = ((rows : List Row) × (found ≡ Some (codes "audit", rows))) ⊎ ((rows : List Row) × (found ≡ Some (codes "upgrade", rows)))

-- a subcommand other than `shell` was found, with the options that it needs
abbrev pub CanAskOther : Option (Text × List Row) → Type 0
CanAskOther found = ((rows : List Row) × (found ≡ Some (codes "threads", rows)) × CanBeGiven rows) ⊎ CanAskBare found

-- a subcommand of the program was found, with the options that it needs
abbrev pub CanAsk : Option (Text × List Row) → Type 0
CanAsk found = ((rows : List Row) × (found ≡ Some (codes "shell", rows)) × HasNumber (codes "levels") 1 10 rows) ⊎ CanAskOther found

abbrev pub texts_of : {Z : Type 0} → List (String Z) → List Text
texts_of words = map string_bytes words

-- clap finds no fault with the words, and this is what they ask for
abbrev pub IsRead : List Text → Words → Type 0
IsRead words read = (fault_of tq_app words ≡ []) × AsksFor (subcommand_of tq_app words) read

-- clap refuses the words for such a fault, or no memory was left to read them
abbrev pub IsRefused : App → List Text → WordsFault → Type 0
IsRefused app words Memory = Unit {0}
IsRefused app words (Refused error) = IsAmong (kind_of error) (fault_of app words)

-- the fault that an error of clap stands for
abbrev pub fault_by : ErrorKind → Error → WordsFault
fault_by OutOfMemory error = Memory
fault_by _ error = Refused error

abbrev pub fault_for : Error → WordsFault
fault_for error = fault_by (kind_of error) error
