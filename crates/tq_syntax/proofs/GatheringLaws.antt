-- The lines, gathered one after another, give the scripts or the first bad line. How reading ends by what was
-- gathered.
use Rattle.std.proofs.Common.{◌≡◌, ◌∙◌, ◌++◌, ◌+◌, ◌<◌, ◌≤◌, ◌&&◌, ℕ, suc, Bool, true, false, nat_lt, nat_le, cond, List, [], ◌∷◌, Option, Some, None, length, take, refl, sym, ap, subst, arith, append_assoc, length-append, inl, inr}
use Rattle.std.proofs.lemmas.{List.append-nil, Bool.cases_lt}
use Rattle.std.specs.{List.list_all, Option.option_map_or, Prelude.{Result, Ok, Err}, Global.Vec}
use Rattle.tq_shape.specs.Journal.{is_empty}
use Rattle.tq_syntax.specs.declared.{client.ClientLine.ClientLine, script.Line.Line, fault.ScriptFault.ScriptFault}
use Rattle.tq_syntax.specs.Gathering.{Gathering, gathered_with, going_script, nothing_gathered, said_after, scripts_so_far, IsFinished, IsGatheredWith}
use Rattle.tq_syntax.specs.Scripts.{Clients, IsFirstBad, are_good, clients_of, has_form, scripts_of, IsRead}
use Rattle.tq_syntax.specs.declared.fault.ScriptFault.TheVariants.{Memory, Bad}
use Rattle.tq_syntax.specs.declared.client.ClientLine.TheVariants as line

-- how the lines end: all are gathered, or that of a number is bad
pub data Outcome : Type 0 where
  Gathers : Gathering → Outcome
  Refuses : ℕ → Outcome

-- the lines, behind so many that were gathered
abbrev pub run : ℕ → Gathering → List ClientLine → Outcome
run number gathering [] = Gathers gathering
run number gathering (line ∷ lines) =
    option_map_or (λ next. run (suc number) next lines) (gathered_with gathering line) (Refuses (suc number))

-- what is said before the first client that comes is said by the one whose script goes on
abbrev may_stand : Option (List Line) → List Line → Bool
may_stand None before = is_empty before
may_stand (Some lines) before = true

-- the lines that come are good behind those that were gathered
abbrev pub good_by : Gathering → Bool → Clients → Bool
good_by gathering forms clients =
    forms && (may_stand gathering.going clients.before && nat_le (length (scripts_so_far gathering) + length clients.scripts) 16)

abbrev pub good_behind : Gathering → List ClientLine → Bool
good_behind gathering lines = good_by gathering (list_all has_form lines) (clients_of lines)

abbrev scripts_by : List (List Line) → Option (List Line) → Clients → List (List Line)
scripts_by ended None clients = ended ++ clients.scripts
scripts_by ended (Some lines) clients = ended ++ (lines ++ clients.before) ∷ clients.scripts

-- the scripts of the lines that were gathered and of those that come
abbrev pub scripts_behind : Gathering → List ClientLine → List (List Line)
scripts_behind gathering lines = scripts_by gathering.ended gathering.going (clients_of lines)

-- ---- one line that may come

-- what a line that may come changes
record Follows (gathering next : Gathering) (line : ClientLine) : Type 0 where
  good : (lines : List ClientLine) → good_behind gathering (line ∷ lines) ≡ good_behind next lines
  scripts : (lines : List ClientLine) → scripts_behind gathering (line ∷ lines) ≡ scripts_behind next lines
  few : length (scripts_so_far next) ≤ 16

abbrev going : List (List Line) → List Line → Gathering
going ended lines = record { ended = ended; going = Some lines }

-- what the client says whose script goes on
said_follows : (ended : List (List Line)) (lines : List Line) (said : Line) → length (ended ++ lines ∷ []) ≤ 16
    → Follows (going ended lines) (going ended (lines ++ said ∷ [])) (line.Said said)
said_follows ended lines said few = record {
  good = λ more.
      let size : length (ended ++ lines ∷ []) ≡ length (ended ++ (lines ++ said ∷ []) ∷ []) = length-append ended (lines ∷ []) ∙ sym (length-append ended ((lines ++ said ∷ []) ∷ [])) in
      rw size refl;
  scripts = λ more. ap (λ first. ended ++ first ∷ scripts_of more) (sym (append_assoc lines (said ∷ []) (clients_of more).before));
  few = let one = length-append ended (lines ∷ []) in
      let two = length-append ended ((lines ++ said ∷ []) ∷ []) in
      omega (arith, few, one, two);
}

said_may : (ended : List (List Line)) (now : Option (List Line)) (next : Gathering) (said : Line) → length (ended ++ going_script now) ≤ 16
    → said_after ended now said ≡ Some next → Follows (record { ended = ended; going = now }) next (line.Said said)
said_may ended None next said few may = absurd cc
said_may ended (Some lines) next said few may =
    let same : going ended (lines ++ said ∷ []) ≡ next = cc in
    let P : Gathering → Type 0 = λ n. Follows (going ended lines) n (line.Said said) in
    subst P same (said_follows ended lines said few)

-- a line `client`
client_size : (scripts : List (List Line)) (count : ℕ) → length scripts + suc count ≡ length (scripts ++ [] ∷ []) + count
client_size scripts count = let one = length-append scripts ([] ∷ []) in omega (arith, one)

client_good : (ended : List (List Line)) (now : Option (List Line)) (lines : List ClientLine) → let so_far = ended ++ going_script now in
    good_behind (record { ended = ended; going = now }) (line.Client ∷ lines) ≡ good_behind (going so_far []) lines
client_good ended None lines = let size = client_size (ended ++ []) (length (scripts_of lines)) in rw size refl
client_good ended (Some said) lines = let size = client_size (ended ++ said ∷ []) (length (scripts_of lines)) in rw size refl

client_scripts : (ended : List (List Line)) (now : Option (List Line)) (lines : List ClientLine) → let so_far = ended ++ going_script now in
    scripts_behind (record { ended = ended; going = now }) (line.Client ∷ lines) ≡ scripts_behind (going so_far []) lines
client_scripts ended None lines = ap (λ before. before ++ (clients_of lines).before ∷ scripts_of lines) (sym (append-nil ended))
client_scripts ended (Some said) lines =
    let rest = (clients_of lines).before ∷ scripts_of lines in
    ap (λ first. ended ++ first ∷ rest) (append-nil said) ∙ sym (append_assoc ended (said ∷ []) rest)

client_may : (ended : List (List Line)) (now : Option (List Line)) (next : Gathering) (fits : Bool) → let so_far = ended ++ going_script now in
    (fits ≡ true → length so_far < 16) → cond fits (Some (going so_far [])) None ≡ Some next → Follows (record { ended = ended; going = now }) next line.Client
client_may ended now next false few may = absurd cc
client_may ended now next true few may =
    let so_far = ended ++ going_script now in
    let same : going so_far [] ≡ next = cc in
    let P : Gathering → Type 0 = λ n. Follows (record { ended = ended; going = now }) n line.Client in
    subst P same (record {
      good = client_good ended now;
      scripts = client_scripts ended now;
      few = let one = length-append so_far ([] ∷ []) in omega (arith, few refl, one);
    })

empty_may : (gathering next : Gathering) → length (scripts_so_far gathering) ≤ 16 → Some gathering ≡ Some next → Follows gathering next line.Empty
empty_may gathering next few may =
    let same : gathering ≡ next = cc in
    let P : Gathering → Type 0 = λ n. Follows gathering n line.Empty in
    subst P same (record { good = λ lines. refl; scripts = λ lines. refl; few = few })

follows : (gathering next : Gathering) (given : ClientLine) → length (scripts_so_far gathering) ≤ 16 → gathered_with gathering given ≡ Some next → Follows gathering next given
follows gathering next line.Empty few may = empty_may gathering next few may
follows gathering next line.Bad few may = absurd cc
follows gathering next line.Client few may =
    client_may gathering.ended gathering.going next (nat_lt (length (scripts_so_far gathering)) 16) (λ fits. grind (arith, fits)) may
follows gathering next (line.Said said) few may = said_may gathering.ended gathering.going next said few may

-- ---- one line that may not come

said_not : (ended : List (List Line)) (now : Option (List Line)) (said : Line) → said_after ended now said ≡ None
    → good_behind (record { ended = ended; going = now }) (line.Said said ∷ []) ≡ false
said_not ended None said not = refl
said_not ended (Some lines) said not = absurd cc

may_stand-nothing : (now : Option (List Line)) → may_stand now [] ≡ true
may_stand-nothing None = refl
may_stand-nothing (Some lines) = refl

client_not : (gathering : Gathering) (fits : Bool) (next : Gathering) → (fits ≡ false → nat_le (length (scripts_so_far gathering) + 1) 16 ≡ false)
    → cond fits (Some next) None ≡ None → good_behind gathering (line.Client ∷ []) ≡ false
client_not gathering true next many not = absurd cc
client_not gathering false next many not = rw (may_stand-nothing gathering.going, many refl) refl

refused : (gathering : Gathering) (given : ClientLine) → gathered_with gathering given ≡ None → good_behind gathering (given ∷ []) ≡ false
refused gathering line.Empty not = absurd cc
refused gathering line.Bad not = refl
refused gathering line.Client not =
    client_not gathering (nat_lt (length (scripts_so_far gathering)) 16) (going (scripts_so_far gathering) []) (λ fits. grind (arith, fits)) not
refused gathering (line.Said said) not = said_not gathering.ended gathering.going said not

-- ---- all lines

nothing_good : (gathering : Gathering) → length (scripts_so_far gathering) ≤ 16 → good_behind gathering [] ≡ true
nothing_good gathering few =
    let within : nat_le (length (scripts_so_far gathering) + 0) 16 ≡ true = grind (arith, few) in
    rw (may_stand-nothing gathering.going, within) refl

nothing_more : (ended : List (List Line)) (now : Option (List Line)) → scripts_behind (record { ended = ended; going = now }) [] ≡ ended ++ going_script now
nothing_more ended None = refl
nothing_more ended (Some lines) = ap (λ said. ended ++ said ∷ []) (append-nil lines)

-- where all lines are gathered they are good, and these are the scripts
abbrev AllGood : Gathering → List ClientLine → Gathering → Type 0
AllGood gathering lines end = (good_behind gathering lines ≡ true) × (scripts_behind gathering lines ≡ scripts_so_far end)

end_same : (one two : Gathering) → Gathers one ≡ Gathers two → one ≡ two
end_same one two is = ap (λ (o : Outcome). elim o [ Gathers g ↦ g | Refuses n ↦ one ]) is

run_good_by : (number : ℕ) (gathering end : Gathering) (given : ClientLine) (lines : List ClientLine) (found : Option Gathering) → length (scripts_so_far gathering) ≤ 16 → gathered_with gathering given ≡ found
    → ((next : Gathering) → length (scripts_so_far next) ≤ 16 → run (suc number) next lines ≡ Gathers end → AllGood next lines end)
    → option_map_or (λ next. run (suc number) next lines) found (Refuses (suc number)) ≡ Gathers end → AllGood gathering (given ∷ lines) end
run_good_by number gathering end given lines None few found later is = absurd cc
run_good_by number gathering end given lines (Some next) few found later is =
    let step = follows gathering next given few found in
    let rest = later next step.few is in
    (step.good lines ∙ rest.0, step.scripts lines ∙ rest.1)

run_good : (number : ℕ) (gathering end : Gathering) (lines : List ClientLine) → length (scripts_so_far gathering) ≤ 16 → run number gathering lines ≡ Gathers end → AllGood gathering lines end
run_good number gathering end [] few is =
    let same = end_same gathering end is in
    (nothing_good gathering few, nothing_more gathering.ended gathering.going ∙ ap scripts_so_far same)
run_good number gathering end (given ∷ lines) few is =
    run_good_by number gathering end given lines (gathered_with gathering given) few refl (λ next small more. run_good (suc number) next end lines small more) is

-- where one is refused it is the first bad one
record FirstBad (number : ℕ) (gathering : Gathering) (lines : List ClientLine) (bad : ℕ) : Type 0 where
  before : ℕ
  number_is : bad ≡ number + suc before
  within : before < length lines
  good : good_behind gathering (take before lines) ≡ true
  not_good : good_behind gathering (take (suc before) lines) ≡ false

bad_same : (one two : ℕ) → Refuses one ≡ Refuses two → one ≡ two
bad_same one two is = ap (λ (o : Outcome). elim o [ Gathers g ↦ one | Refuses n ↦ n ]) is

run_bad_by : (number bad : ℕ) (gathering : Gathering) (given : ClientLine) (lines : List ClientLine) (found : Option Gathering) → length (scripts_so_far gathering) ≤ 16 → gathered_with gathering given ≡ found
    → ((next : Gathering) → length (scripts_so_far next) ≤ 16 → run (suc number) next lines ≡ Refuses bad → FirstBad (suc number) next lines bad)
    → option_map_or (λ next. run (suc number) next lines) found (Refuses (suc number)) ≡ Refuses bad → FirstBad number gathering (given ∷ lines) bad
run_bad_by number bad gathering given lines None few found later is = record {
  before = 0;
  number_is = let same = bad_same (suc number) bad is in omega (arith, same);
  within = omega arith;
  good = nothing_good gathering few;
  not_good = refused gathering given found;
}
run_bad_by number bad gathering given lines (Some next) few found later is =
    let step = follows gathering next given few found in
    let rest = later next step.few is in
    record {
      before = suc rest.before;
      number_is = let same = rest.number_is in omega (arith, same);
      within = let less = rest.within in omega (arith, less);
      good = step.good (take rest.before lines) ∙ rest.good;
      not_good = step.good (take (suc rest.before) lines) ∙ rest.not_good;
    }

run_bad : (number bad : ℕ) (gathering : Gathering) (lines : List ClientLine) → length (scripts_so_far gathering) ≤ 16 → run number gathering lines ≡ Refuses bad → FirstBad number gathering lines bad
run_bad number bad gathering [] few is = absurd cc
run_bad number bad gathering (given ∷ lines) few is =
    run_bad_by number bad gathering given lines (gathered_with gathering given) few refl (λ next small more. run_bad (suc number) bad next lines small more) is

from_nothing : (lines : List ClientLine) → good_behind nothing_gathered lines ≡ are_good lines
from_nothing lines =
    let none : 0 + length (scripts_of lines) ≡ length (scripts_of lines) = omega arith in
    ap (λ count. list_all has_form lines && (is_empty (clients_of lines).before && nat_le count 16)) none

pub all_gathered : (lines : List ClientLine) (end : Gathering) → run 0 nothing_gathered lines ≡ Gathers end → (are_good lines ≡ true) × (scripts_so_far end ≡ scripts_of lines)
all_gathered lines end is =
    let good = run_good 0 nothing_gathered end lines (omega arith) is in
    (sym (from_nothing lines) ∙ good.0, sym good.1)

pub first_refused : (lines : List ClientLine) (bad : ℕ) → run 0 nothing_gathered lines ≡ Refuses bad → IsFirstBad lines bad
first_refused lines bad is =
    let first = run_bad 0 bad nothing_gathered lines (omega arith) is in
    record {
      before = first.before;
      number_is = let same = first.number_is in omega (arith, same);
      within = first.within;
      good = sym (from_nothing (take first.before lines)) ∙ first.good;
      bad = sym (from_nothing (take (suc first.before) lines)) ∙ first.not_good;
    }

-- ---- read laws

-- one line more is gathered
pub goes_on : (number : ℕ) (gathering next : Gathering) (given : ClientLine) (lines : List ClientLine) → gathered_with gathering given ≡ Some next → run number gathering (given ∷ lines) ≡ run (number + 1) next lines
goes_on number gathering next given lines is =
    let one : suc number ≡ number + 1 = omega arith in
    ap (λ found. option_map_or (λ next. run (suc number) next lines) found (Refuses (suc number))) is ∙ ap (λ n. run n next lines) one

-- or it is bad
stops : (number : ℕ) (gathering : Gathering) (given : ClientLine) (lines : List ClientLine) → gathered_with gathering given ≡ None → run number gathering (given ∷ lines) ≡ Refuses (number + 1)
stops number gathering given lines is =
    let one : suc number ≡ number + 1 = omega arith in
    ap (λ found. option_map_or (λ next. run (suc number) next lines) found (Refuses (suc number))) is ∙ ap Refuses one

module _ (all : List ClientLine) (number : ℕ) (gathering : Gathering) (lines : List ClientLine) (same : run number gathering lines ≡ run 0 nothing_gathered all) where
  pub read_refused : (given : ClientLine) (more : List ClientLine) (fault : ScriptFault) → lines ≡ given ∷ more → IsGatheredWith gathering given (number + 1) (Err fault) → IsRead all (Err fault)
  read_refused given more Memory left is = tt
  read_refused given more (Bad bad) left is =
      inl (first_refused all bad (sym same ∙ ap (run number gathering) left ∙ stops number gathering given more is.0 ∙ ap Refuses (sym is.1)))

  pub read_over : lines ≡ line.Bad ∷ [] → IsRead all (Err (Bad (number + 1)))
  read_over left = read_refused line.Bad [] (Bad (number + 1)) left (refl, refl)

  -- the line ends, and those behind it are left
  pub line_gathered : (given : ClientLine) (more : List ClientLine) (next : Gathering) → lines ≡ given ∷ more → gathered_with gathering given ≡ Some next → run (number + 1) next more ≡ run 0 nothing_gathered all
  line_gathered given more next left is = sym (goes_on number gathering next given more is) ∙ ap (run number gathering) (sym left) ∙ same

  finished : (result : Result (Vec (List Line)) ScriptFault) → run 0 nothing_gathered all ≡ Gathers gathering → IsFinished gathering result → IsRead all result
  finished (Ok scripts) gathers is =
      let good = all_gathered all gathering gathers in
      (good.0, is.0 ∙ good.1, subst (λ (l : List (List Line)). 0 < length l) good.1 is.1)
  finished (Err Memory) gathers is = tt
  finished (Err (Bad bad)) gathers is =
      let good = all_gathered all gathering gathers in
      inr (good.0, sym good.1 ∙ is.0, is.1)

  -- no line is left
  pub read_finished : (result : Result (Vec (List Line)) ScriptFault) → lines ≡ [] → IsFinished gathering result → IsRead all result
  read_finished result left is = finished result (sym same ∙ ap (run number gathering) left) is

pub below : (place end : ℕ) → place ≤ end → (place ≡ end → ⊥) → place < end
below place end within differs = elim (cases_lt place end) [
  | inl less ↦ less
  | inr more ↦ absurd (differs (omega (arith, within, more)))
]
