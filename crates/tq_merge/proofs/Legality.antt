-- Replaying a journal: it is legal so far, or the first entry that is not is found. Legal journals have no entry that
-- is wrong. What one more exchange tells, and what one more caller was told.
use Rattle.std.proofs.Common.{◌≡◌, ◌<◌, ◌+◌, ◌-◌, ℕ, suc, List, [], ◌∷◌, ◌++◌, length, map, take, reverse, get_or, refl, sym, ap, subst, ◌∙◌, arith, length-take-le, inl, inr, ◌≤◌, zero, Option, Some, None, Ok, append-nil}
use Rattle.std.proofs.lemmas.Option.{slice_get_read, slice_get-map, slice_get_within, get_or_from_slice_get}
use Rattle.std.proofs.lemmas.{List.{length-map, map-append, take-map, flat_map_more, take_more}, Bool.false≢true}
use Rattle.std.proofs.lemmas.List.Elements.{All-nil, All-cons, All-append, All-push, All-head, All-tail, All-map, All-weaker}
use Rattle.std.specs.{Option.{option_map, option_and_then, is_some}, Prelude.slice_get, List.All}
use Rattle.tq_shape.specs.{Journal.{state_from, IsLegalFrom, Has}, declared.part.Entry.Entry, declared.part.Part.Part}
use Rattle.tq_shape.proofs.Joined.{legal-push, legal-reverse, reverse-legal}
use Rattle.tq_node.specs.{Records.{node_reply, node_after}, NodeJournal.{nothing_stored, IsLegalNode, NodeEntry}}
use Rattle.tq_tables.specs.{Parts.{AreLegalServers, AreLegal, bounds_of}, Journals.JournalsView}
use Rattle.tq_tables.proofs.RowLaws.{take-next}
use Rattle.tq_core.{specs.World.item_at, proofs.Journaled.item_above}
use Rattle.tq_merge.specs.Wrong.{IsFirstWrong, IsLegalServer, IsWrongOfServer, IsWrongOfServers, IsWrong}
use Rattle.tq_merge.specs.declared.claimed.EntryName.{EntryName}
use Rattle.tq_merge.specs.Told.{IsWithin, Stands, names_in, names_of, all_names, entry_counts}
use Rattle.tq_merge.proofs.{Places.item_at-suc, Runs.{legal_at, legal_server}}
use Rattle.tq_shape.specs.declared.part.Part.TheVariants as parts
use Rattle.tq_desk.specs.DeskJournal.{step_reply, step_after, opened_desk}
use Rattle.tq_live.specs.View.{view_reply_at, view_after_at, view_state}
use Rattle.tq_txn.specs.declared.asker.Exchange.{Exchange}
use Rattle.tq_txn.specs.declared.asker.Exchange.TheVariants as exchanges

-- ---- one entry more, and what was told at its ask

module _ {S A R : Type 0} (reply : S → ℕ → A → R) (after : S → ℕ → A → S) (opening : S) (entries : List (Entry A R)) (i : ℕ) (e : Entry A R) (less : i < length entries) (is : e ≡ get_or entries i e)
    (legal : IsLegalFrom reply after opening 1 (take i entries)) (told : R) (told_is : told ≡ reply (state_from after opening 1 (take i entries)) (suc i) e.ask) where
  pub legal_next : told ≡ e.reply → IsLegalFrom reply after opening 1 (take (i + 1) entries)
  legal_next same =
      let count = length-take-le i entries (omega (arith, less)) in
      subst (IsLegalFrom reply after opening 1) (sym (take-next entries i e less is))
      (legal-push reply after opening (take i entries) e legal (sym same ∙ told_is ∙ ap (λ (n : ℕ). reply (state_from after opening 1 (take i entries)) (suc n) e.ask) (sym count)))

  pub wrong_next : (told ≡ e.reply → ⊥) → (number : ℕ) → number ≡ i + 1 → IsFirstWrong reply after opening entries number
  wrong_next never number at =
      let before : i ≡ number - 1 = omega (arith, at) in
      let next : number ≡ suc i = omega (arith, at) in
      record {
        entry = e;
        is_there = ap (item_at entries) next ∙ item_at-suc entries i ∙ slice_get_read entries (length entries) i e refl less is;
        legal_before = subst (λ (n : ℕ). IsLegalFrom reply after opening 1 (take n entries)) before legal;
        wrong = λ same. never (told_is ∙ (λ j. reply (state_from after opening 1 (take (before j) entries)) (sym next j) e.ask) ∙ sym same);
      }

-- ---- all servers

legal_server-push : (first : ℕ) (servers : List (List NodeEntry)) (entries : List NodeEntry) → AreLegalServers first servers → IsLegalNode (first + length servers) (reverse entries) → AreLegalServers first (servers ++ entries ∷ [])
legal_server-push first [] entries legal here = (subst (λ (n : ℕ). IsLegalNode n (reverse entries)) (omega arith) here, tt)
legal_server-push first (x ∷ servers) entries legal here =
    (legal.0, legal_server-push (first + 1) servers entries legal.1 (subst (λ (n : ℕ). IsLegalNode n (reverse entries)) (omega arith) here))

module _ {V : Type 0} (items : V → List NodeEntry) (servers : List V) (i : ℕ) (v : V) (less : i < length servers) (is : v ≡ get_or servers i v) (legal : AreLegalServers 1 (map items (take i servers)))
    (number : ℕ) (at : number ≡ i + 1) where
  pub servers_legal : IsLegalServer number (items v) → AreLegalServers 1 (map items (take (i + 1) servers))
  servers_legal own =
      let count = length-map (take i servers) items ∙ length-take-le i servers (omega (arith, less)) in
      let here : number ≡ 1 + length (map items (take i servers)) = omega (arith, at, count) in
      subst (AreLegalServers 1) (sym (ap (map items) (take-next servers i v less is) ∙ map-append items (take i servers) (v ∷ [])))
      (legal_server-push 1 (map items (take i servers)) (items v) legal
      (subst (λ (n : ℕ). IsLegalNode n (reverse (items v))) here (legal-reverse (λ old n ask. node_reply number old ask) (node_after number) nothing_stored (items v) own)))

  pub servers_wrong : (wrong : ℕ) → IsWrongOfServer number (items v) wrong → IsWrongOfServers (map items servers) number wrong
  servers_wrong wrong found =
      let before : number - 1 ≡ i = omega (arith, at) in
      let place : number ≡ suc i = omega (arith, at) in (
        subst (λ (n : ℕ). AreLegalServers 1 (take n (map items servers))) (sym before) (subst (AreLegalServers 1) (sym (take-map items i servers)) legal),
        (items v, ap (item_at (map items servers)) place ∙ item_at-suc (map items servers) i ∙ slice_get-map items servers i ∙ ap (option_map items) (slice_get_read servers (length servers) i v refl less is), found),
      )

-- ---- never wrong

not_wrong : {S A R : Type 0} (reply : S → ℕ → A → R) (after : S → ℕ → A → S) (opening : S) (entries : List (Entry A R)) (number : ℕ) → IsLegalFrom reply after opening 1 entries
    → IsFirstWrong reply after opening entries number → ⊥
not_wrong reply after opening entries number legal wrong =
    let above = item_above entries number wrong.entry wrong.is_there in
    let at : 1 + (number - 1) ≡ number = omega (arith, above.0) in
    wrong.wrong (legal_at reply after opening 1 entries (number - 1) wrong.entry legal above.1 ∙ ap (λ (n : ℕ). reply (state_from after opening 1 (take (number - 1) entries)) n wrong.entry.ask) at)

pub never_wrong : (journals : JournalsView) → AreLegal journals → (part : Part) (number : ℕ) → IsWrong journals part number → ⊥
never_wrong journals legal (parts.Server server) number wrong =
    let entries = wrong.1.0 in
    let above = item_above journals.servers server entries wrong.1.1 in
    let at : 1 + (server - 1) ≡ server = omega (arith, above.0) in
    let own : IsLegalNode server (reverse entries) = subst (λ (n : ℕ). IsLegalNode n (reverse entries)) at (legal_server 1 journals.servers (server - 1) entries legal.servers above.1) in
    not_wrong (λ old n ask. node_reply server old ask) (node_after server) nothing_stored entries number (reverse-legal (λ old n ask. node_reply server old ask) (node_after server) nothing_stored entries own) wrong.1.2
never_wrong journals legal parts.Desk number wrong =
    not_wrong step_reply step_after (opened_desk (bounds_of journals.levels journals.limits)) journals.desk number
    (reverse-legal step_reply step_after (opened_desk (bounds_of journals.levels journals.limits)) journals.desk legal.desk) wrong.1
never_wrong journals legal parts.View number wrong = not_wrong view_reply_at view_after_at (view_state journals.levels []) journals.view number legal.view wrong.2

-- ---- telling

pub has_at : {A : Type 0} (xs : List A) (i : ℕ) (d : A) → i < length xs → Has xs (get_or xs i d)
has_at [] i d within = absurd (omega (arith, within))
has_at (x ∷ xs) zero d within = inl refl
has_at (x ∷ xs) (suc i) d within = inr (has_at xs i d (omega (arith, within)))

-- ---- one exchange

some_name : (name : EntryName) → name ∷ [] ≡ [] → ⊥
some_name name none = (let n : 1 ≡ 0 = ap length none in omega (arith, n))

pub nameless_stands : (journals : JournalsView) (e : Exchange) → names_in e ≡ [] → Stands journals e
nameless_stands journals (exchanges.Node server ask (Ok told)) none = absurd (some_name _ none)
nameless_stands journals (exchanges.Desk ask (Ok told)) none = absurd (some_name _ none)
nameless_stands journals (exchanges.View ask (Ok told)) none = absurd (some_name _ none)
nameless_stands journals e none = tt

pub next_item : {A : Type 0} (xs : List A) (i : ℕ) (x : A) → i < length xs → x ≡ get_or xs i x → take (i + 1) xs ≡ take i xs ++ x ∷ []
next_item xs i x within is = take_more xs i x within ∙ ap (λ y. take i xs ++ y ∷ []) (sym is)

pub has_item : {A : Type 0} (xs : List A) (i : ℕ) (x : A) → i < length xs → x ≡ get_or xs i x → Has xs x
has_item xs i x within is = subst (λ y. Has xs y) (sym is) (has_at xs i x within)

pub all_next : {A : Type 0} (P : A → Type 0) (xs : List A) (i : ℕ) (x : A) → i < length xs → x ≡ get_or xs i x → All P (take i xs) → P x → All P (take (i + 1) xs)
all_next P xs i x within is all one = subst (All P) (sym (next_item xs i x within is)) (All-push P (take i xs) x all one)

module _ (journals : JournalsView) (told : List Exchange) (i : ℕ) (e : Exchange) (within : i < length told) (is : e ≡ get_or told i e) (names : List EntryName)
    (so_far : names ≡ names_of (take i told)) (stand : All (Stands journals) (take i told)) where
  next_names : names_of (take (i + 1) told) ≡ names_of (take i told) ++ names_in e
  next_names = ap names_of (next_item told i e within is) ∙ sym (flat_map_more names_in [] (take i told) e)

  pub no_name : names_in e ≡ [] → (names ≡ names_of (take (i + 1) told)) × All (Stands journals) (take (i + 1) told)
  no_name none = (
    so_far ∙ sym (append-nil (names_of (take i told))) ∙ ap (λ (l : List EntryName). names_of (take i told) ++ l) (sym none) ∙ sym next_names,
    all_next (Stands journals) told i e within is stand (nameless_stands journals e none),
  )

  pub one_name : (name : EntryName) (after : List EntryName) → names_in e ≡ name ∷ [] → Stands journals e → after ≡ names ++ name ∷ []
      → (after ≡ names_of (take (i + 1) told)) × All (Stands journals) (take (i + 1) told)
  one_name name after named stands grown = (
    grown ∙ (λ j. so_far j ++ sym named j) ∙ sym next_names,
    all_next (Stands journals) told i e within is stand stands,
  )

-- ---- what stands is within the journals

item_within : {E : Type 0} (items : List E) (number : ℕ) (x : E) → item_at items number ≡ Some x → (1 ≤ number) × (number ≤ length items)
item_within items number x is =
    let above = item_above items number x is in
    let short = slice_get_within items (number - 1) x above.1 in
    (omega (arith, above.0), omega (arith, above.0, short))

count_of_server : (servers : List (List NodeEntry)) (server : ℕ) (entries : List NodeEntry) → item_at servers server ≡ Some entries → get_or (0 ∷ map length servers) server 0 ≡ length entries
count_of_server servers server entries is =
    let above = item_above servers server entries is in
    let up : server ≡ suc (server - 1) = omega (arith, above.0) in
    let there : slice_get (map length servers) (server - 1) ≡ Some (length entries) = slice_get-map length servers (server - 1) ∙ ap (option_map length) above.1 in
    ap (λ (k : ℕ). get_or (0 ∷ map length servers) k 0) up ∙ get_or_from_slice_get (map length servers) (server - 1) (length entries) 0 there

server_within : (journals : JournalsView) (server number : ℕ) (e : NodeEntry) (found : Option (List NodeEntry)) → item_at journals.servers server ≡ found → option_and_then (λ (entries : List NodeEntry). item_at entries number) found ≡ Some e
    → (1 ≤ number) × (number ≤ get_or (entry_counts journals) (server + 2) 0)
server_within journals server number e None there is = absurd (false≢true (ap is_some is))
server_within journals server number e (Some entries) there is =
    let within = item_within entries number e is in
    let count = count_of_server journals.servers server entries there in
    let up : server + 2 ≡ suc (suc server) = omega arith in
    let at : get_or (entry_counts journals) (server + 2) 0 ≡ get_or (0 ∷ map length journals.servers) server 0 = ap (λ (k : ℕ). get_or (entry_counts journals) k 0) up in
    (within.0, omega (arith, within.1, count, at))

within_one : (counts : List ℕ) (name : EntryName) → IsWithin counts name → All (IsWithin counts) (name ∷ [])
within_one counts name within = All-cons (IsWithin counts) name [] within (All-nil (IsWithin counts))

exchange_within : (journals : JournalsView) (e : Exchange) → Stands journals e → All (IsWithin (entry_counts journals)) (names_in e)
exchange_within journals (exchanges.Node server ask (Ok told)) stands = within_one (entry_counts journals) _ (server_within journals server told.number _ (item_at journals.servers server) refl stands)
exchange_within journals (exchanges.Desk ask (Ok told)) stands = within_one (entry_counts journals) _ (item_within journals.desk told.number _ stands)
exchange_within journals (exchanges.View ask (Ok told)) stands = within_one (entry_counts journals) _ (item_within journals.view told.number _ stands)
exchange_within journals e stands = All-nil (IsWithin (entry_counts journals))

pub told_within : (journals : JournalsView) (told : List Exchange) → All (Stands journals) told → All (IsWithin (entry_counts journals)) (names_of told)
told_within journals [] stand = All-nil (IsWithin (entry_counts journals))
told_within journals (e ∷ told) stand =
    All-append (IsWithin (entry_counts journals)) (names_in e) (names_of told) (exchange_within journals e (All-head (Stands journals) e told stand))
    (told_within journals told (All-tail (Stands journals) e told stand))

pub all_within : (journals : JournalsView) (callers : List (List Exchange)) → All (λ (told : List Exchange). All (Stands journals) told) callers → All (IsWithin (entry_counts journals)) (all_names callers)
all_within journals [] stand = All-nil (IsWithin (entry_counts journals))
all_within journals (told ∷ callers) stand =
    let P : List Exchange → Type 0 = λ told. All (Stands journals) told in
    All-append (IsWithin (entry_counts journals)) (names_of told) (all_names callers) (told_within journals told (All-head P told callers stand)) (all_within journals callers (All-tail P told callers stand))

-- ---- one caller more

pub next_all : (callers : List (List Exchange)) (i : ℕ) (told : List Exchange) → i < length callers → told ≡ get_or callers i told → all_names (take (i + 1) callers) ≡ all_names (take i callers) ++ names_of told
next_all callers i told within is = ap all_names (next_item callers i told within is) ∙ sym (flat_map_more names_of [] (take i callers) told)

-- ---- how many entries there are

pub short_counts : (journals : JournalsView) (most : ℕ) → most ≤ 1000000 → length journals.desk ≤ most → length journals.view ≤ most
    → All (λ (entries : List NodeEntry). length entries ≤ most) journals.servers → All (λ (count : ℕ). count ≤ 1000000) (entry_counts journals)
short_counts journals most small desk view servers =
    let P : ℕ → Type 0 = λ count. count ≤ 1000000 in
    let each : All P (map length journals.servers) =
    All-map P length journals.servers (All-weaker (λ (entries : List NodeEntry). length entries ≤ most) (λ (entries : List NodeEntry). length entries ≤ 1000000) (λ entries fits. omega (arith, fits, small)) journals.servers servers) in
    All-cons P (length journals.desk) (length journals.view ∷ 0 ∷ map length journals.servers) (omega (arith, desk, small))
    (All-cons P (length journals.view) (0 ∷ map length journals.servers) (omega (arith, view, small)) (All-cons P 0 (map length journals.servers) (omega arith) each))

pub each_length : {V : Type 0} (items : V → List NodeEntry) (servers : List V) → map (λ (v : V). length (items v)) servers ≡ map length (map items servers)
each_length items [] = refl
each_length items (v ∷ servers) = ap (λ (l : List ℕ). length (items v) ∷ l) (each_length items servers)
