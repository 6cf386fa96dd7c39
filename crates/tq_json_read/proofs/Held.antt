-- What is read is what the types hold. Lists within a limit, and of as many values as servers.
use Rattle.std.{specs.{Prelude.⊤, List.All, Str.bytes_eq}, proofs.lemmas.List.Elements.{All-nil, All-cons}}
use Rattle.std.proofs.Common.{◌≡◌, nat_lt, suc, ◌+◌, ◌^◌, ◌==◌, ◌≤◌, ℕ, Bool, true, false, cond, codes, List, ◌∷◌, length, Option, Some, None, refl, sym, ap, subst, ◌∙◌, nat_le, arith}
use Rattle.std.proofs.lemmas.Bool.{eqb-true, ltb-false, lt-leb, le-leb, ltb-true, eq-eqb, false≢true}
use Rattle.serde_json.specs.{Data.{Data, Items, no_items, item}, Find.{get, as_array}}
use Rattle.tq_shape.specs.Limits.{LimitsView}
use Rattle.tq_coterie.specs.Coterie.{ServerList, is_quorum}
use Rattle.tq_live.specs.declared.view.{ViewReply.ViewReply, ViewReply.TheVariants.{Chosen, Refused}}
use Rattle.tq_live.specs.declared.view.ViewRefusal.TheVariants.{Blocked}
use Rattle.tq_node.specs.NodeJournal.{NodeEntry}
use Rattle.tq_desk.specs.DeskJournal.{DeskEntry}
use Rattle.tq_tables.specs.Journals.{ViewEntry, IsOfTree, AreJournals}
use Rattle.tq_json.specs.{declared.format.Format.Format, Member.{◌>>=◌, text_at, number_at, items_at, each}}
use Rattle.tq_json_read.specs.Views as views
use Rattle.tq_json_read.specs.{declared.view_reply.Servers.Servers, Slots.{within_cap, list_of, of_count}}
use Rattle.tq_json_read.specs.Frame.{count, few, within, journal, node_entry, desk_entry, view_entry, one_each}
use Rattle.tq_json_read.specs.Frame as frame

-- what is read, where it is there, has the property
abbrev pub Gives : {A : Type 0} → Option A → (A → Type 0) → Type 0
Gives None P = ⊤
Gives (Some x) P = P x

next-gives : {A B : Type 0} (P : B → Type 0) (o : Option A) (f : A → Option B) → ((x : A) → Gives (f x) P) → Gives (o >>= f) P
next-gives P None f step = tt
next-gives P (Some x) f step = step x

then-gives : {A B : Type 0} (Q : A → Type 0) (P : B → Type 0) (o : Option A) (f : A → Option B) → Gives o Q → ((x : A) → Q x → Gives (f x) P) → Gives (o >>= f) P
then-gives Q P None f held step = tt
then-gives Q P (Some x) f held step = step x held

cond-gives : {A : Type 0} (P : A → Type 0) (b : Bool) (x y : Option A) → Gives x P → Gives y P → Gives (cond b x y) P
cond-gives P true x y h g = h
cond-gives P false x y h g = g

weaker : {A : Type 0} (P Q : A → Type 0) (o : Option A) → ((x : A) → P x → Q x) → Gives o P → Gives o Q
weaker P Q None h g = tt
weaker P Q (Some x) h g = h x g

held_of : {A : Type 0} (P : A → Type 0) (o : Option A) (x : A) → Some x ≡ o → Gives o P → P x
held_of P o x e h = subst (λ r. Gives r P) (sym e) h

-- ---- lists

pub each-length : {A : Type 0} (form : Data → Option A) (values : Items) → Gives (each form values) (λ xs. length xs ≡ count values)
each-length form no_items = refl
each-length {A} form (item value rest) =
    let L : List A → Type 0 = λ xs. length xs ≡ suc (count rest) in
    let K : List A → Type 0 = λ xs. length xs ≡ count rest in
    next-gives L (form value) (λ first. each form rest >>= λ others. Some (first ∷ others)) (λ first.
    then-gives K L (each form rest) (λ others. Some (first ∷ others)) (each-length form rest) (λ others e. ap suc e))

each-all : {A : Type 0} (P : A → Type 0) (form : Data → Option A) → ((value : Data) → Gives (form value) P) → (values : Items) → Gives (each form values) (All P)
each-all P form h no_items = All-nil P
each-all P form h (item value rest) =
    then-gives P (All P) (form value) (λ first. each form rest >>= λ others. Some (first ∷ others)) (h value) (λ first good.
    then-gives (All P) (All P) (each form rest) (λ others. Some (first ∷ others)) (each-all P form h rest) (λ others held. All-cons P first others good held))

by_few : (b : Bool) (limit : ℕ) (values : Items) → nat_lt limit (count values) ≡ b → Gives (cond b None (Some values)) (λ xs. count xs ≤ limit)
by_few true limit values e = tt
by_few false limit values e = ltb-false limit (count values) e

within-fits : (limit : ℕ) (value : Data) → Gives (within limit value) (λ xs. count xs ≤ limit)
within-fits limit value = next-gives (λ xs. count xs ≤ limit) (as_array value) (λ values. few limit values) (λ values. by_few (nat_lt limit (count values)) limit values refl)

journal-fits : {A : Type 0} (form : Data → Option A) (limit : ℕ) (value : Data) → Gives (journal form limit value) (λ xs. length xs ≤ limit)
journal-fits {A} form limit value =
    let L : List A → Type 0 = λ xs. length xs ≤ limit in
    then-gives (λ values. count values ≤ limit) L (within limit value) (λ values. each form values) (within-fits limit value) (λ values small.
    weaker (λ xs. length xs ≡ count values) L (each form values) (λ xs e. subst (λ n. n ≤ limit) (sym e) small) (each-length form values))

journal-all : {A : Type 0} (P : A → Type 0) (form : Data → Option A) → ((value : Data) → Gives (form value) P) → (limit : ℕ) (value : Data) → Gives (journal form limit value) (All P)
journal-all P form h limit value = next-gives (All P) (within limit value) (λ values. each form values) (λ values. each-all P form h values)

-- ---- members of the tree

member-of-tree : (levels : ℕ) (numbers : List ℕ) → Gives (views.member_of levels numbers) (λ list. list.levels ≡ levels)
member-of-tree levels numbers = cond-gives (λ list. list.levels ≡ levels) (is_quorum levels numbers) (Some (record { servers = numbers; levels = levels })) None refl tt

chosen-of-tree : (levels : ℕ) (cost : Option ℕ) (servers : Option Servers) → Gives (views.chosen_reply levels cost servers) (IsOfTree levels)
chosen-of-tree levels cost None = next-gives (IsOfTree levels) cost (λ cost. None) (λ cost. tt)
chosen-of-tree levels cost (Some servers) =
    let M : Option ServerList = views.member_of levels servers.numbers in
    next-gives (IsOfTree levels) cost (λ cost. M >>= λ quorum. Some (Chosen quorum cost)) (λ cost.
    then-gives (λ (list : ServerList). list.levels ≡ levels) (IsOfTree levels) M (λ quorum. Some (Chosen quorum cost)) (member-of-tree levels servers.numbers) (λ quorum e. e))

blocked-of-tree : (levels : ℕ) (servers : Option Servers) → Gives (views.blocked_reply levels servers) (IsOfTree levels)
blocked-of-tree levels None = tt
blocked-of-tree levels (Some servers) =
    then-gives (λ (list : ServerList). list.levels ≡ levels) (IsOfTree levels) (views.member_of levels servers.numbers) (λ blocker. Some (Refused (Blocked blocker))) (member-of-tree levels servers.numbers) (λ blocker e. e)

refused-of-tree : (levels : ℕ) (code : Option ℕ) (servers : Option Servers) → Gives (views.view_refused levels code servers) (IsOfTree levels)
refused-of-tree levels code servers =
    let P : ViewReply → Type 0 = IsOfTree levels in
    next-gives P code (λ code. views.view_refused_by levels code servers) (λ code.
    cond-gives P (code == 31) _ _ tt (cond-gives P (code == 32) _ _ tt (cond-gives P (code == 33) _ _ (blocked-of-tree levels servers) tt)))

reply-of-tree : (levels : ℕ) (value : Data) → Gives (views.view_reply levels value) (IsOfTree levels)
reply-of-tree levels value =
    let P : ViewReply → Type 0 = IsOfTree levels in
    let servers : Option Servers = views.kept (views.servers_at value) in
    next-gives P (text_at (codes "is") value) (λ kind. views.view_reply_by levels (Some kind) (number_at (codes "code") value) (number_at (codes "cost") value) servers) (λ kind.
    cond-gives P (bytes_eq kind (codes "costset")) _ _ tt (cond-gives P (bytes_eq kind (codes "marked")) _ _ tt
    (cond-gives P (bytes_eq kind (codes "chosen")) _ _ (chosen-of-tree levels (number_at (codes "cost") value) servers)
    (cond-gives P (bytes_eq kind (codes "refused")) _ _ (refused-of-tree levels (number_at (codes "code") value) servers) tt))))

entry-of-tree : (format : Format) (levels : ℕ) (value : Data) → Gives (view_entry format levels value) (λ entry. IsOfTree levels entry.reply)
entry-of-tree format levels value =
    let P : ViewEntry → Type 0 = λ entry. IsOfTree levels entry.reply in
    let R : Option ViewReply = get (codes "reply") value >>= views.view_reply levels in
    next-gives P (get (codes "ask") value >>= views.view_ask format) (λ ask. R >>= λ reply. Some (record { ask = ask; reply = reply })) (λ ask.
    then-gives (IsOfTree levels) P R (λ reply. Some (record { ask = ask; reply = reply })) (next-gives (IsOfTree levels) (get (codes "reply") value) (views.view_reply levels) (reply-of-tree levels)) (λ reply h. h))

-- ---- the journals of all parts

by_one : (b : Bool) (levels : ℕ) (values : Items) → (count values + 1 == 2 ^ levels) ≡ b → Gives (cond b (Some values) None) (λ xs. count xs + 1 ≡ 2 ^ levels)
by_one true levels values e = eqb-true (count values + 1) (2 ^ levels) e
by_one false levels values e = tt

lists-counted : (levels : ℕ) (value : Data) → Gives (frame.server_lists_at levels value) (λ xs. count xs + 1 ≡ 2 ^ levels)
lists-counted levels value =
    next-gives (λ xs. count xs + 1 ≡ 2 ^ levels) (items_at (codes "servers") value) (λ values. frame.one_each levels values) (λ values. by_one (count values + 1 == 2 ^ levels) levels values refl)

abbrev lists : Format → ℕ → Items → Option (List (List NodeEntry))
lists format limit values = each (journal (node_entry format) limit) values

servers-counted : (format : Format) (levels limit : ℕ) (value : Data) → Gives (frame.servers_at format levels limit value) (λ xs. length xs + 1 ≡ 2 ^ levels)
servers-counted format levels limit value =
    let L : List (List NodeEntry) → Type 0 = λ xs. length xs + 1 ≡ 2 ^ levels in
    then-gives (λ values. count values + 1 ≡ 2 ^ levels) L (frame.server_lists_at levels value) (λ values. lists format limit values) (lists-counted levels value) (λ values e.
    weaker (λ xs. length xs ≡ count values) L (lists format limit values) (λ xs same. ap (λ n. n + 1) same ∙ e) (each-length (journal (node_entry format) limit) values))

servers-fit : (format : Format) (levels limit : ℕ) (value : Data) → Gives (frame.servers_at format levels limit value) (All (λ xs. length xs ≤ limit))
servers-fit format levels limit value =
    let L : List NodeEntry → Type 0 = λ xs. length xs ≤ limit in
    next-gives (All L) (frame.server_lists_at levels value) (λ values. lists format limit values) (λ values.
    each-all L (journal (node_entry format) limit) (λ inner. journal-fits (node_entry format) limit inner) values)

desk-fits : (format : Format) (limit : ℕ) (value : Data) → Gives (frame.desk_at format limit value) (λ xs. length xs ≤ limit)
desk-fits format limit value =
    next-gives (λ (xs : List DeskEntry). length xs ≤ limit) (get (codes "desk") value) (λ inner. journal (desk_entry format) limit inner) (λ inner. journal-fits (desk_entry format) limit inner)

view-fits : (format : Format) (levels limit : ℕ) (value : Data) → Gives (frame.view_at format levels limit value) (λ xs. length xs ≤ limit)
view-fits format levels limit value =
    next-gives (λ (xs : List ViewEntry). length xs ≤ limit) (get (codes "view") value) (λ inner. journal (view_entry format levels) limit inner) (λ inner. journal-fits (view_entry format levels) limit inner)

view-of-tree : (format : Format) (levels limit : ℕ) (value : Data) → Gives (frame.view_at format levels limit value) (All (λ entry. IsOfTree levels entry.reply))
view-of-tree format levels limit value =
    let P : ViewEntry → Type 0 = λ entry. IsOfTree levels entry.reply in
    next-gives (All P) (get (codes "view") value) (λ inner. journal (view_entry format levels) limit inner) (λ inner. journal-all P (view_entry format levels) (entry-of-tree format levels) limit inner)

pub read-are-journals : (format : Format) (levels : ℕ) (limits : LimitsView) (limit : ℕ) (value : Data) (servers : List (List NodeEntry)) (desk : List DeskEntry) (view : List ViewEntry) → limit ≡ limits.entries
    → Some servers ≡ frame.servers_at format levels limit value → Some desk ≡ frame.desk_at format limit value → Some view ≡ frame.view_at format levels limit value
    → AreJournals (record { levels = levels; limits = limits; servers = servers; desk = desk; view = view })
read-are-journals format levels limits limit value servers desk view same s d v =
    let most = limits.entries in
    let s' = subst (λ n. Some servers ≡ frame.servers_at format levels n value) same s in
    let d' = subst (λ n. Some desk ≡ frame.desk_at format n value) same d in
    let v' = subst (λ n. Some view ≡ frame.view_at format levels n value) same v in
    record {
      one_each = held_of (λ xs. length xs + 1 ≡ 2 ^ levels) (frame.servers_at format levels most value) servers s' (servers-counted format levels most value);
      servers_fit = held_of (All (λ xs. length xs ≤ most)) (frame.servers_at format levels most value) servers s' (servers-fit format levels most value);
      desk_fits = held_of (λ xs. length xs ≤ most) (frame.desk_at format most value) desk d' (desk-fits format most value);
      view_fits = held_of (λ xs. length xs ≤ most) (frame.view_at format levels most value) view v' (view-fits format levels most value);
      of_tree = held_of (All (λ entry. IsOfTree levels entry.reply)) (frame.view_at format levels most value) view v' (view-of-tree format levels most value);
    }

-- ---- limited

none_of : {A : Type 0} (form : Data → Option A) (items : Items) (b : Bool) → each form items ≡ None → None ≡ (cond b None (Some items) >>= each form)
none_of form items true e = refl
none_of form items false e = sym e

some_of : {A : Type 0} (form : Data → Option A) (limit : ℕ) (items : Items) (xs : List A) (b : Bool) → each form items ≡ Some xs → length xs ≡ count items → nat_lt limit (count items) ≡ b
    → cond (nat_le (length xs) limit) (Some xs) None ≡ (cond b None (Some items) >>= each form)
some_of form limit items xs true e same over = ap (λ b. cond b (Some xs) None) (lt-leb (length xs) limit (omega (arith, ltb-true limit (count items) over, same)))
some_of form limit items xs false e same under = ap (λ b. cond b (Some xs) None) (le-leb (length xs) limit (omega (arith, ltb-false limit (count items) under, same))) ∙ sym e

by_each : {A : Type 0} (form : Data → Option A) (limit : ℕ) (items : Items) (o : Option (List A)) → each form items ≡ o → Gives o (λ xs. length xs ≡ count items) → within_cap (Some limit) o ≡ (few limit items >>= each form)
by_each form limit items None e h = none_of form items (nat_lt limit (count items)) e
by_each form limit items (Some xs) e h = some_of form limit items xs (nat_lt limit (count items)) e h refl

of_array : {A : Type 0} (form : Data → Option A) (limit : ℕ) (o : Option Items) → (o >>= λ items. within_cap (Some limit) (each form items)) ≡ ((o >>= few limit) >>= each form)
of_array form limit None = refl
of_array form limit (Some items) = by_each form limit items (each form items) refl (each-length form items)

pub listed-journal : {A : Type 0} (form : Data → Option A) (limit : ℕ) (d : Data) → list_of form (Some limit) d ≡ journal form limit d
listed-journal form limit d = of_array form limit (as_array d)

-- ---- as many lists as servers

none_each : {A : Type 0} (form : Data → Option A) (items : Items) (b : Bool) → each form items ≡ None → None ≡ (cond b (Some items) None >>= each form)
none_each form items true e = sym e
none_each form items false e = refl

uncounted : {A : Type 0} (n : ℕ) (xs : List A) (b : Bool) → (length xs == n) ≡ false → of_count n (cond b (Some xs) None) ≡ None
uncounted n xs true e = ap (λ b. cond b (Some xs) None) e
uncounted n xs false e = refl

some_each : {A : Type 0} (form : Data → Option A) (n levels : ℕ) (items : Items) (xs : List A) (b : Bool) → each form items ≡ Some xs → length xs ≡ count items → n + 1 ≡ 2 ^ levels → (length xs == n) ≡ b
    → of_count n (cond (nat_le (length xs) n) (Some xs) None) ≡ (cond (count items + 1 == 2 ^ levels) (Some items) None >>= each form)
some_each form n levels items xs true e same servers are =
    let equal : length xs ≡ n = eqb-true (length xs) n are in
    let all : (count items + 1 == 2 ^ levels) ≡ true = eq-eqb (count items + 1) (2 ^ levels) (ap (λ m. m + 1) (sym same ∙ equal) ∙ servers) in
    ap (λ b. of_count n (cond b (Some xs) None)) (le-leb (length xs) n (omega (arith, equal))) ∙ ap (λ b. cond b (Some xs) None) are
    ∙ sym (ap (λ b. cond b (Some items) None >>= each form) all ∙ e)
some_each form n levels items xs false e same servers are =
    let other : (count items + 1 == 2 ^ levels) ≡ false = not_all (count items + 1 == 2 ^ levels) refl in
    uncounted n xs (nat_le (length xs) n) are ∙ sym (ap (λ b. cond b (Some items) None >>= each form) other)
  where
    not_all : (b : Bool) → (count items + 1 == 2 ^ levels) ≡ b → b ≡ false
    not_all false h = refl
    not_all true h = let equal : length xs ≡ n = omega (arith, eqb-true (count items + 1) (2 ^ levels) h, same, servers) in absurd (false≢true (sym are ∙ eq-eqb (length xs) n equal))

each_counted : {A : Type 0} (form : Data → Option A) (n levels : ℕ) (items : Items) (o : Option (List A)) → each form items ≡ o → Gives o (λ xs. length xs ≡ count items) → n + 1 ≡ 2 ^ levels
    → of_count n (within_cap (Some n) o) ≡ (one_each levels items >>= each form)
each_counted form n levels items None e h servers = none_each form items (count items + 1 == 2 ^ levels) e
each_counted form n levels items (Some xs) e h servers = some_each form n levels items xs (length xs == n) e h servers refl

lists_of : {A : Type 0} (form : Data → Option A) (n levels : ℕ) (o : Option Items) → n + 1 ≡ 2 ^ levels → of_count n (o >>= λ items. within_cap (Some n) (each form items)) ≡ ((o >>= one_each levels) >>= each form)
lists_of form n levels None servers = refl
lists_of form n levels (Some items) servers = each_counted form n levels items (each form items) refl (each-length form items) servers

pub counted-listed : {A : Type 0} (form : Data → Option A) (n levels : ℕ) (d : Data) → n + 1 ≡ 2 ^ levels → of_count n (list_of form (Some n) d) ≡ ((as_array d >>= one_each levels) >>= each form)
counted-listed form n levels d servers = lists_of form n levels (as_array d) servers
