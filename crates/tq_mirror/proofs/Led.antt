-- Servers whose journals begin with what was pulled of them. Entries that a part gives where it stands.
use Rattle.std.proofs.Common.{◌≡◌, ◌+◌, ◌⊎◌, ℕ, subst, sym, inl, inr, arith, ◌≤◌, ◌<◌, zero, suc, List, [], ◌∷◌, ◌++◌, length, take, get_or, ◌∙◌, ap}
use Rattle.std.proofs.lemmas.{Bool.cases_eq, List.{take_all, take_more}}
use Rattle.tq_tables.specs.{Same.Begins, Journals.JournalsView, Parts.AreLegal, Tables.{TablesView, tables_of}}
use Rattle.tq_mirror.specs.Prefixes.{server_prefix, ServersBegin}
use Rattle.tq_shape.specs.{declared.part.Entry.Entry, Journal.{entry, state_from, IsLegalFrom}}
use Rattle.tq_shape.proofs.Places.{legal-snoc}

-- one server more begins so
pub one_begins : (prefixes journals : JournalsView) (place : ℕ) → ServersBegin prefixes journals (place + 1) → Begins (server_prefix prefixes (place + 1)) (server_prefix journals (place + 1)) → ServersBegin prefixes journals (place + 1 + 1)
one_begins prefixes journals place so_far next number least below = by (cases_eq number (place + 1))
  where
    by : (number ≡ place + 1) ⊎ (number ≡ place + 1 → ⊥) → Begins (server_prefix prefixes number) (server_prefix journals number)
    by (inl same) = subst (λ (n : ℕ). Begins (server_prefix prefixes n) (server_prefix journals n)) (sym same) next
    by (inr apart) = so_far number least (omega (arith, apart, below))

-- ---- led

module _ {S A R : Type 0} (reply : S → ℕ → A → R) (after : S → ℕ → A → S) where
  -- the part after two lists of entries
  pub state-joined : (s : S) (n : ℕ) (xs ys : List (Entry A R)) → state_from after s n (xs ++ ys) ≡ state_from after (state_from after s n xs) (length xs + n) ys
  state-joined s n [] ys = ap (λ (k : ℕ). state_from after s k ys) (omega arith)
  state-joined s n (x ∷ xs) ys =
      state-joined (after s n x.ask) (n + 1) xs ys
      ∙ ap (λ (k : ℕ). state_from after (state_from after (after s n x.ask) (n + 1) xs) k ys) (omega arith)

  -- entries that are legal behind legal ones
  pub legal-joined : (s : S) (n : ℕ) (xs ys : List (Entry A R)) → IsLegalFrom reply after s n xs → IsLegalFrom reply after (state_from after s n xs) (length xs + n) ys
      → IsLegalFrom reply after s n (xs ++ ys)
  legal-joined s n [] ys legal more = subst (λ (k : ℕ). IsLegalFrom reply after s k ys) (omega arith) more
  legal-joined s n (x ∷ xs) ys legal more = (
    legal.0,
    legal-joined (after s n x.ask) (n + 1) xs ys legal.1
        (subst (λ (k : ℕ). IsLegalFrom reply after (state_from after (after s n x.ask) (n + 1) xs) k ys) (omega arith) more),
  )

  -- the reply of an entry among legal ones
  reply-given : (s : S) (n : ℕ) (xs : List (Entry A R)) (i : ℕ) (e : Entry A R) → IsLegalFrom reply after s n xs → i < length xs → e ≡ get_or xs i e
      → e.reply ≡ reply (state_from after s n (take i xs)) (i + n) e.ask
  reply-given s n [] i e legal less is = absurd (omega arith)
  reply-given s n (x ∷ xs) zero e legal less is =
      subst (λ (o : Entry A R). o.reply ≡ reply s n o.ask) (sym is) legal.0 ∙ ap (λ (k : ℕ). reply s k e.ask) (omega arith)
  reply-given s n (x ∷ xs) (suc i) e legal less is =
      reply-given (after s n x.ask) (n + 1) xs i e legal.1 (omega arith) is
      ∙ ap (λ (k : ℕ). reply (state_from after (after s n x.ask) (n + 1) (take i xs)) k e.ask) (omega arith)

-- prefixes that grow by entries of one part: they stay legal where the part, standing there, gives the entries, the tables
-- show the part as these leave it, and an entry more at the end is one more of the entries
pub record Grows {S A R : Type 0} (said : S → A → R) (after : S → ℕ → A → S) (part : S) (number : ℕ) (grow : List (Entry A R) → JournalsView) (with_entry : JournalsView → Entry A R → JournalsView) (shown : TablesView → S) : Type 0 where
  pub legal : (more : List (Entry A R)) → IsLegalFrom (λ (s : S) (n : ℕ) (a : A). said s a) after part number more → AreLegal (grow more)
  pub shows : (more : List (Entry A R)) → IsLegalFrom (λ (s : S) (n : ℕ) (a : A). said s a) after part number more → shown (tables_of (grow more)) ≡ state_from after part number more
  pub one_more : (more : List (Entry A R)) (e : Entry A R) → with_entry (grow more) e ≡ grow (more ++ e ∷ [])

-- the part gave these entries, and the tables are those with them
pub record Led {S A R : Type 0} (said : S → A → R) (after : S → ℕ → A → S) (part : S) (number : ℕ) (grow : List (Entry A R) → JournalsView) (tables : TablesView) (more : List (Entry A R)) : Type 0 where
  pub gives : IsLegalFrom (λ (s : S) (n : ℕ) (a : A). said s a) after part number more
  pub stand : tables ≡ tables_of (grow more)

-- one entry more is asked of tables that were led so far
module _ {S A R : Type 0} {said : S → A → R} {after : S → ℕ → A → S} {part : S} {number : ℕ} {grow : List (Entry A R) → JournalsView} {with_entry : JournalsView → Entry A R → JournalsView} {shown : TablesView → S}
    (grows : Grows said after part number grow with_entry shown) (xs : List (Entry A R)) (i : ℕ) (e : Entry A R) (less : i < length xs) (is : e ≡ get_or xs i e)
    (old : TablesView) (led : Led said after part number grow old (take i xs)) where
  abbrev reply : S → ℕ → A → R
  reply s n a = said s a

  next : take (i + 1) xs ≡ take i xs ++ e ∷ []
  next = take_more xs i e less ∙ ap (λ (o : Entry A R). take i xs ++ o ∷ []) (sym is)

  shown_is : shown old ≡ state_from after part number (take i xs)
  shown_is = ap shown led.stand ∙ grows.shows (take i xs) led.gives

  -- the part would not give it
  pub not_given : (said (shown old) e.ask ≡ e.reply → ⊥) → IsLegalFrom reply after part number xs → ⊥
  not_given apart legal =
      apart (ap (λ (s : S). said s e.ask) shown_is ∙ sym (reply-given reply after part number xs i e legal less is))

  -- it gave it
  pub led_next : (new : TablesView) → said (shown old) e.ask ≡ e.reply
      → ((journals : JournalsView) (r : R) → AreLegal (with_entry journals (entry e.ask r)) → old ≡ tables_of journals → new ≡ tables_of (with_entry journals (entry e.ask r)))
      → Led said after part number grow new (take (i + 1) xs)
  led_next new same asked =
      let more = take i xs in
      let here : e.reply ≡ said (state_from after part number more) e.ask = sym same ∙ ap (λ (s : S). said s e.ask) shown_is in
      let gives : IsLegalFrom reply after part number (take (i + 1) xs) =
      subst (IsLegalFrom reply after part number) (sym next) (legal-snoc reply after part number more e led.gives here) in
      let to : with_entry (grow more) e ≡ grow (take (i + 1) xs) = grows.one_more more e ∙ ap grow (sym next) in
      let legal : AreLegal (with_entry (grow more) e) = subst (λ (w : JournalsView). AreLegal w) (sym to) (grows.legal (take (i + 1) xs) gives) in
      record { gives = gives; stand = asked (grow more) e.reply legal led.stand ∙ ap tables_of to }

-- tables that were asked nothing yet, and those that were asked all
module _ {S A R : Type 0} {said : S → A → R} {after : S → ℕ → A → S} {part : S} {number : ℕ} {grow : List (Entry A R) → JournalsView} {with_entry : JournalsView → Entry A R → JournalsView} {shown : TablesView → S}
    (grows : Grows said after part number grow with_entry shown) (tables : TablesView) where
  pub led_none : (w : JournalsView) → tables ≡ tables_of w → grow [] ≡ w → Led said after part number grow tables []
  led_none w stand none = record { gives = tt; stand = stand ∙ ap tables_of (sym none) }

  pub led_all : (xs : List (Entry A R)) (i : ℕ) → length xs ≤ i → Led said after part number grow tables (take i xs) → Led said after part number grow tables xs
  led_all xs i all led = subst (Led said after part number grow tables) (take_all i xs all) led
