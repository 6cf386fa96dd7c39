-- Values that were taken one at a time, before those that are left.
use Rattle.std.proofs.Common.{◌≡◌, ◌≤◌, ◌<◌, ℕ, Bool, true, false, cond, List, [], ◌∷◌, ◌++◌, length, Option, Some, None, refl, sym, ap, ◌∙◌, arith, append_assoc, append-nil, lt_of_not-le}
use Rattle.std.proofs.lemmas.{Bool.{lt-leb, le-leb, false≢true}, List.length-append, Slice.Eq.bytes_eq-Decides}
use Rattle.std.specs.{Prelude.{◌↔◌, IsTrue, MatchOption}, Str.bytes_eq}
use Rattle.json.specs.{Token.Token, Json.parse_map}
use Rattle.serde_json.specs.{Data.{Data, Items, no_items, item, Members, put}, Find.get_member}
use Rattle.serde_json.proofs.Views.{get_member-put, get_member-put_other}
use Rattle.tq_json.{specs.{Next.HasNoNames, Member.{◌>>=◌, each}}, proofs.Nexts.{with_front, no_front}}
use Rattle.tq_json_read.specs.Slots.{names_of, with, within_cap}

-- ---- items

-- the values before the rest
abbrev pub before : List Data → Items → Items
before [] rest = rest
before (d ∷ ds) rest = item d (before ds rest)

before-one : (front : List Data) (d : Data) (rest : Items) → before front (item d rest) ≡ before (front ++ d ∷ []) rest
before-one [] d rest = refl
before-one (x ∷ front) d rest = ap (item x) (before-one front d rest)

joined : (front : List Data) (d : Data) (o : Option (Items × List Token)) → parse_map (before front) (parse_map (item d) o) ≡ parse_map (before (front ++ d ∷ [])) o
joined front d None = refl
joined front d (Some p) = ap (λ ds. Some (ds, p.1)) (before-one front d p.0)

pub none_before : (o : Option (Items × List Token)) → o ≡ parse_map (before []) o
none_before None = refl
none_before (Some p) = refl

-- one value more was taken
pub one_more : (front : List Data) (d : Data) (all now later : Option (Items × List Token)) → all ≡ parse_map (before front) now → now ≡ parse_map (item d) later → all ≡ parse_map (before (front ++ d ∷ [])) later
one_more front d all now later e turn = e ∙ ap (parse_map (before front)) turn ∙ joined front d later

-- what is read of the values is what was read so far, before what is read of the rest
abbrev pub Goes : {A : Type 0} → (Data → Option A) → List Data → List A → Type 0
Goes form front xs = (rest : Items) → each form (before front rest) ≡ with_front xs (each form rest)

pub goes_first : {A : Type 0} (form : Data → Option A) (xs : List A) → xs ≡ [] → Goes form [] xs
goes_first form xs e rest = sym (ap (λ ys. with_front ys (each form rest)) e ∙ no_front (each form rest))

moved : {A : Type 0} (front : List A) (a : A) (o : Option (List A)) → with_front front (o >>= λ rest. Some (a ∷ rest)) ≡ with_front (front ++ a ∷ []) o
moved front a None = refl
moved front a (Some rest) = ap Some (sym (append_assoc front (a ∷ []) rest))

pub goes_on : {A : Type 0} (form : Data → Option A) (front : List Data) (xs new : List A) (d : Data) (a : A) → Goes form front xs → Some a ≡ form d → new ≡ xs ++ a ∷ [] → Goes form (front ++ d ∷ []) new
goes_on form front xs new d a so_far is pushed rest =
    ap (each form) (sym (before-one front d rest)) ∙ so_far (item d rest)
    ∙ ap (λ o. with_front xs (o >>= λ first. each form rest >>= λ others. Some (first ∷ others))) (sym is)
    ∙ moved xs a (each form rest) ∙ ap (λ ys. with_front ys (each form rest)) (sym pushed)

pub all_read : {A : Type 0} (form : Data → Option A) (most : Option ℕ) (front : List Data) (xs : List A) → Goes form front xs → within_cap most (Some xs) ≡ Some xs → Some xs ≡ within_cap most (each form (before front no_items))
all_read form most front xs so_far fits = sym (ap (within_cap most) (so_far no_items ∙ ap Some (append-nil xs)) ∙ fits)

pub one_is_none : {A : Type 0} (form : Data → Option A) (most : Option ℕ) (front : List Data) (xs : List A) (d : Data) (rest : Items) → Goes form front xs → None ≡ form d → None ≡ within_cap most (each form (before front (item d rest)))
one_is_none form most front xs d rest so_far is =
    sym (ap (within_cap most) (so_far (item d rest) ∙ ap (λ o. with_front xs (o >>= λ first. each form rest >>= λ others. Some (first ∷ others))) (sym is)))

over : {A : Type 0} (most : ℕ) (xs : List A) (a : A) (o : Option (List A)) → most ≤ length xs → None ≡ within_cap (Some most) (with_front xs (o >>= λ others. Some (a ∷ others)))
over most xs a None full = refl
over most xs a (Some rest) full =
    let long : most < length (xs ++ a ∷ rest) = omega (arith, length-append xs (a ∷ rest)) in
    ap (λ b. cond b (Some (xs ++ a ∷ rest)) None) (sym (lt-leb (length (xs ++ a ∷ rest)) most long))

pub one_too_many : {A : Type 0} (form : Data → Option A) (most : ℕ) (front : List Data) (xs : List A) (d : Data) (a : A) (rest : Items) → Goes form front xs → Some a ≡ form d → most ≤ length xs
    → None ≡ within_cap (Some most) (each form (before front (item d rest)))
one_too_many form most front xs d a rest so_far is full =
    over most xs a (each form rest) full
    ∙ sym (ap (within_cap (Some most)) (so_far (item d rest) ∙ ap (λ o. with_front xs (o >>= λ first. each form rest >>= λ others. Some (first ∷ others))) (sym is)))

pub fits_limit : {A : Type 0} (most : ℕ) (xs : List A) → length xs ≤ most → within_cap (Some most) (Some xs) ≡ Some xs
fits_limit most xs e = ap (λ b. cond b (Some xs) None) (le-leb (length xs) most e)

pub empty_fits : {A : Type 0} (most : Option ℕ) (xs : List A) → xs ≡ [] → within_cap most (Some xs) ≡ Some xs
empty_fits None xs e = refl
empty_fits (Some most) xs e = fits_limit most xs (omega (arith, ap length e))

-- a list is full, or not
pub full_is_none : {A : Type 0} (form : Data → Option A) (most : Option ℕ) (front : List Data) (xs : List A) (d : Data) (a : A) (rest : Items) (n : ℕ) (full : Bool)
    → Goes form front xs → Some a ≡ form d → n ≡ length xs → MatchOption most (full ≡ false) (λ m. IsTrue full ↔ (m ≤ n)) → full ≡ true
    → None ≡ within_cap most (each form (before front (item d rest)))
full_is_none form None front xs d a rest n full so_far is count h e = absurd (false≢true (sym h ∙ e))
full_is_none form (Some most) front xs d a rest n full so_far is count h e = one_too_many form most front xs d a rest so_far is (omega (arith, h.0 e, count))

pub still_fits : {A : Type 0} (most : Option ℕ) (xs new : List A) (a : A) (n : ℕ) (full : Bool) → n ≡ length xs → MatchOption most (full ≡ false) (λ m. IsTrue full ↔ (m ≤ n)) → full ≡ false
    → new ≡ xs ++ a ∷ [] → within_cap most (Some new) ≡ Some new
still_fits None xs new a n full count h e pushed = refl
still_fits (Some most) xs new a n full count h e pushed =
    let less : n < most = lt_of_not-le (λ le. false≢true (sym e ∙ h.1 le)) in
    fits_limit most new (omega (arith, less, count, ap length pushed, length-append xs (a ∷ [])))

-- ---- members

put_at : (key : List ℕ) (d : Data) (found : Members) (name : List ℕ) (b : Bool) → bytes_eq key name ≡ b → cond b (Some d) (get_member name found) ≡ get_member name (put key d found)
put_at key d found name true e = sym (ap (λ n. get_member n (put key d found)) (sym ((bytes_eq-Decides key name).0 e)) ∙ get_member-put key d found)
put_at key d found name false e = sym (get_member-put_other name key d found (λ same. false≢true (sym e ∙ (bytes_eq-Decides key name).1 (sym same))))

pub with_put : (key : List ℕ) (d : Data) (found : Members) → with key d (λ name. get_member name found) ≡ (λ name. get_member name (put key d found))
with_put key d found = λ i name. put_at key d found name (bytes_eq key name) refl i

pub no_names_at : (d : Data) → HasNoNames d → (λ name. None) ≡ names_of d
no_names_at d none = λ i name. sym (none name) i
