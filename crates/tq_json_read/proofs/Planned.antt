-- A file that is read by its own plan gives its journals.
-- The form of journal files is that of either format, and no value is of both.
use Rattle.std.proofs.Common.{◌≡◌, ℕ, Bool, true, false, not, ◌&&◌, List, codes, Option, Some, None, refl, sym, ap, subst, ◌∙◌, ◌==◌, ◌⊎◌, inl, inr, cond, arith}
use Rattle.std.proofs.lemmas.Bool.{false≢true, and_parts, eqb-true}
use lib.Dec.{eqb}
use denote.Enum.Bare as Bare
use Rattle.tq_json.specs.{contracts.format.Format.the_type, declared.format.Format.TheVariants.{One, Two}}
use Rattle.tq_json.specs.{declared.format.Format.Format, Member.{format_of, ◌>>=◌, number_at, format_number}}
use Rattle.serde_json.specs.Data.{Data}
use Rattle.tq_shape.specs.Limits.{LimitsView}
use Rattle.tq_node.specs.NodeJournal.{NodeEntry}
use Rattle.tq_desk.specs.DeskJournal.{DeskEntry}
use Rattle.tq_tables.specs.Journals.{JournalsView, ViewEntry, AreJournals}
use Rattle.tq_json_read.{specs.declared.{entry.Plan.Plan, file.FileFields.FileFields}, proofs.Held.read-are-journals}
use Rattle.tq_json_read.specs.Frame.{levels_at, limits_at, servers_at, desk_at, view_at, journals_in, journals_by, journals_of, plan_of, IsInFormat, AreBothRead}
use Rattle.tq_json_read.specs.Slots.{names_of, file_fields, journals_from, IsPlanned}

bound : {A B : Type 0} (o : Option A) (f : A → Option B) (b : B) → (o >>= f) ≡ Some b → (a : A) × (o ≡ Some a) × (f a ≡ Some b)
bound None f b e = absurd (cc)
bound (Some a) f b e = (a, refl, e)

abbrev plan_in : Plan → Option Plan → Plan
plan_in plan None = plan
plan_in plan (Some other) = other

record Given (plan : Plan) (d : Data) : Type 0 where
  number : ℕ
  limits : LimitsView
  at_format : number_at (codes "format") d ≡ Some number
  is_format : format_of number ≡ Some plan.format
  at_levels : levels_at plan.format d ≡ Some plan.levels
  at_limits : limits_at d ≡ Some limits
  is_limit : limits.entries ≡ plan.limit

given : (plan : Plan) (d : Data) → plan_of d ≡ Some plan → Given plan d
given plan d e =
    let n = bound (number_at (codes "format") d) _ plan e in
    let f = bound (format_of n.0) _ plan n.2 in
    let l = bound (levels_at f.0 d) _ plan f.2 in
    let m = bound (limits_at d) _ plan l.2 in
    let same = ap (plan_in plan) m.2 in
    record {
      number = n.0;
      limits = m.0;
      at_format = n.1;
      is_format = f.1 ∙ ap (λ (p : Plan). Some p.format) same;
      at_levels = subst (λ (p : Plan). levels_at p.format d ≡ Some p.levels) same l.1;
      at_limits = m.1;
      is_limit = ap (λ (p : Plan). p.limit) same;
    }

abbrev parts : Plan → Data → LimitsView → ℕ → Option JournalsView
parts plan d limits limit =
    servers_at plan.format plan.levels limit d >>= λ servers. desk_at plan.format limit d >>= λ desk. view_at plan.format plan.levels limit d >>= λ view.
    Some (record { levels = plan.levels; limits = limits; servers = servers; desk = desk; view = view })

in_format : (format : Format) (d : Data) (levels : ℕ) (limits : LimitsView) → levels_at format d ≡ Some levels → limits_at d ≡ Some limits
    → journals_in format d ≡ parts (record { format = format; levels = levels; limit = limits.entries }) d limits limits.entries
in_format format d levels limits a b =
    ap (λ o. o >>= λ levels. limits_at d >>= λ limits. parts (record { format = format; levels = levels; limit = limits.entries }) d limits limits.entries) a
    ∙ ap (λ o. o >>= λ limits. parts (record { format = format; levels = levels; limit = limits.entries }) d limits limits.entries) b

pub is_planned : (plan : Plan) (d : Data) → plan_of d ≡ Some plan → journals_from plan.levels (file_fields plan (names_of d)) ≡ journals_of d
is_planned plan d e =
    let g = given plan d e in
    ap (λ o. o >>= λ limits. parts plan d limits plan.limit) g.at_limits ∙ ap (parts plan d g.limits) (sym g.is_limit)
    ∙ sym (ap (λ o. o >>= λ number. journals_by number d) g.at_format ∙ ap (λ o. o >>= λ format. journals_in format d) g.is_format ∙ in_format plan.format d plan.levels g.limits g.at_levels g.at_limits)

-- ---- the journals are what the types hold

pub planned-are-journals : (levels : ℕ) (fields : FileFields) (limits : LimitsView) (servers : List (List NodeEntry)) (desk : List DeskEntry) (view : List ViewEntry) → IsPlanned levels fields
    → fields.limits ≡ Some limits → fields.servers ≡ Some servers → fields.desk ≡ Some desk → fields.view ≡ Some view
    → AreJournals (record { levels = levels; limits = limits; servers = servers; desk = desk; view = view })
planned-are-journals levels fields limits servers desk view (plan, d, is, gives, same) l s k v =
    let g = given plan d gives in
    let at_limits : Some limits ≡ Some g.limits = sym l ∙ ap (λ (f : FileFields). f.limits) is ∙ g.at_limits in
    let limit : plan.limit ≡ limits.entries = sym g.is_limit ∙ sym (ap entries_in at_limits) in
    subst (λ n. AreJournals (record { levels = n; limits = limits; servers = servers; desk = desk; view = view })) (sym same)
    (read-are-journals plan.format plan.levels limits plan.limit d servers desk view limit
    (sym s ∙ ap (λ (f : FileFields). f.servers) is) (sym k ∙ ap (λ (f : FileFields). f.desk) is) (sym v ∙ ap (λ (f : FileFields). f.view) is))
  where
    entries_in : Option LimitsView → ℕ
    entries_in None = 0
    entries_in (Some limits) = limits.entries

-- ---- the same plan

abbrev planned : Format → ℕ → ℕ → Plan
planned format levels limit = record { format = format; levels = levels; limit = limit }

unnot : (b : Bool) → not b ≡ false → b ≡ true
unnot true e = refl
unnot false e = absurd (false≢true (sym e))

same_format : (f g : Format) → Bare.sameb the_type f g ≡ true → f ≡ g
same_format One One e = refl
same_format One Two e = absurd (false≢true e)
same_format Two One e = absurd (false≢true e)
same_format Two Two e = refl

pub same_plan : (a b : Plan) (other : Bool) → other ≡ not (Bare.sameb the_type a.format b.format && (eqb a.levels b.levels && eqb a.limit b.limit)) → other ≡ false → a ≡ b
same_plan a b other is e =
    let all = and_parts _ _ (unnot _ (sym is ∙ e)) in
    let both = and_parts _ _ all.1 in
    same_parts a.format b.format a.levels b.levels a.limit b.limit (same_format a.format b.format all.0) (eqb-true a.levels b.levels both.0) (eqb-true a.limit b.limit both.1)
  where
    same_parts : (f g : Format) (l m i j : ℕ) → f ≡ g → l ≡ m → i ≡ j → planned f l i ≡ planned g m j
    same_parts f g l m i j p q r = λ k. record { format = p k; levels = q k; limit = r k }

-- ---- formats

by_tests : (a b : Bool) (number : ℕ) (format : Format) → (number == 1) ≡ a → (number == 2) ≡ b → cond a (Some One) (cond b (Some Two) None) ≡ Some format → number ≡ format_number format
by_tests true b number One p q e = eqb-true number 1 p
by_tests true b number Two p q e = absurd cc
by_tests false true number One p q e = absurd cc
by_tests false true number Two p q e = eqb-true number 2 q
by_tests false false number format p q e = absurd cc

number_is : (number : ℕ) (format : Format) → format_of number ≡ Some format → number ≡ format_number format
number_is number format e = by_tests (number == 1) (number == 2) number format refl refl e

of_format : (value : Data) (journals : JournalsView) (number : ℕ) (f : Option Format) → format_of number ≡ f → number_at (codes "format") value ≡ Some number
    → (f >>= λ format. journals_in format value) ≡ Some journals → IsInFormat One value journals ⊎ IsInFormat Two value journals
of_format value journals number None is e h = absurd cc
of_format value journals number (Some One) is e h = inl (e ∙ ap Some (number_is number One is), h)
of_format value journals number (Some Two) is e h = inr (e ∙ ap Some (number_is number Two is), h)

of_number : (value : Data) (journals : JournalsView) (o : Option ℕ) → number_at (codes "format") value ≡ o
    → (o >>= λ number. journals_by number value) ≡ Some journals → IsInFormat One value journals ⊎ IsInFormat Two value journals
of_number value journals None e h = absurd cc
of_number value journals (Some number) e h = of_format value journals number (format_of number) refl e h

-- what is of one format is read
pub is_read : (format : Format) (value : Data) (journals : JournalsView) → IsInFormat format value journals → journals_of value ≡ Some journals
is_read One value journals h = ap (λ o. o >>= λ number. journals_by number value) h.0 ∙ h.1
is_read Two value journals h = ap (λ o. o >>= λ number. journals_by number value) h.0 ∙ h.1

same_number : (f g : Format) → format_number f ≡ format_number g → f ≡ g
same_number One One e = refl
same_number One Two e = absurd (omega (arith, e))
same_number Two One e = absurd (omega (arith, e))
same_number Two Two e = refl

only_once : (value : Data) (f g : Format) (j k : JournalsView) → IsInFormat f value j → IsInFormat g value k → (f ≡ g) × (j ≡ k)
only_once value f g j k a b =
    let numbers : Some (format_number f) ≡ Some (format_number g) = sym a.0 ∙ b.0 in
    let number : format_number f ≡ format_number g = cc in
    let same : f ≡ g = same_number f g number in
    let read : Some j ≡ Some k = sym a.1 ∙ ap (λ format. journals_in format value) same ∙ b.1 in
    let equal : j ≡ k = cc in
    (same, equal)

pub both_read : AreBothRead
both_read = record {
  read = λ value journals. (
    λ h. of_number value journals (number_at (codes "format") value) refl h,
    λ h. elim h [
      | inl one ↦ is_read One value journals one
      | inr two ↦ is_read Two value journals two
    ],
  );
  once = only_once;
}
