use Rattle.std.proofs.Common.{sym, ap, subst, ◌∙◌, refl}
use Rattle.tq_json.specs.Plain.{tokens_at, goes_at, NotBeforeComma}
use Rattle.tq_json.specs.declared.reader.Place.TheVariants.{AfterComma, AfterValue}
use Rattle.tq_json.proofs.Marks.{closes_by, closes_not, solid_at, over_at, ended, closing_after_comma, comma_as_fresh, closing_as_fresh, not_begun}
use Rattle.tq_json.proofs.reader.foresee.Goals as goal

pub returns-then-closes : goal.returns-then-closes
returns-then-closes c =
    let t = c.args.text.now in
    ap (λ p. tokens_at p t) c.in-AfterComma.is ∙ closing_after_comma t (closes_by c.first_byte-first.result t c.first_byte-first.ensures c.if-closes.true)

pub returns-then-first-eq32 : goal.returns-then-first-eq32
returns-then-first-eq32 c =
    let t = c.args.text.now in
    ap (λ p. tokens_at p t) c.in-AfterComma.is ∙ ended AfterComma t (over_at t c.requires.at (sym c.first_byte-first.ensures ∙ c.if-first-eq32.true))

pub returns-else-first-eq32 : goal.returns-else-first-eq32
returns-else-first-eq32 c =
    let t = c.args.text.now in
    let none = closes_not c.first_byte-first.result t c.first_byte-first.ensures c.if-closes.false in
    (ap (λ p. tokens_at p t) c.in-AfterComma.is ∙ comma_as_fresh t (solid_at t c.requires.at (λ e. c.if-first-eq32.false (c.first_byte-first.ensures ∙ e))) none.0 none.1, ap goes_at c.in-AfterComma.is)

pub returns-then-closes-2 : goal.returns-then-closes-2
returns-then-closes-2 c =
    let t = c.args.text.now in
    (ap (λ p. tokens_at p t) c.in-AfterValue.is ∙ closing_as_fresh t (closes_by c.first_byte-first.result t c.first_byte-first.ensures c.if-closes-2.true), ap goes_at c.in-AfterValue.is)

pub returns-then-first-eq32-2 : goal.returns-then-first-eq32-2
returns-then-first-eq32-2 c =
    let t = c.args.text.now in
    ap (λ p. tokens_at p t) c.in-AfterValue.is ∙ ended AfterValue t (over_at t c.requires.at (sym c.first_byte-first.ensures ∙ c.if-first-eq32-2.true))

pub returns-else-first-eq32-2 : goal.returns-else-first-eq32-2
returns-else-first-eq32-2 c =
    let t = c.args.text.now in
    let none = closes_not c.first_byte-first.result t c.first_byte-first.ensures c.if-closes-2.false in
    ap (λ p. tokens_at p t) c.in-AfterValue.is
    ∙ not_begun AfterValue t refl (subst (λ p. NotBeforeComma p t) c.in-AfterValue.is c.requires.passed) (solid_at t c.requires.at (λ e. c.if-first-eq32-2.false (c.first_byte-first.ensures ∙ e))) none.0 none.1
