use Rattle.std.proofs.Common.{◌≡◌, Some, sym, ap, ◌∙◌}
use Rattle.tq_json_read.specs.{Slots.{names_of, file_fields, journals_from}, Frame.{plan_from, plan_of}}
use Rattle.tq_json_read.specs.declared.{file.FileFields.FileFields, entry.Plan.Plan}
use Rattle.tq_json_read.proofs.Planned.{is_planned, same_plan}
use Rattle.tq_json_read.proofs.read.read_by.Goals as goal

pub journals_from-requires : goal.journals_from-requires
journals_from-requires c =
    let d = c.in_ok-fields.ensures.ok in
    let given = c.in-Some-plan.given in
    let same : given ≡ c.args.plan.now = same_plan given c.args.plan.now c.ne.result c.ne.ensures c.if-ne.false in
    let held : Some c.in-Some.fields ≡ Some (file_fields c.args.plan.now (names_of d.0)) = sym c.in-Some.is ∙ d.2 in
    let fields : c.in-Some.fields ≡ file_fields c.args.plan.now (names_of d.0) = cc in
    let gives : plan_of d.0 ≡ Some given = sym (ap (λ (f : FileFields). plan_from f.format f.levels f.limits) fields) ∙ sym c.plan.ensures ∙ c.in-Some-plan.is in
    (c.args.plan.now, d.0, fields, gives ∙ ap Some same, ap (λ (plan : Plan). plan.levels) same)

pub returns-in-Some-2-clause-ok : goal.returns-in-Some-2-clause-ok
returns-in-Some-2-clause-ok c =
    let d = c.in_ok-fields.ensures.ok in
    let given = c.in-Some-plan.given in
    let same : given ≡ c.args.plan.now = same_plan given c.args.plan.now c.ne.result c.ne.ensures c.if-ne.false in
    let held : Some c.in-Some.fields ≡ Some (file_fields c.args.plan.now (names_of d.0)) = sym c.in-Some.is ∙ d.2 in
    let fields : c.in-Some.fields ≡ file_fields c.args.plan.now (names_of d.0) = cc in
    let gives : plan_of d.0 ≡ Some given = sym (ap (λ (f : FileFields). plan_from f.format f.levels f.limits) fields) ∙ sym c.plan.ensures ∙ c.in-Some-plan.is in
    let made = ap (λ p. journals_from given.levels (file_fields p (names_of d.0))) same ∙ sym (ap (journals_from given.levels) fields) ∙ sym c.in_ok-journals.ensures in
    (d.0, d.1, sym (is_planned given d.0 gives) ∙ made ∙ c.in-Some-2.is)

pub returns-in-None-clause-ok : goal.returns-in-None-clause-ok
returns-in-None-clause-ok c =
    let d = c.in_ok-fields.ensures.ok in
    let given = c.in-Some-plan.given in
    let same : given ≡ c.args.plan.now = same_plan given c.args.plan.now c.ne.result c.ne.ensures c.if-ne.false in
    let held : Some c.in-Some.fields ≡ Some (file_fields c.args.plan.now (names_of d.0)) = sym c.in-Some.is ∙ d.2 in
    let fields : c.in-Some.fields ≡ file_fields c.args.plan.now (names_of d.0) = cc in
    let gives : plan_of d.0 ≡ Some given = sym (ap (λ (f : FileFields). plan_from f.format f.levels f.limits) fields) ∙ sym c.plan.ensures ∙ c.in-Some-plan.is in
    let made = ap (λ p. journals_from given.levels (file_fields p (names_of d.0))) same ∙ sym (ap (journals_from given.levels) fields) ∙ sym c.in_ok-journals.ensures in
    (d.0, d.1, sym (is_planned given d.0 gives) ∙ made ∙ c.in-None.is)
