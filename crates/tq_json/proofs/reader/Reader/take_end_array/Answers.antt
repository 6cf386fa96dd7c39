use Rattle.std.proofs.Common.{◌≡◌, ◌∷◌, true, sym, ap, inr, ◌∙◌}
use Rattle.json.specs.{Token.end_array, Json.after_end_array}
use Rattle.tq_json.specs.Plain.{closes_at}
use Rattle.tq_json.proofs.Marks.{not_closed, refused_no_end, no_end_array, end_array_taken, taken, not_ended}
use Rattle.tq_json.proofs.reader.Reader.take_end_array.Goals as goal

pub returns-then-first_byte-ne93 : goal.returns-then-first_byte-ne93
returns-then-first_byte-ne93 c =
    let a = c.self.inside in
    let t = a.text.now in
    (not_ended c.args.self.now a.rest a.place t c.self.view_is c.in_default.is (no_end_array a.place t c.self.invariant.at c.self.invariant.passed (λ e. c.if-first_byte-ne93.true (c.first_byte.ensures ∙ e))), c.self.view_is)

pub returns-then-not-may_close : goal.returns-then-not-may_close
returns-then-not-may_close c =
    let a = c.self.inside in
    let t = a.text.now in
    let none = not_closed a.place t (sym c.may_close.ensures ∙ c.if-not-may_close.true) (inr (sym c.first_byte.ensures ∙ c.if-first_byte-ne93.false)) in
    (not_ended c.args.self.now a.rest a.place t c.self.view_is c.in_default.is (ap after_end_array none ∙ refused_no_end a.place), c.self.view_is)

pub returns : goal.returns
returns c =
    let a = c.self.inside in
    let t = a.text.now in
    let may : closes_at a.place ≡ true = sym c.may_close.ensures ∙ c.if-not-may_close.false in
    let p = c.after_value-passed.result in
    let e = end_array_taken a.place t c.behind.result.now may (sym c.first_byte.ensures ∙ c.if-first_byte-ne93.false) c.behind.ensures.same ∙ ap (λ ts. end_array ∷ ts) (sym c.after_value-passed.ensures.same) in
    ap after_end_array (taken c.args.self.now a.rest a.place p.place t p.text.now end_array c.self.view_is c.in_default.is e)
