use Rattle.std.proofs.Common.{◌≡◌, ◌∷◌, true, sym, ap, ◌∙◌}
use Rattle.json.specs.Token.{end_object}
use Rattle.tq_json.{specs.Plain.closes_at, proofs.Marks.{goes_where_closes, end_object_taken, taken}}
use Rattle.tq_json.proofs.reader.Reader.take_end_object.Goals as goal

pub returns : goal.returns
returns c =
    let a = c.self.inside in
    let t = a.text.now in
    let may : closes_at a.place ≡ true = sym c.may_close.ensures ∙ c.if-not-may_close.false in
    let p = c.after_value-passed.result in
    let e = end_object_taken a.place t c.behind.result.now may (sym c.first_byte.ensures ∙ c.if-first_byte-ne125.false) c.behind.ensures.same ∙ ap (λ ts. end_object ∷ ts) (sym c.after_value-passed.ensures.same) in
    taken c.args.self.now a.rest a.place p.place t p.text.now end_object c.self.view_is (c.self.invariant.alone (goes_where_closes a.place may)).0 e
