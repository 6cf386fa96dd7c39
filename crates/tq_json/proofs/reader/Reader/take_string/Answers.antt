use Rattle.std.proofs.Common.{◌≡◌, ◌∷◌, true, sym, ap, ◌∙◌}
use Rattle.json.specs.Token.{string}
use Rattle.tq_json.{specs.Plain.{IsQuoted, begins_at}, proofs.Marks.{goes_where_begins, string_taken, taken}}
use Rattle.tq_json.proofs.reader.Reader.take_string.Goals as goal

pub returns : goal.returns
returns c =
    let a = c.self.inside in
    let t = a.text.now in
    let r = c.in_ok-found.found.rest.now in
    let k = c.in_ok-found.found.word.now in
    let it : IsQuoted t k r = c.in_ok-found.ensures in
    let may : begins_at a.place ≡ true = sym c.may_begin.ensures ∙ c.if-not-may_begin.false in
    let p = c.after_value-passed.result in
    let e = string_taken a.place t k r may it (λ h. c.if-first_byte-eq58.false (c.first_byte.ensures ∙ h)) ∙ ap (λ ts. string k ∷ ts) (sym c.after_value-passed.ensures.same) in
    taken c.args.self.now a.rest a.place p.place t p.text.now (string k) c.self.view_is (c.self.invariant.alone (goes_where_begins a.place may)).0 e
