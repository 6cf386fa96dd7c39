use Rattle.std.proofs.Common.{◌≡◌, true, sym, ◌∙◌}
use Rattle.json.specs.Token.{key}
use Rattle.tq_json.specs.{Plain.{IsQuoted, begins_at}, declared.reader.Place.TheVariants.Fresh}
use Rattle.tq_json.proofs.Marks.{goes_where_begins, key_taken, taken}
use Rattle.tq_json.proofs.reader.Reader.take_key.Goals as goal

pub returns : goal.returns
returns c =
    let a = c.self.inside in
    let t = a.text.now in
    let r = c.in_ok-found.found.rest.now in
    let k = c.in_ok-found.found.word.now in
    let it : IsQuoted t k r = c.in_ok-found.ensures in
    let may : begins_at a.place ≡ true = sym c.may_begin.ensures ∙ c.if-not-may_begin.false in
    let u = c.behind-self-inside.result.now in
    let e = key_taken a.place t k r u may it (sym c.first_byte.ensures ∙ c.if-first_byte-ne58.false) c.behind-self-inside.ensures.same in
    taken c.args.self.now a.rest a.place Fresh t u (key k) c.self.view_is (c.self.invariant.alone (goes_where_begins a.place may)).0 e
