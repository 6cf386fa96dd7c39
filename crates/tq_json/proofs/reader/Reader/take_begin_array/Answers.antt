use Rattle.std.proofs.Common.{◌≡◌, true, sym, ◌∙◌}
use Rattle.json.specs.Token.{begin_array}
use Rattle.tq_json.specs.{Plain.begins_at, declared.reader.Place.TheVariants.Fresh}
use Rattle.tq_json.proofs.Marks.{goes_where_begins, array_taken, taken}
use Rattle.tq_json.proofs.reader.Reader.take_begin_array.Goals as goal

pub returns : goal.returns
returns c =
    let a = c.self.inside in
    let t = a.text.now in
    let may : begins_at a.place ≡ true = sym c.may_begin.ensures ∙ c.if-not-may_begin.false in
    let e = array_taken a.place t c.behind-self-inside.result.now may (sym c.first_byte.ensures ∙ c.if-first_byte-ne91.false) c.behind-self-inside.ensures.same in
    taken c.args.self.now a.rest a.place Fresh t c.behind-self-inside.result.now begin_array c.self.view_is (c.self.invariant.alone (goes_where_begins a.place may)).0 e
