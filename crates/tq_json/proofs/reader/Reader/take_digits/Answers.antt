use Rattle.std.proofs.{Common.{◌≡◌, ◌∷◌, ◌+◌, ◌-◌, true, take, sym, ap, subst, ◌∙◌, arith}, lemmas.List.length-take-le}
use Rattle.std.{proofs.lemmas.Str.IsCharBoundary-after_ascii, specs.Str.IsCharBoundary}
use Rattle.json.specs.{Token.number, Lex.{between, lex, after_value, punctuate}}
use Rattle.tq_json.{specs.Plain.{IsCounted, begins_at}, proofs.Marks.{goes_where_begins, number_taken, taken}}
use Rattle.tq_json.proofs.reader.Reader.take_digits.Goals as goal

pub range_from-requires : goal.range_from-requires
range_from-requires c some =
    let k = c.in_ok-found.found.count in
    let it = c.in_ok-found.ensures in
    let before : k - 1 + 1 ≡ k = omega (arith, it.some) in
    let bytes : IsCharBoundary c.as_bytes.result.now k = subst (IsCharBoundary c.as_bytes.result.now) before
    (IsCharBoundary-after_ascii c.as_bytes.result.now (k - 1) c.as_bytes.ensures.utf8 (omega (arith, it.some, it.within)) it.last) in
    subst (λ t. IsCharBoundary t k) c.as_bytes.ensures.value bytes

pub returns : goal.returns
returns c =
    let a = c.self.inside in
    let t = a.text.now in
    let n = c.in_ok-found.found.number in
    let k = c.in_ok-found.found.count in
    let it : IsCounted t n k = subst (λ u. IsCounted u n k) c.as_bytes.ensures.value c.in_ok-found.ensures in
    let may : begins_at a.place ≡ true = sym c.may_begin.ensures ∙ c.if-not-may_begin.false in
    let p = c.after_value-passed.result in
    let s = take k t in
    let long = length-take-le k t it.within in
    let e = number_taken a.place t n k may it ∙ ap (λ ts. number s ∷ ts) (ap (λ u. punctuate after_value (lex between u)) (sym c.range_from.ensures.value) ∙ sym c.after_value-passed.ensures.same) in
    (s, taken c.args.self.now a.rest a.place p.place t p.text.now (number s) c.self.view_is (c.self.invariant.alone (goes_where_begins a.place may)).0 e, omega (arith, long, it.some), omega (arith, long, it.few), it.digits, it.value)
