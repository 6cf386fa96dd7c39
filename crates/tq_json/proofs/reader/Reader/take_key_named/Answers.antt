use Rattle.std.proofs.Common.{◌≡◌, ◌+◌, true, length, drop, sym, ap, subst, ◌∙◌, arith}
use Rattle.std.{proofs.lemmas.Str.IsCharBoundary-after_ascii, specs.Str.{IsCharBoundary, IsUtf8}}
use Rattle.json.specs.{Token.key, Lex.{between, lex}}
use Rattle.tq_json.specs.{Plain.{IsKeyFirst, begins_at}, declared.reader.Place.TheVariants.Fresh}
use Rattle.tq_json.proofs.{Lexemes.{key_quoted, colon_behind, behind_key}, Marks.{goes_where_begins, key_taken, taken}}
use Rattle.tq_json.proofs.reader.Reader.take_key_named.Goals as goal

pub range_from-requires : goal.range_from-requires
range_from-requires c some =
    let t = c.self.inside.text.now in
    let n = c.args.name.now in
    let it : IsKeyFirst n t = subst (λ u. IsKeyFirst n u) c.as_bytes.ensures.value (subst (λ m. IsKeyFirst m c.as_bytes.result.now) c.as_bytes-2.ensures.value (c.begins_with_key.ensures c.if-not-begins_with_key.false)) in
    let utf8 : IsUtf8 t = subst IsUtf8 c.as_bytes.ensures.value c.as_bytes.ensures.utf8 in
    let last : length n + 2 + 1 ≡ length n + 3 = omega arith in
    subst (IsCharBoundary t) last (IsCharBoundary-after_ascii t (length n + 2) utf8 (omega (arith, it.0)) (omega (arith, it.4)))

pub returns : goal.returns
returns c plain_name =
    let a = c.self.inside in
    let t = a.text.now in
    let n = c.args.name.now in
    let it : IsKeyFirst n t = subst (λ u. IsKeyFirst n u) c.as_bytes.ensures.value (subst (λ m. IsKeyFirst m c.as_bytes.result.now) c.as_bytes-2.ensures.value (c.begins_with_key.ensures c.if-not-begins_with_key.false)) in
    let may : begins_at a.place ≡ true = sym c.may_begin.ensures ∙ c.if-not-may_begin.false in
    let u = c.after_spaces-self-inside.result.now in
    let same = c.after_spaces-self-inside.ensures.same ∙ ap (lex between) c.range_from.ensures.value ∙ behind_key n t it in
    let e = key_taken a.place t n (drop (length n + 2) t) u may (key_quoted n t it plain_name) (colon_behind n t it) same in
    taken c.args.self.now a.rest a.place Fresh t u (key n) c.self.view_is (c.self.invariant.alone (goes_where_begins a.place may)).0 e
