use Rattle.std.proofs.Common.{◌≡◌, ◌<◌, ◌+◌, get_or, length, drop, Some, lt_of_not-le, sym, ap, ◌∙◌, arith}
use Rattle.std.proofs.lemmas.{Str.IsCharBoundary-after_ascii, List.{get_or_default, get_or_past}}
use Rattle.std.specs.List.{prefix_len}
use Rattle.json.specs.{Word.head, Lex.{between, lex}, Run.is_plain}
use Rattle.tq_json.proofs.Lexemes.{quoted}
use Rattle.tq_json.proofs.lexeme.string_first.Goals as goal

pub range-word-requires-clause-start_boundary : goal.range-word-requires-clause-start_boundary
range-word-requires-clause-start_boundary c some =
    let d = c.args.text.now in
    let bytes = c.as_bytes-bytes.ensures.value in
    let first : head d ≡ 34 = ap head (sym bytes) ∙ sym c.byte_at.ensures.value ∙ c.if-byte_at-ne34.false in
    let stop = c.plain_end-stop.result in
    let is : stop ≡ 1 + prefix_len is_plain (drop 1 d) = c.plain_end-stop.ensures.value ∙ ap (λ t. 1 + prefix_len is_plain (drop 1 t)) bytes in
    let closing : get_or d stop 32 ≡ 34 = ap (λ t. get_or t stop 32) (sym bytes) ∙ sym c.byte_at-2.ensures.value ∙ c.if-byte_at-ne34-2.false in
    let within : 0 < length d = lt_of_not-le (λ h. omega (arith, first, get_or_past d 0 32 h)) in
    IsCharBoundary-after_ascii d 0 c.utf8.text within (omega (arith, get_or_default d 0 0 32 within, first))

pub range_from-requires : goal.range_from-requires
range_from-requires c some =
    let d = c.args.text.now in
    let bytes = c.as_bytes-bytes.ensures.value in
    let first : head d ≡ 34 = ap head (sym bytes) ∙ sym c.byte_at.ensures.value ∙ c.if-byte_at-ne34.false in
    let stop = c.plain_end-stop.result in
    let is : stop ≡ 1 + prefix_len is_plain (drop 1 d) = c.plain_end-stop.ensures.value ∙ ap (λ t. 1 + prefix_len is_plain (drop 1 t)) bytes in
    let closing : get_or d stop 32 ≡ 34 = ap (λ t. get_or t stop 32) (sym bytes) ∙ sym c.byte_at-2.ensures.value ∙ c.if-byte_at-ne34-2.false in
    let within : stop < length d = lt_of_not-le (λ h. omega (arith, closing, get_or_past d stop 32 h)) in
    IsCharBoundary-after_ascii d stop c.utf8.text within (omega (arith, get_or_default d stop 0 32 within, closing))

pub returns : goal.returns
returns c =
    let d = c.args.text.now in
    let bytes = c.as_bytes-bytes.ensures.value in
    let first : head d ≡ 34 = ap head (sym bytes) ∙ sym c.byte_at.ensures.value ∙ c.if-byte_at-ne34.false in
    let stop = c.plain_end-stop.result in
    let is : stop ≡ 1 + prefix_len is_plain (drop 1 d) = c.plain_end-stop.ensures.value ∙ ap (λ t. 1 + prefix_len is_plain (drop 1 t)) bytes in
    let closing : get_or d stop 32 ≡ 34 = ap (λ t. get_or t stop 32) (sym bytes) ∙ sym c.byte_at-2.ensures.value ∙ c.if-byte_at-ne34-2.false in
    let q = quoted d stop first is closing in
    record {
      begins = first;
      content = q.0 ∙ ap Some (sym c.range-word.ensures.value);
      same = c.after_spaces-rest.ensures.same ∙ ap (lex between) c.range_from.ensures.value ∙ q.1;
      passed = c.after_spaces-rest.ensures.passed;
    }
