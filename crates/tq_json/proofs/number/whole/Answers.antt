use Rattle.std.{proofs.Common.{◌≡◌, drop, get_or, true, false, ◌==◌, Some, sym, ap, ◌∙◌}, specs.Option.option_and_then}
use Rattle.fast_float.specs.Text.{scan}
use Rattle.serde_json.specs.{Find.as_u64, Read.{number_of, number_from}}
use Rattle.tq_json.proofs.Contents.{none-negative, few}
use Rattle.tq_json.proofs.number.whole.Goals as goal

pub returns-then-has_minus : goal.returns-then-has_minus
unfolding number_of
returns-then-has_minus c =
    let s = c.as_bytes-bytes.result.now in
    let signed : (get_or s 0 0 == 45) ≡ true = sym c.if-has_minus.ensures.value in
    let read : number_from true (scan (drop 1 s)) ≡ number_of s = rw signed in
    none-negative (scan (drop 1 s)) ∙ ap (option_and_then as_u64) (read ∙ ap number_of c.as_bytes-bytes.ensures.value)

pub returns-in-Some : goal.returns-in-Some
unfolding number_of
returns-in-Some c =
    let s = c.as_bytes-bytes.result.now in
    let unsigned : (get_or s 0 0 == 45) ≡ false = sym c.if-has_minus.ensures.value in
    let read : number_from false (scan s) ≡ number_of s = rw unsigned in
    let few_enough = few s c.in-Some.ensures.some c.in-Some.ensures.few c.in-Some.ensures.digits in
    ap Some c.in-Some.ensures.value ∙ few_enough ∙ ap (option_and_then as_u64) (read ∙ ap number_of c.as_bytes-bytes.ensures.value)

pub returns : goal.returns
unfolding number_of
returns c =
    let s = c.as_bytes-bytes.result.now in
    let unsigned : (get_or s 0 0 == 45) ≡ false = sym c.if-has_minus.ensures.value in
    let read : number_from false (scan s) ≡ number_of s = rw unsigned in
    c.whole_of.ensures ∙ ap (option_and_then as_u64) (ap (number_from false) c.scan.ensures.parts ∙ read ∙ ap number_of c.as_bytes-bytes.ensures.value)
