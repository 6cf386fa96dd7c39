use Rattle.std.{proofs.Common.{◌∙◌, ◌++◌, ◌∷◌, [], ap, sym, append_assoc, codes}, specs.Fmt.decimal}
use Rattle.tq_text.specs.Print.{printed_line}
use Rattle.tq_interpreter.proofs.Recording.{three_texts}
use Rattle.tq_interpreter.proofs.operators.say_not_refreshed.Goals as goal

pub returns-clause-text : goal.returns-clause-text
returns-clause-text c =
    let old = c.args.text.now.items in
    let number = decimal c.args.job.now.server.number in
    three_texts old (codes "not refreshed ") c.as_bytes.result.now (printed_line (codes " at " ++ decimal c.number.result)) c.extend_from_slice.new.self.items c.extend_from_slice-2.new.self.items c.say_number.new.text.items
    c.in_ok-extend_from_slice.ensures.items c.in_ok-extend_from_slice-2.ensures.items c.in_ok-say_number.ensures.text
    ∙ ap (λ file. old ++ (codes "not refreshed " ++ (file ++ printed_line (codes " at " ++ decimal c.number.result)))) c.as_bytes.ensures.value
    ∙ ap (λ n. old ++ (codes "not refreshed " ++ (c.args.job.now.file ++ printed_line (codes " at " ++ decimal n)))) c.number.ensures.value
    ∙ ap (λ t. old ++ (codes "not refreshed " ++ t)) (sym (append_assoc c.args.job.now.file (codes " at " ++ number) (10 ∷ [])) ∙ ap (λ t. t ++ 10 ∷ []) (sym (append_assoc c.args.job.now.file (codes " at ") number)))
