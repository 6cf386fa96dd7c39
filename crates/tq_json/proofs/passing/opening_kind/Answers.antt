use Rattle.std.{proofs.Common.{◌≡◌, ◌∷◌, None, true, false, ap, ◌∙◌, arith}, specs.Option.is_some}
use Rattle.json.{specs.{Json.value, Reads.token_of}, proofs.Grammar.value_is}
use Rattle.serde_json.specs.Read.{number_of, of_json, converted}
use Rattle.tq_json.specs.Next.{next, behind}
use Rattle.tq_json.proofs.Nexts.{next-string, next-boolean, next-null, next-number, next-no_number, some_number, no_number, array_begins, object_begins}
use Rattle.tq_json.proofs.passing.opening_kind.Goals as goal

pub returns-in-String-clause-ok : goal.returns-in-String-clause-ok
returns-in-String-clause-ok c depth ts = ap (λ t. behind (next depth (token_of t ∷ ts))) c.in-String.is ∙ ap behind (next-string depth c.in-String.field-0.now ts)

pub returns-in-Bool-clause-ok : goal.returns-in-Bool-clause-ok
returns-in-Bool-clause-ok c depth ts = ap (λ t. behind (next depth (token_of t ∷ ts))) c.in-Bool.is ∙ ap behind (next-boolean depth c.in-Bool.field-0 ts)

pub returns-in-Null-clause-ok : goal.returns-in-Null-clause-ok
returns-in-Null-clause-ok c depth ts = ap (λ t. behind (next depth (token_of t ∷ ts))) c.in-Null.is ∙ ap behind (next-null depth ts)

pub returns-then-is_in_range-clause-ok : goal.returns-then-is_in_range-clause-ok
returns-then-is_in_range-clause-ok c depth ts =
    let s = c.in-Number.text.now in
    let fit : is_some (number_of s) ≡ true = grind arith in
    let n = some_number (number_of s) fit in
    ap (λ t. behind (next depth (token_of t ∷ ts))) c.in-Number.is ∙ ap behind (next-number depth s ts n.0 n.1)

pub returns-else-is_in_range-clause-err : goal.returns-else-is_in_range-clause-err
returns-else-is_in_range-clause-err c refused depth ts =
    let s = c.in-Number.text.now in
    let out : is_some (number_of s) ≡ false = grind arith in
    ap (λ t. next depth (token_of t ∷ ts)) c.in-Number.is ∙ next-no_number depth s ts (no_number (number_of s) out)

pub returns-in-EndObject-clause-err : goal.returns-in-EndObject-clause-err
returns-in-EndObject-clause-err c refused depth ts =
    let all = token_of c.args.token ∷ ts in
    let none : value depth all ≡ None = rw (value_is depth all) (grind arith) in
    ap (converted of_json) none

pub returns-in-BeginArray-clause-ok : goal.returns-in-BeginArray-clause-ok
returns-in-BeginArray-clause-ok c depth ts = ap (λ t. behind (next depth (token_of t ∷ ts))) c.in-BeginArray.is ∙ array_begins depth ts

pub returns-in-BeginObject-clause-ok : goal.returns-in-BeginObject-clause-ok
returns-in-BeginObject-clause-ok c depth ts = ap (λ t. behind (next depth (token_of t ∷ ts))) c.in-BeginObject.is ∙ object_begins depth ts
