use Rattle.std.proofs.Common.{◌-◌, ◌^◌, ◌<◌, Some, ap, subst, ◌∙◌, arith}
use Rattle.json.specs.Reads.{token_of}
use Rattle.tq_json.specs.Next.{next, behind, tokens_behind, Begins}
use Rattle.tq_json.proofs.Nexts.{its_end, its_value, innermost_ends, value_refused, one_more, below_bits, a_bit}
use Rattle.tq_json.proofs.passing.+pass_open.Goals as goal

pub tokens-preserved-then-branch : goal.tokens-preserved-then-branch
tokens-preserved-then-branch t c =
    let l = c.tokens in
    let whole = tokens_behind c.args.kind c.args.depth c.args.reader.now in
    let r = c.take_end.new.reader in
    let ends = its_end whole c.args.depth l.kinds l.inside l.reader l.invariant.0 r c.in_ok-take_end.field-0 c.in_ok-take_end.ensures.ok c.if-branch.true in
    (innermost_ends whole c.args.depth l.kinds l.inside l.reader l.invariant.0 r (omega arith) ends, omega (arith, l.invariant.1), omega (arith, l.invariant.2, c.in_ok-take_end.ensures.shorter))

pub returns-in_err-token-clause-err : goal.returns-in_err-token-clause-err
returns-in_err-token-clause-err t c refused =
    let l = c.tokens in
    let whole = tokens_behind c.args.kind c.args.depth c.args.reader.now in
    let r = c.take_end.new.reader in
    let goes = its_value whole c.args.depth l.kinds l.inside l.reader l.invariant.0 r c.in_ok-take_end.field-0 c.in_ok-take_end.ensures.ok c.if-branch.false in
    value_refused whole c.args.depth l.kinds l.inside l.reader l.invariant.0 r goes (c.in_err-token.ensures.err (grind arith) (c.args.depth - l.inside))

pub overflow_mul-kinds : goal.overflow_mul-kinds
overflow_mul-kinds t c =
    let l = c.tokens in
    let whole = tokens_behind c.args.kind c.args.depth c.args.reader.now in
    let below : l.kinds < 2 ^ 127 = below_bits whole c.args.depth l.kinds l.inside 127 l.reader l.invariant.0 (omega (arith, l.invariant.1)) in
    omega (arith, below)

pub overflow_add-kinds : goal.overflow_add-kinds
overflow_add-kinds t c =
    let l = c.tokens in
    let whole = tokens_behind c.args.kind c.args.depth c.args.reader.now in
    let below : l.kinds < 2 ^ 127 = below_bits whole c.args.depth l.kinds l.inside 127 l.reader l.invariant.0 (omega (arith, l.invariant.1)) in
    omega (arith, below, c.from.ensures, a_bit c.in-Some.kind)

pub tokens-preserved : goal.tokens-preserved
tokens-preserved t c =
    let l = c.tokens in
    let whole = tokens_behind c.args.kind c.args.depth c.args.reader.now in
    let r = c.take_end.new.reader in
    let s = c.take_token.new.reader in
    let depth = c.args.depth - l.inside in
    let goes = its_value whole c.args.depth l.kinds l.inside l.reader l.invariant.0 r c.in_ok-take_end.field-0 c.in_ok-take_end.ensures.ok c.if-branch.false in
    let begins : Begins (token_of c.in_ok-token.token) (Some c.in-Some.kind) = subst (Begins (token_of c.in_ok-token.token)) c.in-Some.is c.in_ok-kind.ensures.ok in
    (one_more whole c.args.depth l.kinds l.inside l.reader l.invariant.0 r c.in-Some.kind c.from.result s c.from.ensures goes (ap (λ ts. behind (next depth ts)) c.in_ok-token.ensures.ok ∙ begins depth s) (omega arith), omega (arith, l.invariant.1), omega (arith, l.invariant.2, c.in_ok-take_end.ensures.shorter, c.in_ok-token.ensures.shorter))
