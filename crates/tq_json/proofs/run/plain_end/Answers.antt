use Rattle.std.proofs.Common.{refl, sym, ap, ◌∙◌, arith}
use lib.Count.{count_trailing_zeros}
use Rattle.json.specs.Run.{is_stop, is_plain}
use Rattle.tq_json.proofs.Lexemes.{run_bound, run_through, run_stops}
use Rattle.tq_json.proofs.run.plain_end.Goals as goal

pub returns-then-found-ne0-clause-value : goal.returns-then-found-ne0-clause-value
returns-then-found-ne0-clause-value c =
    let found = c.stops-found in
    let run = run_stops is_stop is_plain (λ x. refl) c.args.text.now c.sixteens.place 16 (omega arith) (omega arith) (omega (arith, found.ensures)) ∙ ap (count_trailing_zeros 64) (sym found.ensures) in
    omega (arith, run, c.sixteens.invariant.0)

pub returns-then-found-ne0-clause-bound : goal.returns-then-found-ne0-clause-bound
returns-then-found-ne0-clause-bound c =
    let found = c.stops-found in
    let run = run_stops is_stop is_plain (λ x. refl) c.args.text.now c.sixteens.place 16 (omega arith) (omega arith) (omega (arith, found.ensures)) ∙ ap (count_trailing_zeros 64) (sym found.ensures) in
    omega (arith, run, run_bound is_plain c.args.text.now c.sixteens.place c.sixteens.invariant.1)

pub sixteens-preserved : goal.sixteens-preserved
sixteens-preserved c =
    let run = run_through is_stop is_plain (λ x. refl) c.args.text.now c.sixteens.place 16 (omega arith) (omega (arith, c.stops-found.ensures)) in
    (omega (arith, run, c.sixteens.invariant.0), omega arith)

pub returns-clause-bound : goal.returns-clause-bound
returns-clause-bound c = omega (arith, run_bound is_plain c.args.text.now c.sixteens.place c.sixteens.invariant.1)
