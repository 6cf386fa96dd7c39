use Rattle.std.proofs.Common.{◌≡◌, ◌∙◌, ◌+◌, ℕ, Bool, List, Err, Some, [], length, drop, refl, sym, ap, subst, arith}
use Rattle.std.specs.List.{slice_range}
use Rattle.tq_syntax.specs.{Word.without_return, ClientLine.client_line_of, Gathering.{gathered_with, IsGatheredWith}}
use Rattle.tq_syntax.specs.Scripts.{lines_within}
use Rattle.tq_syntax.proofs.ByteLaws.{line_left, line_ends, line_goes_on, lines_left, none_left, over_left, some_left}
use Rattle.tq_syntax.proofs.GatheringLaws.{run, below, line_gathered, read_finished, read_over, read_refused}
use Rattle.tq_syntax.proofs.reader.read_within.Goals.{then-byte-eq10+in-Ok, else-byte-eq10}
use Rattle.tq_syntax.proofs.reader.read_within.Goals as goal

pub returns-in-Err : goal.returns-in-Err
returns-in-Err c =
    let bytes = c.args.bytes.now in
    let now = c.loop-place in
    let line = slice_range bytes now.start now.place in
    let P : List ℕ → Type 0 = λ l. IsGatheredWith now.gathered (client_line_of l) (now.number + 1) (Err c.in-Err.fault) in
    let left = line_ends c.args.is_over bytes now.start now.place now.invariant.within c.loop-place-test.true c.if-byte-eq10.true in
    read_refused (lines_within c.args.is_over bytes) now.number now.gathered (lines_left c.args.is_over line (drop now.place bytes)) now.invariant.lines
    (client_line_of (without_return line)) (lines_left c.args.is_over (slice_range bytes (now.place + 1) (now.place + 1)) (drop (now.place + 1) bytes)) c.in-Err.fault left
    (subst P c.without_return-line.ensures c.in-Err.ensures)

pub loop-place-preserved : goal.loop-place-preserved
loop-place-preserved c =
    let bytes = c.args.bytes.now in
    let now = c.loop-place in
    let over = c.args.is_over in
    let within = now.invariant.within in
    let few = now.invariant.few in
    let less = c.loop-place-test.true in
    let line = slice_range bytes now.start now.place in
    elim c.if-byte-eq10.branch [
      | then-byte-eq10+in-Ok w ↦
          let P : List ℕ → Type 0 = λ l. gathered_with now.gathered (client_line_of l) ≡ Some w.in-Ok.next in
          let left = line_ends over bytes now.start now.place within less w.if-byte-eq10.true in
          rw (w.gathered-is, w.number-is, w.start-is) record {
            within = omega arith;
            few = omega (arith, few, within);
            lines = line_gathered (lines_within over bytes) now.number now.gathered (lines_left over line (drop now.place bytes)) now.invariant.lines
                (client_line_of (without_return line)) (lines_left over (slice_range bytes (now.place + 1) (now.place + 1)) (drop (now.place + 1) bytes)) w.in-Ok.next left
                (subst P w.without_return-line.ensures w.in-Ok.ensures);
          }
      | else-byte-eq10 w ↦ rw (w.gathered-is, w.number-is, w.start-is) record {
        within = omega (arith, within);
        few = few;
        lines = ap (run now.number now.gathered) (sym (line_goes_on over bytes now.start now.place within less w.if-byte-eq10.false)) ∙ now.invariant.lines;
      }
    ]

pub returns-then-is_over : goal.returns-then-is_over
returns-then-is_over c =
    let bytes = c.args.bytes.now in
    let now = c.loop-place in
    let line = slice_range bytes now.start now.place in
    let rest = drop now.place bytes in
    let left = ap (λ (over : Bool). lines_left over line rest) c.if-is_over.true ∙ over_left bytes now.start now.place (omega (arith, c.loop-place-test.false)) in
    read_over (lines_within c.args.is_over bytes) now.number now.gathered (lines_left c.args.is_over line rest) now.invariant.lines left

pub returns-then-start-bytes : goal.returns-then-start-bytes
returns-then-start-bytes c =
    let bytes = c.args.bytes.now in
    let now = c.loop-place in
    let line = slice_range bytes now.start now.place in
    let rest = drop now.place bytes in
    let left = ap (λ (over : Bool). lines_left over line rest) c.if-is_over.false ∙ none_left bytes now.start now.place (omega (arith, c.loop-place-test.false)) (omega (arith, c.if-start-bytes.true)) in
    read_finished (lines_within c.args.is_over bytes) now.number now.gathered (lines_left c.args.is_over line rest) now.invariant.lines c.finish.result left c.finish.ensures

pub returns-in-Ok-with_bytes : goal.returns-in-Ok-with_bytes
returns-in-Ok-with_bytes c =
    let bytes = c.args.bytes.now in
    let now = c.loop-place in
    let all = lines_within c.args.is_over bytes in
    let line = slice_range bytes now.start now.place in
    let rest = drop now.place bytes in
    let less = below now.start _ (omega (arith, now.invariant.within, now.auto.place-end)) c.if-start-bytes.false in
    let left = ap (λ (over : Bool). lines_left over line rest) c.if-is_over.false ∙ some_left bytes now.start now.place (omega (arith, c.loop-place-test.false)) less in
    let P : List ℕ → Type 0 = λ l. gathered_with now.gathered (client_line_of l) ≡ Some c.in-Ok-with_bytes.all in
    let rest_is = line_left bytes now.start (length bytes) (omega arith) in
    let gathered = line_gathered all now.number now.gathered (lines_left c.args.is_over line rest) now.invariant.lines (client_line_of (drop now.start bytes)) [] c.in-Ok-with_bytes.all left (subst P rest_is c.in-Ok-with_bytes.ensures) in
    read_finished all (now.number + 1) c.in-Ok-with_bytes.all [] gathered c.finish-in-Ok-with_bytes.result refl c.finish-in-Ok-with_bytes.ensures

pub returns-in-Err-with_bytes : goal.returns-in-Err-with_bytes
returns-in-Err-with_bytes c =
    let bytes = c.args.bytes.now in
    let now = c.loop-place in
    let line = slice_range bytes now.start now.place in
    let rest = drop now.place bytes in
    let less = below now.start _ (omega (arith, now.invariant.within, now.auto.place-end)) c.if-start-bytes.false in
    let left = ap (λ (over : Bool). lines_left over line rest) c.if-is_over.false ∙ some_left bytes now.start now.place (omega (arith, c.loop-place-test.false)) less in
    let P : List ℕ → Type 0 = λ l. IsGatheredWith now.gathered (client_line_of l) (now.number + 1) (Err c.in-Err-with_bytes.fault) in
    let rest_is = line_left bytes now.start (length bytes) (omega arith) in
    read_refused (lines_within c.args.is_over bytes) now.number now.gathered (lines_left c.args.is_over line rest) now.invariant.lines (client_line_of (drop now.start bytes)) [] c.in-Err-with_bytes.fault left
    (subst P rest_is c.in-Err-with_bytes.ensures)
