use Rattle.std.proofs.Common.{◌≡◌, Some, refl, ap, ◌∙◌, arith}
use Rattle.json.{specs.Json.read_key, proofs.Grammar.read_key-shorter}
use Rattle.serde_json.specs.{Data.put, Find.get_member}
use Rattle.tq_json.proofs.Nexts.{members_go, members_stop, members_no_key_left, members_end}
use Rattle.tq_json_read.{specs.Slots.{slots_at, texts}, proofs.Rows.with_put}
use Rattle.tq_json_read.proofs.object.take_others.Goals as goal

pub members-init : goal.members-init
members-init g c = ((λ old is. (old, refl, is)), omega arith)

pub returns-in_err-name-clause-err : goal.returns-in_err-name-clause-err
returns-in_err-name-clause-err g c old is refused =
    let l = c.members in
    let i = l.invariant.0 old is in
    i.1 ∙ members_no_key_left i.0 c.args.depth l.reader (c.in_err-name.ensures.err (grind arith))

pub returns-in_err-expected-clause-err : goal.returns-in_err-expected-clause-err
returns-in_err-expected-clause-err g c old is refused =
    let l = c.members in
    let i = l.invariant.0 old is in
    let k = c.in-Some.name.now in
    let s = c.next_key.new.self in
    let named : read_key l.reader ≡ Some (Some k, s) = grind arith in
    i.1 ∙ members_stop i.0 c.args.depth k l.reader s named (c.take_member.ensures.err (grind arith))

pub members-preserved : goal.members-preserved
members-preserved g c =
    let l = c.members in
    let k = c.in-Some.name.now in
    let s = c.next_key.new.self in
    let r = c.take_member.new.reader in
    let named : read_key l.reader ≡ Some (Some k, s) = grind arith in
    let less = read_key-shorter l.reader (Some k) s named in
    let lesser = c.in_ok-expected.ensures.shorter in (
      (λ old is.
          let i = l.invariant.0 old is in
          let d = c.in_ok-expected.ensures.ok (λ name. get_member name i.0) i.2 in (
            put k d.0 i.0,
            i.1 ∙ members_go i.0 c.args.depth k l.reader s r d.0 named d.1,
            d.2 ∙ ap (λ names. g.S.Slots.of c.args.plan.now (slots_at (texts c.args.names.now) names)) (with_put k d.0 i.0),
          )),
      omega (arith, l.invariant.1, less, lesser),
    )

pub returns-clause-ok : goal.returns-clause-ok
returns-clause-ok g c old is =
    let l = c.members in
    let i = l.invariant.0 old is in
    (i.0, i.1 ∙ members_end i.0 c.args.depth l.reader c.next_key.new.self (grind arith), i.2)
