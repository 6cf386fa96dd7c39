use Rattle.std.proofs.{Common.{◌≡◌, refl, sym, ◌∙◌}, lemmas.Bool.{false≢true, iff_false}}
use Rattle.tq_shape.specs.Tree.{height_of}
use Rattle.tq_coterie.specs.{Parts.part_of, declared.holding.Overlap.TheVariants.Member}
use Rattle.tq_coterie.proofs.Parts.{member-tested, tested-member, member-servers}
use Rattle.tq_coterie.proofs.membership.is_member.Goals as goal

pub returns-then-is_path : goal.returns-then-is_path
returns-then-is_path c =
    let at = c.is_path.ensures c.if-is_path.true in
    record {
      member = (λ _. at, λ _. refl);
      servers = λ _. member-servers c.args.levels c.args.numbers.now c.root-root.ensures.levels at;
      ascending = λ _. (member-tested c.args.levels c.args.numbers.now c.root-root.ensures.levels at).ascends;
    }

pub returns-then-not-is_ascending-clause-member : goal.returns-then-not-is_ascending-clause-member
returns-then-not-is_ascending-clause-member c =
    let numbers = c.args.numbers.now in (
      λ e. absurd (false≢true e),
      λ at. absurd (iff_false c.is_ascending.ensures c.if-not-is_ascending.true (member-tested c.args.levels numbers c.root-root.ensures.levels at).ascends),
    )

pub returns-then-not-is_within-clause-member : goal.returns-then-not-is_within-clause-member
returns-then-not-is_within-clause-member c =
    let numbers = c.args.numbers.now in (
      λ e. absurd (false≢true e),
      λ at. absurd (iff_false c.is_within.ensures c.if-not-is_within.true (member-tested c.args.levels numbers c.root-root.ensures.levels at).within),
    )

pub returns-in-Member-clause-member : goal.returns-in-Member-clause-member
returns-in-Member-clause-member c =
    let numbers = c.args.numbers.now in
    let part : part_of (height_of c.args.levels 1) 1 numbers ≡ Member = rw c.root-root.ensures.value at (sym c.in-Member.ensures) in (
      λ e. tested-member c.args.levels numbers c.root-root.ensures.levels (record {
        ascends = c.is_ascending.ensures.0 c.if-not-is_ascending.false;
        within = c.is_within.ensures.0 c.if-not-is_within.false;
        part = part;
      }),
      λ at. refl,
    )

pub returns-in_default-clause-member : goal.returns-in_default-clause-member
returns-in_default-clause-member c =
    let numbers = c.args.numbers.now in (
      λ e. absurd (false≢true e),
      λ at.
          let part = (member-tested c.args.levels numbers c.root-root.ensures.levels at).part in
          let is : c.part_under_root.result ≡ Member = c.part_under_root.ensures ∙ rw c.root-root.ensures.value part in
          absurd (c.in_default.not-Member is),
    )

pub returns-in-Member-clause-servers : goal.returns-in-Member-clause-servers
returns-in-Member-clause-servers c = λ e.
    let numbers = c.args.numbers.now in
    member-servers c.args.levels numbers c.root-root.ensures.levels ((returns-in-Member-clause-member c).0 e)

pub part_under_root-requires-clause-within : goal.part_under_root-requires-clause-within
part_under_root-requires-clause-within c = rw c.root-root.ensures.value (c.is_within.ensures.0 c.if-not-is_within.false)
