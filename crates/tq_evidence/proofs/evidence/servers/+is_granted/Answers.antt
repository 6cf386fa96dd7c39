use Rattle.std.proofs.{Common.{◌≡◌, ℕ, ◌<◌, ◌≤◌, ◌/◌, false, length, rules, arith, ◌∙◌}, lemmas.Bool.Decides.nat_tests}
use Rattle.std.specs.Bool.{◌==◌}
use Rattle.tq_evidence.proofs.Merging.{is_granter-at, is_granter-lower, is_granter-upper, rises-lower, rises-upper}
use Rattle.tq_evidence.proofs.evidence.servers.+is_granted.Goals as goal

half : (n : ℕ) → false ≡ (n == 0) → n / 2 < n
half n some = grind (arith, nat_tests)

below : (a b : ℕ) → (a ≡ b → ⊥) → b ≤ a → b < a
below a b other le = omega (arith, other)

pub is_granted-requires : goal.is_granted-requires
is_granted-requires t c =
    let within : length c.args.grants.now / 2 < length c.args.grants.now = half (length c.args.grants.now) c.if-is_empty.ensures in
    (search rules, rises-upper c.args.grants.now (length c.args.grants.now / 2) c.index-grants-middle.result within c.index-grants-middle.is c.requires)

pub is_granted-requires-2 : goal.is_granted-requires-2
is_granted-requires-2 t c =
    let within : length c.args.grants.now / 2 < length c.args.grants.now = half (length c.args.grants.now) c.if-is_empty.ensures in
    (search rules, rises-lower c.args.grants.now (length c.args.grants.now / 2) c.index-grants-middle.result within c.index-grants-middle.is c.requires)

pub returns-then-grant-server : goal.returns-then-grant-server
returns-then-grant-server t c =
    let within : length c.args.grants.now / 2 < length c.args.grants.now = half (length c.args.grants.now) c.if-is_empty.ensures in
    is_granter-at c.args.grants.now (length c.args.grants.now / 2) c.index-grants-middle.result within c.index-grants-middle.is c.requires c.args.server c.if-grant-server.true

pub returns-then-grant-server-2 : goal.returns-then-grant-server-2
returns-then-grant-server-2 t c =
    let within : length c.args.grants.now / 2 < length c.args.grants.now = half (length c.args.grants.now) c.if-is_empty.ensures in
    c.is_granted.ensures ∙ is_granter-upper c.args.grants.now (length c.args.grants.now / 2) c.index-grants-middle.result within c.index-grants-middle.is c.requires c.args.server c.if-grant-server-2.true

pub returns : goal.returns
returns t c =
    let within : length c.args.grants.now / 2 < length c.args.grants.now = half (length c.args.grants.now) c.if-is_empty.ensures in
    c.is_granted-2.ensures ∙ is_granter-lower c.args.grants.now (length c.args.grants.now / 2) c.index-grants-middle.result within c.index-grants-middle.is c.requires c.args.server (below c.index-grants-middle.result.server c.args.server c.if-grant-server.false c.if-grant-server-2.false)
