use Rattle.std.proofs.Common.{◌≡◌, ◌∷◌, None, rules, refl, sym, ap, ◌∙◌, arith}
use Rattle.json.specs.{Token.key, Json.read_key}
use Rattle.tq_json.{proofs.Nexts.members_stop, specs.Next.members_behind}
use Rattle.tq_json_read.proofs.Places.{named}
use Rattle.tq_json_read.proofs.object.take_named.Goals as goal

pub returns-then-take_key_named-clause-ok : goal.returns-then-take_key_named-clause-ok
returns-then-take_key_named-clause-ok g c old none =
    let n = c.args.name.now in
    let s = c.take_key_named.new.self in
    let first : c.args.reader.now ≡ key n ∷ s = c.if-take_key_named.ensures c.requires in
    named c.read.result (g.T.FromReader.at c.args.plan.now) n old c.args.depth c.args.reader.now s c.read.new.reader (ap read_key first) c.read.ensures.ok

pub returns-then-take_key_named-clause-err : goal.returns-then-take_key_named-clause-err
returns-then-take_key_named-clause-err g c old refused =
    let n = c.args.name.now in
    let s = c.take_key_named.new.self in
    let first : c.args.reader.now ≡ key n ∷ s = c.if-take_key_named.ensures c.requires in
    members_stop old c.args.depth n c.args.reader.now s (ap read_key first) (c.read.ensures.err refused)

pub returns-clause-ok : goal.returns-clause-ok
returns-clause-ok g c old none =
    let same : c.take_key_named.new.self ≡ c.args.reader.now = grind arith in
    let law : g.T.FromReader.at c.args.plan.now None ≡ None = search rules in
    (old, ap (members_behind old c.args.depth) (sym same), sym (ap (g.T.FromReader.at c.args.plan.now) none ∙ law), λ name differs. refl)
