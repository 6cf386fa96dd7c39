use Rattle.std.proofs.Common.{◌≡◌, ◌∙◌, ◌+◌, ap, rules}
use Rattle.tq_evidence.specs.Evidence.{greatest}
use Rattle.tq_txn_states.proofs.GoodGrants.{good_write_by}
use Rattle.tq_txn_states.proofs.open.Open.write_granted.Goals as goal

pub take-requires : goal.take-requires
take-requires c =
    let grants = c.args.grants.items in
    let best : c.greatest_version.result ≡ greatest grants = c.greatest_version.ensures ∙ ap greatest c.as_slice.ensures.value in
    let next : c.in-Some.version ≡ greatest grants + 1 = (search rules) ∙ ap (λ n. n + 1) best in
    good_write_by c.args.self.now c.args.file.now c.args.content grants c.from_vec.result c.in-Some.version next c.from_vec.ensures c.requires.member c.requires.exclusive c.requires.fresh
