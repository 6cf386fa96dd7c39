use Rattle.std.proofs.Common.{◌≡◌, ◌<◌, ℕ, List, length, get_or, rules, ap, sym, subst, ◌∙◌}
use Rattle.tq_intents.specs.{Sharing.lock_at, declared.record.KeptLock.KeptLock}
use Rattle.tq_intents.proofs.KeptLocks.{get_or-kept_each, within-versions}
use Rattle.tq_intents.proofs.vote_locks.VoteLocks.get.Goals as goal

pub version_at-version-requires : goal.version_at-version-requires
version_at-version-requires c =
    subst (λ (list : List ℕ). c.args.place < length list) (sym c.as_slice.ensures) (within-versions c.self.inside.held c.self.inside.versions.items c.args.self.now c.args.place c.self.invariant c.self.view_is c.requires)

pub at-requires : goal.at-requires
at-requires c =
    let same : c.in_ok-clone.field-0 ≡ c.self.inside.held = search rules in
    let within : c.args.place < length c.self.inside.versions.items = within-versions c.self.inside.held c.self.inside.versions.items c.args.self.now c.args.place c.self.invariant c.self.view_is c.requires in
    subst (λ n. c.args.place < n) (sym (ap length same ∙ c.self.invariant)) within

pub returns : goal.returns
returns c =
    let same : c.in_ok-clone.field-0 ≡ c.self.inside.held = search rules in
    let within : c.args.place < length c.self.inside.versions.items = within-versions c.self.inside.held c.self.inside.versions.items c.args.self.now c.args.place c.self.invariant c.self.view_is c.requires in
    let version : c.version_at-version.result ≡ get_or c.self.inside.versions.items c.args.place 0 = c.version_at-version.ensures ∙ ap (λ (list : List ℕ). get_or list c.args.place 0) c.as_slice.ensures in
    c.at.ensures
    ∙ (λ i. lock_at (same i) c.args.place (version i))
    ∙ get_or-kept_each c.self.inside.held c.self.inside.versions.items c.args.place c.at.result c.self.invariant within
    ∙ ap (λ (list : List KeptLock). get_or list c.args.place c.at.result) c.self.view_is
