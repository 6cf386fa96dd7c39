use Rattle.std.proofs.Common.{[], ◌∷◌, sym, subst}
use Rattle.tq_shape.specs.Journal.{Has}
use Rattle.tq_locks.proofs.Listed.{Has-last, Has-more}
use Rattle.tq_locks.proofs.lock_slab.list_key.Goals as goal

pub returns-clause-listed : goal.returns-clause-listed
returns-clause-listed c = subst (λ ks. Has ks c.args.key) (sym c.push_reserved.ensures.items) (Has-last c.reserve.new.self.items c.args.key)

pub returns-clause-others : goal.returns-clause-others
returns-clause-others c other h =
    subst (λ ks. Has ks other) (sym c.push_reserved.ensures.items) (Has-more c.reserve.new.self.items (c.args.key ∷ []) other (subst (λ ks. Has ks other) (sym c.reserve.ensures.items) h))
