use Rattle.std.proofs.Common.{◌≡◌, ◌∷◌, ap, ◌∙◌, sym}
use Rattle.tq_shape.{specs.ServerSet.servers_of_numbers, proofs.SetWords.{AreLeft-all, left-all, numbers_of-ascend}}
use Rattle.tq_shape.proofs.server_set.ServerSet.iter.Goals as goal

all : (c : goal.After-more) → c.self.inside.words ≡ c.first.result ∷ c.more.result.now
all c = c.more.ensures ∙ ap (λ word. word ∷ c.more.result.now) (sym c.first.ensures)

pub invariant_of-result : goal.invariant_of-result
invariant_of-result c = AreLeft-all c.self.inside.levels c.self.inside.words c.first.result c.more.result.now (all c) c.self.invariant

pub returns-clause-servers : goal.returns-clause-servers
returns-clause-servers c =
    rw (← c.self.view_is) (ap (servers_of_numbers c.self.inside.levels) (left-all c.self.inside.words c.first.result c.more.result.now (all c)))

pub returns-clause-of_tree : goal.returns-clause-of_tree
returns-clause-of_tree c = rw (← c.self.view_is) c.self.invariant.servers

pub returns-clause-ascending : goal.returns-clause-ascending
returns-clause-ascending c = rw (← c.self.view_is) (numbers_of-ascend c.self.inside.levels c.self.inside.words c.self.invariant)
