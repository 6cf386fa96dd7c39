use Rattle.std.{proofs.Common.{◌≡◌, ◌∷◌, ◌&&◌, ℕ, List, [], nat_eq, refl, ap, ◌∙◌}, specs.Cmp.Lexicographic.pointwise}
use Rattle.tq_shape.specs.ServerSet.{have_same_numbers, servers_of_numbers}
use Rattle.tq_shape.proofs.server_set.ServerSet.has_numbers_of.Goals as goal

same-numbered : (levels most : ℕ) (ones others : List ℕ) → have_same_numbers (servers_of_numbers levels ones) (servers_of_numbers most others) ≡ pointwise nat_eq ones others
same-numbered levels most [] [] = refl
same-numbered levels most [] (other ∷ others) = refl
same-numbered levels most (one ∷ ones) [] = refl
same-numbered levels most (one ∷ ones) (other ∷ others) = ap (λ rest. nat_eq one other && rest) (same-numbered levels most ones others)

pub returns : goal.returns
returns c =
    let one = c.args.self.now in
    let other = c.args.other.now in
    c.have_same_numbers.ensures
    ∙ ap (λ ones. have_same_numbers ones c.iter-2.result) c.iter.ensures.servers
    ∙ ap (have_same_numbers (servers_of_numbers one.levels one.numbers)) c.iter-2.ensures.servers
    ∙ same-numbered one.levels other.levels one.numbers other.numbers
