use Rattle.std.proofs.Common.{ap, sym, ◌∙◌}
use Rattle.tq_shape.proofs.SetWords.{has_place, set-has}
use Rattle.tq_shape.proofs.server_set.ServerSet.contains.Goals as goal

pub get-requires : goal.get-requires
get-requires c =
    let own = c.requires ∙ sym (ap (λ v. v.levels) c.self.view_is) in
    rw c.place_of.ensures.place (has_place c.self.inside.levels c.args.server.levels c.args.server.number c.self.inside.words c.self.invariant own c.place_of.ensures.within)

pub returns : goal.returns
returns c =
    let own = c.requires ∙ sym (ap (λ v. v.levels) c.self.view_is) in
    let within = has_place c.self.inside.levels c.args.server.levels c.args.server.number c.self.inside.words c.self.invariant own c.place_of.ensures.within in
    rw (← c.self.view_is, c.get.ensures, c.bit_of.ensures, c.place_of.ensures.place) (set-has c.self.inside.words c.args.server.number within)
