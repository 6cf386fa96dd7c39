use Rattle.std.proofs.Common.{ap, sym, ◌∙◌}
use Rattle.tq_store.{specs.Copies.{copy_at, copy_of}, proofs.Installed.get_name}
use Rattle.tq_store.proofs.copies.Copies.get.Goals as goal

pub returns-in-Some : goal.returns-in-Some
returns-in-Some c = ap copy_at (c.in-Some.ensures.value ∙ sym (get_name c.self.inside.files.entries c.args.name.now)) ∙ ap (λ v. copy_of v.files c.args.name.now) c.self.view_is

pub returns-in-None : goal.returns-in-None
returns-in-None c = (λ i. record { version = c.self.invariant.0 i; content = c.self.invariant.1 i }) ∙ ap copy_at (c.in-None.ensures.value ∙ sym (get_name c.self.inside.files.entries c.args.name.now)) ∙ ap (λ v. copy_of v.files c.args.name.now) c.self.view_is
