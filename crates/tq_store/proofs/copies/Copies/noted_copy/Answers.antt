use Rattle.std.proofs.Common.{◌≡◌, ◌∙◌, ℕ, List, Some, nat_eq, refl, ap, sym, subst}
use Rattle.std.specs.{Cmp.Lexicographic.pointwise, Map.lookup}
use Rattle.tq_store.{specs.Copies.{CopiesView, copy_at, copy_of}, proofs.Installed.get_name}
use Rattle.tq_store.proofs.copies.Copies.noted_copy.Goals as goal

pub returns-then-eq : goal.returns-then-eq
returns-then-eq c =
    let entries = c.self.inside.files.entries in
    let name = c.args.name.now in
    let same : c.in-Some.entry.0.now ≡ name = c.if-eq.ensures.exact.0 refl in
    let found : lookup (pointwise nat_eq name) entries ≡ Some c.in-Some.entry.1.now =
    subst (λ (n : List ℕ). lookup (pointwise nat_eq n) entries ≡ Some c.in-Some.entry.1.now) same c.in-Some.ensures.value in
    sym (sym (ap (λ (v : CopiesView). copy_of v.files name) c.self.view_is) ∙ ap copy_at (get_name entries name ∙ found))
