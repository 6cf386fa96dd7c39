use Rattle.std.proofs.Common.{◌≡◌, ◌∙◌, Some, None, nat_eq, nat_lt, ap, sym, subst, rules}
use Rattle.std.specs.{Cmp.Lexicographic.pointwise, Map.lookup, Option.option_copied_mut}
use Rattle.std.specs.FinMap as map
use Rattle.tq_store.specs.Copies.{CopiesView, Files, Installs, OnlyRises, copy_of, copies_after_install}
use Rattle.tq_store.specs.declared.copies.FileCopy.{FileCopy}
use Rattle.tq_store.proofs.Installed.{Installs-installed, rises-installed, is-newer, is-no_newer, put-back, put-in}
use Rattle.tq_store.proofs.copies.Copies.install_newer.Goals.{in-Some-get_mut, in_default-get_mut}
use Rattle.tq_store.proofs.copies.Copies.install_newer.Goals as goal

-- a file that had no copy

pub returns-in_default-clause-newer : goal.returns-in_default-clause-newer
returns-in_default-clause-newer c =
    let copy : FileCopy = record { version = c.args.version; content = c.args.content } in
    let found : lookup (pointwise nat_eq c.args.name) c.self.inside.files.entries ≡ None = sym (rw c.unwrap-replaced.ensures at c.insert.ensures.old) ∙ c.in_default.is in
    is-newer c.self.inside.files.entries c.args.name copy None found (search rules)
    ∙ ap (λ (v : CopiesView). nat_lt (copy_of v.files c.args.name).version c.args.version) c.self.view_is

pub returns-in_default-clause-files : goal.returns-in_default-clause-files
returns-in_default-clause-files c =
    let copy : FileCopy = record { version = c.args.version; content = c.args.content } in
    let entries = c.self.inside.files.entries in
    let found : lookup (pointwise nat_eq c.args.name) entries ≡ None = sym (rw c.unwrap-replaced.ensures at c.insert.ensures.old) ∙ c.in_default.is in
    let updates = rw c.unwrap-replaced.ensures at c.insert.ensures.updates in
    put-in entries c.args.name copy None found c.insert.new.self.entries updates.0 (search rules)
    ∙ ap (λ (v : CopiesView). copies_after_install v.files c.args.name copy) c.self.view_is

pub returns-in_default-clause-installs : goal.returns-in_default-clause-installs
returns-in_default-clause-installs c =
    let copy : FileCopy = record { version = c.args.version; content = c.args.content } in
    subst (λ (files : Files). Installs c.args.self.now.files files c.args.name copy) (sym (returns-in_default-clause-files c)) (Installs-installed c.args.self.now.files c.args.name copy)

pub returns-in_default-clause-rises : goal.returns-in_default-clause-rises
returns-in_default-clause-rises c =
    let copy : FileCopy = record { version = c.args.version; content = c.args.content } in
    subst (OnlyRises c.args.self.now.files) (sym (returns-in_default-clause-files c)) (rises-installed c.args.self.now.files c.args.name copy)

-- one whose copy was older

pub returns-then-before-version-clause-newer : goal.returns-then-before-version-clause-newer
returns-then-before-version-clause-newer c =
    let copy : FileCopy = record { version = c.args.version; content = c.args.content } in
    let found : lookup (pointwise nat_eq c.args.name) c.self.inside.files.entries ≡ Some c.in-Some.before = sym (rw c.unwrap-replaced.ensures at c.insert.ensures.old) ∙ c.in-Some.is in
    is-newer c.self.inside.files.entries c.args.name copy (Some c.in-Some.before) found c.if-before-version.true
    ∙ ap (λ (v : CopiesView). nat_lt (copy_of v.files c.args.name).version c.args.version) c.self.view_is

pub returns-then-before-version-clause-files : goal.returns-then-before-version-clause-files
returns-then-before-version-clause-files c =
    let copy : FileCopy = record { version = c.args.version; content = c.args.content } in
    let entries = c.self.inside.files.entries in
    let found : lookup (pointwise nat_eq c.args.name) entries ≡ Some c.in-Some.before = sym (rw c.unwrap-replaced.ensures at c.insert.ensures.old) ∙ c.in-Some.is in
    let updates = rw c.unwrap-replaced.ensures at c.insert.ensures.updates in
    put-in entries c.args.name copy (Some c.in-Some.before) found c.insert.new.self.entries updates.0 c.if-before-version.true
    ∙ ap (λ (v : CopiesView). copies_after_install v.files c.args.name copy) c.self.view_is

pub returns-then-before-version-clause-installs : goal.returns-then-before-version-clause-installs
returns-then-before-version-clause-installs c =
    let copy : FileCopy = record { version = c.args.version; content = c.args.content } in
    subst (λ (files : Files). Installs c.args.self.now.files files c.args.name copy) (sym (returns-then-before-version-clause-files c)) (Installs-installed c.args.self.now.files c.args.name copy)

pub returns-then-before-version-clause-rises : goal.returns-then-before-version-clause-rises
returns-then-before-version-clause-rises c =
    let copy : FileCopy = record { version = c.args.version; content = c.args.content } in
    subst (OnlyRises c.args.self.now.files) (sym (returns-then-before-version-clause-files c)) (rises-installed c.args.self.now.files c.args.name copy)

-- one whose copy is put back

pub returns-clause-newer : goal.returns-clause-newer
returns-clause-newer c =
    let copy : FileCopy = record { version = c.args.version; content = c.args.content } in
    let found : lookup (pointwise nat_eq c.args.name) c.self.inside.files.entries ≡ Some c.in-Some.before = sym (rw c.unwrap-replaced.ensures at c.insert.ensures.old) ∙ c.in-Some.is in
    is-no_newer c.self.inside.files.entries c.args.name copy (Some c.in-Some.before) found c.if-before-version.false
    ∙ ap (λ (v : CopiesView). nat_lt (copy_of v.files c.args.name).version c.args.version) c.self.view_is

pub returns-clause-files : goal.returns-clause-files
returns-clause-files c =
    let copy : FileCopy = record { version = c.args.version; content = c.args.content } in
    let entries = c.self.inside.files.entries in
    let found : lookup (pointwise nat_eq c.args.name) entries ≡ Some c.in-Some.before = sym (rw c.unwrap-replaced.ensures at c.insert.ensures.old) ∙ c.in-Some.is in
    let updates = rw c.unwrap-replaced.ensures at c.insert.ensures.updates in
    elim c.match-get_mut.branch [
      | in-Some-get_mut w ↦
          ap (λ x. map.from_entries x.files.entries) w.self-inside-is
          ∙ ap (λ es. map.from_entries es) (c.get_mut.follows.holds c.in-Some.before).0
          ∙ put-back entries c.insert.new.self.entries c.args.name copy c.in-Some.before found updates.0 updates.1 c.if-before-version.false
          ∙ ap (λ (v : CopiesView). copies_after_install v.files c.args.name copy) c.self.view_is
      | in_default-get_mut w ↦
          let none : lookup (pointwise nat_eq c.args.name) c.insert.new.self.entries ≡ None = sym c.get_mut.ensures.value ∙ ap option_copied_mut w.in_default-get_mut.is in
          let some : lookup (pointwise nat_eq c.args.name) c.insert.new.self.entries ≡ Some copy = updates.1 in
          absurd (cc)
    ]

pub returns-clause-installs : goal.returns-clause-installs
returns-clause-installs c =
    let copy : FileCopy = record { version = c.args.version; content = c.args.content } in
    subst (λ (files : Files). Installs c.args.self.now.files files c.args.name copy) (sym (returns-clause-files c)) (Installs-installed c.args.self.now.files c.args.name copy)

pub returns-clause-rises : goal.returns-clause-rises
returns-clause-rises c =
    let copy : FileCopy = record { version = c.args.version; content = c.args.content } in
    subst (OnlyRises c.args.self.now.files) (sym (returns-clause-files c)) (rises-installed c.args.self.now.files c.args.name copy)
