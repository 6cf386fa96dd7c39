use Rattle.std.proofs.Common.{◌≡◌, ◌<◌, ◌++◌, ◌∷◌, [], false, true, OnOk, List, arith, length, map, ap, subst, sym, get_or, ◌-◌, ◌∙◌, rules, append_assoc}
use Rattle.std.proofs.lemmas.{Bool.Decides.nat_tests, List.{append-nil, get_or_default, map-append}}
use Rattle.tq_store.specs.Copies.{Files, copies_after_install, copy_in, installed_all, is_newer}
use Rattle.tq_store.specs.declared.write.Write.{Write}
use Rattle.tq_intents.specs.{Kept.newer_first, Sharing.write_at, declared.record.Record.{Record, TheVariants.Copy}}
use Rattle.tq_intents.proofs.CopiesPush.{newer_first-last, installed_all-push}
use Rattle.tq_intents.proofs.intents.Intents.+install_newer.Goals as goal

-- where the last of the writes is not above the copies
skipped : (t : _) (c : goal.After-install_newer t) → newer_first (c.args.count - 1) c.args.copies.now.files c.args.writes.now ≡ newer_first c.args.count c.args.copies.now.files c.args.writes.now
skipped t c =
    let write = c.index-as_slice-place.result in
    let at : write ≡ get_or c.args.writes.now (c.args.count - 1) write = search rules in
    let older : is_newer c.args.copies.now.files write ≡ false = search rules in
    sym (newer_first-last c.args.copies.now.files c.args.writes.now c.args.count write false (grind (arith, nat_tests, c.if-count-eq0.false)) c.requires.count at older ∙ append-nil _)

pub returns-then-get-write-clause-records : goal.returns-then-get-write-clause-records
returns-then-get-write-clause-records t c =
    subst (λ (list : List Write). OnOk c.install_newer.result (c.install_newer.new.self.records ≡ c.args.self.now.records ++ map Copy list)) (skipped t c) c.install_newer.ensures.records

pub returns-then-get-write-clause-files : goal.returns-then-get-write-clause-files
returns-then-get-write-clause-files t c =
    subst (λ (list : List Write). OnOk c.install_newer.result (c.install_newer.new.copies.files ≡ installed_all c.args.copies.now.files list)) (skipped t c) c.install_newer.ensures.files

-- where it is
taken : (t : _) (c : goal.After-push_copy t)
    → newer_first (c.args.count - 1) c.args.copies.now.files c.args.writes.now ++ c.index-as_slice-place.result ∷ [] ≡ newer_first c.args.count c.args.copies.now.files c.args.writes.now
taken t c =
    let write = c.index-as_slice-place.result in
    let at : write ≡ get_or c.args.writes.now (c.args.count - 1) write = search rules in
    let newer : is_newer c.args.copies.now.files write ≡ true = search rules in
    sym (newer_first-last c.args.copies.now.files c.args.writes.now c.args.count write true (grind (arith, nat_tests, c.if-count-eq0.false)) c.requires.count at newer)

pub returns-clause-records : goal.returns-clause-records
returns-clause-records t c =
    let write = c.index-as_slice-place.result in
    let first = newer_first (c.args.count - 1) c.args.copies.now.files c.args.writes.now in
    let old = c.args.self.now.records in
    let writes = c.args.writes.now in
    let place = c.args.count - 1 in
    let some : 0 < c.args.count = grind (arith, nat_tests, c.if-count-eq0.false) in
    let count = c.requires.count in
    let within : place < length writes = omega arith in
    let at : write ≡ get_or writes place write = search rules in
    let cloned : c.in_ok-clone.field-0 ≡ writes = search rules in
    let is : c.at-written.result ≡ write = c.at-written.ensures ∙ ap (λ (list : List Write). write_at list place) cloned ∙ get_or_default writes place _ write within ∙ sym at in
    c.push_copy.ensures.records
    ∙ (λ i. c.in_ok-install_newer.ensures.records i ++ Copy (is i) ∷ [])
    ∙ append_assoc old (map Copy first) (Copy write ∷ [])
    ∙ ap (λ (list : List Record). old ++ list) (sym (map-append Copy first (write ∷ [])))
    ∙ ap (λ (list : List Write). old ++ map Copy list) (taken t c)

pub returns-clause-files : goal.returns-clause-files
returns-clause-files t c =
    let write = c.index-as_slice-place.result in
    let files = c.args.copies.now.files in
    let first = newer_first (c.args.count - 1) files c.args.writes.now in
    let comes : c.install.new.self.files ≡ copies_after_install c.install_newer-2.new.copies.files write.file (copy_in write) = search rules in
    comes
    ∙ ap (λ (it : Files). copies_after_install it write.file (copy_in write)) c.in_ok-install_newer.ensures.files
    ∙ sym (installed_all-push files first write)
    ∙ ap (λ (list : List Write). installed_all files list) (taken t c)
