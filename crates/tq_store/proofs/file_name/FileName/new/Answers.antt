use Rattle.std.proofs.Common.{◌≡◌, ◌++◌, length, drop, ℕ, List, replicate, true, refl, ap, sym, ◌∙◌, rules, IsTrue}
use Rattle.std.proofs.lemmas.List.{drop-replicate}
use Rattle.tq_store.{specs.Names.{is_file_name, name_in, padded_name}, proofs.Padded.name_in-padded}
use Rattle.tq_store.proofs.file_name.FileName.new.Goals as goal

abbrev zeros : ℕ → List ℕ
zeros n = drop n (replicate 32 0)

-- the array that the copy makes is the name filled up
filled : (copied name : List ℕ) → copied ≡ name → copied ++ zeros (length name) ≡ padded_name name
filled copied name e = ap (λ c. c ++ zeros (length name)) e ∙ ap (λ rest. name ++ rest) (drop-replicate (length name) 32 0)

holds : (copied name : List ℕ) → copied ≡ name → true ≡ is_file_name name → name_in (copied ++ zeros (length name)) ≡ name
holds copied name e text = ap name_in (filled copied name e) ∙ name_in-padded name (sym text)

kept : (copied name : List ℕ) → copied ≡ name → true ≡ is_file_name name → (padded_name (name_in (copied ++ zeros (length name))) ≡ copied ++ zeros (length name)) × IsTrue (is_file_name (name_in (copied ++ zeros (length name))))
kept copied name e text =
    let name_is = holds copied name e text in
    (ap padded_name name_is ∙ sym (filled copied name e), ap is_file_name name_is ∙ sym text)

pub invariant_of-result : goal.invariant_of-result
invariant_of-result c =
    let name = kept c.copy_from_slice.new.self c.args.bytes.now (search rules) (search rules) in
    (name.0, name.1, refl)

pub returns-clause-value : goal.returns-clause-value
returns-clause-value c = holds c.copy_from_slice.new.self c.args.bytes.now (search rules) (search rules)
