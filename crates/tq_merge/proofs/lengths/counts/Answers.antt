use Rattle.std.{proofs.Common.{◌≡◌, ◌≤◌, ◌∷◌, ◌∙◌, ℕ, List, length, map, take, ap, sym, subst, arith}, specs.List.All}
use Rattle.std.proofs.lemmas.List.{take_all}
use Rattle.tq_shape.specs.Limits.{LimitsView}
use Rattle.tq_merge.{specs.Told.entry_counts, proofs.Legality.{each_length, short_counts}}
use Rattle.tq_merge.proofs.lengths.counts.Goals as goal

value : (c : goal.After-loop-entries) → c.loop-entries.counts.items ≡ entry_counts c.args.journals.now
value c =
    let journals = c.args.journals.now in
    let servers = c.servers-servers.result.now in
    let all : take c.loop-entries.entries-index servers ≡ servers = take_all c.loop-entries.entries-index servers (omega (arith, c.loop-entries-test.false)) in
    c.loop-entries.invariant
    ∙ ap (λ (l : List ℕ). length journals.desk ∷ length journals.view ∷ 0 ∷ l)
    (ap (map (λ entries. length entries.items)) all ∙ each_length (λ entries. entries.items) servers ∙ ap (map length) c.servers-servers.ensures.value)

pub returns-clause-value : goal.returns-clause-value
returns-clause-value c = value c

pub returns-clause-short : goal.returns-clause-short
returns-clause-short c =
    let limits = c.entries-fits.ensures in
    let entries : c.limits.result.entries ≡ c.args.journals.now.limits.entries = ap (λ (l : LimitsView). l.entries) c.limits.ensures in
    let desk : length c.desk.result.now ≡ length c.args.journals.now.desk = ap length c.desk.ensures.value in
    let view : length c.view.result.now ≡ length c.args.journals.now.view = ap length c.view.ensures.value in
    subst (All (λ (count : ℕ). count ≤ 1000000)) (sym (value c))
    (short_counts c.args.journals.now c.args.journals.now.limits.entries (omega (arith, limits.value, limits.within.1, entries)) (omega (arith, desk, c.desk.ensures.fits))
    (omega (arith, view, c.view.ensures.fits)) c.servers-servers.ensures.fit)
