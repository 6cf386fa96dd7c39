use Rattle.std.{specs.Prelude.reverse, proofs.Common.{◌≡◌, ℕ, List, subst}}
use Rattle.tq_shape.{specs.Limits.LimitsView, proofs.Joined.legal-reverse}
use Rattle.tq_desk.specs.DeskJournal.{IsLegalDesk, step_reply, step_after, opened_desk, DeskEntry}
use Rattle.tq_live.specs.View.{IsLegalView}
use Rattle.tq_tables.specs.{Journals.ViewEntry, Parts.{AreLegalServers, bounds_of}}
use Rattle.tq_merge.specs.Wrong.{IsLegalDeskFrom, IsWrongOfView}
use Rattle.tq_merge.proofs.wrong.first_wrong.Goals as goal

desk_legal : (levels other : ℕ) (limits same : LimitsView) (entries all : List DeskEntry) → other ≡ levels → same ≡ limits → entries ≡ all → IsLegalDeskFrom (bounds_of other same) entries → IsLegalDesk (bounds_of levels limits) (reverse all)
desk_legal levels other limits same entries all tree bound are legal =
    subst (λ (es : List DeskEntry). IsLegalDesk (bounds_of levels limits) (reverse es)) are
    (subst (λ (l : LimitsView). IsLegalDesk (bounds_of levels l) (reverse entries)) bound
    (subst (λ (n : ℕ). IsLegalDesk (bounds_of n same) (reverse entries)) tree
    (legal-reverse step_reply step_after (opened_desk (bounds_of other same)) entries legal)))

pub returns-in-Some-3 : goal.returns-in-Some-3
returns-in-Some-3 c =
    let journals = c.args.journals.now in
    let servers = rw c.in_default.is at c.in_ok-entry.ensures in
    let desk = rw c.in_default-2.is at c.in_ok-number.ensures in
    let view = rw c.in-Some-3.is at c.in_ok-number-2.ensures in (
      subst (AreLegalServers 1) c.servers.ensures.value servers,
      desk_legal journals.levels c.levels-levels.result journals.limits c.limits.result c.desk.result.now journals.desk c.levels-levels.ensures c.limits.ensures c.desk.ensures.value desk,
      subst (λ (es : List ViewEntry). IsWrongOfView journals.levels es c.in-Some-3.number) c.view.ensures.value
          (subst (λ (n : ℕ). IsWrongOfView n c.view.result.now c.in-Some-3.number) c.levels-levels.ensures view),
    )

pub returns : goal.returns
returns c =
    let journals = c.args.journals.now in
    let servers = rw c.in_default.is at c.in_ok-entry.ensures in
    let desk = rw c.in_default-2.is at c.in_ok-number.ensures in
    let view = rw c.in_default-3.is at c.in_ok-number-2.ensures in
    record {
      servers = subst (AreLegalServers 1) c.servers.ensures.value servers;
      desk = desk_legal journals.levels c.levels-levels.result journals.limits c.limits.result c.desk.result.now journals.desk c.levels-levels.ensures c.limits.ensures c.desk.ensures.value desk;
      view = subst (λ (es : List ViewEntry). IsLegalView journals.levels es) c.view.ensures.value (subst (λ (n : ℕ). IsLegalView n c.view.result.now) c.levels-levels.ensures view);
    }
