use Rattle.std.proofs.{Common.{◌∙◌, List, Some, drop, sym, ap, subst}, lemmas.List.drop-drop}
use Rattle.clap.specs.Words.{Text, values_left}
use Rattle.tq_cli.specs.TqdWords.{HasLimit, first_number}
use Rattle.tq_cli.proofs.tqd_words.limits_in.Goals as goal

pub next_limit-ops-requires : goal.next_limit-ops-requires
next_limit-ops-requires c = subst HasLimit (sym c.next_limit-files.ensures.rest) c.requires.1

pub next_limit-entries-requires : goal.next_limit-entries-requires
next_limit-entries-requires c =
    subst HasLimit (sym (c.next_limit-ops.ensures.rest ∙ ap (drop 1) c.next_limit-files.ensures.rest ∙ drop-drop 1 1 (values_left c.args.given))) c.requires.2

pub returns : goal.returns
returns c =
    let behind = c.next_limit-ops.ensures.rest ∙ ap (drop 1) c.next_limit-files.ensures.rest ∙ drop-drop 1 1 (values_left c.args.given) in (
      c.next_limit-files.ensures.first 1000,
      c.next_limit-ops.ensures.first 64 ∙ ap (λ (all : List Text). first_number 64 (Some all)) c.next_limit-files.ensures.rest,
      c.next_limit-entries.ensures.first 1000000 ∙ ap (λ (all : List Text). first_number 1000000 (Some all)) behind,
    )
