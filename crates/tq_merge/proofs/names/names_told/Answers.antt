use Rattle.std.{proofs.{Common.{sym, ap, ◌∙◌}, lemmas.Bool.false≢true}, specs.Option.option_to_list}
use Rattle.tq_merge.proofs.Legality.{no_name, one_name, has_item}
use Rattle.tq_merge.proofs.names.names_told.Goals as goal

pub loop-exchange-preserved-in_default : goal.loop-exchange-preserved-in_default
loop-exchange-preserved-in_default c =
    let kept = no_name c.args.journals.now c.args.told.now c.loop-exchange.exchange-index c.exchange-item.result c.loop-exchange-test.true c.exchange-item.is
    c.loop-exchange.names.items c.loop-exchange.invariant.names c.loop-exchange.invariant.stand (sym c.name_in.ensures ∙ ap option_to_list c.in_default.is) in
    record { names = kept.0; stand = kept.1 }

pub returns-then-not-stands : goal.returns-then-not-stands
returns-then-not-stands c = (
  c.exchange-item.result,
  has_item c.args.told.now c.loop-exchange.exchange-index c.exchange-item.result c.loop-exchange-test.true c.exchange-item.is,
  sym c.name_in.ensures ∙ ap option_to_list c.in-Some.is,
  (λ there. false≢true (sym c.if-not-stands.true ∙ c.stands.ensures.1 there)),
)

pub loop-exchange-preserved : goal.loop-exchange-preserved
loop-exchange-preserved c =
    let kept = one_name c.args.journals.now c.args.told.now c.loop-exchange.exchange-index c.exchange-item.result c.loop-exchange-test.true c.exchange-item.is
    c.loop-exchange.names.items c.loop-exchange.invariant.names c.loop-exchange.invariant.stand c.in-Some.name c.push.new.self.items
    (sym c.name_in.ensures ∙ ap option_to_list c.in-Some.is) (c.stands.ensures.0 c.if-not-stands.false) c.in_ok-push.ensures.items in
    record { names = kept.0; stand = kept.1 }
