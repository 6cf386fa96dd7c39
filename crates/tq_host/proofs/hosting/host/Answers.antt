use Rattle.std.proofs.Common.{[], Ok, Err, refl, subst, inl, inr}
use Rattle.tq_shape.specs.Agrees.{standing_part}
use Rattle.tq_host.specs.Lines.{BeginsWith, IsReplayFault}
use Rattle.tq_devices.proofs.Written.{Appends-none}
use Rattle.tq_host.proofs.hosting.host.Goals as goal

pub returns-in_default-clause-hosted : goal.returns-in_default-clause-hosted
returns-in_default-clause-hosted g c =
    let served = c.in_default.ensures.served in
    let leads = c.in-Ok.ensures.leads in
    let same = c.as_slice.ensures.value in
    (served.0, served.1, inl (record { start = c.in-Ok.start; lines = leads.0; begins = subst (λ text. BeginsWith text leads.0) same leads.1; leads = leads.2; done = Ok c.in_default.field-0; so = refl; served = served.2 }))

pub returns-in-Err-serve-clause-hosted : goal.returns-in-Err-serve-clause-hosted
returns-in-Err-serve-clause-hosted g c =
    let served = c.in-Err-serve.ensures.served in
    let leads = c.in-Ok.ensures.leads in
    let same = c.as_slice.ensures.value in
    (served.0, served.1, inl (record { start = c.in-Ok.start; lines = leads.0; begins = subst (λ text. BeginsWith text leads.0) same leads.1; leads = leads.2; done = Err c.in-Err-serve.fault; so = refl; served = served.2 }))

pub returns-in-Err-clause-hosted : goal.returns-in-Err-clause-hosted
returns-in-Err-clause-hosted g c = (
  [],
  Appends-none (g.R.Source.given c.args.reader.now),
  inr (record { fault = c.in-Err.fault; fails = subst (λ text. IsReplayFault g.P.Answers.reply g.P.Answers.after g.P.Wire.reads (standing_part c.args.part [] c.args.limit) text c.in-Err.fault) c.as_slice.ensures.value c.in-Err.ensures.fault; unread = refl; same = (refl, c.requires.synced); told = c.tell.ensures.told }),
)
