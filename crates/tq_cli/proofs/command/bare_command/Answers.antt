use Rattle.std.proofs.Common.{◌≡◌, ◌∙◌, ap}
use Rattle.clap.specs.{Simple.{app_of, app_of_fields}, declared.builder.command.Command.TheViews.out-Command}
use Rattle.tq_cli.proofs.command.bare_command.Goals as goal

pub returns-clause-app : goal.returns-clause-app
returns-clause-app c =
    let about : app_of c.about.result ≡ app_of c.new.result = ap app_of_fields c.about.ensures in
    let short : app_of c.after_help.result ≡ app_of c.about.result = ap app_of_fields c.after_help.ensures in
    let long : app_of c.after_long_help.result ≡ app_of c.after_help.result = ap app_of_fields c.after_long_help.ensures in
    long ∙ short ∙ about ∙ c.new.ensures.app

pub returns-clause-local : goal.returns-clause-local
returns-clause-local c =
    let about : (out-Command c.about.result).has_globals ≡ (out-Command c.new.result).has_globals = ap (λ f. f.has_globals) c.about.ensures in
    let short : (out-Command c.after_help.result).has_globals ≡ (out-Command c.about.result).has_globals = ap (λ f. f.has_globals) c.after_help.ensures in
    let long : (out-Command c.after_long_help.result).has_globals ≡ (out-Command c.after_help.result).has_globals = ap (λ f. f.has_globals) c.after_long_help.ensures in
    long ∙ short ∙ about ∙ c.new.ensures.local
