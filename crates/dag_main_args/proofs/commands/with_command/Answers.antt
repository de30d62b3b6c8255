use Rattle.std.proofs.Common.{◌∙◌, ap}
use Rattle.std.proofs.lemmas.Result.{IfOk-weaker}
use Rattle.clap.specs.Words.{App, app_of, with_subcommand}
use Rattle.dag_main_args.proofs.Tables.{no_globals}
use Rattle.dag_main_args.proofs.commands.with_command.Goals as goal

pub returns : goal.returns
returns c =
    let same = c.in_ok-command_of.ensures in
    IfOk-weaker c.subcommand.result _ _ (λ more h. h.shape (no_globals _ _ _ _ (ap (λ (a : App). a.top.is_plain) same))
    ∙ ap (λ (a : App). with_subcommand (app_of c.args.program) a.top) same) c.subcommand.ensures
