use Rattle.std.proofs.Common.{◌∙◌, ap}
use Rattle.std.specs.Prelude.{option_and_then}
use Rattle.clap.specs.Words.{found_of}
use Rattle.clap.proofs.WalkLemmas.{one_text-rows}
use Rattle.dag_main_args.specs.Matched.{decimal_in}
use Rattle.dag_main_args.proofs.Readings.{number_read}
use Rattle.dag_main_args.proofs.request.number_of.Goals as goal

pub returns : goal.returns
returns c = number_read 16 _ _ c.get_one.ensures.none c.get_one.ensures.value
    ∙ ap (option_and_then (decimal_in 16)) (one_text-rows (found_of c.args.found.now) c.args.name.now)
