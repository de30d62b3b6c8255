use Rattle.std.proofs.Common.{◌∙◌, ap, List, ℕ, Option, false}
use Rattle.std.specs.Option.{option_map_or}
use Rattle.std.specs.Str.{bytes_eq}
use Rattle.std.specs.Str.Parse.{true_text}
use Rattle.clap.specs.Words.{found_of}
use Rattle.clap.proofs.WalkLemmas.{one_text-rows}
use Rattle.dag_main_args.proofs.Readings.{flag_read}
use Rattle.dag_main_args.proofs.request.is_set.Goals as goal

pub returns : goal.returns
returns c = c.unwrap_or.ensures ∙ (flag_read _ _ c.get_one.ensures.none c.get_one.ensures.value
    ∙ ap (λ (o : Option (List ℕ)). option_map_or (λ text. bytes_eq text true_text) o false) (one_text-rows (found_of c.args.found.now) c.args.name.now))
