use Rattle.std.proofs.Common.{◌++◌, Option, Bor, ap, ◌∙◌, string_bytes}
use Rattle.std.specs.Option.{option_map}
use Rattle.std.proofs.lemmas.Result.{on_ok_weaker}
use Rattle.fault_guide.specs.declared.guide.Fault.{Fault}
use Rattle.fault_guide.specs.Codes.{lent_codes}
use Rattle.fault_guide.specs.Told.{guide_text}
use Rattle.fault_guide.proofs.hint.push_guide.Goals as goal

pub returns : goal.returns
returns c =
    on_ok_weaker c.push_fault.result
    (λ is. record {
      guide = c.deref.result.now;
      has_all = ap lent_codes c.deref.ensures.value ∙ c.in_ok-faults.ensures;
      added = is ∙ ap (λ (o : Option (Bor Fault)). string_bytes c.args.text.now ++ guide_text c.args.code.now (option_map (λ f. f.now) o)) c.fault_of.ensures;
    }) c.push_fault.ensures
