use Rattle.std.proofs.Common.{List, ℕ, subst, string_bytes}
use Rattle.std.specs.Option.{is_some}
use Rattle.fault_guide.specs.Told.{IsAdvice}
use Rattle.fault_guide.proofs.hint.hint_text.Goals as goal

pub returns : goal.returns
returns c = record {
  about = string_bytes c.in_ok-text.text;
  nothing_about = c.in_ok-text.ensures;
  text_is = subst (λ (t : List ℕ). IsAdvice c.args.refusal.now.code.now (is_some c.args.evidence.now.source) t (string_bytes c.push_advice.new.text)) c.in_ok-push_reason.ensures c.in_ok-push_advice.ensures;
}
