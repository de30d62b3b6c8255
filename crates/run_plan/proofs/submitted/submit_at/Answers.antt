use Rattle.std.proofs.Common.{ℕ, List, Bor, ap, sym, subst, ◌∙◌, Result}
use Rattle.std.specs.Option.{option_map}
use Rattle.submit_file.specs.Submit.{Gives}
use Rattle.submit_file.specs.declared.submit.Submit.{Submit}
use Rattle.submit_file.specs.declared.fault.SubmitFault.{SubmitFault}
use Rattle.run_plan.specs.Submitted.{submit_in}
use Rattle.run_plan.proofs.SubmitReads.{reads, submitted, refused}
use Rattle.run_plan.proofs.submitted.submit_at.Goals as goal

pub returns-in-Ok : goal.returns-in-Ok
returns-in-Ok c =
    submitted c.args.path.now c.in-Some.bytes.now _ c.in-Ok.submit.assigned.items
    (sym c.get.ensures ∙ ap (option_map (λ (b : Bor (List ℕ)). b.now)) c.in-Some.is)
    (subst (λ (a : Result Submit SubmitFault). Gives (λ (s : Submit). s.assigned.items) a (submit_in c.in-Some.bytes.now)) c.in-Ok.is
    (reads c.in-Some.bytes.now c.read_submit.result c.read_submit.ensures.exact c.read_submit.ensures.not_text))

pub returns-in-Err : goal.returns-in-Err
returns-in-Err c =
    refused c.args.path.now c.in-Some.bytes.now _ c.in-Err.fault c.in_submit.result
    (sym c.get.ensures ∙ ap (option_map (λ (b : Bor (List ℕ)). b.now)) c.in-Some.is)
    (subst (λ (a : Result Submit SubmitFault). Gives (λ (s : Submit). s.assigned.items) a (submit_in c.in-Some.bytes.now)) c.in-Err.is
    (reads c.in-Some.bytes.now c.read_submit.result c.read_submit.ensures.exact c.read_submit.ensures.not_text))
    c.in_submit.ensures
