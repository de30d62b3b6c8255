-- The command of a script.
use Rattle.std.proofs.Common.{◌≡◌, ℕ, List, Bool, Option, Result, Ok, Err, IfOk, IfErr, map, ap, sym, subst, refl}
use Rattle.vars_macros.specs.Script.{script_word}
use Rattle.vars_macros.specs.declared.script.ScriptFacts.{ScriptFacts}
use Rattle.run_plan_node.specs.declared.command.ChildCommand.{ChildCommand}
use Rattle.run_plan_node.specs.declared.command.PhaseFacts.{PhaseFacts}
use Rattle.run_plan_node.specs.declared.job.JobFault.{JobFault}
use Rattle.run_plan_node.specs.declared.job.JobFault.TheVariants.{Memory}
use Rattle.run_plan_node.specs.Node as plans
use Rattle.run_plan_node.specs.Node.{NodeSpec}
use Rattle.run_plan_node.specs.Commands.{command_of_job, command_of_words, command_of_script, script_facts, words_of}
use Rattle.run_plan_node.specs.JobAnswers.{Gives, Fails}

memory_fails : {A : Type 0} (fault : JobFault) (r : Result A JobFault) → fault ≡ Memory → Fails fault r
memory_fails fault r is = rw (is) tt

-- what is given, and refused for memory alone
pub given_ok : {A : Type 0} (r : Result A JobFault) (x : A) → IfOk r (λ y. y ≡ x) → IfErr r (λ fault. fault ≡ Memory) → Gives (λ y. y) r (Ok x)
given_ok (Ok y) x ok err = ap (λ z. Ok z) (sym ok)
given_ok (Err fault) x ok err = memory_fails fault (Ok x) err

words_given : (folder folder' : List ℕ) (facts facts' : ScriptFacts) (script script' : Option (List (List ℕ))) → folder ≡ folder' → facts ≡ facts' → script ≡ script'
    → command_of_words folder (map (λ word. script_word facts word) (words_of script)) ≡ command_of_words folder' (map (λ word. script_word facts' word) (words_of script'))
words_given folder folder' facts facts' script script' e f g = rw (e, f, g) refl

pub script_gives : (node : NodeSpec) (script : Option (List (List ℕ))) (attempt : ℕ) (post : Bool) (facts : PhaseFacts)
    (folder : List ℕ) (read : Option (List (List ℕ))) (given : ScriptFacts) (r : Result ChildCommand JobFault)
    → folder ≡ node.launch_spec.folder → read ≡ script → given ≡ script_facts node attempt post facts
    → IfOk r (λ command. command ≡ command_of_words folder (map (λ word. script_word given word) (words_of read)))
    → IfErr r (λ fault. fault ≡ Memory)
    → Gives (λ command. command) r (Ok (command_of_script node script attempt post facts))
script_gives node script attempt post facts folder read given r e g f ok err =
    given_ok r (command_of_script node script attempt post facts) (subst (λ (x : ChildCommand). IfOk r (λ command. command ≡ x)) (words_given folder node.launch_spec.folder given (script_facts node attempt post facts) read script e f g) ok) err

-- the command of a job that is read in a folder
pub job_gives : (folder folder' : List ℕ) (job job' : plans.Job) (attempt launch : ℕ) (r : Result ChildCommand JobFault) → folder ≡ folder' → job ≡ job'
    → Gives (λ command. command) r (command_of_job folder job attempt launch) → Gives (λ command. command) r (command_of_job folder' job' attempt launch)
job_gives folder folder' job job' attempt launch r e f gives = rw (← e, ← f) gives
