-- Steps that may fail, one after the other.
use Rattle.std.proofs.Common.{◌≡◌, ◌≢◌, false, ℕ, List, Option, Some, None, Result, Ok, refl, sym, ap, subst}
use Rattle.vars_macros.specs.Expansion.{Expansion}
use Rattle.vars_macros.specs.Answers as expanding
use Rattle.vars_macros.specs.declared.fault.MacroFault.{MacroFault}
use Rattle.vars_macros.specs.declared.fault.MacroFault.TheVariants as macro
use Rattle.run_plan_node.specs.declared.job.JobFault.{JobFault}
use Rattle.run_plan_node.specs.declared.job.JobFault.TheVariants.{Memory, InMacro, NoExecutable, BadUniverse}
use Rattle.vars_macros.specs.Expansion.{expansion}
use Rattle.vars_macros.specs.Meaning.{MacroScope, last_macro}
use Rattle.vars_macros.specs.declared.assignment.Macro.{Macro}
use Rattle.run_plan_node.specs.Commands.{◌>>=◌, in_macro, text_of_value, present, expanded, value_at, is_whole}
use Rattle.run_plan_node.specs.JobAnswers.{Fails, Gives, job_fault}

-- a fault of a step is the fault of all
pub fails_bind : {A B : Type 0} (fault : JobFault) (r : Result A JobFault) (f : A → Result B JobFault) → Fails fault r → Fails fault (r >>= f)
fails_bind Memory r f fails = tt
fails_bind (InMacro fault) r f fails = ap (λ x. x >>= f) fails
fails_bind NoExecutable r f fails = ap (λ x. x >>= f) fails
fails_bind BadUniverse r f fails = ap (λ x. x >>= f) fails

-- a fault of an expansion is one of the job
pub macro_fails : {A : Type 0} (fault : MacroFault) (r : Result A MacroFault) → expanding.Fails fault r → Fails (job_fault fault) (in_macro r)
macro_fails macro.Memory r fails = tt
macro_fails macro.Unclosed r fails = ap in_macro fails
macro_fails macro.Loop r fails = ap in_macro fails
macro_fails macro.TooLong r fails = ap in_macro fails
macro_fails macro.BadQuote r fails = ap in_macro fails
macro_fails macro.BadReference r fails = ap in_macro fails

pub value_fails : (fault : MacroFault) (r : Result (Option Expansion) MacroFault) → expanding.Fails fault r → Fails (job_fault fault) (text_of_value r)
value_fails macro.Memory r fails = tt
value_fails macro.Unclosed r fails = ap text_of_value fails
value_fails macro.Loop r fails = ap text_of_value fails
value_fails macro.TooLong r fails = ap text_of_value fails
value_fails macro.BadQuote r fails = ap text_of_value fails
value_fails macro.BadReference r fails = ap text_of_value fails

pub present_fails : {A : Type 0} (fault : MacroFault) (r : Result A MacroFault) → expanding.Fails fault r → expanding.Fails fault (present r)
present_fails macro.Memory r fails = tt
present_fails macro.Unclosed r fails = ap present fails
present_fails macro.Loop r fails = ap present fails
present_fails macro.TooLong r fails = ap present fails
present_fails macro.BadQuote r fails = ap present fails
present_fails macro.BadReference r fails = ap present fails

-- what follows a step that gave x
pub then_gives : {A X Y : Type 0} (view : X → Y) (answer : Result X JobFault) (r : Result A JobFault) (f : A → Result Y JobFault) (x : A)
    → r ≡ Ok x → Gives view answer (f x) → Gives view answer (r >>= f)
then_gives view answer r f x is gives = subst (λ q. Gives view answer (q >>= f)) (sym is) gives

-- a result that is given as it is
pub given : {A : Type 0} (r : Result A MacroFault) (x : A) → r ≡ Ok x → in_macro r ≡ Ok x
given r x is = ap in_macro is

-- the value of a name to which something is assigned, and of one to which nothing is
pub value_found : (s : MacroScope) (name : List ℕ) (m : Macro) → last_macro s.assigned name ≡ Some m → value_at s name ≡ present (expansion s m.vars m.value)
unfolding value_at
value_found s name m is = ap (expanded s) is

pub value_missing : (s : MacroScope) (name : List ℕ) → last_macro s.assigned name ≡ None → value_at s name ≡ Ok None
unfolding value_at
value_missing s name is = ap (expanded s) is

-- a name whose text can't be expanded
pub not_whole : (fault : MacroFault) (r : Result (Option Expansion) MacroFault) → expanding.Fails fault r → fault ≢ macro.Memory → is_whole r ≡ false
not_whole macro.Memory r fails other = absurd (other refl)
not_whole macro.Unclosed r fails other = ap is_whole fails
not_whole macro.Loop r fails other = ap is_whole fails
not_whole macro.TooLong r fails other = ap is_whole fails
not_whole macro.BadQuote r fails other = ap is_whole fails
not_whole macro.BadReference r fails other = ap is_whole fails
