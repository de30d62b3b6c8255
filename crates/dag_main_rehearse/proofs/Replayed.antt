-- A run that was led to its end by a timetable.
use Rattle.std.proofs.Common.{◌≡◌, List, [], ◌∷◌, sym, subst, ◌∙◌, ◌⊎◌, inl, inr}
use Rattle.throttles.specs.declared.Limits.{Limits}
use Rattle.run_plan.specs.Plan.{Plan}
use Rattle.node_machine.specs.declared.Record.{Record}
use Rattle.node_machine.specs.declared.Record.TheVariants.{Life}
use Rattle.job_starter_drive.specs.declared.Call.{Call}
use Rattle.job_starter_drive.specs.declared.driving.DriveFault.{DriveFault}
use Rattle.job_starter_drive.specs.declared.driving.DriveFault.TheVariants as drives
use Rattle.dag_main_rehearse.specs.Timed.{Timings, IsTimed}
use Rattle.run_round.specs.RunToEnd.{DrivesToEnd}
use Rattle.dag_main_check.specs.declared.fault.RunFault.{RunFault}
use Rattle.dag_main_check.specs.declared.fault.RunFault.TheVariants.{InManager, Memory}
use Rattle.dag_main_rehearse.specs.TooLong.{no_slot, HasTooManyRecords}
use Rattle.dag_main_rehearse.specs.Replay.{IsNoReplay, replay_has_too_many_records, replaying_had_no_memory}

-- the steps in the words of the calls
pub steps-by : (limits limits' : Limits) → limits' ≡ limits → (plan plan' : Plan) → plan' ≡ plan → (timings timings' : Timings) → timings' ≡ timings
    → (begun : List Record) → begun ≡ Life ∷ [] → (told : List Call) → told ≡ [] → (past : List Record) (calls : List Call)
    → DrivesToEnd limits' plan' (IsTimed timings') begun told past calls → DrivesToEnd limits plan (IsTimed timings) (Life ∷ []) [] past calls
steps-by limits limits' l plan plan' p timings timings' s begun b told t past calls d =
    subst (λ (x : Limits). DrivesToEnd x plan (IsTimed timings) (Life ∷ []) [] past calls) l
    (subst (λ (x : Plan). DrivesToEnd limits' x (IsTimed timings) (Life ∷ []) [] past calls) p
    (subst (λ (x : Timings). DrivesToEnd limits' plan' (IsTimed x) (Life ∷ []) [] past calls) s
    (subst (λ (x : List Record). DrivesToEnd limits' plan' (IsTimed timings') x [] past calls) b
    (subst (λ (x : List Call). DrivesToEnd limits' plan' (IsTimed timings') begun x past calls) t d))))

pub refused-by : (limits : Limits) (plan : Plan) (timings : Timings) (fault : DriveFault) (told : RunFault) → (fault ≡ drives.Manager no_slot → HasTooManyRecords limits plan (IsTimed timings))
    → (told ≡ Memory) ⊎ ((fault ≡ drives.Manager no_slot) × (told ≡ InManager no_slot)) → IsNoReplay limits plan timings told
refused-by limits plan timings fault told means (inl is) = subst (IsNoReplay limits plan timings) (sym is) replaying_had_no_memory
refused-by limits plan timings fault told means (inr (slot, is)) = subst (IsNoReplay limits plan timings) (sym is) (replay_has_too_many_records (means slot))

-- lack of memory
pub no-memory : (limits : Limits) (plan : Plan) (timings : Timings) (fault told : RunFault) → told ≡ fault → fault ≡ Memory → IsNoReplay limits plan timings told
no-memory limits plan timings fault told same is = subst (IsNoReplay limits plan timings) (sym (same ∙ is)) replaying_had_no_memory
