-- What runs under limits. A limit of 0 is none.
use Rattle.std.specs.Prelude.{◌≡◌, ℕ, ◌+◌, ◌-◌, ◌<◌, ◌≤◌, ◌^◌, ◌⊎◌, ◌==◌, ◌&&◌, ◌||◌, Bool, true, List, replicate, length, sum, nat_lt, Option, Some, None, IfSome, slice_index, slice_set}
use Rattle.node_machine.specs.declared.Phase.{Phase}
use Rattle.node_machine.specs.declared.Phase.TheVariants.{Pre, Job, Post}
use Rattle.throttles.specs.declared.Limits.{Limits}

-- how many phases run: PRE scripts, jobs that are in no category with a limit, the jobs of each category with a limit, and
-- POST scripts
pub record Running : Type 0 where
  pub pre : ℕ
  pub free_jobs : ℕ
  pub category_jobs : List ℕ
  pub post : ℕ

-- the limits, those of the categories by their places, and what runs
pub record Throttled : Type 0 where
  pub limits : Limits
  pub categories : List ℕ
  pub running : Running

abbrev pub running_jobs : Running → ℕ
running_jobs running = running.free_jobs + sum running.category_jobs

abbrev pub all_in : Running → ℕ
all_in running = running.pre + running_jobs running + running.post

-- how many of a phase's kind run
abbrev pub of_kind : Phase → Running → ℕ
of_kind Pre running = running.pre
of_kind Job running = running_jobs running
of_kind Post running = running.post

abbrev pub limit_of : Limits → Phase → ℕ
limit_of limits Pre = limits.pre
limit_of limits Job = limits.jobs
limit_of limits Post = limits.post

-- one more may run
abbrev pub is_below : ℕ → ℕ → Bool
is_below limit count = (limit == 0) || nat_lt count limit

abbrev pub lets_category : Throttled → Option ℕ → Bool
lets_category t None = true
lets_category t (Some place) = is_below (slice_index t.categories place) (slice_index t.running.category_jobs place)

-- the limit of the category counts jobs alone
abbrev pub lets_phase : Throttled → Phase → Option ℕ → Bool
lets_phase t Job category = lets_category t category
lets_phase t _ category = true

-- no limit that counts the phase is reached
abbrev pub may_start : Throttled → Phase → Option ℕ → Bool
may_start t phase category =
    is_below t.limits.children (all_in t.running)
    && is_below (limit_of t.limits phase) (of_kind phase t.running)
    && lets_phase t phase category

-- a category's place among those with a limit, if there is one
abbrev pub IsPlace : List ℕ → Option ℕ → Type 0
IsPlace categories category = IfSome category (λ place. place < length categories)

abbrev pub none_running : List ℕ → Running
none_running categories = record { pre = 0; free_jobs = 0; category_jobs = replicate (length categories) 0; post = 0 }

-- how many of a phase's kind and category run
abbrev pub such_in : Running → Phase → Option ℕ → ℕ
such_in running Pre category = running.pre
such_in running Job None = running.free_jobs
such_in running Job (Some place) = slice_index running.category_jobs place
such_in running Post category = running.post

-- one phase more
abbrev pub with_one : Running → Phase → Option ℕ → Running
with_one running Pre category = record running { pre = running.pre + 1 }
with_one running Job None = record running { free_jobs = running.free_jobs + 1 }
with_one running Job (Some place) =
    record running { category_jobs = slice_set running.category_jobs place (slice_index running.category_jobs place + 1) }
with_one running Post category = record running { post = running.post + 1 }

-- one phase less
abbrev pub without_one : Running → Phase → Option ℕ → Running
without_one running Pre category = record running { pre = running.pre - 1 }
without_one running Job None = record running { free_jobs = running.free_jobs - 1 }
without_one running Job (Some place) =
    record running { category_jobs = slice_set running.category_jobs place (slice_index running.category_jobs place - 1) }
without_one running Post category = record running { post = running.post - 1 }

-- no more than a limit, if it is one
abbrev pub IsUnder : ℕ → ℕ → Type 0
IsUnder limit count = (limit ≡ 0) ⊎ (count ≤ limit)

-- no limit is exceeded
pub record IsWithin (t : Throttled) : Type 0 where
  pub all : IsUnder t.limits.children (all_in t.running)
  pub kinds : (phase : Phase) → IsUnder (limit_of t.limits phase) (of_kind phase t.running)
  pub categories : (place : ℕ) → place < length t.categories
      → IsUnder (slice_index t.categories place) (slice_index t.running.category_jobs place)
  pub many : length t.running.category_jobs ≡ length t.categories

-- what throttles keep beside: the number of jobs
pub record AreKept (t : Throttled) (jobs : ℕ) : Type 0 where
  pub jobs_are : jobs ≡ running_jobs t.running
  pub many : length t.running.category_jobs ≡ length t.categories
  pub fits : all_in t.running < 2 ^ 64
