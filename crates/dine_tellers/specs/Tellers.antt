-- The tellers of all sites, before the run and after it.
use Rattle.std.specs.Prelude.{◌≡◌, ◌<◌, ◌≤◌, ℕ, List, Some, length, slice_get}
use Rattle.dine_graph.specs.Plan.{SeenPlan, site_count, job_count}
use Rattle.dine_run.specs.CallLogs.{no_calls}
use Rattle.dine_threads.specs.declared.gathered.SiteOut.{SiteOut}
use Rattle.dine_tellers.specs.declared.TheConstants.{START}
use Rattle.dine_tellers.specs.declared.teller.Teller.{Teller}

-- The tellers before the run: one for each site, not yet called, with room for its jobs.
pub record AreFresh (plan : SeenPlan) (tellers : List Teller) : Type 0 where
  pub count : length tellers ≡ site_count plan
  pub each : (s : ℕ) (teller : Teller) → slice_get tellers s ≡ Some teller → teller.log ≡ no_calls (job_count plan s)

-- each teller sent one unit for each job of its site
abbrev pub HaveSent : SeenPlan → List (SiteOut Teller) → Type 0
HaveSent plan outs = (s : ℕ) (out : SiteOut Teller) → slice_get outs s ≡ Some out → out.diner.sent ≡ job_count plan s

-- each account has at the start what its site sends
abbrev pub CanPay : SeenPlan → Type 0
CanPay plan = (s : ℕ) → s < site_count plan → job_count plan s ≤ START
