-- How many letters a site takes at a place.
use Rattle.std.proofs.Common.{ℕ, ◌+◌, ◌*◌, ◌<◌, ◌≤◌, not, length, arith}
use Rattle.dine_token.specs.declared.limits.TheConstants.{MAX_JOBS}
use Rattle.dine_graph.specs.Plan.{SeenPlan, IsPlan, site_count, job_count}
use Rattle.dine_rules.specs.Letters.{forks_in, requests_in, dones_in, closes_in}
use Rattle.dine_rules.specs.Local.{LocalState, traffic_at}
use Rattle.dine_rules.specs.Streams.{KeepsStreams, KeepsStreamsAt, is_lower_at}
use Rattle.dine_rules.proofs.shared.lists.Counting.{forks_in_turn}
use Rattle.dine_rules.proofs.one_site.PutBounds.{length-letters, one_done, one_close, requests_within}

module _ (plan : SeenPlan) (s : ℕ) (state : LocalState) (i : ℕ) where
  -- a Fork comes for each Request put
  pub forks_taken_within : KeepsStreams plan s state → i < length state.traffic → forks_in (traffic_at state i).taken ≤ job_count plan s
  forks_taken_within keeps within = omega (arith, (keeps.places i within).comes_when_asked, requests_within plan s state i keeps within)

  -- Forks and Requests take turns
  pub requests_taken_within : KeepsStreams plan s state → i < length state.traffic → requests_in (traffic_at state i).taken ≤ job_count plan s + 1
  requests_taken_within keeps within =
      let turn = (forks_in_turn (not (is_lower_at plan s i)) (traffic_at state i).taken (keeps.places i within).taken_lawful.alternating).1 in
      omega (arith, turn, forks_taken_within keeps within)

  pub dones_taken_within : KeepsStreamsAt plan s state i → dones_in (traffic_at state i).taken ≤ 1
  dones_taken_within k = one_done (traffic_at state i).taken k.taken_lawful.done_last

  pub closes_taken_within : KeepsStreamsAt plan s state i → closes_in (traffic_at state i).taken ≤ 1
  closes_taken_within k = one_close (traffic_at state i).taken k.taken_lawful.close_last

  -- all letters that a site takes at a place
  pub takes_few : IsPlan plan → s < site_count plan → KeepsStreams plan s state → i < length state.traffic → length (traffic_at state i).taken ≤ 2 * MAX_JOBS + 3
  takes_few is_plan is_site keeps within = omega (
    arith,
    length-letters (traffic_at state i).taken,
    forks_taken_within keeps within,
    requests_taken_within keeps within,
    dones_taken_within (keeps.places i within),
    closes_taken_within (keeps.places i within),
    is_plan.few_jobs s is_site,
  )
