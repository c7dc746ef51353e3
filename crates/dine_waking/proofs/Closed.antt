-- No ring is left for a place at which the site has taken Close, and none comes.
use Rattle.std.proofs.Common.{◌≡◌, ℕ, ◌+◌, ◌<◌, ◌==◌, ◌&&◌, not, Bool, true, List, [], ◌∷◌, length, refl, sym, ◌∙◌, ap, arith}
use Rattle.std.specs.Prelude.{count_by}
use Rattle.std.proofs.lemmas.Bool.{true≢false}
use Rattle.dine_graph.specs.Plan.{SeenPlan, IsPlan, site_count, edges_of}
use Rattle.dine_rules.specs.Breach.{is_allowed, may_come}
use Rattle.dine_rules.specs.declared.letters.Letter.{Letter}
use Rattle.dine_rules.specs.Letters.{has_close}
use Rattle.dine_rules.specs.Links.{queue_to}
use Rattle.dine_rules.specs.Local.{edge_at, neighbour_at, traffic_at}
use Rattle.dine_rules.specs.World.{place_of, put_to, state_of}
use Rattle.dine_rules.proofs.shared.links.NextLetters.{reached_allowed}
use Rattle.dine_waking.specs.Runs.{Run, has_yet_to_ring, rings_left, thread_of}
use Rattle.dine_waking.proofs.Accounts.{account}
use Rattle.dine_waking.proofs.Bells.{RunKeeps}
use Rattle.dine_waking.proofs.Quiet.{first_is_next}

module _ (plan : SeenPlan) (is_plan : IsPlan plan) (run : Run) (keeps : RunKeeps plan run) (s i : ℕ) (is_site : s < site_count plan) (within : i < length (edges_of plan s)) (closed : has_close (traffic_at (state_of run.world s) i).taken ≡ true) where
  -- a letter behind Close would be allowed, and is not
  none_behind : (letters : List Letter) → queue_to plan run.world s i ≡ letters → length (queue_to plan run.world s i) ≡ 0
  none_behind [] queue = ap (λ (l : List Letter). length l) queue
  none_behind (l ∷ rest) queue =
      let next = first_is_next (put_to plan run.world s i) (length (traffic_at (state_of run.world s) i).taken) l rest queue in
      let allowed : is_allowed plan s (state_of run.world s) i l ≡ true = reached_allowed plan keeps.events run.world s i is_plan keeps.reached is_site within l next.0 in
      absurd (true≢false (sym allowed ∙ ap (λ (b : Bool). not b && may_come plan s (state_of run.world s) i l) closed))

  all_counted : 0 ≡ count_by (λ k. k == i) (rings_left (thread_of run s)) + has_yet_to_ring (thread_of run (neighbour_at plan s i)).doing (place_of plan (neighbour_at plan s i) (edge_at plan s i))
  all_counted = sym (none_behind (queue_to plan run.world s i) refl) ∙ account plan run s i (keeps.sites s is_site) within

  pub closed_is_silent : count_by (λ k. k == i) (rings_left (thread_of run s)) ≡ 0
  closed_is_silent = omega (arith, all_counted)

  pub closed_not_rung : has_yet_to_ring (thread_of run (neighbour_at plan s i)).doing (place_of plan (neighbour_at plan s i) (edge_at plan s i)) ≡ 0
  closed_not_rung = omega (arith, all_counted)
