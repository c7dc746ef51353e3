-- The plan whose jobs fail as the journals show.
use Rattle.std.proofs.Common.{◌≡◌, ℕ, ◌<◌, Bool, false, List, [], length, get_or, slice_get, Option, Some, sym, ◌∙◌, ap, arith}
use Rattle.std.proofs.lemmas.List.FromFn.{get_or-map-range_with_len, length-map-range_with_len}
use Rattle.std.proofs.lemmas.Option.{get_or_from_slice_get, slice_get-get_or}
use Rattle.dine_graph.specs.Plan.{SeenPlan, job_count, site_count}
use Rattle.dine_rules.specs.declared.events.EventKind.{EventKind}
use Rattle.dine_rules.specs.Journals.{FailAsShown, journal_of, outcomes_in}
use Rattle.dine_rules.specs.Shown.{plan_shown, shown_by, shown_in}
use Rattle.dine_rules.specs.World.{WorldState, state_of}
use Rattle.dine_rules.proofs.shared.journals.OtherOutcomes.{fails-are, jobs-same, sites-same}

module _ (plan : SeenPlan) (journals : List (List EventKind)) where
  abbrev other : SeenPlan
  other = plan_shown plan journals

  abbrev fails : List (List Bool)
  fails = shown_by plan journals

  pub own_is : (s : ℕ) (past : List Bool) → s < site_count plan → get_or fails s past ≡ shown_in (job_count plan s) (journal_of journals s)
  own_is s past is_site = get_or-map-range_with_len (λ t. shown_in (job_count plan t) (journal_of journals t)) 0 (site_count plan) s s past is_site (omega arith)

  pub own_long : (s : ℕ) → length (shown_in (job_count plan s) (journal_of journals s)) ≡ job_count plan s
  own_long s = length-map-range_with_len (λ k. get_or (outcomes_in false (journal_of journals s)) k false) 0 (job_count plan s)

  pub all_long : length fails ≡ site_count plan
  all_long = length-map-range_with_len (λ t. shown_in (job_count plan t) (journal_of journals t)) 0 (site_count plan)

  pub sites_shown : site_count (plan_shown plan journals) ≡ site_count plan
  sites_shown = sites-same plan fails

  -- where no site has to quit, the jobs of that plan fail as the journals show
  pub fail_as_shown : (states : WorldState) → ((s : ℕ) → s < site_count plan → (state_of states s).must_quit ≡ false) → FailAsShown other journals states
  fail_as_shown states none_must s k failed is_site within shown =
      let here : s < site_count plan = omega (arith, is_site, sites_shown) in
      let below : k < job_count plan s = omega (arith, within, jobs-same plan fails s) in
      let outcomes : List Bool = outcomes_in false (journal_of journals s) in
      let own : List Bool = shown_in (job_count plan s) (journal_of journals s) in
      let there : slice_get fails s ≡ Some own = slice_get-get_or fails s [] (omega (arith, here, all_long)) ∙ ap (λ (x : List Bool). let o : Option (List Bool) = Some x in o) (own_is s [] here) in
      let told : get_or outcomes k false ≡ failed = get_or_from_slice_get outcomes k failed false (ap (λ (b : Bool). slice_get (outcomes_in b (journal_of journals s)) k) (sym (none_must s here)) ∙ shown) in
      let at : slice_get own k ≡ Some failed = slice_get-get_or own k false (omega (arith, below, own_long s))
      ∙ ap (λ (b : Bool). let o : Option Bool = Some b in o) (get_or-map-range_with_len (λ i. get_or outcomes i false) 0 (job_count plan s) k k false below (omega arith) ∙ told) in
      fails-are plan fails own s k failed there at below
