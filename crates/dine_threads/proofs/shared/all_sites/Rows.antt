-- The rows of what was gathered of a plan: it is gathered of that plan, and how many meals each site ate gives them,
-- but for values and failed jobs.
use Rattle.std.proofs.Common.{◌≡◌, ℕ, ◌<◌, true, Some, List, length, map, get_or, slice_get, option_map, sym, ◌∙◌, ap, ap₂, subst, arith}
use Rattle.std.specs.List.{range_with_len}
use Rattle.std.proofs.lemmas.List.{length-map}
use Rattle.std.proofs.lemmas.List.FromFn.{fill_by_all, get_or-map-range_with_len, length-map-range_with_len, length-range_with_len}
use Rattle.std.proofs.lemmas.Option.{get_or_from_slice_get, same_Some, slice_get-map, slice_get_within}
use Rattle.dine_token.specs.declared.log_entry.Entry.{Entry}
use Rattle.dine_token.specs.Fork.{SeenFork, no_fork}
use Rattle.dine_token.specs.Log.{meals_of}
use Rattle.dine_graph.specs.Plan.{SeenPlan, IsPlan, site_count, edge_count, lo_of, hi_of}
use Rattle.dine_link.specs.Links.{SeenLink}
use Rattle.dine_rules.specs.JoinedEnds.{IsWholeLog}
use Rattle.dine_rules.specs.Values.{value_by_amounts, has_no_set, value_by}
use Rattle.dine_site_thread.specs.declared.manner.Manner.{Manner}
use Rattle.dine_threads.specs.declared.tables.EdgeRow.{EdgeRow}
use Rattle.dine_threads.specs.declared.gathered.SiteOut.{SiteOut}
use Rattle.dine_threads.specs.Gathered.{AreOutsOf}
use Rattle.dine_threads.specs.Headline.{IsHeadline}
use Rattle.dine_threads.specs.Tables.{AreDueValues, IsGatheredOf, edge_row, edge_rows, due_edge_rows, logged_row, site_row, site_rows, due_site_rows}
use Rattle.dine_site_thread.proofs.shared.lists.Seen.{there_is}
use Rattle.dine_site_thread.specs.declared.diner.Diner as diners

-- what is made of the element at a place
mapped_at : {X Y : Type 0} (f : X → Y) (xs : List X) (k : ℕ) (x : X) (d : Y) → slice_get xs k ≡ Some x → get_or (map f xs) k d ≡ f x
mapped_at f xs k x d at = get_or_from_slice_get (map f xs) k (f x) d (slice_get-map f xs k ∙ ap (option_map f) at)

-- there is a fork for each edge
pub fork_count : (plan : SeenPlan) (forks : List SeenFork) → map (λ (fork : SeenFork). fork.edge) forks ≡ range_with_len 0 (edge_count plan) → length forks ≡ edge_count plan
fork_count plan forks each = sym (length-map forks (λ (fork : SeenFork). fork.edge)) ∙ ap length each ∙ length-range_with_len 0 (edge_count plan)

module _ {D : Type 0} (plan : SeenPlan) (forks : List SeenFork) (outs : List (SiteOut D)) where
  abbrev ates : List ℕ
  ates = map (λ (out : SiteOut D). out.ate) outs

  -- what `run` gathers is of its plan
  pub headline_gathered : (links : List SeenLink) (manner : Manner) (eater : diners.Ghosts D) (diners : List D)
      → length diners ≡ site_count plan → IsHeadline plan ates links forks → AreOutsOf eater manner plan diners outs → IsGatheredOf plan forks outs
  headline_gathered links manner eater diners many headline are = record {
    one_fork_an_edge = headline.one_fork_an_edge;
    ends = λ edge fork at. ap (λ (f : SeenFork). f.ends) (headline.each_fork edge fork at).in_hand;
    due = λ edge fork at. ap (λ (f : SeenFork). f.due) (headline.each_fork edge fork at).in_hand;
    count = are.count;
    site = λ s out at.
        let diner = there_is diners s (omega (arith, slice_get_within outs s out at, are.count, many)) in
        (are.each s diner.0 out diner.1 at).site;
  }

  -- each site ate so many meals
  abbrev pub AteAll : (ℕ → ℕ) → Type 0
  AteAll meals = (s : ℕ) (out : SiteOut D) → slice_get outs s ≡ Some out → out.ate ≡ meals s

  ate_all : (meals : ℕ → ℕ) → AteAll meals → length outs ≡ site_count plan → (s : ℕ) → s < site_count plan → get_or ates s 0 ≡ meals s
  ate_all meals eaten count s within =
      let out = there_is outs s (omega (arith, within, count)) in
      mapped_at (λ (o : SiteOut D). o.ate) outs s out.0 0 out.1 ∙ eaten s out.0 out.1

  -- the values of the forks, in order
  abbrev pub values : List ℕ
  values = map (λ (fork : SeenFork). fork.value) forks

  -- the fork of an edge, where all sites ended well: its log is whole, and the value is that of the log
  module _ (links : List SeenLink) (is_plan : IsPlan plan) (headline : IsHeadline plan ates links forks) (meals : ℕ → ℕ) (eaten : AteAll meals) (count : length outs ≡ site_count plan) where
    lo_ate : (edge : ℕ) → edge < edge_count plan → get_or ates (lo_of plan edge) 0 ≡ meals (lo_of plan edge)
    lo_ate edge within = ate_all meals eaten count (lo_of plan edge) (omega (arith, is_plan.ordered edge within, is_plan.within edge within))

    hi_ate : (edge : ℕ) → edge < edge_count plan → get_or ates (hi_of plan edge) 0 ≡ meals (hi_of plan edge)
    hi_ate edge within = ate_all meals eaten count (hi_of plan edge) (is_plan.within edge within)

    -- the rows of the edges are those of the plan, with these values
    pub edge_rows-due : edge_rows plan forks ≡ due_edge_rows plan meals values
    edge_rows-due =
        let n = edge_count plan in
        let due : ℕ → EdgeRow = λ edge. edge_row plan meals (get_or values edge 0) edge in
        fill_by_all due (edge_rows plan forks) n (due 0) (length-map-range_with_len (logged_row plan forks) 0 n) (λ edge within.
        let fork = there_is forks edge (omega (arith, within, fork_count plan forks headline.one_fork_an_edge)) in
        let whole = (headline.each_fork edge fork.0 fork.1).whole in
        let read = get_or_from_slice_get forks edge fork.0 no_fork fork.1 in
        let log = ap (λ (f : SeenFork). f.log) read in
        let lo = ap (meals_of (lo_of plan edge)) log ∙ whole.lower_count ∙ lo_ate edge within in
        let hi = ap (meals_of (hi_of plan edge)) log ∙ whole.higher_count ∙ hi_ate edge within in
        let value = ap (λ (f : SeenFork). f.value) read ∙ sym (mapped_at (λ (f : SeenFork). f.value) forks edge fork.0 0 fork.1) in
        get_or-map-range_with_len (logged_row plan forks) 0 n edge edge _ within (omega arith)
        ∙ ap₂ (λ (m v : ℕ). record { edge = edge; lo = lo_of plan edge; hi = hi_of plan edge; lo_meals = m; hi_meals = meals_of (hi_of plan edge) (get_or forks edge no_fork).log; value = v }) lo value
        ∙ ap (λ (m : ℕ). record { edge = edge; lo = lo_of plan edge; hi = hi_of plan edge; lo_meals = meals (lo_of plan edge); hi_meals = m; value = get_or values edge 0 }) hi)

    -- and the values are due
    pub values-due : ((plan : SeenPlan) (edge low_ate high_ate : ℕ) (log : List Entry) → IsPlan plan → edge < edge_count plan → has_no_set plan ≡ true → IsWholeLog plan edge low_ate high_ate log → value_by plan edge log ≡ value_by_amounts plan edge low_ate high_ate)
        → AreDueValues plan meals values
    values-due adds = record {
      count = length-map forks (λ (f : SeenFork). f.value) ∙ fork_count plan forks headline.one_fork_an_edge;
      each = λ edge value at.
          let within : edge < edge_count plan = omega (arith, slice_get_within values edge value at, length-map forks (λ (f : SeenFork). f.value), fork_count plan forks headline.one_fork_an_edge) in
          let fork = there_is forks edge (omega (arith, within, fork_count plan forks headline.one_fork_an_edge)) in
          let the = headline.each_fork edge fork.0 fork.1 in
          let whole : IsWholeLog plan edge (meals (lo_of plan edge)) (meals (hi_of plan edge)) fork.0.log =
          subst (λ (n : ℕ). IsWholeLog plan edge n (meals (hi_of plan edge)) fork.0.log) (lo_ate edge within)
          (subst (λ (n : ℕ). IsWholeLog plan edge (get_or ates (lo_of plan edge) 0) n fork.0.log) (hi_ate edge within) the.whole) in
          let read : value ≡ fork.0.value = same_Some value fork.0.value (sym at ∙ slice_get-map (λ (f : SeenFork). f.value) forks edge ∙ ap (option_map (λ (f : SeenFork). f.value)) fork.1) in
          let by_log : fork.0.value ≡ value_by plan edge fork.0.log = ap (λ (f : SeenFork). f.value) the.in_hand ∙ ap (value_by plan edge) (sym (ap (λ (f : SeenFork). f.log) the.in_hand)) in
          record {
            log = fork.0.log;
            whole = whole;
            by_log = read ∙ by_log;
            added = λ all. read ∙ by_log ∙ adds plan edge (meals (lo_of plan edge)) (meals (hi_of plan edge)) fork.0.log is_plan within all whole;
          };
    }

  -- and the rows of the sites are those of these meals with the numbers of failed jobs
  pub site_rows-due : (meals : ℕ → ℕ) → IsGatheredOf plan forks outs → AteAll meals → site_rows outs ≡ due_site_rows plan meals (map (λ (out : SiteOut D). out.failed) outs)
  site_rows-due meals gathered eaten =
      let failed = map (λ (out : SiteOut D). out.failed) outs in
      fill_by_all (λ s. record { site = s; meals = meals s; failed = get_or failed s 0 }) (site_rows outs) (site_count plan) (record { site = 0; meals = 0; failed = 0 }) (length-map outs site_row ∙ gathered.count) (λ s within.
      let out = there_is outs s (omega (arith, within, gathered.count)) in
      mapped_at site_row outs s out.0 _ out.1
      ∙ ap (λ (m : ℕ). record { site = m; meals = out.0.ate; failed = out.0.failed }) (gathered.site s out.0 out.1)
      ∙ ap (λ (m : ℕ). record { site = s; meals = m; failed = out.0.failed }) (eaten s out.0 out.1)
      ∙ ap (λ (m : ℕ). record { site = s; meals = meals s; failed = m }) (sym (mapped_at (λ (o : SiteOut D). o.failed) outs s out.0 0 out.1)))
