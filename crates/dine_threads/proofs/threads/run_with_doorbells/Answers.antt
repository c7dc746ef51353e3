use Rattle.std.proofs.Common.{◌≡◌, ◌∙◌, ℕ, All, List, None, Some, is_some, refl, slice_get, map, sym, subst, ap, vec_items, vec_len, arith}
use Rattle.std.specs.List.{position}
use Rattle.dine_graph.specs.Plan.{site_count}
use Rattle.dine_threads.specs.declared.gathered.SiteOut.{SiteOut}
use Rattle.dine_site_thread.specs.declared.site_end.SiteEnd.{SiteEnd}
use Rattle.dine_threads.specs.Brokens.{AllClosedEarly, AreStatesLeft}
use Rattle.dine_threads.specs.private.Collecting.{out_of, rows_left}
use Rattle.dine_threads.specs.Gathered.{AreFinishedOuts, AreOutsOf, IsClosedWhole, IsLowestFault}
use Rattle.dine_threads.specs.Headline.{AllJoined, AreTokensOf, IsHeadline}
use Rattle.dine_threads.specs.Journals.{HaveActed, HaveOrder}
use Rattle.dine_threads.specs.private.Wirings.{AreWired}
use Rattle.dine_threads.proofs.all_sites.Brokens.{all_closed_early, all_joined, states_left}
use Rattle.dine_threads.proofs.all_sites.Gatherings.{AreAllLeft, left_of_children, ends_are_whole, still_wired, links_by_edge, links_are_whole, outs_are_finished, outs_of_diners, none_found, lowest_found}
use Rattle.dine_threads.proofs.all_sites.Headlines.{headline, all_acted, ate_few, journals_count, tokens_stand}
use Rattle.dine_threads.proofs.shared.all_sites.Ordered.{order_of_run}
use Rattle.dine_threads.proofs.all_sites.Timings.{all_timed}
use Rattle.dine_threads.proofs.threads.run_with_doorbells.Goals as goal

pub collect-forks-requires-clause-whole : goal.collect-forks-requires-clause-whole
collect-forks-requires-clause-whole g c κs within =
    let left = left_of_children c.in-Ok.setup (vec_items c.start_all-refused.new.children) (vec_items c.join_all.new.ends) c.sites.ensures.plan c.in-Ok.ensures (rw c.in_default-refused.is at c.start_all-refused.ensures.all) c.join_all.ensures.left in
    ends_are_whole left

pub collect-forks-requires-clause-wired : goal.collect-forks-requires-clause-wired
collect-forks-requires-clause-wired g c κs within =
    let left = left_of_children c.in-Ok.setup (vec_items c.start_all-refused.new.children) (vec_items c.join_all.new.ends) c.sites.ensures.plan c.in-Ok.ensures (rw c.in_default-refused.is at c.start_all-refused.ensures.all) c.join_all.ensures.left in
    still_wired left c.in-Ok.ensures.wired

-- what the sites left where none tells a fault
ended_well : (g : _) (c : goal.After-drop-gate-in-None g)
    → AreAllLeft g.L.Lane g.D.Diner c.args.options.manner c.args.plan.now (vec_items c.in-Ok.setup.starts) (vec_items c.join_all.new.ends)
ended_well g c =
    left_of_children c.in-Ok.setup (vec_items c.start_all-refused.new.children) (vec_items c.join_all.new.ends) c.sites.ensures.plan c.in-Ok.ensures (rw c.in_default-refused.is at c.start_all-refused.ensures.all) c.join_all.ensures.left

no_fault : (g : _) (c : goal.After-drop-gate-in-None g) (s : ℕ) (end : SiteEnd _ _ _ _ _) → slice_get (vec_items c.join_all.new.ends) s ≡ Some end → end.fault ≡ None
no_fault g c = none_found (ended_well g c) (ap (position (λ (end : SiteEnd _ _ _ _ _). is_some end.fault)) (sym c.as_slice.ensures.value) ∙ sym c.in-None.ensures)

wired : (g : _) (c : goal.After-drop-gate-in-None g) → AreWired c.args.plan.now (rows_left g.L.Lane (vec_items c.join_all.new.ends))
wired g c = still_wired (ended_well g c) c.in-Ok.ensures.wired

closed : (g : _) (c : goal.After-drop-gate-in-None g) → All IsClosedWhole (vec_items c.collect-forks.result.2)
closed g c = links_are_whole (ended_well g c) (no_fault g c) (vec_items c.collect-forks.result.2) c.collect-forks.ensures.links (wired g c) c.collect-forks.ensures.whole

-- the headline, by the ends that the sites left
headline_left : (g : _) (c : goal.After-drop-gate-in-None g)
    → IsHeadline c.args.plan.now (map (λ (out : SiteOut _). out.ate) (map out_of (vec_items c.join_all.new.ends))) (vec_items c.collect-forks.result.2) (vec_items c.collect-forks.result.0)
headline_left g c =
    let left = ended_well g c in
    let accounts = c.kept_streams_account_for_fork_and_token.ensures in
    let whole = c.joined_ends_have_one_whole_fork_and_one_token.ensures in
    let values = c.values_are_those_of_the_logs.ensures in
    let links = vec_items c.collect-forks.result.2 in
    let joined = all_joined left links c.collect-forks.ensures.links (wired g c) c.collect-forks.ensures.in_order (links_by_edge left links c.collect-forks.ensures.links (wired g c)) in
    let whole_run = headline left (no_fault g c) links c.collect-forks.ensures.links (wired g c) accounts.fork accounts.token whole.fork whole.token values.low values.high (closed g c) joined in
    subst (IsHeadline c.args.plan.now (map (λ (out : SiteOut _). out.ate) (map out_of (vec_items c.join_all.new.ends))) links) (sym c.collect-forks.ensures.forks) whole_run

headline_is : (g : _) (c : goal.After-drop-gate-in-None g) → IsHeadline c.args.plan.now (map (λ (out : SiteOut _). out.ate) (vec_items c.collect-forks.result.1)) (vec_items c.collect-forks.result.2) (vec_items c.collect-forks.result.0)
headline_is g c =
    subst (λ (outs : List (SiteOut _)). IsHeadline c.args.plan.now (map (λ (out : SiteOut _). out.ate) outs) (vec_items c.collect-forks.result.2) (vec_items c.collect-forks.result.0)) (sym c.collect-forks.ensures.sites) (headline_left g c)

tokens_is : (g : _) (c : goal.After-drop-gate-in-None g) → AreTokensOf c.args.plan.now (vec_items c.collect-forks.result.2) (vec_items c.collect-forks.result.1)
tokens_is g c =
    let accounts = c.kept_streams_account_for_fork_and_token.ensures in
    let whole = c.joined_ends_have_one_whole_fork_and_one_token.ensures in
    let values = c.values_are_those_of_the_logs.ensures in
    let links = vec_items c.collect-forks.result.2 in
    subst (AreTokensOf c.args.plan.now links) (sym c.collect-forks.ensures.sites)
    (tokens_stand (ended_well g c) (no_fault g c) links c.collect-forks.ensures.links (wired g c) accounts.fork accounts.token whole.fork whole.token values.low values.high (closed g c))

finished_is : (g : _) (c : goal.After-drop-gate-in-None g) → AreFinishedOuts c.args.plan.now (vec_items c.collect-forks.result.1)
finished_is g c = subst (AreFinishedOuts c.args.plan.now) (sym c.collect-forks.ensures.sites) (outs_are_finished (ended_well g c) (no_fault g c))

sites_is : (g : _) (c : goal.After-drop-gate-in-None g) → AreOutsOf g.D.Diner c.args.options.manner c.args.plan.now (vec_items c.args.diners) (vec_items c.collect-forks.result.1)
sites_is g c =
    subst (AreOutsOf g.D.Diner c.args.options.manner c.args.plan.now (vec_items c.args.diners)) (sym c.collect-forks.ensures.sites)
    (outs_of_diners (ended_well g c) (vec_items c.args.diners) c.in-Ok.ensures.diners)

pub returns-clause-fault : goal.returns-clause-fault
returns-clause-fault g c =
    let left = left_of_children c.in-Ok.setup (vec_items c.start_all-refused.new.children) (vec_items c.join_all.new.ends) c.sites.ensures.plan c.in-Ok.ensures (rw c.in_default-refused.is at c.start_all-refused.ensures.all) c.join_all.ensures.left in
    let wired = still_wired left c.in-Ok.ensures.wired in
    let links = vec_items c.collect-forks.result.2 in
    let outs = outs_of_diners left (vec_items c.args.diners) c.in-Ok.ensures.diners in
    let lowest = lowest_found left c.in-Some-fault.site (ap (position (λ (end : SiteEnd _ _ _ _ _). is_some end.fault)) (sym c.as_slice.ensures.value) ∙ sym c.in-Some-fault.ensures) in
    let values = c.values_are_those_of_the_logs.ensures in
    let states = states_left left links c.collect-forks.ensures.links wired c.collect-forks.ensures.in_order c.kept_streams_account_for_fork_and_token.ensures.fork values.low values.high in
    let early = all_closed_early left links c.collect-forks.ensures.links wired c.collect-forks.ensures.in_order c.refused_letters_are_closes.ensures.early in (
      omega (arith, c.if-len-sites.false, c.len.ensures, c.sites.ensures.count),
      subst (λ (found : List (SiteOut _)). AllJoined c.args.plan.now (map (λ (out : SiteOut _). out.ate) found) links) (sym c.collect-forks.ensures.sites)
          (all_joined left links c.collect-forks.ensures.links wired c.collect-forks.ensures.in_order (links_by_edge left links c.collect-forks.ensures.links wired)),
      subst (AreOutsOf g.D.Diner c.args.options.manner c.args.plan.now (vec_items c.args.diners)) (sym c.collect-forks.ensures.sites) outs,
      subst (IsLowestFault c.in-Some-fault.site) (sym c.collect-forks.ensures.sites) lowest,
      subst (λ (found : List (SiteOut _)). AreStatesLeft c.args.options.manner c.args.plan.now found links (vec_items c.collect-forks.result.0)) (sym c.collect-forks.ensures.sites)
          (subst (AreStatesLeft c.args.options.manner c.args.plan.now (map out_of (vec_items c.join_all.new.ends)) links) (sym c.collect-forks.ensures.forks) states),
      subst AllClosedEarly (sym c.collect-forks.ensures.sites) early,
    )

journals_is : (g : _) (c : goal.After-drop-gate-in-None g) → HaveActed c.args.plan.now (map (λ (out : SiteOut _). out.ate) (vec_items c.collect-forks.result.1)) (vec_items c.collect-forks.result.2) c.args.options.manner (map (λ (out : SiteOut _). out.journal.items) (vec_items c.collect-forks.result.1))
journals_is g c =
    let links = vec_items c.collect-forks.result.2 in
    subst (λ (outs : List (SiteOut _)). HaveActed c.args.plan.now (map (λ (out : SiteOut _). out.ate) outs) links c.args.options.manner (map (λ (out : SiteOut _). out.journal.items) outs)) (sym c.collect-forks.ensures.sites)
    (all_acted (ended_well g c) (no_fault g c) links c.collect-forks.ensures.links (wired g c))

pub returns-then-len-sites : goal.returns-then-len-sites
returns-then-len-sites g c = record {
  ok = tt;
  fault = (c.len-then-len-sites.ensures, refl, λ same. omega (arith, same, c.if-len-sites.true, c.len.ensures, c.sites.ensures.count));
  limit = λ few. tt;
}

pub returns-in_default : goal.returns-in_default
returns-in_default g c = record {
  ok = tt;
  fault = omega (arith, c.if-len-sites.false, c.len.ensures, c.sites.ensures.count);
  limit = λ few. tt;
}

pub returns-in-Some : goal.returns-in-Some
returns-in-Some g c = record {
  ok = tt;
  fault = (omega (arith, c.if-len-sites.false, c.len.ensures, c.sites.ensures.count), omega (arith, rw c.in-Some.is at c.start_all-refused.ensures.some, c.in-Ok.ensures.count));
  limit = λ few. rw c.in-Some.is at c.start_all-refused.ensures.some_within;
}

many_is : (g : _) (c : goal.After-drop-gate-in-None g) → vec_len c.args.diners ≡ site_count c.args.plan.now
many_is g c = omega (arith, c.if-len-sites.false, c.len.ensures, c.sites.ensures.count)

ordered_is : (g : _) (c : goal.After-drop-gate-in-None g) → HaveOrder c.args.plan.now (map (λ (out : SiteOut _). out.journal.items) (vec_items c.collect-forks.result.1))
ordered_is g c =
    let left = ended_well g c in
    let links = vec_items c.collect-forks.result.2 in
    let outs : List (SiteOut _) = map out_of (vec_items c.join_all.new.ends) in
    let acted = all_acted left (no_fault g c) links c.collect-forks.ensures.links (wired g c) in
    let times = all_timed left links c.collect-forks.ensures.links (wired g c) c.collect-forks.ensures.in_order (no_fault g c) in
    subst (λ (outs : List (SiteOut _)). HaveOrder c.args.plan.now (map (λ (out : SiteOut _). out.journal.items) outs)) (sym c.collect-forks.ensures.sites)
    (order_of_run c.args.plan.now (map (λ (out : SiteOut _). out.ate) outs) links left.is_plan (vec_items c.collect-forks.result.0) (headline_left g c) (map (λ (out : SiteOut _). out.journal.items) outs)
    (λ s is_site. (acted s is_site).by_journal) (ate_few left (no_fault g c) links c.collect-forks.ensures.links (wired g c)) (journals_count left (no_fault g c) links c.collect-forks.ensures.links (wired g c)) times)

pub returns-in-None-clause-ok : goal.returns-in-None-clause-ok
returns-in-None-clause-ok g c = record {
  many = many_is g c;
  finished = finished_is g c;
  whole = record { headline = headline_is g c; acted = journals_is g c; ordered = ordered_is g c };
  tokens = tokens_is g c;
  sites = sites_is g c;
}

pub returns-in-None-clause-fault : goal.returns-in-None-clause-fault
returns-in-None-clause-fault g c = tt

pub returns-in-None-clause-limit : goal.returns-in-None-clause-limit
returns-in-None-clause-limit g c few = omega (arith, few, rw c.in_default-refused.is at c.start_all-refused.ensures.all_within, c.in-Ok.ensures.count)

pub returns-clause-ok : goal.returns-clause-ok
returns-clause-ok g c = tt

pub returns-clause-limit : goal.returns-clause-limit
returns-clause-limit g c few = omega (arith, few, rw c.in_default-refused.is at c.start_all-refused.ensures.all_within, c.in-Ok.ensures.count)
