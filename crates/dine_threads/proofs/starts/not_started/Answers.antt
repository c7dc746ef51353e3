use Rattle.dine_rules.specs.Local.{start_of}
use Rattle.dine_site_thread.specs.Ports.{seen_ports}
use Rattle.dine_site_thread.proofs.shared.one_site.Leaving.{left_unstarted}
use Rattle.dine_site_thread.proofs.shared.one_site.Obeying.{obeys_none}
use Rattle.dine_threads.proofs.starts.not_started.Goals as goal

pub returns-clause-left : goal.returns-clause-left
returns-clause-left g c = λ plan fresh manner.
    let s = c.args.core.site in
    let keeps = c.streams_are_kept.ensures.start plan s fresh.is_plan fresh.is_site in
    left_unstarted manner c.letters_cut_short_are_in_order.ensures.front c.letters_cut_short_are_in_order.ensures.closed plan s (seen_ports g.L.Lane c.args.ports.items) c.site-site.result c.into_parts-parts.result.forks.items c.into_parts-parts.result.tokens.items c.new.result.items c.args.bell c.new.ensures.items c.site-site.ensures keeps
    (c.into_parts-parts.ensures.forks_by_lists plan (start_of plan s) keeps fresh.stands) (c.into_parts-parts.ensures.tokens_by_lists plan (start_of plan s) keeps fresh.stands) c.requires.unused

pub returns-clause-obeys : goal.returns-clause-obeys
returns-clause-obeys g c = obeys_none c.args.core.resigns c.new.result.items (g.D.Diner.calls c.args.diner) c.new.ensures.items
