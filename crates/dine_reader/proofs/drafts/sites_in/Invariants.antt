use Rattle.std.proofs.Common.{◌≡◌, map}
use Rattle.std.specs.List.{position}
use Rattle.toml.specs.View.{view}
use Rattle.dine_graph.specs.Site.{seen_site}
use Rattle.dine_reader.specs.Document.{has_two_acts}
use Rattle.dine_reader.specs.PlanOf.{site_in}
use Rattle.dine_reader.specs.private.Forms.{flaws_in}
use Rattle.dine_reader.proofs.drafts.sites_in.Given as goal

abbrev pub invariant-loop-table : goal.invariant-loop-table
invariant-loop-table l = record {
  sites : map seen_site l.sites.items ≡ map site_in (map view l.yielded);
  flaws : l.flaws ≡ flaws_in l.second (map view l.yielded);
  two_acts : l.two_acts ≡ position has_two_acts (map view l.yielded);
}
