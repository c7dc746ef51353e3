use Rattle.std.proofs.Common.{◌≡◌, ◌-◌, ◌++◌, List, ℕ}
use Rattle.std.specs.Fmt.{HasWritten, IsPlainFormatter}
use Rattle.std.specs.List.{flat_map, range_with_len}
use Rattle.dine_graph.specs.Dot.{dot_site, dot_sites}
use Rattle.dine_graph.specs.Plan.{site_count}
use Rattle.dine_graph.proofs.dots.write_sites.Given as goal

-- the text so far, and the lines left, make the whole
abbrev pub invariant-loop-site : goal.invariant-loop-site
invariant-loop-site g l =
    IsPlainFormatter l.initial.f → (done : List ℕ) × HasWritten g.W.Write.write_str_gives l.initial.f done l.f
    × (done ++ flat_map (dot_site l.plan) (range_with_len l.site (site_count l.plan - l.site)) ≡ dot_sites l.plan)
