use Rattle.std.proofs.Common.{◌≡◌, map, take, drop}
use Rattle.dine_site.specs.Core.{fresh_forks, fresh_tokens, kept_of}
use Rattle.dine_rules.specs.Local.{no_traffic}
use Rattle.dine_rules.specs.declared.phase.Phase.TheVariants.{Thinking}
use Rattle.dine_site.proofs.site.opening.places_of.Given as goal

-- the places of the edges so far are made, and the forks and tokens of the others are left
abbrev pub invariant-loop-edge : goal.invariant-loop-edge
invariant-loop-edge l = (l.places ≡ map (λ edge. kept_of l.fn.plan l.fn.site Thinking 0 edge no_traffic) (take l.edge-index l.edges))
    × (l.forks.items ≡ fresh_forks l.fn.plan l.fn.site (drop l.edge-index l.edges))
    × (l.tokens.items ≡ fresh_tokens l.fn.plan l.fn.site (drop l.edge-index l.edges))
