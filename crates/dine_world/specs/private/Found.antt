-- Where the fork or the token of an edge is, by three tests of a World.
use Rattle.std.specs.Prelude.{ℕ, Bool, true, false}
use Rattle.dine_world.specs.declared.world.whereabouts.Whereabouts.{Whereabouts}
use Rattle.dine_world.specs.declared.world.whereabouts.Whereabouts.TheVariants.{At, To}

-- at the lower end, in the link to that end, at the higher end, or else in the link to that end
abbrev pub found_at : ℕ → ℕ → Bool → Bool → Bool → Whereabouts
found_at lower higher true to_lower at_higher = At lower
found_at lower higher false true at_higher = To lower
found_at lower higher false false true = At higher
found_at lower higher false false false = To higher
