-- How a builder is kept, with what its calls check.
use Rattle.std.specs.Prelude.{◌≡◌, ◌≤◌, length, map, string_bytes}
use Rattle.dine_graph.specs.declared.limits.TheConstants.{MAX_EDGES, MAX_SITES}
use Rattle.dine_builder.specs.Draft.{Draft}
use Rattle.dine_ffi.specs.Builders.{ends_in, names_in}
use Rattle.dine_ffi.specs.declared.own_builder.OwnBuilder.TheInside.{Inside}

-- the draft that the fields represent
abbrev pub seen_own_builder : Inside → Draft
seen_own_builder own = own.builder

-- the names are those of the draft's sites, the ends those of its edges, and there are no more than a plan may have
pub record HasNamesAndEnds (own : Inside) : Type 0 where
  pub names : map string_bytes own.names.items ≡ names_in own.builder
  pub ends : own.ends.items ≡ ends_in own.builder
  pub few_sites : length own.names.items ≤ MAX_SITES
  pub few_edges : length own.ends.items ≤ MAX_EDGES
