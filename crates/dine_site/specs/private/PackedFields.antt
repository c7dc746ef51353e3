-- How a packed core is kept: it does not eat, so that it may be dropped.
use Rattle.std.specs.Prelude.{◌≡◌, false}
use Rattle.dine_rules.specs.Local.{is_eating}
use Rattle.dine_site.specs.declared.site.packed.Packed.TheInside.{Inside}
use Rattle.dine_site.specs.Core.{SeenCore}

-- the core that a `Packed` represents
abbrev pub core_in : Inside → SeenCore
core_in packed = packed.core

-- the packed core does not eat
abbrev pub IsAtRest : Inside → Type 0
IsAtRest packed = is_eating packed.core.phase ≡ false
