-- How the hands of a site are kept: the core behind them does not eat, so that it may be dropped.
use Rattle.std.specs.Prelude.{◌≡◌, false}
use Rattle.dine_rules.specs.Local.{is_eating}
use Rattle.dine_site.specs.declared.site.hands.Hands.TheInside.{Inside}
use Rattle.dine_site.specs.Core.{SeenCore}

-- the core that a `Hands` represents
abbrev pub core_behind : Inside → SeenCore
core_behind hands = hands.core

-- that core does not eat
abbrev pub EatsNoMore : Inside → Type 0
EatsNoMore hands = is_eating hands.core.phase ≡ false
