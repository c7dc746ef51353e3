-- How a site core is kept: what represents its value, and what is kept beside that.
use Rattle.std.specs.Prelude.{◌≡◌, ℕ, ◌<◌, ◌≤◌, ◌^◌, false, [], length, vec_capacity}
use Rattle.dine_site.specs.declared.site.SiteCore.TheInside.{Inside}
use Rattle.dine_site.specs.declared.site.Parts.{Parts}
use Rattle.dine_rules.specs.Local.{is_eating}
use Rattle.dine_site.specs.Core.{SeenCore}
use Rattle.dine_site.specs.Places.{IsSound}

-- the core that the fields of a `SiteCore` represent
abbrev pub seen_core : Inside → SeenCore
seen_core core = record {
  site = core.site;
  due = core.due;
  acts = core.acts.items;
  resigns = core.resigns;
  phase = core.phase;
  ate = core.ate;
  must_quit = core.must_quit;
  has_quit = core.has_quit;
  places = core.places;
}

-- there is capacity for all forks and tokens that a site with this number of places may hold
pub record HasRoom (degree : ℕ) (parts : Parts) : Type 0 where
  pub few : degree < 2 ^ 32
  pub no_forks : parts.forks.items ≡ []
  pub room_for_forks : degree ≤ vec_capacity parts.forks
  pub no_tokens : parts.tokens.items ≡ []
  pub room_for_tokens : degree ≤ vec_capacity parts.tokens

-- What is kept at the places fits the site. There is capacity for the forks of a meal, and for all that the site may
-- hold.
pub record IsKept (core : Inside) : Type 0 where
  pub sound : IsSound (seen_core core)
  pub no_hands : core.hands.items ≡ []
  pub room_for_hands : is_eating core.phase ≡ false → length core.places ≤ vec_capacity core.hands
  pub room : HasRoom (length core.places) core.parts
