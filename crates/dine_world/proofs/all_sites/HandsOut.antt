-- Sites that ended their steps, by the cores behind their hands: each core is a site at rest.
use Rattle.std.proofs.Common.{◌≡◌, ℕ, ◌<◌, List, [], ◌∷◌, ◌++◌, length, map, reverse, get_or, set, None, refl, sym, ◌∙◌, ap, subst, arith}
use Rattle.std.proofs.Math.ListN.{get_or-map}
use Rattle.std.proofs.lemmas.List.{get_or_default, length-map, map-set, map_push, append_assoc, reverse-append}
use Rattle.dine_world.specs.declared.world.sites.WorldSite.{WorldSite}
use Rattle.dine_site.specs.Core.{SeenCore}
use Rattle.dine_site.specs.Places.{after_give, hand_of, place_at}
use Rattle.dine_site.specs.declared.site.places.ForkSlot.{ForkSlot}
use Rattle.dine_site.specs.declared.site.places.ForkSlot.TheVariants.{Away, Here, InMeal}
use Rattle.dine_world.specs.private.Forks.{absent_core, at_rest, core_ended, without_fork_at, fork_at_site, fork_in_slot, meal_ended, site_at}

-- a core at rest has its forks in hand
in_hand : (i : ℕ) (slot : ForkSlot) → hand_of slot ≡ fork_in_slot None i slot
in_hand i Away = refl
in_hand i (Here fork) = refl
in_hand i (InMeal n) = refl

-- the core at index s, and place i of it
module _ (cores : List SeenCore) (s i : ℕ) (past : SeenCore) (within : s < length (map at_rest cores)) where
  rest_read : at_rest (get_or cores s past) ≡ site_at (map at_rest cores) s
  rest_read =
      let is_core : s < length cores = omega (arith, within, length-map cores at_rest) in
      ap at_rest (get_or_default cores s past absent_core is_core) ∙ sym (get_or-map at_rest cores s absent_core)

  pub place_read : i < length (site_at (map at_rest cores) s).core.places → i < length (get_or cores s past).places
  place_read = subst (λ (x : WorldSite). i < length x.core.places) (sym rest_read)

  pub fork_read : hand_of (place_at (get_or cores s past) i).fork ≡ fork_at_site (site_at (map at_rest cores) s) i
  fork_read = in_hand i (place_at (get_or cores s past) i).fork ∙ ap (λ (x : WorldSite). fork_at_site x i) rest_read

  pub emptied_read : map at_rest (set cores s (after_give i (get_or cores s past))) ≡ without_fork_at s i (map at_rest cores)
  emptied_read = map-set at_rest cores s (after_give i (get_or cores s past)) ∙ ap (λ (x : WorldSite). set (map at_rest cores) s (record x { core = after_give i x.core })) rest_read

-- the cores of all sites, ended, are the sites after their meals
pub all_ended : (sites : List WorldSite) → map at_rest (map core_ended sites) ≡ map meal_ended sites
all_ended [] = refl
all_ended (world_site ∷ sites) = ap (λ (rest : List WorldSite). meal_ended world_site ∷ rest) (all_ended sites)

-- The last site is taken, and its core goes to the end of the cores, which are in the reversed order.
pub last_ended : (sites front : List WorldSite) (last : WorldSite) (cores : List SeenCore) → sites ≡ front ++ last ∷ []
    → map core_ended front ++ reverse (cores ++ core_ended last ∷ []) ≡ map core_ended sites ++ reverse cores
last_ended sites front last cores is =
    ap (λ (xs : List SeenCore). map core_ended front ++ xs) (reverse-append cores (core_ended last ∷ []))
    ∙ sym (append_assoc (map core_ended front) (core_ended last ∷ []) (reverse cores))
    ∙ ap (λ (xs : List SeenCore). xs ++ reverse cores) (sym (map_push core_ended front last))
    ∙ ap (λ (xs : List WorldSite). map core_ended xs ++ reverse cores) (sym is)
