use Rattle.std.proofs.Common.{◌≡◌, ℕ, ◌<◌, ◌+◌, ◌*◌, List, [], length, map, get_or, slice_set, sym, ◌∙◌, ap, ap₂, subst, arith}
use Rattle.std.proofs.lemmas.List.{get_or_default, get_or-set_other, length-map, length-set}
use Rattle.std.specs.Option.{option_or}
use Rattle.dine_rules.specs.declared.letters.Letter.{Letter}
use Rattle.dine_world.specs.declared.world.sites.WorldSite.{WorldSite}
use Rattle.dine_site.specs.Core.{SeenCore}
use Rattle.dine_site.specs.Places.{hand_of, place_at}
use Rattle.dine_world.specs.private.Forks.{at_rest, behind_fork, without_fork_at, first_fork, without_fork}
use Rattle.dine_world.proofs.all_sites.HandsOut.{emptied_read, fork_read, place_read}
use Rattle.dine_world.proofs.world.forks.remove_edge_fork.Goals as goal

-- the link to the higher end, once that to the lower end was written
other_link : (links : List (List Letter)) (edge : ℕ) (letters past : List Letter) → 2 * edge + 1 < length links → get_or (slice_set links (2 * edge + 1) letters) (2 * edge) past ≡ get_or links (2 * edge) []
other_link links edge letters past within =
    get_or-set_other links (2 * edge + 1) (2 * edge) letters past (λ same. omega (arith, same)) ∙ get_or_default links (2 * edge) past [] (omega (arith, within))

pub returns-clause-hands : goal.returns-clause-hands
returns-clause-hands c =
    let hands = c.args.hands.now in
    let ends = c.args.ends.now in
    let left : List SeenCore = slice_set hands ends.lower c.remove_fork-at_lower.new.self in
    let within : ends.higher < length (map at_rest left) = omega (arith, c.requires.higher.site, length-map hands at_rest, length-map left at_rest, length-set hands ends.lower c.remove_fork-at_lower.new.self) in
    ap (λ (core : SeenCore). map at_rest (slice_set left ends.higher core)) c.remove_fork-at_higher.ensures.away
    ∙ emptied_read left ends.higher ends.higher_place c.index-hands-ends-2.result within
    ∙ ap (λ (sites : List WorldSite). without_fork_at ends.higher ends.higher_place sites)
    (ap (λ (core : SeenCore). map at_rest (slice_set hands ends.lower core)) c.remove_fork-at_lower.ensures.away
    ∙ emptied_read hands ends.lower ends.lower_place c.index-hands-ends.result c.requires.lower.site)

pub returns-clause-fork : goal.returns-clause-fork
returns-clause-fork c =
    let hands = c.args.hands.now in
    let links = c.args.links.now in
    let ends = c.args.ends.now in
    let is = c.requires in
    let here : ends.higher ≡ ends.lower → ⊥ = λ same. omega (arith, is.ordered, same) in
    let lower = c.remove_fork-at_lower.ensures.fork ∙ fork_read hands ends.lower ends.lower_place c.index-hands-ends.result is.lower.site in
    let to_lower = c.remove_fork-to_lower.ensures.fork ∙ ap first_fork (get_or_default links (2 * c.args.edge + 1) c.index-links-edge.result [] is.within) in
    let higher = c.remove_fork-at_higher.ensures.fork
    ∙ ap (λ (core : SeenCore). hand_of (place_at core ends.higher_place).fork) (get_or-set_other hands ends.lower ends.higher c.remove_fork-at_lower.new.self c.index-hands-ends-2.result here)
    ∙ fork_read hands ends.higher ends.higher_place c.index-hands-ends-2.result is.higher.site in
    let to_higher = c.remove_fork-to_higher.ensures.fork ∙ ap first_fork (other_link links c.args.edge c.remove_fork-to_lower.new.self c.index-links-edge-2.result is.within) in
    c.or-3.ensures ∙ ap₂ option_or (c.or-2.ensures ∙ ap₂ option_or (c.or.ensures ∙ ap₂ option_or lower to_lower) higher) to_higher

pub returns-clause-links : goal.returns-clause-links
returns-clause-links c =
    let links = c.args.links.now in
    let to_higher = 2 * c.args.edge in
    let to_lower = 2 * c.args.edge + 1 in
    let left = slice_set links to_lower c.remove_fork-to_lower.new.self in
    let within : to_higher < length left = omega (arith, c.requires.within, length-set links to_lower c.remove_fork-to_lower.new.self) in
    ap (slice_set left to_higher) (c.remove_fork-to_higher.ensures.rest ∙ ap behind_fork (get_or_default left to_higher c.index-links-edge-2.result [] within))
    ∙ ap (λ (letters : List Letter). without_fork to_higher (slice_set links to_lower letters)) (c.remove_fork-to_lower.ensures.rest ∙ ap behind_fork (get_or_default links to_lower c.index-links-edge.result [] c.requires.within))

-- ---- what the calls need

pub remove_fork-at_lower-requires : goal.remove_fork-at_lower-requires
remove_fork-at_lower-requires c =
    let ends = c.args.ends.now in
    place_read c.args.hands.now ends.lower ends.lower_place c.index-hands-ends.result c.requires.lower.site c.requires.lower.place

pub remove_fork-at_higher-requires : goal.remove_fork-at_higher-requires
remove_fork-at_higher-requires c =
    let hands = c.args.hands.now in
    let ends = c.args.ends.now in
    let other = get_or-set_other hands ends.lower ends.higher c.remove_fork-at_lower.new.self c.index-hands-ends-2.result (λ same. omega (arith, c.requires.ordered, same)) in
    subst (λ (core : SeenCore). ends.higher_place < length core.places) (sym other)
    (place_read hands ends.higher ends.higher_place c.index-hands-ends-2.result c.requires.higher.site c.requires.higher.place)

pub bounds-hands-ends : goal.bounds-hands-ends
bounds-hands-ends c = omega (arith, c.requires.lower.site, length-map c.args.hands.now at_rest)

pub bounds-hands-ends-2 : goal.bounds-hands-ends-2
bounds-hands-ends-2 c =
    omega (arith, c.requires.higher.site, length-map c.args.hands.now at_rest, length-set c.args.hands.now c.args.ends.now.lower c.remove_fork-at_lower.new.self)

pub bounds-links-edge-2 : goal.bounds-links-edge-2
bounds-links-edge-2 c = omega (arith, c.requires.within, length-set c.args.links.now (2 * c.args.edge + 1) c.remove_fork-to_lower.new.self)
