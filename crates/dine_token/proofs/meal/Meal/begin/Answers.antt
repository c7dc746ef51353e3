use Rattle.std.proofs.Common.{◌≡◌, ◌<◌, ◌-◌, ◌++◌, ℕ, length, map, take, drop, set, get_or, ◌≤◌, sym, ◌∙◌, ap, subst, arith, List, append-nil, rules}
use Rattle.std.proofs.lemmas.List.{get_or-append_right, get_or-drop, length-take-le, length-map, take_all, drop_all}
use Rattle.std.proofs.lemmas.List.Edits.{map_over_more}
use Rattle.std.proofs.lemmas.List.Elements.{All-map}
use Rattle.std.specs.List.{All}
use Rattle.dine_token.specs.Fork.{SeenFork, IsDirty, MayEat, after_meal}
use Rattle.dine_token.proofs.shared.Logs.{is_dirty-push_meal}
use Rattle.dine_token.proofs.meal.Meal.begin.Goals as goal

-- behind the forks that have the meal are the others as they were
get_or-map_over : (f : SeenFork → SeenFork) (xs ys : List SeenFork) (i : ℕ) (d : SeenFork) → i < length xs → ys ≡ map f (take i xs) ++ drop i xs → get_or ys i d ≡ get_or xs i d
get_or-map_over f xs ys i d within is =
    let size : length (map f (take i xs)) ≡ i = length-map (take i xs) f ∙ length-take-le i xs (omega arith) in
    ap (λ (l : List SeenFork). get_or l i d) is ∙ get_or-append_right (map f (take i xs)) (drop i xs) i i d size (omega arith) ∙ get_or-drop i xs (i - i) d ∙ ap (λ (n : ℕ). get_or xs n d) (omega arith)

pub eat-requires-clause-may_eat : goal.eat-requires-clause-may_eat
eat-requires-clause-may_eat c =
    let within : c.loop-hand.hand-index < length c.args.hands.items = omega (arith, c.loop-hand-test.true, c.deref_mut-hand-items.ensures.len, ap length c.deref_mut-hand-items.ensures.value) in
    let same = get_or-map_over (after_meal c.args.site c.args.k c.args.act) c.args.hands.items c.loop-hand.hand-items c.loop-hand.hand-index c.hand-item.result within c.loop-hand.invariant in
    subst (MayEat c.args.site c.args.k) (sym same) (c.requires.may_eat c.loop-hand.hand-index c.hand-item.result within)

pub loop-hand-init : goal.loop-hand-init
loop-hand-init c = c.deref_mut-hand-items.ensures.value

pub loop-hand-preserved : goal.loop-hand-preserved
loop-hand-preserved c =
    let within : c.loop-hand.hand-index < length c.args.hands.items = omega (arith, c.loop-hand-test.true, ap length c.deref_mut-hand-items.ensures.value) in
    let step = map_over_more (after_meal c.args.site c.args.k c.args.act) c.args.hands.items c.loop-hand.hand-items c.loop-hand.hand-index c.hand-item.result within c.loop-hand.invariant c.hand-item.is in
    ap (λ (fork : SeenFork). set c.loop-hand.hand-items c.loop-hand.hand-index fork) (c.eat.ensures.eaten ∙ ap (after_meal c.args.site c.args.k c.args.act) (sym c.hand-item.is)) ∙ step

-- once all have the meal
all_served : (f : SeenFork → SeenFork) (xs ys : List SeenFork) (i len : ℕ) → ys ≡ map f (take i xs) ++ drop i xs → length xs ≤ i → length ys ≡ length xs → length xs ≤ len → take len (ys ++ drop (length ys) xs) ≡ map f xs
all_served f xs ys i len is over size capacity =
    let done : ys ≡ map f xs = is ∙ ap (λ (l : List SeenFork). map f l ++ drop i xs) (take_all i xs over) ∙ ap (λ (l : List SeenFork). map f xs ++ l) (drop_all i xs over) ∙ append-nil (map f xs) in
    ap (λ (l : List SeenFork). take len (ys ++ l)) (drop_all (length ys) xs (omega (arith, size))) ∙ ap (λ (l : List SeenFork). take len l) (append-nil ys)
    ∙ take_all len ys (omega (arith, size, capacity)) ∙ done

pub returns-clause-forks : goal.returns-clause-forks
returns-clause-forks c =
    let over : length c.args.hands.items ≤ c.loop-hand.hand-index = omega (arith, c.loop-hand-test.false, ap length c.deref_mut-hand-items.ensures.value) in
    all_served (after_meal c.args.site c.args.k c.args.act) c.args.hands.items c.loop-hand.hand-items c.loop-hand.hand-index c.args.hands.len c.loop-hand.invariant over
    (omega (arith, c.loop-hand.auto.hand-items, ap length c.deref_mut-hand-items.ensures.value)) (omega (arith, c.args.hands.ok.0))

pub invariant_of-result : goal.invariant_of-result
invariant_of-result c =
    let f = after_meal c.args.site c.args.k c.args.act in
    let xs = c.args.hands.items in
    let over : length xs ≤ c.loop-hand.hand-index = omega (arith, c.loop-hand-test.false, ap length c.deref_mut-hand-items.ensures.value) in
    let whole = all_served f xs c.loop-hand.hand-items c.loop-hand.hand-index c.args.hands.len c.loop-hand.invariant over
    (omega (arith, c.loop-hand.auto.hand-items, ap length c.deref_mut-hand-items.ensures.value)) (omega (arith, c.args.hands.ok.0)) in
    record {
      few = c.requires.countable;
      dirty = subst (All IsDirty) (sym whole) (All-map IsDirty f xs (λ i past within. is_dirty-push_meal (get_or xs i past).log c.args.site c.args.k));
    }

pub returns-clause-site : goal.returns-clause-site
returns-clause-site c = search (rules, c.well_formed, c.ranges)

pub returns-clause-k : goal.returns-clause-k
returns-clause-k c = search (rules, c.well_formed, c.ranges)
