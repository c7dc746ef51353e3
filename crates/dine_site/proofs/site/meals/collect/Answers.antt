use Rattle.std.proofs.Common.{◌<◌, ◌++◌, ℕ, List, length, take, get_or, option_to_list, sym, ◌∙◌, ap, arith}
use Rattle.std.proofs.lemmas.List.{length-take-le}
use Rattle.dine_token.specs.Fork.{SeenFork}
use Rattle.dine_site.specs.declared.site.places.Place.{Place}
use Rattle.dine_site.specs.Places.{fork_in_hand, forks_of, tokens_of}
use Rattle.dine_site.proofs.shared.lists.Lists.{forks_of-few, tokens_of-few, forks_of-more, tokens_of-more, same_at, same_behind}
use Rattle.dine_site.proofs.site.meals.collect.Goals as goal

pub empty-requires-clause-room_for_forks : goal.empty-requires-clause-room_for_forks
empty-requires-clause-room_for_forks c =
    let xs = c.args.places.now in
    let i = c.loop-place.place-index in
    let within : i < length xs = omega arith in
    omega (arith, within, ap length c.loop-place.invariant.1, forks_of-few (take i xs), length-take-le i xs (omega arith), c.loop-place.parts.forks.ok.0, c.loop-place.invariant.3, c.requires.room_for_forks)

pub empty-requires-clause-room_for_tokens : goal.empty-requires-clause-room_for_tokens
empty-requires-clause-room_for_tokens c =
    let xs = c.args.places.now in
    let i = c.loop-place.place-index in
    let within : i < length xs = omega arith in
    omega (arith, within, ap length c.loop-place.invariant.2, tokens_of-few (take i xs), length-take-le i xs (omega arith), c.loop-place.parts.tokens.ok.0, c.loop-place.invariant.4, c.requires.room_for_tokens)

pub loop-place-preserved : goal.loop-place-preserved
loop-place-preserved c =
    let xs = c.args.places.now in
    let ys = c.loop-place.places in
    let i = c.loop-place.place-index in
    let d = c.place-item.result in
    let within : i < length xs = omega arith in
    let same = same_at xs ys i d c.loop-place.invariant.0 in (
      same_behind xs ys i c.empty.new.self c.loop-place.invariant.0,
      c.empty.ensures.forks ∙ ap (λ (l : List SeenFork). l ++ fork_in_hand (get_or ys i d).fork) c.loop-place.invariant.1
          ∙ ap (λ (p : Place). forks_of (take i xs) ++ fork_in_hand p.fork) same ∙ sym (forks_of-more xs i d within),
      c.empty.ensures.tokens ∙ ap (λ (l : List ℕ). l ++ option_to_list (get_or ys i d).token) c.loop-place.invariant.2
          ∙ ap (λ (p : Place). tokens_of (take i xs) ++ option_to_list p.token) same ∙ sym (tokens_of-more xs i d within),
      c.empty.ensures.fork_room ∙ c.loop-place.invariant.3,
      c.empty.ensures.token_room ∙ c.loop-place.invariant.4,
    )
