use Rattle.std.proofs.Common.{◌≡◌, ◌≤◌, List, [], All, length, vec_capacity}
use Rattle.dine_rules.specs.declared.letters.Letter.{Letter}
use Rattle.dine_world.proofs.world.opening.links_of.Given as goal

-- the links so far are empty, and there is room for all
abbrev pub invariant-loop : goal.invariant-loop
invariant-loop l = record {
  count : length l.links.items ≡ l.counter;
  empty : All (λ (letters : List Letter). letters ≡ []) l.links.items;
  room : l.count ≤ vec_capacity l.links;
}
