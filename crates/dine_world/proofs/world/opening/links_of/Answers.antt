use Rattle.std.proofs.Common.{◌≡◌, [], List, length, sym, ap, subst, arith}
use Rattle.std.proofs.lemmas.List.{length-append}
use Rattle.std.proofs.lemmas.List.Elements.{All-push}
use Rattle.std.specs.List.{All}
use Rattle.dine_rules.specs.declared.letters.Letter.{Letter}
use Rattle.dine_world.proofs.world.opening.links_of.Goals as goal

abbrev IsEmpty : List Letter → Type 0
IsEmpty letters = letters ≡ []

pub loop-init : goal.loop-init
loop-init c = record {
  count = ap length c.in_ok-links.ensures.items;
  empty = λ k d within. absurd (omega (arith, within, ap length c.in_ok-links.ensures.items));
  room = omega (arith, c.in_ok-links.ensures.capacity);
}

pub push_reserved-requires : goal.push_reserved-requires
push_reserved-requires c = omega (arith, c.loop.invariant.count, c.loop.invariant.room, c.loop-test.true)

pub loop-preserved : goal.loop-preserved
loop-preserved c = record {
  count = omega (arith, ap length c.push_reserved.ensures.items, length-append {A = List Letter}, c.loop.invariant.count);
  empty = subst (All IsEmpty) (sym c.push_reserved.ensures.items) (All-push IsEmpty c.loop.links.items c.in_ok-open.field-0 c.loop.invariant.empty c.in_ok-open.ensures);
  room = omega (arith, c.push_reserved.ensures.capacity, c.loop.invariant.room);
}

pub returns-clause-empty : goal.returns-clause-empty
returns-clause-empty c = c.loop.invariant.empty
