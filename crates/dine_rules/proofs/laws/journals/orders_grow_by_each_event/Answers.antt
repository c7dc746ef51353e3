use Rattle.std.proofs.Common.{append-nil, refl, ◌∙◌}
use Rattle.dine_rules.specs.Journals.{part_of}
use Rattle.dine_rules.specs.World.{start}
use Rattle.dine_rules.proofs.shared.counting.Listed.{place_of_step}
use Rattle.dine_rules.proofs.journals.Parts.{part-then_other, part-then_same}
use Rattle.dine_rules.proofs.shared.links.WorldStreams.{event_is_step, events_then, reached_kept}
use Rattle.dine_rules.proofs.laws.journals.orders_grow_by_each_event.Goals as goal

pub returns : goal.returns
returns c = record {
  accepted = λ plan events world new e. events_then plan (start plan) world new events e;
  is_site = λ plan world new e happens. (event_is_step plan world e new happens).is_site;
  is_place = λ plan events world new e is_plan reached happens.
      let one = event_is_step plan world e new happens in
      place_of_step plan world e.site ((reached_kept plan events world is_plan reached).keeps e.site one.is_site).every_place e.kind one.step one.step_is one.needs;
  own = λ events e. part-then_same e.site e events refl;
  others = λ events e s differs. part-then_other s e events differs ∙ append-nil (part_of s events);
}
