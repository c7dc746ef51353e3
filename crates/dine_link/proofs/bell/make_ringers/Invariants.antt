use Rattle.std.proofs.Common.{◌≡◌, ◌≤◌, [], map, vec_len, vec_capacity}
use Rattle.std.specs.List.{range_with_len}
use Rattle.crossbeam_channel.specs.Claims.{view, IsSeatAt}
use Rattle.crossbeam_channel.specs.Ends.{sends_on}
use Rattle.dine_link.specs.declared.bell_rule.Part.TheVariants.{Waits}
use Rattle.dine_link.specs.Bells.{new_ringer}
use Rattle.dine_link.proofs.bell.make_ringers.Given as goal

-- the ringers so far, with capacity for all
abbrev pub invariant-loop-number : goal.invariant-loop-number
invariant-loop-number l = record {
  seated : IsSeatAt (sends_on l.sender) l.pass;
  knows : view l.pass ≡ Waits l.number [];
  so_far : l.ringers.items ≡ map (new_ringer (sends_on l.sender)) (range_with_len 0 l.number);
  count : vec_len l.ringers ≡ l.number;
  room : l.degree ≤ vec_capacity l.ringers;
}
