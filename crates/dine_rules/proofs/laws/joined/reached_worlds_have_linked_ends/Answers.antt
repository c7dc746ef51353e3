use Rattle.std.proofs.Common.{refl}
use Rattle.dine_rules.proofs.shared.two_ends.TwoEnds.{world_linked, world_taken}
use Rattle.dine_rules.proofs.shared.links.WorldStreams.{reached_kept}
use Rattle.dine_rules.proofs.laws.joined.reached_worlds_have_linked_ends.Goals as goal

pub returns : goal.returns
returns c = record {
  linked = λ plan events world s i is_plan reached is_site within. world_linked plan is_plan world (reached_kept plan events world is_plan reached) s i is_site within;
  next = λ plan world s i. refl;
  joined = λ plan events world s i is_plan reached is_site within. world_taken plan is_plan world (reached_kept plan events world is_plan reached) s i is_site within;
}
