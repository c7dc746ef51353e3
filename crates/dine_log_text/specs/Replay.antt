-- What the command `replay` writes.
use Rattle.std.specs.Prelude.{ℕ, List}
use Rattle.dine_graph.specs.Plan.{SeenPlan}
use Rattle.dine_world.specs.Schedules.{whole_run}
use Rattle.dine_log_text.specs.Logs.{world_text}

-- the text of the plan's world after the choices were done one after the other, and then the first enabled event again
-- and again, until none was enabled
abbrev pub replay_text : List ℕ → SeenPlan → List ℕ
replay_text choices plan = world_text plan plan (whole_run plan choices).world (whole_run plan choices).events
