-- What the choices of a run on threads lead to.
use Rattle.std.specs.Prelude.{◌≡◌, ℕ, List, length, map}
use Rattle.std.specs.Global.{Vec}
use Rattle.dine_graph.specs.Plan.{SeenPlan}
use Rattle.dine_rules.specs.declared.events.Event.{Event}
use Rattle.dine_rules.specs.Journals.{IsWholeOrder}
use Rattle.dine_rules.specs.Schedules.{from_here, replay}
use Rattle.dine_rules.specs.World.{start}
use Rattle.dine_world.specs.Worlds.{forks_seen}
use Rattle.dine_site_thread.specs.declared.manner.Manner.TheVariants.{Eager}
use Rattle.dine_threads.specs.declared.gathered.Gathered.{Gathered}
use Rattle.dine_threads.specs.declared.gathered.SiteOut.{SiteOut}
use Rattle.dine_threads.specs.Runs.{IsRun}
use Rattle.dine.specs.PlanDiners.{SeenPlanDiner, plan_diner}
use Rattle.dine.specs.Run.{diners_of}

-- The choices are those of a run of the diners of the plan. Some order of its journals is accepted by a world of the
-- plan. The choices lead to the world at the end of that order, by as many events as the order has, and the forks there
-- are those that the run gathered.
pub record AreOfRun (plan : SeenPlan) (choices : List ℕ) : Type 0 where
  pub diners : Vec SeenPlanDiner
  pub of_plan : diners.items ≡ diners_of plan
  pub gathered : Gathered SeenPlanDiner
  pub run : IsRun plan_diner Eager plan diners gathered
  pub events : List Event
  pub order : IsWholeOrder plan (map (λ (out : SiteOut SeenPlanDiner). out.journal.items) gathered.sites.items) events
  pub led : replay plan (from_here (start plan)) choices ≡ record { world = order.world; events = length events }
  pub forks : gathered.forks.items ≡ forks_seen plan order.world
