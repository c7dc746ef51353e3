-- What `run` asks of the diners that it is given, and what it gathers where it answers Ok.
use Rattle.std.specs.Prelude.{◌≡◌, ℕ, ◌≤◌, List, map, slice_get, vec_len, Some}
use Rattle.std.specs.Global.{Vec}
use Rattle.dine_token.specs.Fork.{SeenFork}
use Rattle.dine_graph.specs.Plan.{SeenPlan, job_count, site_count}
use Rattle.dine_rules.specs.declared.events.EventKind.{EventKind}
use Rattle.dine_link.specs.Links.{SeenLink}
use Rattle.dine_site_thread.specs.declared.manner.Manner.{Manner}
use Rattle.dine_site_thread.specs.declared.diner.Diner as diners
use Rattle.dine_threads.specs.declared.gathered.Gathered.{Gathered}
use Rattle.dine_threads.specs.declared.gathered.SiteOut.{SiteOut}
use Rattle.dine_threads.specs.Gathered.{AreFinishedOuts, AreOutsOf}
use Rattle.dine_threads.specs.Headline.{AreTokensOf, IsHeadline}
use Rattle.dine_threads.specs.Journals.{HaveActed, HaveOrder}

-- if there are as many diners as sites, each diner has capacity for the calls of all jobs of its site
abbrev pub HaveRoom : {D : Type 0} → diners.Ghosts D → SeenPlan → Vec D → Type 0
HaveRoom {D} eater plan given = vec_len given ≡ site_count plan → (s : ℕ) (one : D) → slice_get given.items s ≡ Some one
    → job_count plan s ≤ eater.room_left one

-- if there are as many diners as sites, each diner expects to eat in this plan, at the site of its number
abbrev pub HaveSites : {D : Type 0} → diners.Ghosts D → SeenPlan → Vec D → Type 0
HaveSites {D} eater plan given = vec_len given ≡ site_count plan → (s : ℕ) (one : D) → slice_get given.items s ≡ Some one
    → eater.expects one plan s

-- The links, the forks and the journals are those of one whole run of the plan, in which each site ate this number of
-- meals. The headline holds of the links and the forks. Each site did the events of its journal, each in its turn for a
-- site of this manner, with the letters of these links. The journals can be merged into one list.
pub record IsWholeRun (manner : Manner) (plan : SeenPlan) (ates : List ℕ) (links : List SeenLink) (forks : List SeenFork) (journals : List (List EventKind)) : Type 0 where
  pub headline : IsHeadline plan ates links forks
  pub acted : HaveActed plan ates links manner journals
  pub ordered : HaveOrder plan journals

-- What `run` returns as Ok, for a plan and the diners that were given. There was a diner for each site, and no site has
-- a job left or a fault. `IsWholeRun` holds of the links, the forks and the journals. The other lines are about the
-- tokens, and the sites with their diners.
pub record IsRun {D : Type 0} (eater : diners.Ghosts D) (manner : Manner) (plan : SeenPlan) (given : Vec D) (gathered : Gathered D) : Type 0 where
  pub many : vec_len given ≡ site_count plan
  pub finished : AreFinishedOuts plan gathered.sites.items
  pub whole : IsWholeRun manner plan (map (λ (out : SiteOut D). out.ate) gathered.sites.items) gathered.links.items
      gathered.forks.items (map (λ (out : SiteOut D). out.journal.items) gathered.sites.items)
  pub tokens : AreTokensOf plan gathered.links.items gathered.sites.items
  pub sites : AreOutsOf eater manner plan given.items gathered.sites.items
