-- What a step of a run does with the state of a site: nothing, or one step of the site.
use Rattle.std.proofs.Common.{◌≡◌, ◌⊎◌, ℕ, zero, suc, ◌≤◌, true, List, ◌++◌, get_or, Some, refl, sym, ◌∙◌, ap, subst, inl, inr, arith, append_assoc}
use Rattle.std.proofs.lemmas.Bool.{false≢true}
use Rattle.dine_graph.specs.Plan.{SeenPlan}
use Rattle.dine_rules.specs.declared.events.EventKind.{EventKind}
use Rattle.dine_rules.specs.declared.events.EventKind.TheVariants as event
use Rattle.dine_rules.specs.declared.letters.Letter.{Letter}
use Rattle.dine_rules.specs.Letters.{forks_in}
use Rattle.dine_rules.specs.declared.phase.Phase.{Phase}
use Rattle.dine_rules.specs.declared.phase.Phase.TheVariants as phase
use Rattle.dine_rules.specs.Local.{LocalState, is_eating, is_hungry, traffic_at}
use Rattle.dine_rules.specs.Steps.{Step, Begin, End, Hungry, after, may}
use Rattle.dine_rules.specs.World.{WorldState, no_state, state_of, world_after}
use Rattle.dine_rules.proofs.shared.counting.Persistence.{IsLonger, longer_same, set_cases, step_puts}
use Rattle.dine_rules.proofs.shared.lists.Counting.{forks_in-append}
use Rattle.dine_rules.proofs.shared.links.WorldStreams.{event_is_step}
use Rattle.dine_waking.specs.Manners.{meals_so_far}
use Rattle.dine_waking.specs.Runs.{ByActing, ByDoorbell, ByHearing, ByRinging, BySleeping, ByTaking, ByWaking, LeadsBySteps, Run, ThreadStep}
use Rattle.dine_waking.proofs.AskedPlaces.{begins_or_not, step_takes}

-- the site's state stays, or the site does one step
abbrev pub SiteMoves : SeenPlan → ℕ → LocalState → LocalState → Type 0
SiteMoves plan s old new = (new ≡ old) ⊎ ((step : Step) × (may plan s old step ≡ true) × (new ≡ after plan s old step))

event_moves : (plan : SeenPlan) (world new : WorldState) (x : ℕ) (kind : EventKind) → world_after plan world (record { site = x; kind = kind }) ≡ Some new → (s : ℕ) → SiteMoves plan s (state_of world s) (state_of new s)
event_moves plan world new x kind h s =
    let w = event_is_step plan world (record { site = x; kind = kind }) new h in
    let is : state_of new s ≡ get_or _ s no_state = ap (λ (world : WorldState). state_of world s) w.changes in
    elim (set_cases world x s (after plan x (state_of world x) w.step) no_state) [
      | inl same ↦ inl (is ∙ same)
      | inr v ↦ inr (
        w.step,
        subst (λ (y : ℕ). may plan y (state_of world y) w.step ≡ true) (sym v.0) w.needs,
        is ∙ v.1 ∙ ap (λ (y : ℕ). after plan y (state_of world y) w.step) (sym v.0),
      )
    ]

pub site_moves : (plan : SeenPlan) (x : ℕ) (old new : Run) → ThreadStep plan x old new → (s : ℕ) → SiteMoves plan s (state_of old.world s) (state_of new.world s)
site_moves plan x old new (ByActing a) s = event_moves plan old.world new.world x a.kind a.world s
site_moves plan x old new (ByRinging r) s = inl (ap (λ (world : WorldState). state_of world s) r.world)
site_moves plan x old new (ByWaking h) s = inl (ap (λ (world : WorldState). state_of world s) h.world)
site_moves plan x old new (ByHearing h) s = inl (ap (λ (world : WorldState). state_of world s) h.world)
site_moves plan x old new (ByTaking t) s = event_moves plan old.world new.world x (event.Take t.i) t.world s
site_moves plan x old new (BySleeping f) s = inl (ap (λ (world : WorldState). state_of world s) f.world)
site_moves plan x old new (ByDoorbell d) s = inl (ap (λ (world : WorldState). state_of world s) d.world)

-- ---- letters are only put behind those put

longer_then : (first between last : List Letter) → IsLonger first between → IsLonger between last → IsLonger first last
longer_then first between last one two = record {
  more = one.more ++ two.more;
  is = two.is ∙ ap (λ (letters : List Letter). letters ++ two.more) one.is ∙ append_assoc first one.more two.more;
}

moves_put : (plan : SeenPlan) (s j : ℕ) (old new : LocalState) → SiteMoves plan s old new → IsLonger (traffic_at old j).put (traffic_at new j).put
moves_put plan s j old new (inl same) = subst (λ (x : LocalState). IsLonger (traffic_at old j).put (traffic_at x j).put) (sym same) (longer_same (traffic_at old j).put)
moves_put plan s j old new (inr w) = subst (λ (x : LocalState). IsLonger (traffic_at old j).put (traffic_at x j).put) (sym w.2) (step_puts plan s old w.0 j)

pub step_put : (plan : SeenPlan) (x : ℕ) (old new : Run) → ThreadStep plan x old new → (s j : ℕ) → IsLonger (traffic_at (state_of old.world s) j).put (traffic_at (state_of new.world s) j).put
step_put plan x old new step s j = moves_put plan s j (state_of old.world s) (state_of new.world s) (site_moves plan x old new step s)

pub steps_put : (plan : SeenPlan) (n : ℕ) (old new : Run) → LeadsBySteps plan n old new → (s j : ℕ) → IsLonger (traffic_at (state_of old.world s) j).put (traffic_at (state_of new.world s) j).put
steps_put plan zero old new same s j = subst (λ (run : Run). IsLonger (traffic_at (state_of old.world s) j).put (traffic_at (state_of run.world s) j).put) same (longer_same (traffic_at (state_of old.world s) j).put)
steps_put plan (suc n) old new w s j = longer_then (traffic_at (state_of old.world s) j).put (traffic_at (state_of w.0.world s) j).put (traffic_at (state_of new.world s) j).put
    (step_put plan w.1.site old w.0 w.1.step s j) (steps_put plan n w.0 new w.2 s j)

-- no fewer forks are given
pub longer_forks : (old new : List Letter) → IsLonger old new → forks_in old ≤ forks_in new
longer_forks old new longer = omega (arith, ap forks_in longer.is, forks_in-append old longer.more)

-- ---- and letters are only taken behind those taken

moves_taken : (plan : SeenPlan) (s j : ℕ) (old new : LocalState) → SiteMoves plan s old new → IsLonger (traffic_at old j).taken (traffic_at new j).taken
moves_taken plan s j old new (inl same) = subst (λ (x : LocalState). IsLonger (traffic_at old j).taken (traffic_at x j).taken) (sym same) (longer_same (traffic_at old j).taken)
moves_taken plan s j old new (inr w) = subst (λ (x : LocalState). IsLonger (traffic_at old j).taken (traffic_at x j).taken) (sym w.2) (step_takes plan s old w.0 j)

pub step_taken : (plan : SeenPlan) (x : ℕ) (old new : Run) → ThreadStep plan x old new → (s j : ℕ) → IsLonger (traffic_at (state_of old.world s) j).taken (traffic_at (state_of new.world s) j).taken
step_taken plan x old new step s j = moves_taken plan s j (state_of old.world s) (state_of new.world s) (site_moves plan x old new step s)

-- ---- meals

-- the site begins a meal, or it has begun no meal more
pub moves_begin : (plan : SeenPlan) (s : ℕ) (old new : LocalState) → SiteMoves plan s old new → ((may plan s old Begin ≡ true) × (new ≡ after plan s old Begin)) ⊎ (new.ate ≡ old.ate)
moves_begin plan s old new (inl same) = inr (ap (λ (x : LocalState). x.ate) same)
moves_begin plan s old new (inr w) = elim (begins_or_not plan s old w.0) [
  | inl begins ↦ inl (ap (may plan s old) (sym begins) ∙ w.1, w.2 ∙ ap (after plan s old) begins)
  | inr none ↦ inr (ap (λ (x : LocalState). x.ate) w.2 ∙ none)
]

moves_eat : (plan : SeenPlan) (s : ℕ) (old new : LocalState) → SiteMoves plan s old new → old.ate ≤ new.ate
moves_eat plan s old new moves = elim (moves_begin plan s old new moves) [
  | inl w ↦ omega (arith, ap (λ (x : LocalState). x.ate) w.1)
  | inr same ↦ omega arith
]

pub step_eats : (plan : SeenPlan) (x : ℕ) (old new : Run) → ThreadStep plan x old new → (s : ℕ) → meals_so_far old s ≤ meals_so_far new s
step_eats plan x old new step s = moves_eat plan s (state_of old.world s) (state_of new.world s) (site_moves plan x old new step s)

pub steps_eat : (plan : SeenPlan) (n : ℕ) (old new : Run) → LeadsBySteps plan n old new → (s : ℕ) → meals_so_far old s ≤ meals_so_far new s
steps_eat plan zero old new same s = omega (arith, ap (λ (run : Run). meals_so_far run s) same)
steps_eat plan (suc n) old new w s = omega (arith, step_eats plan w.1.site old w.0 w.1.step s, steps_eat plan n w.0 new w.2 s)

-- ---- a hungry site stays hungry until it begins a meal

not_eating : (p : Phase) → is_hungry p ≡ true → is_eating p ≡ true → ⊥
not_eating phase.Thinking hungry eating = false≢true hungry
not_eating phase.Hungry hungry eating = false≢true eating
not_eating phase.Eating hungry eating = false≢true hungry

step_hungers : (plan : SeenPlan) (s : ℕ) (state : LocalState) (step : Step) → is_hungry state.phase ≡ true → may plan s state step ≡ true → (after plan s state step).ate ≡ state.ate → is_hungry (after plan s state step).phase ≡ true
step_hungers plan s state Begin hungry needs ate = absurd (omega arith)
step_hungers plan s state (End failed) hungry needs ate = absurd (not_eating state.phase hungry needs)
step_hungers plan s state Hungry hungry needs ate = refl
step_hungers plan s state step hungry needs ate = hungry

pub moves_hunger : (plan : SeenPlan) (s : ℕ) (old new : LocalState) → SiteMoves plan s old new → is_hungry old.phase ≡ true → new.ate ≡ old.ate → is_hungry new.phase ≡ true
moves_hunger plan s old new (inl same) hungry ate = ap (λ (x : LocalState). is_hungry x.phase) same ∙ hungry
moves_hunger plan s old new (inr w) hungry ate = ap (λ (x : LocalState). is_hungry x.phase) w.2 ∙ step_hungers plan s old w.0 hungry w.1 (sym (ap (λ (x : LocalState). x.ate) w.2) ∙ ate)

pub steps_hunger : (plan : SeenPlan) (n : ℕ) (old new : Run) → LeadsBySteps plan n old new → (s : ℕ) → is_hungry (state_of old.world s).phase ≡ true → meals_so_far new s ≡ meals_so_far old s → is_hungry (state_of new.world s).phase ≡ true
steps_hunger plan zero old new same s hungry ate = ap (λ (run : Run). is_hungry (state_of run.world s).phase) (sym same) ∙ hungry
steps_hunger plan (suc n) old new w s hungry ate =
    let ate_next : meals_so_far w.0 s ≡ meals_so_far old s = omega (arith, step_eats plan w.1.site old w.0 w.1.step s, steps_eat plan n w.0 new w.2 s) in
    steps_hunger plan n w.0 new w.2 s (moves_hunger plan s (state_of old.world s) (state_of w.0.world s) (site_moves plan w.1.site old w.0 w.1.step s) hungry ate_next) (ate ∙ sym ate_next)
