-- What a handle holds, and what a call does with it.
use Rattle.std.specs.Prelude.{◌≡◌, ℤ, false, Option, Some, None, MatchOption}
use Rattle.dine_graph.specs.Plan.{SeenPlan}
use Rattle.dine_builder.specs.Draft.{Draft}
use Rattle.dine_rules.specs.declared.events.Event.{Event}
use Rattle.dine_rules.specs.World.{is_enabled}
use Rattle.dine_world.specs.Worlds.{ForEachWorld, SeenWorld, WorldSteps}
use Rattle.dine_ffi.specs.Answers.{IsOkOr, closed, not_now, other_kind}
use Rattle.dine_ffi.specs.OwnSites.{SeenOwnSite}
use Rattle.dine_ffi.specs.declared.contents.Contents.{Contents}
use Rattle.dine_ffi.specs.declared.contents.Object.{Object}
use Rattle.dine_ffi.specs.declared.contents.Object.TheVariants.{Plan, World, Site, Builder}

-- ---- the four kinds

-- the plan that is object, if it is a plan
abbrev pub kept_plan : Object → Option SeenPlan
kept_plan (Plan own) = Some own
kept_plan _ = None

-- the world that is object, if it is a world
abbrev pub kept_world : Object → Option SeenWorld
kept_world (World own) = Some own
kept_world _ = None

-- the site that is object, if it is a site
abbrev pub kept_site : Object → Option SeenOwnSite
kept_site (Site own) = Some own
kept_site _ = None

-- the draft of the builder that is object, if it is a builder
abbrev pub kept_builder : Object → Option Draft
kept_builder (Builder own) = Some own
kept_builder _ = None

-- what is returned of a plan: `P` of the plan, or that it is no plan
abbrev pub OfPlan : Object → ℤ → (SeenPlan → Type 0) → Type 0
OfPlan object result P = MatchOption (kept_plan object) (result ≡ other_kind) P

-- what is returned of a world: `P` of the world, or that it is no world
abbrev pub OfWorld : Object → ℤ → (SeenWorld → Type 0) → Type 0
OfWorld object result P = MatchOption (kept_world object) (result ≡ other_kind) P

-- what is returned of a site: `P` of the site, or that it is no site
abbrev pub OfSite : Object → ℤ → (SeenOwnSite → Type 0) → Type 0
OfSite object result P = MatchOption (kept_site object) (result ≡ other_kind) P

-- what is returned of a builder: `P` of its draft, or that it is no builder
abbrev pub OfBuilder : Object → ℤ → (Draft → Type 0) → Type 0
OfBuilder object result P = MatchOption (kept_builder object) (result ≡ other_kind) P

-- it is a plan, and P holds of the plan
abbrev pub OnPlan : (SeenPlan → Type 0) → Object → Type 0
OnPlan P object = MatchOption (kept_plan object) ⊥ P

-- it is a world, and P holds of the world
abbrev pub OnWorld : (SeenWorld → Type 0) → Object → Type 0
OnWorld P object = MatchOption (kept_world object) ⊥ P

-- it is a site, and P holds of the site
abbrev pub OnSite : (SeenOwnSite → Type 0) → Object → Type 0
OnSite P object = MatchOption (kept_site object) ⊥ P

-- it is a builder, and P holds of its draft
abbrev pub OnBuilder : (Draft → Type 0) → Object → Type 0
OnBuilder P object = MatchOption (kept_builder object) ⊥ P

-- ---- handles

-- what is returned of what a handle holds: that the handle is closed, or `P` of what it holds
abbrev pub OfHeld : Option Contents → ℤ → (Object → Type 0) → Type 0
OfHeld None result P = result ≡ closed
OfHeld (Some contents) result P = P contents.object

-- the handle holds a plan, and P holds of the plan
abbrev pub HoldsPlan : (SeenPlan → Type 0) → Option Contents → Type 0
HoldsPlan P held = MatchOption held ⊥ (λ contents. OnPlan P contents.object)

-- the handle holds a world, and P holds of the world
abbrev pub HoldsWorld : (SeenWorld → Type 0) → Option Contents → Type 0
HoldsWorld P held = MatchOption held ⊥ (λ contents. OnWorld P contents.object)

-- the handle holds a site, and P holds of the site
abbrev pub HoldsSite : (SeenOwnSite → Type 0) → Option Contents → Type 0
HoldsSite P held = MatchOption held ⊥ (λ contents. OnSite P contents.object)

-- the handle holds a builder, and P holds of its draft
abbrev pub HoldsBuilder : (Draft → Type 0) → Option Contents → Type 0
HoldsBuilder P held = MatchOption held ⊥ (λ contents. OnBuilder P contents.object)

-- ---- calls

-- A call for an event does it, and returns 0. Or it returns that the rules do not allow it now, and nothing changes;
-- then the event is not enabled.
abbrev pub StepsWorldOrRefuses : Event → ℤ → SeenWorld → SeenWorld → Type 0
StepsWorldOrRefuses event result old new = IsOkOr result (WorldSteps event old new)
    ((result ≡ not_now) × (new ≡ old) × ForEachWorld old (λ plan world. is_enabled plan world event ≡ false))

-- A call on what is object is as P says of its result and of what is of the kind, before and after. What is of another
-- kind stays as it was, and that is returned.
abbrev pub OnKind : {X : Type 0} → (Object → Option X) → (ℤ → X → X → Type 0) → ℤ → Object → Object → Type 0
OnKind kind P result old new = MatchOption (kind old) ((result ≡ other_kind) × (new ≡ old)) (λ own. MatchOption (kind new) ⊥ (P result own))

-- The same of a handle that has to hold one of the kind. A closed handle stays closed, and that is returned.
abbrev pub KindCall : {X : Type 0} → (Object → Option X) → (ℤ → X → X → Type 0) → ℤ → Option Contents → Option Contents → Type 0
KindCall kind P result None new = (result ≡ closed) × (new ≡ None)
KindCall kind P result (Some contents) None = ⊥
KindCall kind P result (Some contents) (Some new) = OnKind kind P result contents.object new.object

-- a call on a handle that has to hold a world is as P says of its result and of the world before and after
abbrev pub WorldCall : (ℤ → SeenWorld → SeenWorld → Type 0) → ℤ → Option Contents → Option Contents → Type 0
WorldCall P result old new = KindCall kept_world P result old new

-- a call on a handle that has to hold a site is as P says of its result and of the site before and after
abbrev pub SiteCall : (ℤ → SeenOwnSite → SeenOwnSite → Type 0) → ℤ → Option Contents → Option Contents → Type 0
SiteCall P result old new = KindCall kept_site P result old new

-- a call on a handle that has to hold a builder is as P says of its result and of its draft before and after
abbrev pub BuilderCall : (ℤ → Draft → Draft → Type 0) → ℤ → Option Contents → Option Contents → Type 0
BuilderCall P result old new = KindCall kept_builder P result old new
