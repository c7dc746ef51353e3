-- What the calls of a builder do with its draft, and why they refuse.
use Rattle.std.specs.Prelude.{◌≡◌, ◌≢◌, ◌⊎◌, ◌==◌, ◌&&◌, ◌||◌, ℕ, ℤ, Bool, not, nat_le, nat_lt, pos, List, map, length, Option, Some, None, if◌then◌else◌}
use Rattle.std.specs.List.{list_any}
use Rattle.std.specs.Str.{IsUtf8, bytes_eq}
use Rattle.dine_token.specs.declared.act.Act.{Act}
use Rattle.dine_token.specs.declared.act.Act.TheVariants as act
use Rattle.dine_graph.specs.declared.limits.TheConstants.{MAX_EDGES, MAX_SITES, MAX_TEXT_JOBS}
use Rattle.dine_graph.specs.Plan.{is_name}
use Rattle.dine_draft.specs.declared.drafts.DraftEdge.{DraftEdge}
use Rattle.dine_draft.specs.declared.plan_fault.PlanFault.{PlanFault}
use Rattle.dine_draft.specs.declared.plan_fault.PlanFault.TheVariants as fault
use Rattle.dine_builder.specs.Draft.{Draft, SeenDraftSite, with_edge, with_site}
use Rattle.dine_builder.specs.DraftPlan.{first_fault_of}
use Rattle.dine_ffi.specs.Answers.{IsDoneOr, done, memory, no_such}
use Rattle.dine_ffi.specs.Refusals.{plan_status}

-- the names of the draft's sites, in order
abbrev pub names_in : Draft → List (List ℕ)
names_in d = map (λ (site : SeenDraftSite). site.name) d.sites

-- the ends of the draft's edges, in order, as they were given
abbrev pub ends_in : Draft → List (ℕ × ℕ)
ends_in d = map (λ (edge : DraftEdge). (edge.a, edge.b)) d.edges

-- the two ends are a and b, in either order
abbrev pub are_ends : ℕ → ℕ → ℕ × ℕ → Bool
are_ends a b ends = ((ends.0 == a) && (ends.1 == b)) || ((ends.0 == b) && (ends.1 == a))

-- Why a site of this name with n jobs is not added: the name is no name; a site has it; there are 64 sites; or it has
-- more than 1,000 jobs. The first of these is the cause, at the number that the site would have.
abbrev pub refusal_of_site : List ℕ → ℕ → Draft → Option PlanFault
refusal_of_site name n d =
    if not (is_name name) then Some (fault.BadName (length d.sites)) else
    if list_any (bytes_eq name) (names_in d) then Some (fault.SiteTwice (length d.sites)) else
    if nat_le MAX_SITES (length d.sites) then Some fault.TooManySites else
    if nat_lt MAX_TEXT_JOBS n then Some (fault.TooManyJobs (length d.sites)) else None

-- Why an edge between sites a and b is not added: one of them is not there; both are one; they have an edge; or there
-- are 512 edges. The first of these is the cause, at the number that the edge would have.
abbrev pub refusal_of_edge : ℕ → ℕ → Draft → Option PlanFault
refusal_of_edge a b d =
    if nat_le (length d.sites) a || nat_le (length d.sites) b then Some (fault.UnknownEnd (length d.edges)) else
    if a == b then Some (fault.Loop (length d.edges)) else
    if list_any (are_ends a b) (ends_in d) then Some (fault.EdgeTwice (length d.edges)) else
    if nat_le MAX_EDGES (length d.edges) then Some fault.TooManyEdges else None

-- The site is refused for this cause. A name that is no UTF-8 is no name.
abbrev pub IsSiteRefusedFor : List ℕ → ℕ → Draft → PlanFault → Type 0
IsSiteRefusedFor name n d cause = ((IsUtf8 name → ⊥) × (cause ≡ fault.BadName (length d.sites))) ⊎ (refusal_of_site name n d ≡ Some cause)

-- A call adds a site of this name with n jobs, which nothing refuses, and returns its number. Or the draft stays as it
-- is: the call returns why the site is refused, or that an allocation failed.
abbrev pub AddsSiteOrRefuses : List ℕ → ℕ → ℤ → Draft → Draft → Type 0
AddsSiteOrRefuses name n result old new = IsDoneOr result
    ((refusal_of_site name n old ≡ None) × (result ≡ pos (length old.sites)) × (new ≡ with_site name n old))
    ((new ≡ old) × ((result ≡ memory) ⊎ ((cause : PlanFault) × IsSiteRefusedFor name n old cause × (result ≡ plan_status cause))))

-- A call adds an edge between sites a and b, which nothing refuses, and returns its number. Or the draft stays as it
-- is: the call returns why the edge is refused, or that an allocation failed.
abbrev pub AddsEdgeOrRefuses : ℕ → ℕ → ℤ → Draft → Draft → Type 0
AddsEdgeOrRefuses a b result old new = IsDoneOr result
    ((refusal_of_edge a b old ≡ None) × (result ≡ pos (length old.edges)) × (new ≡ with_edge a b old))
    ((new ≡ old) × ((result ≡ memory) ⊎ ((cause : PlanFault) × (refusal_of_edge a b old ≡ Some cause) × (result ≡ plan_status cause))))

-- A call makes another draft of the one that there is, and returns 0. It does so if what it sets is no more than a plan
-- may have, and if what it changes is there. Else the draft stays as it is, and the call returns that there is no such
-- thing, or this cause if what it sets is too large.
abbrev pub ChangesOrRefuses : Bool → PlanFault → Bool → Draft → ℤ → Draft → Draft → Type 0
ChangesOrRefuses fits cause there changed result old new =
    (result ≡ (if fits then (if there then done else no_such) else plan_status cause)) × (new ≡ (if fits && there then changed else old))

-- what a meal does to values: it sets them to the amount, or adds the amount
abbrev pub act_of : Bool → ℕ → Act
act_of sets amount = if sets then act.Set amount else act.Add amount

-- The draft is no plan for this cause, which is its first one; or an allocation failed.
abbrev pub IsNoPlan : Draft → ℤ → Type 0
IsNoPlan d result = (cause : PlanFault) × (cause ≢ fault.Memory → first_fault_of d ≡ Some cause) × (result ≡ plan_status cause)
