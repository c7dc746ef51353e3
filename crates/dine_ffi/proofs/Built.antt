-- What a builder keeps beside its draft, after a change; and what its calls return.
use Rattle.std.proofs.Common.{◌≡◌, ℕ, zero, suc, ℤ, pos, negsuc, Bool, true, false, cond, List, [], ◌∷◌, map, length, refl, sym, ap, ◌∙◌, inr, slice_index_or, slice_set}
use Rattle.std.proofs.lemmas.List.{length-map}
use Rattle.dine_token.specs.declared.act.Act.{Act}
use Rattle.dine_draft.specs.declared.drafts.DraftEdge.{DraftEdge}
use Rattle.dine_draft.specs.declared.plan_fault.PlanFault.{PlanFault}
use Rattle.dine_draft.specs.declared.plan_fault.PlanFault.TheVariants.{Memory}
use Rattle.dine_builder.specs.declared.drafts.DraftJob.{DraftJob}
use Rattle.dine_builder.specs.Draft.{Draft, SeenDraftSite, has_job, no_draft_edge, no_draft_site, with_act, with_failure, with_job, with_resigning, with_turns, with_value}
use Rattle.dine_ffi.specs.Answers.{IsDoneOr, IsRefused, memory}
use Rattle.dine_ffi.specs.Builders.{AddsSiteOrRefuses, IsNoPlan, IsSiteRefusedFor, ends_in, names_in}
use Rattle.dine_ffi.specs.Refusals.{plan_status}
use Rattle.dine_ffi.specs.declared.own_builder.OwnBuilder.TheInside.{Inside}
use Rattle.dine_ffi.specs.private.OwnBuilderFields.{HasNamesAndEnds}

-- ---- the names and the ends

-- an element is replaced by one of which the same is seen
map_unchanged : {X Y : Type 0} (f : X → Y) (xs : List X) (i : ℕ) (y d : X) → f y ≡ f (slice_index_or xs i d) → map f (slice_set xs i y) ≡ map f xs
map_unchanged f [] i y d h = refl
map_unchanged {X} {Y} f (x ∷ xs) zero y d h = ap (λ (z : Y). z ∷ map f xs) h
map_unchanged {X} {Y} f (x ∷ xs) (suc i) y d h = ap (λ (zs : List Y). f x ∷ zs) (map_unchanged f xs i y d h)

pub ends_after_value : (e value : ℕ) (d : Draft) → ends_in (with_value e value d) ≡ ends_in d
ends_after_value e value d = map_unchanged (λ (edge : DraftEdge). (edge.a, edge.b)) d.edges e (record (slice_index_or d.edges e no_draft_edge) { value = value }) no_draft_edge refl

pub names_after_resigning : (s : ℕ) (d : Draft) → names_in (with_resigning s d) ≡ names_in d
names_after_resigning s d = map_unchanged (λ (site : SeenDraftSite). site.name) d.sites s (record (slice_index_or d.sites s no_draft_site) { resigns = true }) no_draft_site refl

names_after_job : (s k : ℕ) (job : DraftJob) (d : Draft) (b : Bool) → names_in (cond b (with_job s k job d) d) ≡ names_in d
names_after_job s k job d true = map_unchanged (λ (site : SeenDraftSite). site.name) d.sites s _ no_draft_site refl
names_after_job s k job d false = refl

ends_after_job : (s k : ℕ) (job : DraftJob) (d : Draft) (b : Bool) → ends_in (cond b (with_job s k job d) d) ≡ ends_in d
ends_after_job s k job d true = refl
ends_after_job s k job d false = refl

pub names_after_turns : (s k turns : ℕ) (d : Draft) → names_in (with_turns s k turns d) ≡ names_in d
names_after_turns s k turns d = names_after_job s k _ d (has_job s k d)

pub ends_after_turns : (s k turns : ℕ) (d : Draft) → ends_in (with_turns s k turns d) ≡ ends_in d
ends_after_turns s k turns d = ends_after_job s k _ d (has_job s k d)

pub names_after_failure : (s k : ℕ) (d : Draft) → names_in (with_failure s k d) ≡ names_in d
names_after_failure s k d = names_after_job s k _ d (has_job s k d)

pub ends_after_failure : (s k : ℕ) (d : Draft) → ends_in (with_failure s k d) ≡ ends_in d
ends_after_failure s k d = ends_after_job s k _ d (has_job s k d)

pub names_after_act : (s k : ℕ) (act : Act) (d : Draft) → names_in (with_act s k act d) ≡ names_in d
names_after_act s k act d = names_after_job s k _ d (has_job s k d)

pub ends_after_act : (s k : ℕ) (act : Act) (d : Draft) → ends_in (with_act s k act d) ≡ ends_in d
ends_after_act s k act d = ends_after_job s k _ d (has_job s k d)

-- so what is kept is that of the draft, if a call left names and ends as they were
pub still_kept : (own : Inside) (draft : Draft) → names_in draft ≡ names_in own.builder → ends_in draft ≡ ends_in own.builder → HasNamesAndEnds own → HasNamesAndEnds (record own { builder = draft })
still_kept own draft names ends held = record { names = held.names ∙ sym names; ends = held.ends ∙ sym ends; few_sites = held.few_sites; few_edges = held.few_edges }

-- how many there are
pub sites_counted : {X : Type 0} (bytes : X → List ℕ) (names : List X) (d : Draft) → map bytes names ≡ names_in d → length names ≡ length d.sites
sites_counted bytes names d is = sym (length-map names bytes) ∙ ap length is ∙ length-map d.sites (λ (site : SeenDraftSite). site.name)

pub edges_counted : (ends : List (ℕ × ℕ)) (d : Draft) → ends ≡ ends_in d → length ends ≡ length d.edges
edges_counted ends d is = ap length is ∙ length-map d.edges (λ (edge : DraftEdge). (edge.a, edge.b))

-- ---- what is returned

-- a site that is refused for this cause is not added
pub site_is_refused : (name : List ℕ) (n : ℕ) (cause : PlanFault) (r : ℤ) (d : Draft) → IsRefused r → IsSiteRefusedFor name n d cause → r ≡ plan_status cause → AddsSiteOrRefuses name n r d d
site_is_refused name n cause (pos m) d is why status = absurd is
site_is_refused name n cause (negsuc m) d is why status = (refl, inr (cause, why, status))

-- a plan is not made since an allocation failed
pub no_plan_of_memory : (d : Draft) (r : ℤ) → IsDoneOr r (Unit {0}) (r ≡ memory) → IsDoneOr r (Unit {0}) (IsNoPlan d r)
no_plan_of_memory d (pos n) h = tt
no_plan_of_memory d (negsuc n) h = (Memory, (λ other. absurd (other refl)), h)
