-- The causes that a builder's draft never meets.
use Rattle.std.proofs.Common.{◌≡◌, ◌≢◌, ◌⊎◌, ◌∙◌, List, ℕ, true, false, Bool, Option, Some, None, option_map, arith, inl, inr, sym, subst}
use Rattle.std.specs.Option.{option_or}
use Rattle.std.proofs.lemmas.Option.{same_Some}
use Rattle.dine_draft.specs.Refusals.{first_some, on, site_refusals, end_refusals, pair_refusals, act_refusals}
use Rattle.dine_draft.specs.declared.plan_fault.PlanFault.{PlanFault}
use Rattle.dine_draft.specs.declared.plan_fault.PlanFault.TheVariants as fault
use Rattle.dine_draft.proofs.shared.PlanLemmas.{first_of_groups}
use Rattle.dine_graph.specs.Plan.{SeenSite}
use Rattle.dine_draft.specs.declared.drafts.DraftEdge.{DraftEdge}
use Rattle.dine_builder.specs.Draft.{Draft}
use Rattle.dine_builder.specs.DraftPlan.{IsOfDraft, draft_of, first_fault_of}

-- a refusal that is there is one that a draft may meet
abbrev IsMet : Option PlanFault → Type 0
IsMet o = (g : PlanFault) → o ≡ Some g → IsOfDraft g

none_met : IsMet None
none_met g h = absurd (cc)

either_met : (a b : Option PlanFault) → IsMet a → IsMet b → IsMet (option_or a b)
either_met None b first second g h = second g h
either_met (Some x) b first second g h = first g h

on_met : (b : Bool) (f : PlanFault) → IsOfDraft f → IsMet (on b f)
on_met true f is g h = subst IsOfDraft (same_Some _ _ h) is
on_met false f is g h = absurd (cc)

map_met : (f : ℕ → PlanFault) (o : Option ℕ) → ((i : ℕ) → IsOfDraft (f i)) → IsMet (option_map f o)
map_met f None is g h = absurd (cc)
map_met f (Some i) is g h = subst IsOfDraft (same_Some _ _ h) (is i)

-- each refusal of a list is one that a draft may meet
sites_met : (most : ℕ) (sites : List SeenSite) → IsMet (first_some (site_refusals most sites))
unfolding site_refusals
sites_met most sites = search (either_met, map_met, on_met, none_met) depth 12 fits 200000

ends_met : (n : ℕ) (edges : List DraftEdge) → IsMet (first_some (end_refusals n edges))
unfolding end_refusals
ends_met n edges = search (either_met, map_met, on_met, none_met) depth 12 fits 200000

pairs_met : (pairs : List (Option (ℕ × ℕ))) → IsMet (first_some (pair_refusals pairs))
unfolding pair_refusals
pairs_met pairs = search (either_met, map_met, on_met, none_met) depth 12 fits 200000

acts_met : (d : Draft) → IsMet (first_some (act_refusals (draft_of d)))
unfolding act_refusals
acts_met d = search (either_met, map_met, on_met, none_met) depth 12 fits 200000

is_of_draft : (d : Draft) (f : PlanFault) → first_fault_of d ≡ Some f → IsOfDraft f
is_of_draft d f first =
    either_met _ _ (sites_met _ _) (either_met _ _ (ends_met _ _) (either_met _ _ (pairs_met _) (acts_met d))) f (sym (first_of_groups (draft_of d)) ∙ first)

-- a cause is another one than a failed allocation, or one that a draft may meet
other_or_met : (f : PlanFault) → (f ≢ fault.Memory) ⊎ IsOfDraft f
other_or_met f = grind arith

-- the cause of a refusal, which may also be a failed allocation
pub cause_of_draft : (d : Draft) (f : PlanFault) → (f ≢ fault.Memory → first_fault_of d ≡ Some f) → IsOfDraft f
cause_of_draft d f first = elim (other_or_met f) [ inl other ↦ is_of_draft d f (first other) | inr is ↦ is ]
