-- A step that a core did keeps the streams of the state.
use Rattle.std.proofs.Common.{◌≡◌, ℕ, true, refl, sym, ◌∙◌, ap, subst}
use Rattle.dine_graph.specs.Plan.{SeenPlan}
use Rattle.dine_rules.specs.declared.letters.Letter.{Letter}
use Rattle.dine_rules.specs.Local.{LocalState}
use Rattle.dine_rules.specs.Steps.{Step, after, may, with_put}
use Rattle.dine_rules.specs.Streams.{KeepsStreams, IsProper}
use Rattle.dine_site.specs.Core.{SeenCore, Refines}
use Rattle.dine_site.specs.Standing.{CoreStep}
use Rattle.dine_rules.proofs.shared.one_site.SiteSteps.{step_keeps}

module _ (plan : SeenPlan) (state : LocalState) (core : SeenCore) (stands : Refines plan state core) (keeps : KeepsStreams plan core.site state) where
  pub stepped : (step : Step) (new next : SeenCore) → new ≡ next → next.site ≡ core.site → IsProper step → may plan core.site state step ≡ true
      → Refines plan (after plan core.site state step) next → CoreStep plan state step core new
  stepped step new next is site is_proper needs next_stands =
      let now : LocalState = after plan core.site state step in
      let kept : KeepsStreams plan core.site now = step_keeps plan core.site stands.is_plan stands.is_site state now step keeps is_proper (record { needs = needs; changes = refl }) in
      let same : new.site ≡ core.site = ap (λ (x : SeenCore). x.site) is ∙ site in
      record {
        allowed = record { needs = needs; changes = refl };
        site = same;
        stands = subst (λ (x : SeenCore). Refines plan now x) (sym is) next_stands;
        keeps = subst (λ (s : ℕ). KeepsStreams plan s now) (sym same) kept;
      }

  -- a put of a letter, from what the letter is
  pub puts : (i : ℕ) (step : Step) (l letter : Letter) (new : SeenCore) → l ≡ letter → after plan core.site state step ≡ with_put i letter state → CoreStep plan state step core new
      → (after plan core.site state step ≡ with_put i l state) × CoreStep plan state step core new
  puts i step l letter new is puts_it did = (puts_it ∙ ap (λ (x : Letter). with_put i x state) (sym is), did)
