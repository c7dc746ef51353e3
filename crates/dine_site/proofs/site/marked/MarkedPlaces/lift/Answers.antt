use Rattle.std.proofs.Common.{◌≡◌, ◌++◌, take, drop, Bool, map, length, refl, sym, ◌∙◌, ap, subst, arith}
use Rattle.std.specs.List.{All}
use Rattle.std.proofs.lemmas.Grind.{common_steps}
use Rattle.std.proofs.lemmas.List.{length-map}
use Rattle.dine_set.specs.Marks.{marks_of}
use Rattle.dine_site.specs.declared.site.places.Place.{Place}
use Rattle.dine_site.specs.Places.{is_away_at, is_dirty_at, has_token_at, is_open_at, has_put_done_at, has_taken_done_at, place_in_meal}
use Rattle.dine_site.specs.private.PlaceSteps.{IsLiftable}
use Rattle.dine_site.proofs.own_events.Marked.{lifted_away, lifted_dirty, lifted_same}
use Rattle.dine_site.proofs.site.marked.MarkedPlaces.lift.Goals as goal

pub invariant_of-self : goal.invariant_of-self
invariant_of-self c =
    let inv = c.self.invariant in
    let xs = c.self.inside.items.items in
    let site = c.args.site in
    let here : All (IsLiftable site) xs = subst (All (IsLiftable site)) (sym c.self.view_is) c.requires.here in
    let is : take c.self.inside.items.len (c.lift.new.places ++ drop (length c.lift.new.places) xs) ≡ map (place_in_meal site) xs = grind (arith, common_steps) in
    let new : (test : Place → Bool) → marks_of test (map (place_in_meal site) xs) ≡ marks_of test (take c.self.inside.items.len (c.lift.new.places ++ drop (length c.lift.new.places) xs)) = λ test. ap (marks_of test) (sym is) in
    record {
      few = omega (arith, inv.few, ap length is, length-map xs (place_in_meal site));
      away = inv.away ∙ lifted_away site xs inv.few here ∙ new is_away_at;
      dirty = c.empty-self-inside.ensures ∙ lifted_dirty site xs inv.few ∙ new is_dirty_at;
      tokens = inv.tokens ∙ lifted_same site xs inv.few has_token_at (λ place. refl) ∙ new has_token_at;
      unclosed = inv.unclosed ∙ lifted_same site xs inv.few is_open_at (λ place. refl) ∙ new is_open_at;
      done_put = inv.done_put ∙ lifted_same site xs inv.few has_put_done_at (λ place. refl) ∙ new has_put_done_at;
      done_taken = inv.done_taken ∙ lifted_same site xs inv.few has_taken_done_at (λ place. refl) ∙ new has_taken_done_at;
    }
