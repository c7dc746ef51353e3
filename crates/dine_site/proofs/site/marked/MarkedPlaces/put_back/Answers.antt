use Rattle.std.proofs.Common.{◌≡◌, ◌++◌, take, drop, Bool, length, refl, sym, ◌∙◌, ap, arith}
use Rattle.std.proofs.lemmas.Grind.{common_steps}
use Rattle.dine_set.specs.Marks.{marks_of}
use Rattle.dine_site.specs.declared.site.places.Place.{Place}
use Rattle.dine_site.specs.Places.{is_away_at, is_dirty_at, has_token_at, is_open_at, has_put_done_at, has_taken_done_at, places_with_forks}
use Rattle.dine_site.proofs.own_events.Marked.{laid_away, laid_dirty, laid_same, length-places_with_forks, marks_below}
use Rattle.dine_site.proofs.site.marked.MarkedPlaces.put_back.Goals as goal

pub invariant_of-self : goal.invariant_of-self
invariant_of-self c =
    let inv = c.self.invariant in
    let xs = c.self.inside.items.items in
    let forks = c.args.hands.now.items in
    let all : length forks ≡ length xs = omega (arith, c.requires.all, ap length c.self.view_is) in
    let is : take c.self.inside.items.len (c.put_back.new.places ++ drop (length c.put_back.new.places) xs) ≡ places_with_forks xs forks = grind (arith, common_steps) in
    let new : (test : Place → Bool) → marks_of test (places_with_forks xs forks) ≡ marks_of test (take c.self.inside.items.len (c.put_back.new.places ++ drop (length c.put_back.new.places) xs)) = λ test. ap (marks_of test) (sym is) in
    record {
      few = omega (arith, inv.few, ap length is, length-places_with_forks xs forks);
      away = c.empty-self-inside.ensures ∙ laid_away xs forks inv.few all ∙ new is_away_at;
      dirty = c.below-self-inside.ensures ∙ ap marks_below (let e : c.len.result ≡ length xs = omega (arith, c.len.ensures, c.self.inside.items.ok.0) in e) ∙ laid_dirty xs forks all c.requires.dirty ∙ new is_dirty_at;
      tokens = inv.tokens ∙ laid_same has_token_at (λ slot place. refl) xs forks ∙ new has_token_at;
      unclosed = inv.unclosed ∙ laid_same is_open_at (λ slot place. refl) xs forks ∙ new is_open_at;
      done_put = inv.done_put ∙ laid_same has_put_done_at (λ slot place. refl) xs forks ∙ new has_put_done_at;
      done_taken = inv.done_taken ∙ laid_same has_taken_done_at (λ slot place. refl) xs forks ∙ new has_taken_done_at;
    }
