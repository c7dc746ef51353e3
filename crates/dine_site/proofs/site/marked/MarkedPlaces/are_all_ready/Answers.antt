use Rattle.std.proofs.Common.{◌≡◌, ◌&&◌, is_none, position, sym, ◌∙◌, ap, ap₂, Bool, List}
use Rattle.std.specs.List.{list_all}
use Rattle.dine_set.specs.Marks.{both_marks, marks_of}
use Rattle.dine_set.proofs.shared.MarksOf.{both-marks_of, position-marks_of}
use Rattle.dine_site.specs.declared.site.places.Place.{Place}
use Rattle.dine_site.specs.Places.{is_away_at, is_dirty_at, has_token_at, is_ready_at}
use Rattle.dine_site.proofs.own_events.Marked.{ready_by_sets}
use Rattle.dine_site.proofs.site.marked.MarkedPlaces.are_all_ready.Goals as goal

none_in : (marks : List Bool) (test : Place → Bool) (xs : List Place) → marks ≡ marks_of test xs → is_none (position (λ b. b) marks) ≡ is_none (position test xs)
none_in marks test xs are = ap (λ (l : List Bool). is_none (position (λ b. b) l)) are ∙ ap is_none (position-marks_of test xs)

pub returns-then-is_empty : goal.returns-then-is_empty
returns-then-is_empty c =
    let inv = c.self.invariant in
    let xs = c.self.inside.items.items in
    let away = sym c.if-is_empty.true ∙ c.is_empty.ensures ∙ none_in c.self.inside.away is_away_at xs inv.away in
    let both = c.intersection.ensures ∙ ap₂ both_marks inv.dirty inv.tokens ∙ both-marks_of is_dirty_at has_token_at xs in
    c.is_empty-then-is_empty.ensures ∙ none_in c.intersection.result (λ place. is_dirty_at place && has_token_at place) xs both
    ∙ ap (λ (b : Bool). b && is_none (position (λ place. is_dirty_at place && has_token_at place) xs)) away
    ∙ ready_by_sets xs ∙ ap (list_all is_ready_at) c.self.view_is

pub returns-else-is_empty : goal.returns-else-is_empty
returns-else-is_empty c =
    let inv = c.self.invariant in
    let xs = c.self.inside.items.items in
    let away = sym c.if-is_empty.false ∙ c.is_empty.ensures ∙ none_in c.self.inside.away is_away_at xs inv.away in
    c.if-is_empty.false ∙ ap (λ (b : Bool). b && is_none (position (λ place. is_dirty_at place && has_token_at place) xs)) away
    ∙ ready_by_sets xs ∙ ap (list_all is_ready_at) c.self.view_is
