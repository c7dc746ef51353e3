use Rattle.std.proofs.Common.{◌≡◌, ◌<◌, ◌++◌, ◌∷◌, [], Bool, List, length, not, refl, sym, ◌∙◌, ap, arith, length-append}
use Rattle.dine_set.specs.Marks.{marks_of}
use Rattle.dine_site.specs.declared.site.places.Place.{Place}
use Rattle.dine_site.specs.Places.{is_away_at, is_dirty_at, has_token_at, is_open_at, has_put_done_at, has_taken_done_at}
use Rattle.dine_site.proofs.own_events.Marked.{added}
use Rattle.dine_site.proofs.site.marked.MarkedPlaces.push.Goals as goal

pub invariant_of-self-2 : goal.invariant_of-self-2
invariant_of-self-2 c =
    let inv = c.self.invariant in
    let xs = c.self.inside.items.items in
    let new = c.args.place in
    let few : length xs < 64 = omega (arith, c.requires, ap length c.self.view_is) in
    let i = c.len-i.result in
    let last : i ≡ length xs = omega (arith, c.len-i.ensures) in
    let is = c.in_ok-push.ensures.items in
    let with_new : (test : Place → Bool) (marks : List Bool) → marks ≡ marks_of test (xs ++ new ∷ []) → marks ≡ marks_of test c.push.new.self.items = λ test marks are. are ∙ ap (marks_of test) (sym is) in
    record {
      few = omega (arith, few, ap length is, length-append xs (new ∷ []));
      away = c.set.ensures ∙ with_new is_away_at _ (added is_away_at xs c.self.inside.away inv.away i new _ few last (ap not c.is_held.ensures));
      dirty = c.set-2.ensures ∙ with_new is_dirty_at _ (added is_dirty_at xs c.self.inside.dirty inv.dirty i new _ few last c.is_dirty_in_hand-is_dirty.ensures);
      tokens = c.set-3.ensures ∙ with_new has_token_at _ (added has_token_at xs c.self.inside.tokens inv.tokens i new _ few last c.is_some-has_token.ensures);
      unclosed = c.set-4.ensures ∙ with_new is_open_at _ (added is_open_at xs c.self.inside.unclosed inv.unclosed i new (not new.close_put) few last refl);
      done_put = c.set-5.ensures ∙ with_new has_put_done_at _ (added has_put_done_at xs c.self.inside.done_put inv.done_put i new new.done_put few last refl);
      done_taken = c.set-6.ensures ∙ with_new has_taken_done_at _ (added has_taken_done_at xs c.self.inside.done_taken inv.done_taken i new new.done_taken few last refl);
    }

pub returns : goal.returns
returns c = record { ok = c.in_ok-push.ensures.items ∙ ap (λ (xs : List Place). xs ++ c.args.place ∷ []) c.self.view_is; err = tt }

pub invariant_of-self : goal.invariant_of-self
invariant_of-self c =
    let inv = c.self.invariant in
    let is = sym c.in_err-push.ensures.items in
    record {
      few = omega (arith, inv.few, ap length is);
      away = inv.away ∙ ap (marks_of is_away_at) is;
      dirty = inv.dirty ∙ ap (marks_of is_dirty_at) is;
      tokens = inv.tokens ∙ ap (marks_of has_token_at) is;
      unclosed = inv.unclosed ∙ ap (marks_of is_open_at) is;
      done_put = inv.done_put ∙ ap (marks_of has_put_done_at) is;
      done_taken = inv.done_taken ∙ ap (marks_of has_taken_done_at) is;
    }

pub set-requires : goal.set-requires
set-requires c = omega (arith, c.len-i.ensures, c.requires, ap length c.self.view_is)

pub set-requires-2 : goal.set-requires-2
set-requires-2 c = omega (arith, c.len-i.ensures, c.requires, ap length c.self.view_is)

pub set-requires-3 : goal.set-requires-3
set-requires-3 c = omega (arith, c.len-i.ensures, c.requires, ap length c.self.view_is)

pub set-requires-4 : goal.set-requires-4
set-requires-4 c = omega (arith, c.len-i.ensures, c.requires, ap length c.self.view_is)

pub set-requires-5 : goal.set-requires-5
set-requires-5 c = omega (arith, c.len-i.ensures, c.requires, ap length c.self.view_is)

pub set-requires-6 : goal.set-requires-6
set-requires-6 c = omega (arith, c.len-i.ensures, c.requires, ap length c.self.view_is)
