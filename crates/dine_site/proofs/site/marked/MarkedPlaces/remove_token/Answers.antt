use Rattle.std.proofs.Common.{◌≡◌, is_some, ◌<◌, false, None, length, length-set, sym, ◌∙◌, ap, arith}
use Rattle.std.proofs.lemmas.Grind.{common_steps}
use Rattle.dine_site.specs.declared.site.places.Place.{Place}
use Rattle.dine_site.specs.Places.{is_away_at, is_dirty_at, has_token_at, is_open_at, has_put_done_at, has_taken_done_at}
use Rattle.dine_site.proofs.own_events.Marked.{kept, put}
use Rattle.dine_site.proofs.site.marked.MarkedPlaces.remove_token.Goals as goal

pub invariant_of-self : goal.invariant_of-self
invariant_of-self c =
    let inv = c.self.invariant in
    let xs = c.self.inside.items.items in
    let i = c.args.i in
    let within : i < length xs = omega (arith, c.requires.place, ap length c.self.view_is) in
    let new : Place = record c.index_mut.result.now { token = c.take.new.self } in
    let gone : c.take.new.self ≡ None = grind (arith, common_steps) in
    let old = c.index_mut.result.now in
    record {
      few = omega (arith, inv.few, length-set xs i new);
      away = kept is_away_at xs c.self.inside.away inv.away i new old (ap is_away_at c.index_mut.ensures.value);
      dirty = kept is_dirty_at xs c.self.inside.dirty inv.dirty i new old (ap is_dirty_at c.index_mut.ensures.value);
      tokens = c.remove.ensures ∙ put has_token_at xs c.self.inside.tokens inv.tokens i new false within (ap is_some (sym gone));
      unclosed = kept is_open_at xs c.self.inside.unclosed inv.unclosed i new old (ap is_open_at c.index_mut.ensures.value);
      done_put = kept has_put_done_at xs c.self.inside.done_put inv.done_put i new old (ap has_put_done_at c.index_mut.ensures.value);
      done_taken = kept has_taken_done_at xs c.self.inside.done_taken inv.done_taken i new old (ap has_taken_done_at c.index_mut.ensures.value);
    }
