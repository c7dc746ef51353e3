use Rattle.std.proofs.Common.{◌<◌, false, true, length, length-set, sym, ◌∙◌, ap, arith}
use Rattle.dine_site.specs.declared.site.places.Place.{Place}
use Rattle.dine_site.specs.Places.{is_away_at, is_dirty_at, has_token_at, is_open_at, has_put_done_at, has_taken_done_at}
use Rattle.dine_site.proofs.own_events.Marked.{kept, put}
use Rattle.dine_site.proofs.site.marked.MarkedPlaces.remove_fork.Goals as goal

pub invariant_of-self : goal.invariant_of-self
invariant_of-self c =
    let inv = c.self.invariant in
    let xs = c.self.inside.items.items in
    let i = c.args.i in
    let within : i < length xs = omega (arith, c.requires, ap length c.self.view_is) in
    let new : Place = c.remove_fork.new.self in
    let old = c.index_mut.result.now in
    record {
      few = omega (arith, inv.few, length-set xs i new);
      away = c.insert.ensures ∙ put is_away_at xs c.self.inside.away inv.away i new true within (sym (ap is_away_at c.remove_fork.ensures.away));
      dirty = c.remove.ensures ∙ put is_dirty_at xs c.self.inside.dirty inv.dirty i new false within (sym (ap is_dirty_at c.remove_fork.ensures.away));
      tokens = kept has_token_at xs c.self.inside.tokens inv.tokens i new old (ap has_token_at c.remove_fork.ensures.away ∙ ap has_token_at c.index_mut.ensures.value);
      unclosed = kept is_open_at xs c.self.inside.unclosed inv.unclosed i new old (ap is_open_at c.remove_fork.ensures.away ∙ ap is_open_at c.index_mut.ensures.value);
      done_put = kept has_put_done_at xs c.self.inside.done_put inv.done_put i new old (ap has_put_done_at c.remove_fork.ensures.away ∙ ap has_put_done_at c.index_mut.ensures.value);
      done_taken = kept has_taken_done_at xs c.self.inside.done_taken inv.done_taken i new old (ap has_taken_done_at c.remove_fork.ensures.away ∙ ap has_taken_done_at c.index_mut.ensures.value);
    }
