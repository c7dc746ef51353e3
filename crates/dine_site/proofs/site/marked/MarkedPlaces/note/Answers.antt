use Rattle.std.proofs.Common.{◌<◌, false, true, Some, length, length-set, refl, ◌∙◌, ap, arith}
use Rattle.dine_site.specs.declared.site.places.Place.{Place}
use Rattle.dine_site.specs.declared.site.places.ForkSlot.TheVariants.{Here}
use Rattle.dine_site.specs.Places.{is_away_at, is_dirty_at, has_token_at, is_open_at, has_put_done_at, has_taken_done_at}
use Rattle.dine_site.proofs.own_events.Marked.{kept, put}
use Rattle.dine_site.proofs.site.marked.MarkedPlaces.note.Goals as goal

pub invariant_of-self : goal.invariant_of-self
invariant_of-self c =
    let inv = c.self.invariant in
    let xs = c.self.inside.items.items in
    let i = c.args.i in
    let within : i < length xs = omega (arith, c.requires, ap length c.self.view_is) in
    let new : Place = record c.index_mut-place.result.now { fork = Here c.in-Fork.fork } in
    let old = c.index_mut-place.result.now in
    record {
      few = omega (arith, inv.few, length-set xs i new);
      away = c.remove.ensures ∙ put is_away_at xs c.self.inside.away inv.away i new false within (refl);
      dirty = c.set.ensures ∙ put is_dirty_at xs c.self.inside.dirty inv.dirty i new c.is_dirty.result within c.is_dirty.ensures.dirty;
      tokens = kept has_token_at xs c.self.inside.tokens inv.tokens i new old (ap has_token_at c.index_mut-place.ensures.value);
      unclosed = kept is_open_at xs c.self.inside.unclosed inv.unclosed i new old (ap is_open_at c.index_mut-place.ensures.value);
      done_put = kept has_put_done_at xs c.self.inside.done_put inv.done_put i new old (ap has_put_done_at c.index_mut-place.ensures.value);
      done_taken = kept has_taken_done_at xs c.self.inside.done_taken inv.done_taken i new old (ap has_taken_done_at c.index_mut-place.ensures.value);
    }

pub invariant_of-self-in-Fork-2 : goal.invariant_of-self-in-Fork-2
invariant_of-self-in-Fork-2 c =
    let inv = c.self.invariant in
    let xs = c.self.inside.items.items in
    let i = c.args.i in
    let within : i < length xs = omega (arith, c.requires, ap length c.self.view_is) in
    let new : Place = record c.index_mut-place.result.now { fork = Here c.in-Fork.fork } in
    let old = c.index_mut-place.result.now in
    record {
      few = omega (arith, inv.few, length-set xs i new);
      away = c.remove.ensures ∙ put is_away_at xs c.self.inside.away inv.away i new false within (refl);
      dirty = c.set.ensures ∙ put is_dirty_at xs c.self.inside.dirty inv.dirty i new c.is_dirty.result within c.is_dirty.ensures.dirty;
      tokens = kept has_token_at xs c.self.inside.tokens inv.tokens i new old (ap has_token_at c.index_mut-place.ensures.value);
      unclosed = kept is_open_at xs c.self.inside.unclosed inv.unclosed i new old (ap is_open_at c.index_mut-place.ensures.value);
      done_put = kept has_put_done_at xs c.self.inside.done_put inv.done_put i new old (ap has_put_done_at c.index_mut-place.ensures.value);
      done_taken = kept has_taken_done_at xs c.self.inside.done_taken inv.done_taken i new old (ap has_taken_done_at c.index_mut-place.ensures.value);
    }

pub invariant_of-self-in-Request : goal.invariant_of-self-in-Request
invariant_of-self-in-Request c =
    let inv = c.self.invariant in
    let xs = c.self.inside.items.items in
    let i = c.args.i in
    let within : i < length xs = omega (arith, c.requires, ap length c.self.view_is) in
    let new : Place = record c.index_mut-place.result.now { token = Some c.in-Request.token } in
    let old = c.index_mut-place.result.now in
    record {
      few = omega (arith, inv.few, length-set xs i new);
      away = kept is_away_at xs c.self.inside.away inv.away i new old (ap is_away_at c.index_mut-place.ensures.value);
      dirty = kept is_dirty_at xs c.self.inside.dirty inv.dirty i new old (ap is_dirty_at c.index_mut-place.ensures.value);
      tokens = c.insert.ensures ∙ put has_token_at xs c.self.inside.tokens inv.tokens i new true within (refl);
      unclosed = kept is_open_at xs c.self.inside.unclosed inv.unclosed i new old (ap is_open_at c.index_mut-place.ensures.value);
      done_put = kept has_put_done_at xs c.self.inside.done_put inv.done_put i new old (ap has_put_done_at c.index_mut-place.ensures.value);
      done_taken = kept has_taken_done_at xs c.self.inside.done_taken inv.done_taken i new old (ap has_taken_done_at c.index_mut-place.ensures.value);
    }

pub invariant_of-self-in-Done : goal.invariant_of-self-in-Done
invariant_of-self-in-Done c =
    let inv = c.self.invariant in
    let xs = c.self.inside.items.items in
    let i = c.args.i in
    let within : i < length xs = omega (arith, c.requires, ap length c.self.view_is) in
    let new : Place = record c.index_mut-place.result.now { done_taken = true } in
    let old = c.index_mut-place.result.now in
    record {
      few = omega (arith, inv.few, length-set xs i new);
      away = kept is_away_at xs c.self.inside.away inv.away i new old (ap is_away_at c.index_mut-place.ensures.value);
      dirty = kept is_dirty_at xs c.self.inside.dirty inv.dirty i new old (ap is_dirty_at c.index_mut-place.ensures.value);
      tokens = kept has_token_at xs c.self.inside.tokens inv.tokens i new old (ap has_token_at c.index_mut-place.ensures.value);
      unclosed = kept is_open_at xs c.self.inside.unclosed inv.unclosed i new old (ap is_open_at c.index_mut-place.ensures.value);
      done_put = kept has_put_done_at xs c.self.inside.done_put inv.done_put i new old (ap has_put_done_at c.index_mut-place.ensures.value);
      done_taken = c.insert-in-Done.ensures ∙ put has_taken_done_at xs c.self.inside.done_taken inv.done_taken i new true within (refl);
    }

pub invariant_of-self-in-Close : goal.invariant_of-self-in-Close
invariant_of-self-in-Close c =
    let inv = c.self.invariant in
    let xs = c.self.inside.items.items in
    let i = c.args.i in
    let within : i < length xs = omega (arith, c.requires, ap length c.self.view_is) in
    let new : Place = record c.index_mut-place.result.now { close_taken = true } in
    let old = c.index_mut-place.result.now in
    record {
      few = omega (arith, inv.few, length-set xs i new);
      away = kept is_away_at xs c.self.inside.away inv.away i new old (ap is_away_at c.index_mut-place.ensures.value);
      dirty = kept is_dirty_at xs c.self.inside.dirty inv.dirty i new old (ap is_dirty_at c.index_mut-place.ensures.value);
      tokens = kept has_token_at xs c.self.inside.tokens inv.tokens i new old (ap has_token_at c.index_mut-place.ensures.value);
      unclosed = kept is_open_at xs c.self.inside.unclosed inv.unclosed i new old (ap is_open_at c.index_mut-place.ensures.value);
      done_put = kept has_put_done_at xs c.self.inside.done_put inv.done_put i new old (ap has_put_done_at c.index_mut-place.ensures.value);
      done_taken = kept has_taken_done_at xs c.self.inside.done_taken inv.done_taken i new old (ap has_taken_done_at c.index_mut-place.ensures.value);
    }
