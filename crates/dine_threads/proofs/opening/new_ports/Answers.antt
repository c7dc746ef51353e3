use Rattle.std.proofs.Common.{ℕ, refl, ap, ◌∙◌}
use Rattle.dine_link.specs.Bells.{SeenRinger}
use Rattle.dine_threads.proofs.opening.new_ports.Goals as goal

pub returns : goal.returns
returns g c = λ bells at.
    let goes = c.in-Ok.ensures in
    let comes = c.in-Ok-pair.ensures in
    let ends = c.ends-lower.ensures.ends in
    record {
      low_fresh = record { live = refl; nothing_put = goes.empty.0; nothing_taken = comes.empty.1; untimed_put = goes.untimed.0; untimed_taken = comes.untimed.1; nothing_rung = ap (λ (r : SeenRinger). r.rings) at.high; unrefused = record { put = goes.unrefused.0; take = comes.unrefused.1; ring = ap (λ (r : SeenRinger). r.refused) at.high } };
      high_fresh = record { live = refl; nothing_put = comes.empty.0; nothing_taken = goes.empty.1; untimed_put = comes.untimed.0; untimed_taken = goes.untimed.1; nothing_rung = ap (λ (r : SeenRinger). r.rings) at.low; unrefused = record { put = comes.unrefused.0; take = goes.unrefused.1; ring = ap (λ (r : SeenRinger). r.refused) at.low } };
      ringers = at;
      goes = goes.pair;
      comes = comes.pair;
      low_edge = goes.name.0;
      low_from = goes.name.1 ∙ ap (λ (p : ℕ × ℕ). p.0) ends;
      high_edge = comes.name.0;
      high_from = comes.name.1 ∙ ap (λ (p : ℕ × ℕ). p.1) ends;
    }
