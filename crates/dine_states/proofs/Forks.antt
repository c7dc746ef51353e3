-- The preferred end of an edge, read of its fork.
use Rattle.std.proofs.Common.{◌≡◌, ℕ, ◌<◌, ◌==◌, nat_lt, cond, Bool, true, false, List, slice_get, zero-add, Some, None, ◌+◌, ◌∷◌, [], ◌++◌, map, refl, sym, ◌∙◌, ap, subst, arith}
use Rattle.std.proofs.lemmas.Bool.{cond-true, cond-false, lt-ltb, ltb-true, ne_eqb}
use Rattle.std.specs.List.{range_with_len}
use Rattle.std.proofs.lemmas.List.FromFn.{get_or-map-range_with_len, length-map-range_with_len, map-range_with_len_more}
use Rattle.std.proofs.lemmas.Option.{same_Some, slice_get-get_or, slice_get_within, none-some}
use Rattle.dine_token.specs.Fork.{SeenFork, location}
use Rattle.dine_token.specs.Log.{is_dirty}
use Rattle.dine_graph.specs.Plan.{SeenPlan, edge_count, other_of}
use Rattle.dine_rules.specs.World.{WorldState}
use Rattle.dine_rules.specs.Precedence.{preferred_end, preferred_in}
use Rattle.dine_world.specs.Whereabouts.{at_edge}
use Rattle.dine_world.specs.Worlds.{fork_seen, forks_seen}
use Rattle.dine_states.specs.Orders.{ends_by_precedence}
use Rattle.dine_states.proofs.Orders.{same}

-- the end with precedence, by what a fork shows
abbrev pub preferred_of : SeenFork → ℕ
preferred_of fork = preferred_in fork.ends.0 fork.ends.1 fork.log

fork_there : (plan : SeenPlan) (state : WorldState) (e : ℕ) → e < edge_count plan → slice_get (forks_seen plan state) e ≡ Some (fork_seen plan state e)
fork_there plan state e within =
    slice_get-get_or (forks_seen plan state) e (fork_seen plan state e) (omega (arith, within, length-map-range_with_len (fork_seen plan state) 0 (edge_count plan)))
    ∙ ap (λ (f : SeenFork). Some f) (get_or-map-range_with_len (fork_seen plan state) 0 (edge_count plan) e e (fork_seen plan state e) within (zero-add e))

-- what is read of the fork of an edge is so of the edge
pub preferred_read : (plan : SeenPlan) (state : WorldState) (e : ℕ) (fork : SeenFork) (end : ℕ) → slice_get (forks_seen plan state) e ≡ Some fork → end ≡ preferred_of fork → Some end ≡ at_edge plan e (preferred_end plan state e)
preferred_read plan state e fork end found is =
    let within : e < edge_count plan = omega (arith, slice_get_within (forks_seen plan state) e fork found, length-map-range_with_len (fork_seen plan state) 0 (edge_count plan)) in
    let same : fork ≡ fork_seen plan state e = same_Some fork (fork_seen plan state e) (sym found ∙ fork_there plan state e within) in
    ap (λ (x : ℕ). Some x) (is ∙ ap preferred_of same) ∙ sym (cond-true (nat_lt e (edge_count plan)) (Some (preferred_end plan state e)) None (lt-ltb e (edge_count plan) within))

-- where there is no fork there is no edge
pub none_read : (plan : SeenPlan) (state : WorldState) (e : ℕ) → slice_get (forks_seen plan state) e ≡ None → None ≡ at_edge plan e (preferred_end plan state e)
none_read plan state e missing = by_case (nat_lt e (edge_count plan)) refl where
  by_case : (b : Bool) → nat_lt e (edge_count plan) ≡ b → None ≡ at_edge plan e (preferred_end plan state e)
  by_case true is = absurd (none-some (fork_seen plan state e) (sym missing ∙ fork_there plan state e (ltb-true e (edge_count plan) is)))
  by_case false is = sym (cond-false (nat_lt e (edge_count plan)) (Some (preferred_end plan state e)) None is)

-- ---- the three cases

pub clean_case : (fork : SeenFork) → is_dirty fork.log ≡ false → location fork ≡ preferred_of fork
clean_case fork clean = sym (cond-false (is_dirty fork.log) (cond (location fork == fork.ends.0) fork.ends.1 fork.ends.0) (location fork) clean)

pub low_case : (fork : SeenFork) → is_dirty fork.log ≡ true → location fork ≡ fork.ends.0 → fork.ends.1 ≡ preferred_of fork
low_case fork dirty low =
    sym (cond-true (location fork == fork.ends.0) fork.ends.1 fork.ends.0 (subst (λ (z : ℕ). (location fork == z) ≡ true) low (same (location fork))))
    ∙ sym (cond-true (is_dirty fork.log) (cond (location fork == fork.ends.0) fork.ends.1 fork.ends.0) (location fork) dirty)

pub high_case : (fork : SeenFork) → is_dirty fork.log ≡ true → (location fork ≡ fork.ends.0 → ⊥) → fork.ends.0 ≡ preferred_of fork
high_case fork dirty high =
    sym (cond-false (location fork == fork.ends.0) fork.ends.1 fork.ends.0 (ne_eqb (location fork) fork.ends.0 high))
    ∙ sym (cond-true (is_dirty fork.log) (cond (location fork == fork.ends.0) fork.ends.1 fork.ends.0) (location fork) dirty)

-- ---- the ends of all edges

-- an edge has a preferred end
pub end_told : (plan : SeenPlan) (state : WorldState) (e : ℕ) → e < edge_count plan → Some (preferred_end plan state e) ≡ at_edge plan e (preferred_end plan state e)
end_told plan state e within = sym (cond-true (nat_lt e (edge_count plan)) (Some (preferred_end plan state e)) None (lt-ltb e (edge_count plan) within))

pub ends_more : (plan : SeenPlan) (state : WorldState) (e p q : ℕ) (items new : List (ℕ × ℕ)) → e < edge_count plan → Some p ≡ at_edge plan e (preferred_end plan state e) → q ≡ other_of plan e p
    → items ≡ map (ends_by_precedence plan state) (range_with_len 0 e) → new ≡ items ++ (p, q) ∷ [] → new ≡ map (ends_by_precedence plan state) (range_with_len 0 (e + 1))
ends_more plan state e p q items new within told other so_far pushed =
    let p_is = same_Some p (preferred_end plan state e) (told ∙ sym (end_told plan state e within)) in
    let pair : ◌≡◌ {A = ℕ × ℕ} (p, q) (ends_by_precedence plan state e) = ap (λ (z : ℕ). (p, z)) other ∙ ap (λ (z : ℕ). (z, other_of plan e z)) p_is in
    pushed ∙ ap (λ (l : List (ℕ × ℕ)). l ++ (p, q) ∷ []) so_far ∙ ap (λ (x : ℕ × ℕ). map (ends_by_precedence plan state) (range_with_len 0 e) ++ x ∷ []) pair
    ∙ sym (map-range_with_len_more (ends_by_precedence plan state) 0 e e (zero-add e))
