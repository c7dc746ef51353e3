use Rattle.std.proofs.Common.{rules, ◌≡◌, ℕ, ◌<◌, All, Option, Some, List, [], ◌∷◌, set, sym, ap, subst, ◌∙◌, arith, vec_len, vec_items}
use Rattle.std.proofs.lemmas.Grind.{common_steps}
use Rattle.std.specs.Vec.Iter.{into_iter_items}
use Rattle.dine_token.specs.Fork.{SeenFork}
use Rattle.dine_threads.specs.private.Collecting.{in_slots}
use Rattle.dine_threads.proofs.shared.lists.Zips.{all_first, all_rest}
use Rattle.dine_threads.proofs.collecting.place_forks.Goals as goal

-- the next fork is in_slots
in_slots_next : (slots all : List (Option SeenFork)) (forks rest : List SeenFork) (fork : SeenFork) (edge : ℕ) → forks ≡ fork ∷ rest → edge ≡ fork.edge → in_slots forks slots ≡ all → in_slots rest (set slots edge (Some fork)) ≡ all
in_slots_next slots all forks rest fork edge split number was = ap (λ n. in_slots rest (set slots n (Some fork))) number ∙ sym (ap (λ l. in_slots l slots) split) ∙ was

pub loop-fork-init : goal.loop-fork-init
loop-fork-init c =
    let gives : into_iter_items c.into_iter-fork-iterator.result ≡ vec_items c.args.forks = c.into_iter-fork-iterator.ensures.into_iter_gives.0 in
    record {
      len = search rules;
      within = subst (All (λ (fork : SeenFork). fork.edge < vec_len c.args.slots.now)) (sym gives) c.requires;
      left = ap (λ forks. in_slots forks (vec_items c.args.slots.now)) gives;
    }

pub index_mut-requires : goal.index_mut-requires
index_mut-requires c =
    let within = all_first (λ (fork : SeenFork). fork.edge < vec_len c.args.slots.now) (into_iter_items c.loop-fork.fork-iterator) (into_iter_items c.next.new.self) c.in-Some.fork c.in-Some.ensures.steps.0 c.loop-fork.invariant.within in
    omega (arith, within, c.edge-edge.ensures, c.loop-fork.invariant.len)

pub loop-fork-preserved-in-Some : goal.loop-fork-preserved-in-Some
loop-fork-preserved-in-Some c =
    let was = c.loop-fork.invariant in
    let before = into_iter_items c.loop-fork.fork-iterator in
    let rest = into_iter_items c.next.new.self in
    let split = c.in-Some.ensures.steps.0 in
    record {
      len = was.len;
      within = all_rest (λ (fork : SeenFork). fork.edge < vec_len c.args.slots.now) before rest c.in-Some.fork split was.within;
      left = in_slots_next (vec_items c.loop-fork.slots) (in_slots (vec_items c.args.forks) (vec_items c.args.slots.now)) before rest c.in-Some.fork c.edge-edge.result split c.edge-edge.ensures was.left;
    }

pub loop-fork-preserved : goal.loop-fork-preserved
loop-fork-preserved c =
    let was = c.loop-fork.invariant in
    let before = into_iter_items c.loop-fork.fork-iterator in
    let rest = into_iter_items c.next.new.self in
    let split = c.in-Some.ensures.steps.0 in
    record {
      len = was.len;
      within = all_rest (λ (fork : SeenFork). fork.edge < vec_len c.args.slots.now) before rest c.in-Some.fork split was.within;
      left = in_slots_next (vec_items c.loop-fork.slots) (in_slots (vec_items c.args.forks) (vec_items c.args.slots.now)) before rest c.in-Some.fork c.edge-edge.result split c.edge-edge.ensures was.left;
    }

pub returns : goal.returns
returns c =
    let none : into_iter_items c.loop-fork.fork-iterator ≡ [] = grind (arith, common_steps) in
    sym (ap (λ forks. in_slots forks (vec_items c.loop-fork.slots)) none) ∙ c.loop-fork.invariant.left
