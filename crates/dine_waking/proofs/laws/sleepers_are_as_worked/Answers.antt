-- each is computed
use Rattle.std.proofs.Common.{◌≡◌, ℕ, zero, suc, ◌<◌, [], ◌∷◌, inl, refl, arith}
use Rattle.dine_rules.specs.Links.{queue_to}
use Rattle.dine_waking.specs.Sleeping.{AllSleepWell, letters_coming_at}
use Rattle.dine_waking.specs.Examples.{asked_world, ended_world, fork_coming, given_world, star, two_workers}
use Rattle.dine_waking.proofs.laws.sleepers_are_as_worked.Goals as goal

no_letter : (i : ℕ) → i < 1 → letters_coming_at i [] ≡ queue_to two_workers asked_world 1 i
no_letter zero h = refl
no_letter (suc i) h = absurd (omega arith)

one_letter : (i : ℕ) → i < 2 → letters_coming_at i (fork_coming ∷ []) ≡ queue_to star given_world 2 i
one_letter zero h = refl
one_letter (suc zero) h = refl
one_letter (suc (suc i)) h = absurd (omega arith)

at_end : AllSleepWell two_workers ended_world
at_end zero h = inl refl
at_end (suc zero) h = inl refl
at_end (suc (suc s)) h = absurd (omega arith)

pub returns : goal.returns
returns c = record {
  waits = record { idle = refl; coming = []; last = _; places = tt; in_links = no_letter; unwanted = refl };
  fork_unwanted = record { idle = refl; coming = fork_coming ∷ []; last = _; places = (omega arith, tt); in_links = one_letter; unwanted = (refl, refl) };
  ended = at_end;
}
