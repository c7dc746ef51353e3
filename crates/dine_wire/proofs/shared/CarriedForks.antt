-- A fork that is carried on: it is a fork, a chained one is carried on, and its bytes tell which one it is.
use Rattle.std.proofs.lemmas.Grind.{common_steps}
use Rattle.std.proofs.lemmas.Nat.{mod_below}
use Rattle.std.proofs.Common.{◌≡◌, ◌⊎◌, ℕ, zero, suc, ◌+◌, ◌-◌, ◌<◌, ◌≤◌, ◌^◌, true, List, [], ◌∷◌, ◌++◌, refl, sym, ◌∙◌, ap, subst, inl, inr, arith}
use Rattle.dine_token.specs.declared.log_entry.Entry.{Entry}
use Rattle.dine_token.specs.declared.log_entry.Entry.TheVariants.{Move}
use Rattle.dine_token.specs.Fork.{SeenFork, IsEnd, IsFork, location, other_end}
use Rattle.dine_token.specs.Lawful.{IsLawful, due_at}
use Rattle.dine_token.specs.Log.{is_dirty, meals_of, moves_of}
use Rattle.dine_token.specs.Values.{IsAct}
use Rattle.dine_token.proofs.shared.Forks.{IsEnd-location, IsFork-after_meal, IsFork-after_move}
use Rattle.dine_token.proofs.shared.Lawfulness.{IsLawful-none, due_at-higher, due_at-lower}
use Rattle.dine_token.proofs.shared.Logs.{location_of-push_move, meals_of-push_move}
use Rattle.dine_graph.specs.Plan.{SeenPlan, IsPlan, act_of, edge_count, hi_of, job_count, lo_of}
use Rattle.dine_rules.specs.declared.letters.Letter.TheVariants as letter
use Rattle.dine_rules.specs.Holdings.{meals_from}
use Rattle.dine_rules.specs.Steps.{fork_with, opened_fork}
use Rattle.dine_rules.specs.Values.{after_meals, value_to}
use Rattle.dine_rules.proofs.shared.one_place.Hands.{with_meals, meals_of-with_meals}
use Rattle.dine_wire.specs.Arrivals.{IsOfPlan, MayCarryOn, carried_on, eaten_on, meals_here}
use Rattle.dine_wire.specs.Carried.{IsCarriedOn, letter_bytes}
use Rattle.dine_wire.specs.Notes.{IsInBytes, bytes_of, fork_note}
use Rattle.dine_wire.specs.declared.note.ForkNote.{ForkNote}
use Rattle.dine_wire.specs.declared.note.Note.{Note}
use Rattle.dine_wire.specs.declared.note.Report.{Report}
use Rattle.dine_wire.specs.declared.note.Report.TheVariants as report
use Rattle.dine_wire.proofs.shared.LettersOfRuns.{note_in_run}
use Rattle.dine_wire.proofs.Arriving.{MayEat-next, MayMove-eaten_on, eaten_on-more, eaten_on-none, end_of_plan, ends_differ, fork_note-carried_on, meals_of-others}

-- ---- forks of the plan

module _ (plan : SeenPlan) (is_plan : IsPlan plan) (edge : ℕ) (within : edge < edge_count plan) where
  pub of_plan : (log : List Entry) (value : ℕ) → IsOfPlan plan (fork_with plan edge log value)
  of_plan log value = record { edge = within; ends = refl; due = refl }

  -- the fork of the start
  pub IsFork-opened : IsFork (opened_fork plan edge)
  IsFork-opened = record {
    ordered = is_plan.ordered edge within;
    lower_due = is_plan.few_jobs (lo_of plan edge) (omega (arith, is_plan.ordered edge within, is_plan.within edge within));
    higher_due = is_plan.few_jobs (hi_of plan edge) (is_plan.within edge within);
    lawful = IsLawful-none (lo_of plan edge, hi_of plan edge) (job_count plan (lo_of plan edge), job_count plan (hi_of plan edge));
    bounded = omega (arith, is_plan.small_values edge within);
  }

-- ---- what is carried on is a fork

pub IsFork-eaten_on : (plan : SeenPlan) (fork : SeenFork) (total n : ℕ) → IsPlan plan → IsFork fork → IsOfPlan plan fork → MayCarryOn fork total → n ≤ total → IsFork (eaten_on plan fork n)
IsFork-eaten_on plan fork total zero is_plan is of_plan may few = subst IsFork (sym (eaten_on-none plan fork)) is
IsFork-eaten_on plan fork total (suc n) is_plan is of_plan may few =
    let s = location fork in
    let site = end_of_plan plan fork s is_plan is of_plan (IsEnd-location fork is) in
    let act : IsAct (act_of plan s (meals_here fork + 1 + n)) = is_plan.small_acts s (meals_here fork + 1 + n) site.0 (omega arith) (omega (arith, may.within, site.1, few)) in
    subst IsFork (eaten_on-more plan fork n)
    (IsFork-after_meal (eaten_on plan fork n) s (meals_here fork + 1 + n) (act_of plan s (meals_here fork + 1 + n))
    (IsFork-eaten_on plan fork total n is_plan is of_plan may (omega (arith, few))) (MayEat-next plan fork n total may (omega (arith, few))) act)

pub IsFork-carried_on : (plan : SeenPlan) (fork : SeenFork) (n : ℕ) → IsPlan plan → IsFork fork → IsOfPlan plan fork → MayCarryOn fork n → IsFork (carried_on plan fork n)
IsFork-carried_on plan fork n is_plan is of_plan may =
    IsFork-after_move (eaten_on plan fork n) (other_end fork (location fork)) (IsFork-eaten_on plan fork n n is_plan is of_plan may (omega arith)) (MayMove-eaten_on plan fork n is may)

-- it is at the other end
pub location-carried_on : (plan : SeenPlan) (fork : SeenFork) (n : ℕ) → location (carried_on plan fork n) ≡ other_end fork (location fork)
location-carried_on plan fork n = location_of-push_move fork.ends.0 (with_meals (location fork) n fork.log) (other_end fork (location fork))

-- ---- a chained fork is carried on

module _ (plan : SeenPlan) (edge : ℕ) (kept fork : SeenFork) (n : ℕ) (is : IsFork kept) (own_kept : kept ≡ fork_with plan edge kept.log kept.value) (own : fork ≡ fork_with plan edge fork.log fork.value)
    (lawful : IsLawful fork.ends fork.due fork.log) (used : (is_dirty kept.log ≡ true) ⊎ (1 ≤ n))
    (log : fork.log ≡ kept.log ++ meals_from (location kept) (meals_here kept + 1) n ++ Move (other_end kept (location kept)) ∷ [])
    (value : fork.value ≡ value_to plan (location kept) (meals_of (location kept) fork.log) kept.log kept.value) where
  abbrev s : ℕ
  s = location kept

  abbrev to : ℕ
  to = other_end kept s

  abbrev carried_log : List Entry
  carried_log = with_meals s n kept.log ++ Move to ∷ []

  same_ends : fork.ends ≡ kept.ends
  same_ends = ap (λ (f : SeenFork). f.ends) own ∙ sym (ap (λ (f : SeenFork). f.ends) own_kept)

  same_due : fork.due ≡ kept.due
  same_due = ap (λ (f : SeenFork). f.due) own ∙ sym (ap (λ (f : SeenFork). f.due) own_kept)

  lawful_here : IsLawful kept.ends kept.due carried_log
  lawful_here = subst (λ (l : List Entry). IsLawful kept.ends kept.due l) log
      (subst (λ (d : ℕ × ℕ). IsLawful kept.ends d fork.log) same_due (subst (λ (e : ℕ × ℕ). IsLawful e fork.due fork.log) same_ends lawful))

  meals : meals_of s carried_log ≡ meals_here kept + n
  meals = meals_of-push_move s (with_meals s n kept.log) to ∙ meals_of-with_meals s n kept.log

  within_due : IsEnd kept s → meals_here kept + n ≤ due_at kept.ends kept.due s
  within_due (inl low) = omega (arith, meals, ap (λ (e : ℕ). meals_of e carried_log) low, lawful_here.lower_within, due_at-lower kept.ends kept.due s low)
  within_due (inr high) = omega (arith, meals, ap (λ (e : ℕ). meals_of e carried_log) high, lawful_here.higher_within, due_at-higher kept.ends kept.due s is.ordered high)

  may_carry : MayCarryOn kept n
  may_carry = record {
    used = used;
    within = within_due (IsEnd-location kept is);
    hungry = subst (λ (m : ℕ). m < due_at kept.ends kept.due to) (meals_of-others to s n kept.log (ends_differ kept is s (IsEnd-location kept is)).0)
        (lawful_here.sent_to_hungry (with_meals s n kept.log) [] to refl);
  }

  more : meals_of s fork.log - meals_of s kept.log ≡ n
  more = omega (arith, meals, ap (λ (l : List Entry). meals_of s l) log)

  pub chained_is_carried : IsCarriedOn plan kept fork
  chained_is_carried = record {
    meals = n;
    may = may_carry;
    is = own
        ∙ ap (λ (l : List Entry). fork_with plan edge l fork.value) log
        ∙ ap (fork_with plan edge carried_log) (value ∙ ap (λ (m : ℕ). after_meals plan s (meals_here kept + 1) m kept.value) more)
        ∙ ap (λ (f : SeenFork). record f { log = carried_log; value = after_meals plan s (meals_here kept + 1) n kept.value }) (sym own_kept);
  }

-- ---- the bytes of a fork that is carried on

read_back : (one other : Note) → IsInBytes one → IsInBytes other → bytes_of one ≡ bytes_of other → one ≡ other
read_back one other first second same = grind (arith, common_steps)

module _ (plan : SeenPlan) (is_plan : IsPlan plan) (run edge : ℕ) (kept : SeenFork) (is : IsFork kept) (of_plan : IsOfPlan plan kept) (small : edge < 2 ^ 32) where
  -- the numbers fit into their bytes
  in_bytes : (n : ℕ) → MayCarryOn kept n → IsInBytes (record { edge = edge; report = report.Fork (fork_note (carried_on plan kept n)) })
  in_bytes n may =
      let fork = carried_on plan kept n in
      let is_fork = IsFork-carried_on plan kept n is_plan is of_plan may in
      let note = fork_note-carried_on plan kept n is (IsEnd-location kept is) in
      let ate : (fork_note fork).ate ≡ meals_here kept + n = ap (λ (x : ForkNote). x.ate) note in
      let site = end_of_plan plan kept (location kept) is_plan is of_plan (IsEnd-location kept is) in (
        small,
        (
          mod_below (moves_of fork.log) (2 ^ 32) (omega arith),
          omega (arith, ate, may.within, site.1, is_plan.few_jobs (location kept) site.0),
          omega (arith, is_fork.bounded, is_fork.lawful.lower_within, is_fork.lawful.higher_within, is_fork.lower_due, is_fork.higher_due),
        ),
      )

  -- forks that are carried on from one fork and have the same bytes are one
  pub same_bytes : (one other : SeenFork) → IsCarriedOn plan kept one → IsCarriedOn plan kept other → letter_bytes run edge (letter.Fork one) ≡ letter_bytes run edge (letter.Fork other) → one ≡ other
  same_bytes one other first second bytes =
      let n = first.meals in
      let m = second.meals in
      let bytes_too : letter_bytes run edge (letter.Fork (carried_on plan kept n)) ≡ letter_bytes run edge (letter.Fork (carried_on plan kept m)) =
      ap (λ (f : SeenFork). letter_bytes run edge (letter.Fork f)) (sym first.is) ∙ bytes ∙ ap (λ (f : SeenFork). letter_bytes run edge (letter.Fork f)) second.is in
      let mine : Note = record { edge = edge; report = report.Fork (fork_note (carried_on plan kept n)) } in
      let theirs : Note = record { edge = edge; report = report.Fork (fork_note (carried_on plan kept m)) } in
      let notes : mine ≡ theirs = read_back mine theirs (in_bytes n first.may) (in_bytes m second.may) (note_in_run run mine theirs bytes_too) in
      let ate : (fork_note (carried_on plan kept n)).ate ≡ (fork_note (carried_on plan kept m)).ate = ap (λ (note : Note). ate_in note.report) notes in
      let end = IsEnd-location kept is in
      let same : n ≡ m = omega (
        arith,
        ate,
        ap (λ (x : ForkNote). x.ate) (fork_note-carried_on plan kept n is end),
        ap (λ (x : ForkNote). x.ate) (fork_note-carried_on plan kept m is end),
      ) in
      first.is ∙ ap (carried_on plan kept) same ∙ sym second.is
    where
      ate_in : Report → ℕ
      ate_in (report.Fork note) = note.ate
      ate_in report.Request = 0
      ate_in report.Done = 0
      ate_in report.Close = 0
