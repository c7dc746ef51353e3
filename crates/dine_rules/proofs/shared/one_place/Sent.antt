-- The last Fork that a site put: it goes to the other end, with the meals of that end that it had when it was taken.
use Rattle.std.proofs.Common.{◌≡◌, ◌≢◌, ℕ, zero, suc, ◌+◌, ◌-◌, ◌≤◌, Bool, true, false, cond, ◌==◌, List, [], ◌∷◌, ◌++◌, get_or, slice_get, Some, refl, sym, ◌∙◌, ap, inl, inr, arith}
use Rattle.std.proofs.lemmas.Bool.{cases_Bool, cond-true, cond-false}
use Rattle.std.proofs.lemmas.Option.{slice_get-get_or}
use Rattle.dine_token.specs.declared.log_entry.Entry.{Entry}
use Rattle.dine_token.specs.declared.log_entry.Entry.TheVariants.{Move}
use Rattle.dine_token.specs.Log.{meals_of}
use Rattle.dine_token.proofs.shared.Logs.{meals_of-push_other}
use Rattle.dine_graph.specs.Plan.{SeenPlan, lo_of, other_of}
use Rattle.dine_rules.specs.Letters.{forks_in, last_log_or}
use Rattle.dine_rules.specs.Local.{Traffic}
use Rattle.dine_rules.specs.Streams.{IsChained, logs_of}
use Rattle.dine_rules.proofs.shared.lists.Counting.{length-logs_of, last_log_or-none, last_log_or-at}
use Rattle.dine_rules.proofs.shared.one_place.Hands.{with_meals, with_meals-none, with_meals-more}

-- meals of one site are none of another
pub meals_of-with_meals_other : (other s n : ℕ) (log : List Entry) → s ≢ other → meals_of other (with_meals s n log) ≡ meals_of other log
meals_of-with_meals_other other s zero log differ = ap (λ (l : List Entry). meals_of other l) (with_meals-none s log)
meals_of-with_meals_other other s (suc n) log differ =
    ap (λ (l : List Entry). meals_of other l) (with_meals-more s n log)
    ∙ meals_of-push_other other s (with_meals s n log) (meals_of s log + 1 + n) differ ∙ meals_of-with_meals_other other s n log differ

-- the log ends in the Move, and before it has so many meals of the end that it goes to
pub record IsSent (to meals : ℕ) (log : List Entry) : Type 0 where
  pub before : List Entry
  pub is : log ≡ before ++ Move to ∷ []
  pub meals_are : meals_of to before ≡ meals

-- a log that carries on the last one taken is so sent
sent_carried : (s to meals : ℕ) (last before log : List Entry) → s ≢ to → last ≡ before → log ≡ with_meals s meals before ++ Move to ∷ [] → IsSent to (meals_of to last) log
sent_carried s to meals last before log differ same is = record {
  before = with_meals s meals before;
  is = is;
  meals_are = meals_of-with_meals_other to s meals before differ ∙ ap (λ (l : List Entry). meals_of to l) (sym same);
}

-- the same of an equal log
sent_along : (to meals : ℕ) (log other : List Entry) → other ≡ log → IsSent to meals log → IsSent to meals other
sent_along to meals log other same sent = record { before = sent.before; is = same ∙ sent.is; meals_are = sent.meals_are }

module _ (plan : SeenPlan) (s edge ate : ℕ) (traffic : Traffic) (differ : s ≢ other_of plan edge s) (chained : IsChained plan s edge ate traffic) where
  -- the site is the lower end
  abbrev lower : Bool
  lower = lo_of plan edge == s

  -- where its Forks go
  abbrev to : ℕ
  to = other_of plan edge s

  -- the last Fork put at the lower end carries on the last one taken, and before any was taken the empty log
  last_of_lower : (k f : ℕ) (log : List Entry) → lower ≡ true → slice_get (logs_of traffic.put) k ≡ Some log → forks_in traffic.taken ≡ f → k ≡ f → IsSent to (meals_of to (last_log_or [] traffic.taken)) log
  last_of_lower zero f log low h count same =
      let w = chained.first low log h in
      sent_carried s to w.meals (last_log_or [] traffic.taken) [] log differ (last_log_or-none [] traffic.taken (omega arith)) w.is
  last_of_lower (suc k) f log low h count same =
      let next : k + 1 ≡ suc k = omega arith in
      let w = chained.next low k log (ap (slice_get (logs_of traffic.put)) next ∙ h) in
      sent_carried s to w.carries.meals (last_log_or [] traffic.taken) w.before log differ (last_log_or-at [] traffic.taken k w.before w.is_taken (omega arith)) w.carries.is

  -- the same at the higher end, which puts a Fork for each one taken
  last_of_higher : (k f : ℕ) (log : List Entry) → lower ≡ false → slice_get (logs_of traffic.put) k ≡ Some log → forks_in traffic.taken ≡ f → k + 1 ≡ f → IsSent to (meals_of to (last_log_or [] traffic.taken)) log
  last_of_higher k f log high h count same =
      let w = chained.answers high k log h in
      sent_carried s to w.carries.meals (last_log_or [] traffic.taken) w.before log differ (last_log_or-at [] traffic.taken k w.before w.is_taken (omega arith)) w.carries.is

  -- where the fork is away and was put, the last Fork put is so sent
  pub last_sent : forks_in traffic.put ≡ cond lower 1 0 + forks_in traffic.taken → 1 ≤ forks_in traffic.put → IsSent to (meals_of to (last_log_or [] traffic.taken)) (last_log_or [] traffic.put)
  last_sent away some =
      let k : ℕ = forks_in traffic.put - 1 in
      let log : List Entry = get_or (logs_of traffic.put) k [] in
      let here : slice_get (logs_of traffic.put) k ≡ Some log = slice_get-get_or (logs_of traffic.put) k [] (omega (arith, length-logs_of traffic.put)) in
      let last : last_log_or [] traffic.put ≡ log = last_log_or-at [] traffic.put k log here (omega arith) in
      sent_along to (meals_of to (last_log_or [] traffic.taken)) log (last_log_or [] traffic.put) last (elim (cases_Bool lower) [
        | inl low ↦ last_of_lower k (forks_in traffic.taken) log low here refl (omega (arith, cond-true {A = ℕ} lower 1 0 low))
        | inr high ↦ last_of_higher k (forks_in traffic.taken) log high here refl (omega (arith, cond-false {A = ℕ} lower 1 0 high))
      ])
