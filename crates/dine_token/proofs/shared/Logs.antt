-- Facts on logs and their ends: what one more entry changes.
use Rattle.std.proofs.Common.{◌≡◌, ◌⊎◌, ℕ, zero, suc, ◌+◌, true, false, cond, eqb, List, [], ◌∷◌, ◌++◌, length, refl, sym, ◌∙◌, ap, subst, inl, inr, arith, append_assoc, append-nil, add-zero}
use Rattle.std.proofs.lemmas.Bool.{eq-eqb, ne_eqb}
use Rattle.std.proofs.lemmas.List.{length_push}
use Rattle.dine_token.specs.declared.log_entry.Entry.{Entry}
use Rattle.dine_token.specs.declared.log_entry.Entry.TheVariants.{Meal, Move}
use Rattle.dine_token.specs.Log.{is_dirty, location_of, numbers_of, meals_of, destinations_of, moves_of}
use Rattle.dine_token.specs.Lawful.{in_turn, count_from}

-- an entry of a list with one more is the last one, or one of the list
pub split_push : {X : Type 0} (xs before after : List X) (x e : X) → xs ++ x ∷ [] ≡ before ++ e ∷ after
    → ((after ≡ []) × (xs ≡ before) × (x ≡ e)) ⊎ ((rest : List X) × (after ≡ rest ++ x ∷ []) × (xs ≡ before ++ e ∷ rest))
split_push [] [] after x e h = inl (cc, refl, cc)
split_push (y ∷ ys) [] after x e h = inr (ys, cc, cc)
split_push [] (b ∷ []) after x e h = absurd cc
split_push [] (b ∷ c ∷ bs) after x e h = absurd cc
split_push {X} (y ∷ ys) (b ∷ bs) after x e h =
    let rest : ys ++ x ∷ [] ≡ bs ++ e ∷ after = cc in
    let same : y ≡ b = cc in
    elim (split_push ys bs after x e rest) [
      | inl w ↦ inl (w.0, cc, w.2)
      | inr w ↦ inr (w.0, w.1, cc)
    ]

-- an induction on a list that grows at its end
pub push_induction : {X : Type 0} (P : List X → Type 0) → P [] → ((xs : List X) (x : X) → P xs → P (xs ++ x ∷ [])) → (xs : List X) → P xs
push_induction {X} P none more xs = from [] xs none where
  from : (done left : List X) → P done → P (done ++ left)
  from done [] h = subst P (sym (append-nil done)) h
  from done (x ∷ left) h = subst P (append_assoc done (x ∷ []) left) (from (done ++ x ∷ []) left (more done x h))

-- ---- dirty

pub is_dirty-push_meal : (log : List Entry) (site k : ℕ) → is_dirty (log ++ Meal site k ∷ []) ≡ true
is_dirty-push_meal [] site k = refl
is_dirty-push_meal (Meal s j ∷ log) site k = is_dirty-push_meal log site k
is_dirty-push_meal (Move to ∷ []) site k = refl
is_dirty-push_meal (Move to ∷ entry ∷ log) site k = is_dirty-push_meal (entry ∷ log) site k

pub is_dirty-push_move : (log : List Entry) (to : ℕ) → is_dirty (log ++ Move to ∷ []) ≡ false
is_dirty-push_move [] to = refl
is_dirty-push_move (Meal s j ∷ log) to = is_dirty-push_move log to
is_dirty-push_move (Move t ∷ []) to = refl
is_dirty-push_move (Move t ∷ entry ∷ log) to = is_dirty-push_move (entry ∷ log) to

-- a clean log ends in a Move
pub clean_ends_in_move : (log : List Entry) → is_dirty log ≡ false → (before : List Entry) × (to : ℕ) × (log ≡ before ++ Move to ∷ [])
clean_ends_in_move [] h = absurd cc
clean_ends_in_move (Meal s j ∷ log) h = let w = clean_ends_in_move log h in (Meal s j ∷ w.0, w.1, ap (λ (l : List Entry). Meal s j ∷ l) w.2)
clean_ends_in_move (Move t ∷ []) h = ([], t, refl)
clean_ends_in_move (Move t ∷ entry ∷ log) h = let w = clean_ends_in_move (entry ∷ log) h in (Move t ∷ w.0, w.1, ap (λ (l : List Entry). Move t ∷ l) w.2)

-- ---- where it is

pub location_of-push_meal : (start : ℕ) (log : List Entry) (site k : ℕ) → location_of start (log ++ Meal site k ∷ []) ≡ location_of start log
location_of-push_meal start [] site k = refl
location_of-push_meal start (Meal s j ∷ log) site k = location_of-push_meal start log site k
location_of-push_meal start (Move t ∷ log) site k = location_of-push_meal t log site k

pub location_of-push_move : (start : ℕ) (log : List Entry) (to : ℕ) → location_of start (log ++ Move to ∷ []) ≡ to
location_of-push_move start [] to = refl
location_of-push_move start (Meal s j ∷ log) to = location_of-push_move start log to
location_of-push_move start (Move t ∷ log) to = location_of-push_move t log to

-- ---- numbers of meals

pub numbers_of-append : (site : ℕ) (xs ys : List Entry) → numbers_of site (xs ++ ys) ≡ numbers_of site xs ++ numbers_of site ys
numbers_of-append site [] ys = refl
numbers_of-append site (Meal s k ∷ xs) ys = let rest = numbers_of-append site xs ys in
    elim (eqb s site) as (λ b. cond b (k ∷ numbers_of site (xs ++ ys)) (numbers_of site (xs ++ ys)) ≡ cond b (k ∷ numbers_of site xs) (numbers_of site xs) ++ numbers_of site ys)
    [ true ↦ ap (λ (l : List ℕ). k ∷ l) rest | false ↦ rest ]
numbers_of-append site (Move to ∷ xs) ys = numbers_of-append site xs ys

pub numbers_of-own : (site k : ℕ) → numbers_of site (Meal site k ∷ []) ≡ k ∷ []
numbers_of-own site k = rw (eq-eqb site site refl)

pub numbers_of-other : (site eater k : ℕ) → (eater ≡ site → ⊥) → numbers_of site (Meal eater k ∷ []) ≡ []
numbers_of-other site eater k h = rw (ne_eqb eater site h)

pub numbers_of-push_own : (site : ℕ) (log : List Entry) (k : ℕ) → numbers_of site (log ++ Meal site k ∷ []) ≡ numbers_of site log ++ k ∷ []
numbers_of-push_own site log k = numbers_of-append site log (Meal site k ∷ []) ∙ ap (λ (l : List ℕ). numbers_of site log ++ l) (numbers_of-own site k)

pub numbers_of-push_other : (site eater : ℕ) (log : List Entry) (k : ℕ) → (eater ≡ site → ⊥) → numbers_of site (log ++ Meal eater k ∷ []) ≡ numbers_of site log
numbers_of-push_other site eater log k h = numbers_of-append site log (Meal eater k ∷ []) ∙ ap (λ (l : List ℕ). numbers_of site log ++ l) (numbers_of-other site eater k h) ∙ append-nil (numbers_of site log)

pub numbers_of-push_move : (site : ℕ) (log : List Entry) (to : ℕ) → numbers_of site (log ++ Move to ∷ []) ≡ numbers_of site log
numbers_of-push_move site log to = numbers_of-append site log (Move to ∷ []) ∙ append-nil (numbers_of site log)

pub meals_of-push_own : (site : ℕ) (log : List Entry) (k : ℕ) → meals_of site (log ++ Meal site k ∷ []) ≡ meals_of site log + 1
meals_of-push_own site log k = ap length (numbers_of-push_own site log k) ∙ length_push (numbers_of site log) k

pub meals_of-push_other : (site eater : ℕ) (log : List Entry) (k : ℕ) → (eater ≡ site → ⊥) → meals_of site (log ++ Meal eater k ∷ []) ≡ meals_of site log
meals_of-push_other site eater log k h = ap length (numbers_of-push_other site eater log k h)

pub meals_of-push_move : (site : ℕ) (log : List Entry) (to : ℕ) → meals_of site (log ++ Move to ∷ []) ≡ meals_of site log
meals_of-push_move site log to = ap length (numbers_of-push_move site log to)

pub count_from-push : (first n : ℕ) → count_from first (suc n) ≡ count_from first n ++ (first + n) ∷ []
count_from-push first zero = rw add-zero
count_from-push first (suc n) =
    let same : first + 1 + n ≡ first + suc n = omega arith in
    ap (λ (l : List ℕ). first ∷ l) (count_from-push (first + 1) n ∙ ap (λ (k : ℕ). count_from (first + 1) n ++ k ∷ []) same)

-- a front of a list that counts up counts up
pub count_from-front : (first n : ℕ) (xs ys : List ℕ) → xs ++ ys ≡ count_from first n → xs ≡ count_from first (length xs)
count_from-front first n [] ys h = refl
count_from-front first zero (x ∷ xs) ys h = absurd cc
count_from-front first (suc n) (x ∷ xs) ys h =
    let rest : xs ++ ys ≡ count_from (first + 1) n = cc in
    let head : x ≡ first = cc in
    let tail = count_from-front (first + 1) n xs ys rest in
    cc

-- ---- where the Moves went

pub destinations_of-append : (xs ys : List Entry) → destinations_of (xs ++ ys) ≡ destinations_of xs ++ destinations_of ys
destinations_of-append [] ys = refl
destinations_of-append (Meal s k ∷ xs) ys = destinations_of-append xs ys
destinations_of-append (Move to ∷ xs) ys = ap (λ (l : List ℕ). to ∷ l) (destinations_of-append xs ys)

pub destinations_of-push_meal : (log : List Entry) (site k : ℕ) → destinations_of (log ++ Meal site k ∷ []) ≡ destinations_of log
destinations_of-push_meal log site k = destinations_of-append log (Meal site k ∷ []) ∙ append-nil (destinations_of log)

-- the n-th of one, other, one, other, .., from 0
abbrev pub turn : ℕ → ℕ → ℕ → ℕ
turn one other zero = one
turn one other (suc n) = turn other one n

pub in_turn-push : (one other n : ℕ) → in_turn one other (suc n) ≡ in_turn one other n ++ turn one other n ∷ []
in_turn-push one other zero = refl
in_turn-push one other (suc n) = ap (λ (l : List ℕ). one ∷ l) (in_turn-push other one n)

pub in_turn-front : (one other n : ℕ) (xs ys : List ℕ) → xs ++ ys ≡ in_turn one other n → xs ≡ in_turn one other (length xs)
in_turn-front one other n [] ys h = refl
in_turn-front one other zero (x ∷ xs) ys h = absurd cc
in_turn-front one other (suc n) (x ∷ xs) ys h =
    let rest : xs ++ ys ≡ in_turn other one n = cc in
    let head : x ≡ one = cc in
    let tail = in_turn-front other one n xs ys rest in
    cc

-- two sites take turns, so while one has its turn the other has the next
pub turn_cases : (one other n : ℕ) → ((turn one other n ≡ one) × (turn other one n ≡ other)) ⊎ ((turn one other n ≡ other) × (turn other one n ≡ one))
turn_cases one other zero = inl (refl, refl)
turn_cases one other (suc n) = elim (turn_cases other one n) [ inl w ↦ inr (w.0, w.1) | inr w ↦ inl (w.0, w.1) ]

-- a fork that moves in turn is where the turn says
pub location_of-turn : (start other : ℕ) (log : List Entry) → destinations_of log ≡ in_turn other start (moves_of log) → location_of start log ≡ turn start other (moves_of log)
location_of-turn start other [] h = refl
location_of-turn start other (Meal s k ∷ log) h = location_of-turn start other log h
location_of-turn start other (Move to ∷ log) h =
    let head : to ≡ other = cc in
    let rest : destinations_of log ≡ in_turn start other (moves_of log) = cc in
    ap (λ (s : ℕ). location_of s log) head ∙ location_of-turn other start log rest
