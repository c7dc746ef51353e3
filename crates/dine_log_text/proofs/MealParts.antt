-- Parts of the text of a site's meals.
use Rattle.std.proofs.Common.{◌≡◌, ℕ, zero, suc, ◌+◌, ◌-◌, ◌<◌, ◌≤◌, List, [], ◌∷◌, ◌++◌, length, get_or, take, drop, slice_index_or, slice_range, codes, refl, sym, ◌∙◌, ap, arith, append_assoc}
use Rattle.std.specs.Fmt.{decimal}
use Rattle.std.specs.Str.{IsCharBoundary}
use Rattle.std.proofs.lemmas.Str.{IsCharBoundary-end, IsCharBoundary-before_ascii}
use Rattle.std.proofs.lemmas.List.{length-append, append-nil, take_at, drop_at, take_more, take_all, get_or-map, length-map}
use Rattle.std.proofs.Math.Seq.{get_or-append_seam}
use Rattle.dine_token.specs.Periods.{meals_from}
use Rattle.dine_log_text.specs.Logs.{entries_text}
use Rattle.dine_graph.specs.Plan.{SeenPlan, SeenSite, name_of, job_count, no_site}
use Rattle.dine_log_text.specs.private.MealTexts.{SeenMealTexts, meals_text, texts_of, IsMealTexts}

-- the meals of a site have the same text under each naming that gives it that name
pub same_meals : (named other : ℕ → List ℕ) (site at : ℕ) → named site ≡ other at → (separator : List ℕ) (first count : ℕ)
    → entries_text named separator (meals_from site first count) ≡ entries_text other separator (meals_from at first count)
same_meals named other site at same separator first zero = refl
same_meals named other site at same separator first (suc count) =
    let rest = entries_text named (codes ", ") (meals_from site (first + 1) count) in
    ap (λ (name : List ℕ). (separator ++ (name ++ codes "#" ++ decimal first)) ++ rest) same
    ∙ ap (λ (l : List ℕ). (separator ++ (other at ++ codes "#" ++ decimal first)) ++ l) (same_meals named other site at same (codes ", ") (first + 1) count)

-- meals a text after the other
pub meals_append : (name : List ℕ) (first a b : ℕ) → meals_text name first (a + b) ≡ meals_text name first a ++ meals_text name (first + a) b
meals_append name first zero b =
    let none : zero + b ≡ b = omega arith in
    let here : first ≡ first + zero = omega arith in
    ap (meals_text name first) none ∙ ap (λ (k : ℕ). meals_text name k b) here
meals_append name first (suc a) b =
    let meal = codes ", " ++ (name ++ codes "#" ++ decimal first) in
    let next : first + 1 + a ≡ first + suc a = omega arith in
    let more : suc a + b ≡ suc (a + b) = omega arith in
    ap (meals_text name first) more ∙ ap (λ (l : List ℕ). meal ++ l) (meals_append name (first + 1) a b) ∙ sym (append_assoc meal (meals_text name (first + 1) a) (meals_text name (first + 1 + a) b))
    ∙ ap (λ (k : ℕ). (meal ++ meals_text name (first + 1) a) ++ meals_text name k b) next

-- the text of the first meals, and that of the others
cut_at : (name : List ℕ) (k n : ℕ) → k ≤ n → meals_text name 1 n ≡ meals_text name 1 k ++ meals_text name (k + 1) (n - k)
cut_at name k n within =
    let all : n ≡ k + (n - k) = omega (arith, within) in
    let next : 1 + k ≡ k + 1 = omega arith in
    ap (meals_text name 1) all ∙ meals_append name 1 k (n - k) ∙ ap (λ (i : ℕ). meals_text name 1 k ++ meals_text name i (n - k)) next

-- a text may be cut before its meals, since the text ends there, or a comma follows
cut_before : (front name : List ℕ) (first count : ℕ) → IsCharBoundary (front ++ meals_text name first count) (length front)
cut_before front name first zero = rw append-nil (IsCharBoundary-end front)
cut_before front name first (suc count) =
    let rest = codes " " ++ (name ++ codes "#" ++ decimal first) ++ meals_text name (first + 1) count in
    let comma : get_or (front ++ 44 ∷ rest) (length front) 0 ≡ 44 = get_or-append_seam front 44 rest 0 in
    IsCharBoundary-before_ascii (front ++ 44 ∷ rest) (length front) (omega (arith, length-append front (44 ∷ rest))) (omega (arith, comma))

-- the part of a text from one place to another: it may be cut out, and has these meals
pub record IsMealPart (name text : List ℕ) (first count from to : ℕ) : Type 0 where
  pub ordered : from ≤ to
  pub from_cut : IsCharBoundary text from
  pub to_cut : IsCharBoundary text to
  pub part_is : slice_range text from to ≡ meals_text name first count

-- the part between two starts has the meals between them
pub part_between : (name text starts : List ℕ) → IsMealTexts name text starts → (before first count from to : ℕ) → from ≡ slice_index_or starts before from → to ≡ slice_index_or starts (before + count) to
    → before + 1 ≡ first → before + count < length starts → IsMealPart name text first count from to
part_between name text starts kept before first count from to from_is to_is next within =
    let n = length starts - 1 in
    let front = meals_text name 1 before in
    let part = meals_text name first count in
    let rest = meals_text name (first + count) (n - (before + count)) in
    let begins : from ≡ length front = from_is ∙ kept.starts_are before from (omega (arith, within)) in
    let ends : to ≡ length (meals_text name 1 (before + count)) = to_is ∙ kept.starts_are (before + count) to within in
    let left : n - before ≡ count + (n - (before + count)) = omega (arith, within) in
    let behind : meals_text name (before + 1) (n - before) ≡ part ++ rest =
    ap (λ (k : ℕ). meals_text name k (n - before)) next ∙ ap (meals_text name first) left ∙ meals_append name first count (n - (before + count)) in
    let whole : text ≡ front ++ (part ++ rest) = kept.text_is ∙ cut_at name before n (omega (arith, within)) ∙ ap (λ (l : List ℕ). front ++ l) behind in
    let here : 1 + before ≡ first = omega (arith, next) in
    let until : meals_text name 1 (before + count) ≡ front ++ part = meals_append name 1 before count ∙ ap (λ (k : ℕ). front ++ meals_text name k count) here in
    let end : to ≡ length front + length part = ends ∙ ap length until ∙ length-append front part in
    let whole_until : text ≡ meals_text name 1 (before + count) ++ meals_text name (before + count + 1) (n - (before + count)) =
    kept.text_is ∙ cut_at name (before + count) n (omega (arith, within)) in
    let whole_from : text ≡ front ++ meals_text name (before + 1) (n - before) = kept.text_is ∙ cut_at name before n (omega (arith, within)) in
    let long : to - from ≡ length part = omega (arith, begins, end) in
    record {
      ordered = omega (arith, begins, end);
      from_cut = rw (whole_from, begins) (cut_before front name (before + 1) (n - before));
      to_cut = rw (whole_until, ends) (cut_before (meals_text name 1 (before + count)) name (before + count + 1) (n - (before + count)));
      part_is = ap (λ (l : List ℕ). take (to - from) (drop from l)) whole ∙ ap (take (to - from)) (drop_at front (part ++ rest) from (sym begins)) ∙ take_at part rest (to - from) (sym long);
    }

-- a part with a meal may be cut after its comma
pub cut_behind_comma : (name part : List ℕ) (first count : ℕ) → 1 ≤ count → part ≡ meals_text name first count → IsCharBoundary part 1
cut_behind_comma name part first zero some is = absurd (omega (arith, some))
cut_behind_comma name part first (suc count) some is =
    rw is (IsCharBoundary-before_ascii (meals_text name first (suc count)) 1 (omega arith) (omega arith))

-- the meals after their first comma begin a line
pub meals_at_first : (name part : List ℕ) (site first count : ℕ) → 1 ≤ count → part ≡ meals_text name first count
    → drop 1 part ≡ entries_text (λ (s : ℕ). name) (codes " ") (meals_from site first count)
meals_at_first name part site first zero some is = absurd (omega (arith, some))
meals_at_first name part site first (suc count) some is =
    ap (drop 1) is ∙ same_meals (λ (s : ℕ). name) (λ (s : ℕ). name) 0 site refl (codes " ") first (suc count)

-- the meals with their comma follow other entries
pub meals_behind : (name part : List ℕ) (site first count : ℕ) → part ≡ meals_text name first count → part ≡ entries_text (λ (s : ℕ). name) (codes ", ") (meals_from site first count)
meals_behind name part site first count is = is ∙ same_meals (λ (s : ℕ). name) (λ (s : ℕ). name) 0 site refl (codes ", ") first count

-- one start more
start_more : (starts : List ℕ) (start : ℕ) (place : ℕ → ℕ) → ((i d : ℕ) → i < length starts → slice_index_or starts i d ≡ place i) → start ≡ place (length starts)
    → (i d : ℕ) → i < length (starts ++ start ∷ []) → slice_index_or (starts ++ start ∷ []) i d ≡ place i
start_more [] start place so_far last zero d within = last
start_more [] start place so_far last (suc i) d within = absurd (omega (arith, within))
start_more (s ∷ starts) start place so_far last zero d within = so_far zero d (omega arith)
start_more (s ∷ starts) start place so_far last (suc i) d within =
    start_more starts start (λ (j : ℕ). place (suc j)) (λ (j e : ℕ) (inside : j < length starts). so_far (suc j) e (omega (arith, inside))) last i d (omega (arith, within))

-- one meal more was written
pub meal_more : (name text after starts : List ℕ) (k : ℕ) → length starts ≡ k + 1 → IsMealTexts name text starts
    → after ≡ text ++ (codes ", " ++ (name ++ codes "#" ++ decimal (k + 1))) → IsMealTexts name after (starts ++ length after ∷ [])
meal_more name text after starts k count kept put =
    let meal = codes ", " ++ (name ++ codes "#" ++ decimal (k + 1)) in
    let longer : length (starts ++ length after ∷ []) ≡ k + 2 = omega (arith, count, length-append starts (length after ∷ [])) in
    let so_far : text ≡ meals_text name 1 k = kept.text_is ∙ ap (λ (i : ℕ). meals_text name 1 (i - 1)) count ∙ ap (meals_text name 1) (omega arith) in
    let next : 1 + k ≡ k + 1 = omega arith in
    let last : meals_text name (1 + k) 1 ≡ meal = ap (λ (i : ℕ). meals_text name i 1) next ∙ append-nil meal in
    let whole : after ≡ meals_text name 1 (k + 1) = put ∙ ap (λ (l : List ℕ). l ++ meal) so_far ∙ ap (λ (l : List ℕ). meals_text name 1 k ++ l) (sym last) ∙ sym (meals_append name 1 k 1) in
    record {
      some = omega (arith, longer);
      starts_are = start_more starts (length after) (λ (i : ℕ). length (meals_text name 1 i)) kept.starts_are (ap length whole ∙ ap (λ (i : ℕ). length (meals_text name 1 i)) (sym count));
      text_is = whole ∙ ap (λ (i : ℕ). meals_text name 1 i) (omega (arith, longer));
    }

-- the text at the place of a site has its name
pub name_at : (plan : SeenPlan) (texts : List SeenMealTexts) (site : ℕ) (text : SeenMealTexts) → texts ≡ texts_of plan → site < length texts → text ≡ slice_index_or texts site text
    → text.name ≡ name_of plan site
name_at plan texts site text are within is =
    let told : SeenSite → SeenMealTexts = λ (s : SeenSite). record { name = s.name; meals = length s.jobs } in
    let inside : site < length plan.sites = omega (arith, within, ap length are, length-map plan.sites told) in
    let at : text ≡ told (slice_index_or plan.sites site no_site) = is ∙ ap (λ (l : List SeenMealTexts). slice_index_or l site text) are ∙ get_or-map told plan.sites site no_site text inside in
    ap (λ (t : SeenMealTexts). t.name) at

-- one text more
pub text_more : (plan : SeenPlan) (site : ℕ) (texts : List SeenMealTexts) (name : List ℕ) (meals : ℕ) → site < length plan.sites → texts ≡ take site (texts_of plan)
    → name ≡ name_of plan site → meals ≡ job_count plan site → texts ++ record { name = name; meals = meals } ∷ [] ≡ take (site + 1) (texts_of plan)
text_more plan site texts name meals within so_far named counted =
    let told : SeenSite → SeenMealTexts = λ (s : SeenSite). record { name = s.name; meals = length s.jobs } in
    let text : SeenMealTexts = record { name = name; meals = meals } in
    let last : get_or (texts_of plan) site text ≡ told (slice_index_or plan.sites site no_site) = get_or-map told plan.sites site no_site text within in
    let same : text ≡ get_or (texts_of plan) site text = cc (last, named, counted) in
    ap (λ (l : List SeenMealTexts). l ++ text ∷ []) so_far ∙ ap (λ (t : SeenMealTexts). take site (texts_of plan) ++ t ∷ []) same
    ∙ sym (take_more (texts_of plan) site text (omega (arith, within, length-map plan.sites told)))

-- all texts
pub texts_all : (plan : SeenPlan) (texts : List SeenMealTexts) (site : ℕ) → length plan.sites ≤ site → texts ≡ take site (texts_of plan) → texts ≡ texts_of plan
texts_all plan texts site past are =
    let told : SeenSite → SeenMealTexts = λ (s : SeenSite). record { name = s.name; meals = length s.jobs } in
    are ∙ take_all site (texts_of plan) (omega (arith, past, length-map plan.sites told))
