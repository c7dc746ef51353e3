-- The first refusal of a document is the first cause that holds of it.
use Rattle.std.proofs.Common.{◌≡◌, ℕ, zero, suc, ◌+◌, ◌<◌, ◌≤◌, ◌==◌, Bool, true, false, cond, ltb, List, [], ◌∷◌, ◌++◌, length, get_or, Option, Some, None, option_map, inl, inr, zero-add, eq-eqb, refl, sym, ap, subst, ◌∙◌, arith}
use Rattle.std.specs.List.{position, position_or_len, range_with_len, slice_get}
use Rattle.std.specs.Str.{bytes_eq}
use Rattle.std.proofs.lemmas.Bool.{false≢true, cases_lt, lt-ltb, le-ltb, ltb-true, eqb-true}
use Rattle.std.proofs.lemmas.Option.{same_Some}
use Rattle.std.proofs.lemmas.List.Quantifiers.{position-Some}
use Rattle.std.proofs.lemmas.List.Sums.{fails_before_first}
use Rattle.std.proofs.lemmas.List.FromFn.{length-range_with_len, get_or-range_with_len}
use Rattle.std.proofs.lemmas.List.{length-map}
use Rattle.toml.specs.Data.{Data}
use Rattle.dine_graph.specs.declared.limits.TheConstants.{MAX_EDGES, MAX_SITES, MAX_TEXT_JOBS}
use Rattle.dine_graph.specs.Plan.{no_site}
use Rattle.dine_draft.specs.Fault.{number_of_fault, position_of_fault}
use Rattle.dine_draft.specs.Refusals.{first_some, first_twice, stands_before, draft_refusals, site_refusals, end_refusals, pair_refusals, act_refusals, on, has_bad_name, has_many_jobs, has_many_turns, has_unknown_end, joined_by, is_loop, same_ends, has_large_act, has_large_value}
use Rattle.dine_draft.specs.declared.plan_fault.PlanFault.{PlanFault}
use Rattle.dine_draft.specs.declared.plan_fault.PlanFault.TheVariants.{NotToml, Version, UnknownKey, MissingKey, WrongKind, BadName, SiteTwice, NoSite, TooManySites, TooManyJobs, TurnsTooLarge, UnknownEnd, Loop, EdgeTwice, TooManyEdges, TwoActs, ActTooLarge, ValueTooLarge, UnknownPolicy, Memory}
use Rattle.dine_reader.specs.Document.{sites_in, has_two_acts, has_other_policy}
use Rattle.dine_reader.specs.PlanOf.{draft_of}
use Rattle.dine_reader.specs.RefusalFacts.{no_table, no_edge, PassesAt, Refuses, IsFirst, drafted_sites, drafted_edges, count_of, site_names, joined_pairs}
use Rattle.dine_reader.specs.RefusalTests.{first_refusal, form_refusals, refuses_version, refuses_unknown_key, refuses_missing_key, refuses_wrong_kind}

none_before : {A : Type 0} (os : List (Option A)) (k : ℕ) → ((j : ℕ) → j < k → slice_get os j ≡ Some None) → (j : ℕ) → j < suc k → slice_get (None ∷ os) j ≡ Some None
none_before os k h zero before = refl
none_before os k h (suc j) before = h j (omega arith)

-- the place of the first one of a list
found_at : {A : Type 0} (os : List (Option A)) (x : A) → first_some os ≡ Some x → (k : ℕ) × (slice_get os k ≡ Some (Some x)) × ((j : ℕ) → j < k → slice_get os j ≡ Some None)
found_at [] x h = absurd (cc)
found_at (None ∷ os) x h =
    let rest = found_at os x h in
    (suc rest.0, rest.1, none_before os rest.0 rest.2)
found_at (Some y ∷ os) x h = (0, ap Some h, λ j before. absurd (omega arith))

nowhere : {A : Type 0} (os : List (Option A)) (k : ℕ) (x : A) → first_some os ≡ None → slice_get os k ≡ Some (Some x) → ⊥
nowhere [] k x h at = cc
nowhere (None ∷ os) zero x h at = cc (same_Some _ _ at)
nowhere (None ∷ os) (suc k) x h at = nowhere os k x h at
nowhere (Some y ∷ os) k x h at = cc

-- the number of the cause at a place of the list: 16, that of `Memory`, is not one of them
number_of_entry : ℕ → ℕ
number_of_entry k = cond (ltb 13 k) (k + 3) (k + 2)

early_number : (k : ℕ) → k ≤ 13 → number_of_entry k ≡ k + 2
unfolding number_of_entry
early_number k early = rw (le-ltb 13 k early) refl

late_number : (k : ℕ) → 13 < k → number_of_entry k ≡ k + 3
unfolding number_of_entry
late_number k late = rw (lt-ltb 13 k late) refl

later_number : (i j : ℕ) → i < j → number_of_entry i < number_of_entry j
later_number i j before =
    elim (cases_lt 13 i) [
      | inl late ↦ omega (arith, late_number i late, late_number j (omega arith))
      | inr early ↦ elim (cases_lt 13 j) [
        | inl late ↦ omega (arith, early_number i early, late_number j late)
        | inr same ↦ omega (arith, early_number i early, early_number j same)
      ]
    ]

abbrev entries : Data → List (Option PlanFault)
entries doc = form_refusals doc ++ draft_refusals (draft_of doc)

first_entries : (doc : Data) → first_refusal doc ≡ first_some (entries doc)
unfolding first_refusal
first_entries doc = refl

-- a position, and the least one
passes_at : {A : Type 0} (test : A → Bool) (none : A) (items : List A) (i : ℕ) → position test items ≡ Some i → PassesAt test none items i
passes_at test none items i h = let at = position-Some test items i none h in (at.0, at.1)

least : {X : Type 0} (p : X → Bool) (xs : List X) (s : ℕ) (d : X) → s < length xs → p (get_or xs s d) ≡ true → (i : ℕ) × (position p xs ≡ Some i) × (i ≤ s)
least p xs s d within passes =
    elim (cases_lt s (position_or_len p xs)) [
      | inl before ↦ absurd (false≢true (sym (fails_before_first p xs s d before) ∙ passes))
      | inr no_later ↦ (position_or_len p xs, (let below : position_or_len p xs < length xs = omega arith in rw (lt-ltb (position_or_len p xs) (length xs) below)), no_later)
    ]

twice_at : {A : Type 0} (same : A → A → Bool) (none : A) (xs : List A) (i : ℕ) → first_twice same none xs ≡ Some i → (i < length xs) × (stands_before same none xs i ≡ true)
twice_at same none xs i h =
    let long : length (range_with_len 0 (length xs)) ≡ length xs = length-range_with_len 0 (length xs) in
    let at = position-Some (stands_before same none xs) (range_with_len 0 (length xs)) i 0 h in
    let within : i < length xs = omega (arith, at.0) in
    (within, rw (get_or-range_with_len 0 (length xs) i 0 within ∙ zero-add i) at at.1)

twice_least : {A : Type 0} (same : A → A → Bool) (none : A) (xs : List A) (s : ℕ) → s < length xs → stands_before same none xs s ≡ true → (i : ℕ) × (first_twice same none xs ≡ Some i) × (i ≤ s)
twice_least same none xs s within twice =
    let long : length (range_with_len 0 (length xs)) ≡ length xs = length-range_with_len 0 (length xs) in
    least (stands_before same none xs) (range_with_len 0 (length xs)) s 0 (omega arith) (rw (get_or-range_with_len 0 (length xs) s 0 within ∙ zero-add s) twice)

-- what an entry that is there says
abbrev Describes : Data → ℕ → PlanFault → Type 0
Describes doc n f = (number_of_fault f ≡ n) × Refuses doc f

from_on : (doc : Data) (fault f : PlanFault) (n : ℕ) (b : Bool) → number_of_fault fault ≡ n → (b ≡ true → Refuses doc fault) → on b fault ≡ Some f → Describes doc n f
from_on doc fault f n true numbered holds h = subst (Describes doc n) (same_Some _ _ h) (numbered, holds refl)
from_on doc fault f n false numbered holds h = absurd (cc)

from_map : (doc : Data) (fault : ℕ → PlanFault) (f : PlanFault) (n : ℕ) (o : Option ℕ) → ((i : ℕ) → number_of_fault (fault i) ≡ n) → ((i : ℕ) → o ≡ Some i → Refuses doc (fault i)) → option_map fault o ≡ Some f → Describes doc n f
from_map doc fault f n None numbered holds h = absurd (cc)
from_map doc fault f n (Some i) numbered holds h = subst (Describes doc n) (same_Some _ _ h) (numbered i, holds i refl)

-- there are as many pairs as edges
many_edges : (doc : Data) → MAX_EDGES < length (joined_pairs doc) → MAX_EDGES < length (drafted_edges doc)
many_edges doc h =
    let same = length-map (drafted_edges doc) (joined_by (count_of doc)) in
    omega arith

many_joined : (doc : Data) → MAX_EDGES < length (drafted_edges doc) → MAX_EDGES < length (joined_pairs doc)
many_joined doc h =
    let same = length-map (drafted_edges doc) (joined_by (count_of doc)) in
    omega arith

entry_holds : (doc : Data) (k : ℕ) (f : PlanFault) → slice_get (entries doc) k ≡ Some (Some f) → Describes doc (number_of_entry k) f
unfolding form_refusals draft_refusals site_refusals end_refusals pair_refusals act_refusals number_of_entry
entry_holds doc zero f at = from_on doc Version f 2 (refuses_version doc) refl (λ h. h) (same_Some _ _ at)
entry_holds doc (suc zero) f at = from_on doc UnknownKey f 3 (refuses_unknown_key doc) refl (λ h. h) (same_Some _ _ at)
entry_holds doc (suc (suc zero)) f at = from_on doc MissingKey f 4 (refuses_missing_key doc) refl (λ h. h) (same_Some _ _ at)
entry_holds doc (suc (suc (suc zero))) f at = from_on doc WrongKind f 5 (refuses_wrong_kind doc) refl (λ h. h) (same_Some _ _ at)
entry_holds doc (suc (suc (suc (suc zero)))) f at = from_map doc BadName f 6 (position has_bad_name (drafted_sites doc)) (λ _. refl) (passes_at has_bad_name no_site (drafted_sites doc)) (same_Some _ _ at)
entry_holds doc (suc (suc (suc (suc (suc zero))))) f at = from_map doc SiteTwice f 7 (first_twice bytes_eq [] (site_names doc)) (λ _. refl) (twice_at bytes_eq [] (site_names doc)) (same_Some _ _ at)
entry_holds doc (suc (suc (suc (suc (suc (suc zero)))))) f at = from_on doc NoSite f 8 (count_of doc == 0) refl (eqb-true (count_of doc) 0) (same_Some _ _ at)
entry_holds doc (suc (suc (suc (suc (suc (suc (suc zero))))))) f at = from_on doc TooManySites f 9 (ltb MAX_SITES (count_of doc)) refl (ltb-true MAX_SITES (count_of doc)) (same_Some _ _ at)
entry_holds doc (suc (suc (suc (suc (suc (suc (suc (suc zero)))))))) f at = from_map doc TooManyJobs f 10 (position (has_many_jobs MAX_TEXT_JOBS) (drafted_sites doc)) (λ _. refl) (passes_at (has_many_jobs MAX_TEXT_JOBS) no_site (drafted_sites doc)) (same_Some _ _ at)
entry_holds doc (suc (suc (suc (suc (suc (suc (suc (suc (suc zero))))))))) f at = from_map doc TurnsTooLarge f 11 (position has_many_turns (drafted_sites doc)) (λ _. refl) (passes_at has_many_turns no_site (drafted_sites doc)) (same_Some _ _ at)
entry_holds doc (suc (suc (suc (suc (suc (suc (suc (suc (suc (suc zero)))))))))) f at = from_map doc UnknownEnd f 12 (position (has_unknown_end (count_of doc)) (drafted_edges doc)) (λ _. refl) (passes_at (has_unknown_end (count_of doc)) no_edge (drafted_edges doc)) (same_Some _ _ at)
entry_holds doc (suc (suc (suc (suc (suc (suc (suc (suc (suc (suc (suc zero))))))))))) f at = from_map doc Loop f 13 (position (is_loop (count_of doc)) (drafted_edges doc)) (λ _. refl) (passes_at (is_loop (count_of doc)) no_edge (drafted_edges doc)) (same_Some _ _ at)
entry_holds doc (suc (suc (suc (suc (suc (suc (suc (suc (suc (suc (suc (suc zero)))))))))))) f at = from_map doc EdgeTwice f 14 (first_twice same_ends None (joined_pairs doc)) (λ _. refl) (twice_at same_ends None (joined_pairs doc)) (same_Some _ _ at)
entry_holds doc (suc (suc (suc (suc (suc (suc (suc (suc (suc (suc (suc (suc (suc zero))))))))))))) f at = from_on doc TooManyEdges f 15 (ltb MAX_EDGES (length (joined_pairs doc))) refl (λ h. many_edges doc (ltb-true MAX_EDGES (length (joined_pairs doc)) h)) (same_Some _ _ at)
entry_holds doc (suc (suc (suc (suc (suc (suc (suc (suc (suc (suc (suc (suc (suc (suc zero)))))))))))))) f at = from_map doc TwoActs f 17 (position has_two_acts (sites_in doc)) (λ _. refl) (passes_at has_two_acts no_table (sites_in doc)) (same_Some _ _ at)
entry_holds doc (suc (suc (suc (suc (suc (suc (suc (suc (suc (suc (suc (suc (suc (suc (suc zero))))))))))))))) f at = from_map doc ActTooLarge f 18 (position has_large_act (drafted_sites doc)) (λ _. refl) (passes_at has_large_act no_site (drafted_sites doc)) (same_Some _ _ at)
entry_holds doc (suc (suc (suc (suc (suc (suc (suc (suc (suc (suc (suc (suc (suc (suc (suc (suc zero)))))))))))))))) f at = from_map doc ValueTooLarge f 19 (position has_large_value (drafted_edges doc)) (λ _. refl) (passes_at has_large_value no_edge (drafted_edges doc)) (same_Some _ _ at)
entry_holds doc (suc (suc (suc (suc (suc (suc (suc (suc (suc (suc (suc (suc (suc (suc (suc (suc (suc zero))))))))))))))))) f at = from_map doc UnknownPolicy f 20 (position has_other_policy (sites_in doc)) (λ _. refl) (passes_at has_other_policy no_table (sites_in doc)) (same_Some _ _ at)
entry_holds doc (suc (suc (suc (suc (suc (suc (suc (suc (suc (suc (suc (suc (suc (suc (suc (suc (suc (suc k)))))))))))))))))) f at = absurd (cc)

-- the entry of a cause that holds
entry_of : (doc : Data) (g : PlanFault) → Refuses doc g → (j : ℕ) × (h : PlanFault) × (number_of_fault g ≡ number_of_entry j) × (slice_get (entries doc) j ≡ Some (Some h)) × (position_of_fault h ≤ position_of_fault g)
unfolding form_refusals draft_refusals site_refusals end_refusals pair_refusals act_refusals number_of_entry
entry_of doc NotToml holds = absurd holds
entry_of doc Version holds =
    (0, Version, refl, ap (λ b. Some (on b Version)) holds, omega arith)
entry_of doc UnknownKey holds =
    (1, UnknownKey, refl, ap (λ b. Some (on b UnknownKey)) holds, omega arith)
entry_of doc MissingKey holds =
    (2, MissingKey, refl, ap (λ b. Some (on b MissingKey)) holds, omega arith)
entry_of doc WrongKind holds =
    (3, WrongKind, refl, ap (λ b. Some (on b WrongKind)) holds, omega arith)
entry_of doc (BadName place) holds =
    let found = least has_bad_name (drafted_sites doc) place no_site holds.0 holds.1 in (4, BadName found.0, refl, ap (λ o. Some (option_map BadName o)) found.1, found.2)
entry_of doc (SiteTwice place) holds =
    let found = twice_least bytes_eq [] (site_names doc) place holds.0 holds.1 in (5, SiteTwice found.0, refl, ap (λ o. Some (option_map SiteTwice o)) found.1, found.2)
entry_of doc NoSite holds =
    (6, NoSite, refl, ap (λ b. Some (on b NoSite)) (eq-eqb (count_of doc) 0 holds), omega arith)
entry_of doc TooManySites holds =
    (7, TooManySites, refl, ap (λ b. Some (on b TooManySites)) (lt-ltb MAX_SITES (count_of doc) holds), omega arith)
entry_of doc (TooManyJobs place) holds =
    let found = least (has_many_jobs MAX_TEXT_JOBS) (drafted_sites doc) place no_site holds.0 holds.1 in (8, TooManyJobs found.0, refl, ap (λ o. Some (option_map TooManyJobs o)) found.1, found.2)
entry_of doc (TurnsTooLarge place) holds =
    let found = least has_many_turns (drafted_sites doc) place no_site holds.0 holds.1 in (9, TurnsTooLarge found.0, refl, ap (λ o. Some (option_map TurnsTooLarge o)) found.1, found.2)
entry_of doc (UnknownEnd place) holds =
    let found = least (has_unknown_end (count_of doc)) (drafted_edges doc) place no_edge holds.0 holds.1 in (10, UnknownEnd found.0, refl, ap (λ o. Some (option_map UnknownEnd o)) found.1, found.2)
entry_of doc (Loop place) holds =
    let found = least (is_loop (count_of doc)) (drafted_edges doc) place no_edge holds.0 holds.1 in (11, Loop found.0, refl, ap (λ o. Some (option_map Loop o)) found.1, found.2)
entry_of doc (EdgeTwice place) holds =
    let found = twice_least same_ends None (joined_pairs doc) place holds.0 holds.1 in (12, EdgeTwice found.0, refl, ap (λ o. Some (option_map EdgeTwice o)) found.1, found.2)
entry_of doc TooManyEdges holds =
    (13, TooManyEdges, refl, ap (λ b. Some (on b TooManyEdges)) (lt-ltb MAX_EDGES (length (joined_pairs doc)) (many_joined doc holds)), omega arith)
entry_of doc (TwoActs place) holds =
    let found = least has_two_acts (sites_in doc) place no_table holds.0 holds.1 in (14, TwoActs found.0, refl, ap (λ o. Some (option_map TwoActs o)) found.1, found.2)
entry_of doc (ActTooLarge place) holds =
    let found = least has_large_act (drafted_sites doc) place no_site holds.0 holds.1 in (15, ActTooLarge found.0, refl, ap (λ o. Some (option_map ActTooLarge o)) found.1, found.2)
entry_of doc (ValueTooLarge place) holds =
    let found = least has_large_value (drafted_edges doc) place no_edge holds.0 holds.1 in (16, ValueTooLarge found.0, refl, ap (λ o. Some (option_map ValueTooLarge o)) found.1, found.2)
entry_of doc (UnknownPolicy place) holds =
    let found = least has_other_policy (sites_in doc) place no_table holds.0 holds.1 in (17, UnknownPolicy found.0, refl, ap (λ o. Some (option_map UnknownPolicy o)) found.1, found.2)
entry_of doc Memory holds = absurd holds

same_entry : (os : List (Option PlanFault)) (f h : PlanFault) (k j : ℕ) → j ≡ k → slice_get os k ≡ Some (Some f) → slice_get os j ≡ Some (Some h) → h ≡ f
same_entry os f h k j same at_k at_j =
    let both : Some (Some h) ≡ Some (Some f) = sym at_j ∙ ap (slice_get os) same ∙ at_k in
    same_Some _ _ (same_Some _ _ both)

not_none : (os : List (Option PlanFault)) (h : PlanFault) (j : ℕ) → slice_get os j ≡ Some None → slice_get os j ≡ Some (Some h) → ⊥
not_none os h j none some = let both : None ≡ Some h = same_Some _ _ (sym none ∙ some) in cc

pub is_first : (doc : Data) (f : PlanFault) → first_refusal doc ≡ Some f → IsFirst doc f
is_first doc f h =
    let at = found_at (entries doc) f (sym (first_entries doc) ∙ h) in
    let is = entry_holds doc at.0 f at.1 in
    record {
      holds = is.1;
      first = λ g refuses.
          let entry = entry_of doc g refuses in
          elim (cases_lt at.0 entry.0) [
            | inl earlier ↦ inl (omega (arith, is.0, entry.2, later_number at.0 entry.0 earlier))
            | inr no_later ↦ elim (cases_lt entry.0 at.0) [
              | inl before ↦ absurd (not_none (entries doc) entry.1 entry.0 (at.2 entry.0 before) entry.3)
              | inr reached ↦
                  let same : entry.1 ≡ f = same_entry (entries doc) f entry.1 at.0 entry.0 (omega arith) at.1 entry.3 in
                  let there : at.0 ≡ entry.0 = omega arith in
                  inr (is.0 ∙ ap number_of_entry there ∙ sym entry.2, subst (λ (x : PlanFault). position_of_fault x ≤ position_of_fault g) same entry.4)
            ]
          ];
    }

pub none_holds : (doc : Data) (f : PlanFault) → first_refusal doc ≡ None → Refuses doc f → ⊥
none_holds doc f none refuses =
    let entry = entry_of doc f refuses in
    nowhere (entries doc) entry.0 entry.1 (sym (first_entries doc) ∙ none) entry.3
