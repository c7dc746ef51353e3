-- The outcomes that journals show: read event by event, and the plan that has them.
use Rattle.std.proofs.Common.{◌≡◌, ◌≢◌, ℕ, zero, suc, ◌+◌, ◌<◌, ◌≤◌, Bool, true, false, List, [], ◌∷◌, ◌++◌, length, map, replicate, get_or, set, refl, sym, ◌∙◌, ap, ap₂, inl, inr, arith, length-append, length-set}
use Rattle.std.specs.List.{range_with_len}
use Rattle.std.proofs.lemmas.Bool.{cases_eq}
use Rattle.std.proofs.lemmas.List.{ext_get_or, get_or-replicate, get_or-set_other, get_or-set_same, length-map, length-replicate}
use Rattle.std.proofs.lemmas.List.FromFn.{get_or-map-range_with_len, length-map-range_with_len}
use Rattle.dine_token.specs.declared.log_entry.Entry.{Entry}
use Rattle.dine_token.specs.declared.log_entry.Entry.TheVariants.{Meal, Move}
use Rattle.dine_token.specs.declared.act.Act.{Act}
use Rattle.dine_token.specs.Values.{value_after_act}
use Rattle.dine_graph.specs.Plan.{SeenPlan, act_of, hi_of, lo_of, site_count, value_of}
use Rattle.dine_rules.specs.declared.events.Event.{Event}
use Rattle.dine_rules.specs.declared.events.EventKind.{EventKind}
use Rattle.dine_rules.specs.declared.events.EventKind.TheVariants.{End, Quit}
use Rattle.dine_rules.specs.Journals.{fails_before, outcomes_in}
use Rattle.dine_rules.specs.declared.events.Shape.{Shape}
use Rattle.dine_rules.specs.Steps.{shape_of, fork_by}
use Rattle.dine_rules.specs.Values.{value_along, value_by}
use Rattle.dine_rules.proofs.shared.journals.OtherOutcomes.{acts-same, jobs-same}
use Rattle.dine_rules.proofs.shared.journals.Shown.{all_long, own_is, own_long}
pub use Rattle.dine_rules.proofs.shared.journals.Shown.{sites_shown}
use Rattle.dine_world.specs.Worlds.{AreOutcomesFor}
use Rattle.dine_rules.specs.Shown.{plan_shown, shown_by, shown_in}
use Rattle.dine_order.specs.private.Searching.{outcomes_after, receiver_by, receiver_of}

-- ---- an event more of a journal

fails_before-end : (kinds : List EventKind) → fails_before false (kinds ++ End ∷ []) ≡ fails_before false kinds
fails_before-end [] = refl
fails_before-end (Quit ∷ kinds) = refl
fails_before-end (End ∷ kinds) = refl
fails_before-end (kind ∷ kinds) = fails_before-end kinds

outcomes-end : (kinds : List EventKind) → outcomes_in false (kinds ++ End ∷ []) ≡ outcomes_in false kinds ++ false ∷ []
outcomes-end [] = refl
outcomes-end (End ∷ kinds) = ap₂ (λ (b : Bool) (rest : List Bool). b ∷ rest) (fails_before-end kinds) (outcomes-end kinds)
outcomes-end (kind ∷ kinds) = outcomes-end kinds

fails_before-other : (kinds : List EventKind) (kind : EventKind) → kind ≢ End → kind ≢ Quit → fails_before false (kinds ++ kind ∷ []) ≡ fails_before false kinds
fails_before-other [] End not_end not_quit = refl
fails_before-other [] Quit not_end not_quit = absurd (not_quit refl)
fails_before-other [] kind not_end not_quit = refl
fails_before-other (Quit ∷ kinds) kind not_end not_quit = refl
fails_before-other (End ∷ kinds) kind not_end not_quit = refl
fails_before-other (first ∷ kinds) kind not_end not_quit = fails_before-other kinds kind not_end not_quit

outcomes-other : (kinds : List EventKind) (kind : EventKind) → kind ≢ End → kind ≢ Quit → outcomes_in false (kinds ++ kind ∷ []) ≡ outcomes_in false kinds
outcomes-other [] End not_end not_quit = absurd (not_end refl)
outcomes-other [] kind not_end not_quit = refl
outcomes-other (End ∷ kinds) kind not_end not_quit = ap₂ (λ (b : Bool) (rest : List Bool). b ∷ rest) (fails_before-other kinds kind not_end not_quit) (outcomes-other kinds kind not_end not_quit)
outcomes-other (first ∷ kinds) kind not_end not_quit = outcomes-other kinds kind not_end not_quit

-- whether a meal failed if Quit comes after these events: it did if no meal ended in between
abbrev quit_behind : List Bool → Bool → Bool
quit_behind [] failed = true
quit_behind (next ∷ outcomes) failed = failed

quit_already : (outcomes : List Bool) → true ≡ quit_behind outcomes true
quit_already [] = refl
quit_already (next ∷ outcomes) = refl

fails_before-quit : (kinds : List EventKind) → fails_before false (kinds ++ Quit ∷ []) ≡ quit_behind (outcomes_in false kinds) (fails_before false kinds)
fails_before-quit [] = refl
fails_before-quit (Quit ∷ kinds) = quit_already (outcomes_in false kinds)
fails_before-quit (End ∷ kinds) = refl
fails_before-quit (kind ∷ kinds) = fails_before-quit kinds

outcomes_after-first : (outcomes : List Bool) (failed : Bool) → quit_behind outcomes failed ∷ outcomes_after (length outcomes) outcomes ≡ outcomes_after (suc (length outcomes)) (failed ∷ outcomes)
outcomes_after-first [] failed = refl
outcomes_after-first (next ∷ outcomes) failed = refl

outcomes-quit : (kinds : List EventKind) → outcomes_in false (kinds ++ Quit ∷ []) ≡ outcomes_after (length (outcomes_in false kinds)) (outcomes_in false kinds)
outcomes-quit [] = refl
outcomes-quit (End ∷ kinds) =
    ap₂ (λ (b : Bool) (rest : List Bool). b ∷ rest) (fails_before-quit kinds) (outcomes-quit kinds) ∙ outcomes_after-first (outcomes_in false kinds) (fails_before false kinds)
outcomes-quit (kind ∷ kinds) = outcomes-quit kinds

-- the number of meals that ended
pub ended-end : (kinds : List EventKind) → length (outcomes_in false (kinds ++ End ∷ [])) ≡ length (outcomes_in false kinds) + 1
ended-end kinds = ap length (outcomes-end kinds) ∙ length-append (outcomes_in false kinds) (false ∷ [])

outcomes_after-length : (n : ℕ) (outcomes : List Bool) → length (outcomes_after n outcomes) ≡ length outcomes
outcomes_after-length zero outcomes = refl
outcomes_after-length (suc k) outcomes = length-set outcomes k true

pub ended-quit : (kinds : List EventKind) → length (outcomes_in false (kinds ++ Quit ∷ [])) ≡ length (outcomes_in false kinds)
ended-quit kinds = ap length (outcomes-quit kinds) ∙ outcomes_after-length (length (outcomes_in false kinds)) (outcomes_in false kinds)

pub ended-other : (kinds : List EventKind) (kind : EventKind) → kind ≢ End → kind ≢ Quit → length (outcomes_in false (kinds ++ kind ∷ [])) ≡ length (outcomes_in false kinds)
ended-other kinds kind not_end not_quit = ap length (outcomes-other kinds kind not_end not_quit)

-- ---- the outcomes of a number of jobs

-- the outcomes at the places of the jobs
abbrev listed : ℕ → List Bool → List Bool
listed jobs outcomes = map (λ k. get_or outcomes k false) (range_with_len 0 jobs)

listed-same : (first second : List Bool) (a n : ℕ) → ((k : ℕ) → get_or first k false ≡ get_or second k false) → map (λ k. get_or first k false) (range_with_len a n) ≡ map (λ k. get_or second k false) (range_with_len a n)
listed-same first second a zero same = refl
listed-same first second a (suc n) same = ap₂ (λ (b : Bool) (rest : List Bool). b ∷ rest) (same a) (listed-same first second (a + 1) n same)

none_more : (outcomes : List Bool) (k : ℕ) → get_or (outcomes ++ false ∷ []) k false ≡ get_or outcomes k false
none_more [] zero = refl
none_more [] (suc k) = refl
none_more (first ∷ outcomes) zero = refl
none_more (first ∷ outcomes) (suc k) = none_more outcomes k

-- to note in the list of the jobs is to note in that of the meals
listed-outcomes_after : (jobs n : ℕ) (outcomes : List Bool) → n ≤ length outcomes → outcomes_after n (listed jobs outcomes) ≡ listed jobs (outcomes_after n outcomes)
listed-outcomes_after jobs zero outcomes few = refl
listed-outcomes_after jobs (suc k) outcomes few =
    let long : length (listed jobs outcomes) ≡ jobs = length-map-range_with_len (λ j. get_or outcomes j false) 0 jobs in
    ext_get_or false (set (listed jobs outcomes) k true) (listed jobs (set outcomes k true)) (length-set (listed jobs outcomes) k true ∙ long ∙ sym (length-map-range_with_len (λ j. get_or (set outcomes k true) j false) 0 jobs))
    (λ j within.
    let below : j < jobs = omega (arith, within, length-set (listed jobs outcomes) k true, long) in
    let right = get_or-map-range_with_len (λ i. get_or (set outcomes k true) i false) 0 jobs j j false below (omega arith) in
    elim (cases_eq j k) [
      | inl same ↦
          let inside : k < length (listed jobs outcomes) = omega (arith, below, long, same) in
          ap (λ (i : ℕ). get_or (set (listed jobs outcomes) k true) i false) same ∙ get_or-set_same (listed jobs outcomes) k true false inside
          ∙ sym (right ∙ ap (λ (i : ℕ). get_or (set outcomes k true) i false) same ∙ get_or-set_same outcomes k true false (omega (arith, few)))
      | inr differs ↦
          get_or-set_other (listed jobs outcomes) k j true false differs ∙ get_or-map-range_with_len (λ i. get_or outcomes i false) 0 jobs j j false below (omega arith)
          ∙ sym (right ∙ get_or-set_other outcomes k j true false differs)
    ])

pub shown-end : (jobs : ℕ) (kinds : List EventKind) → shown_in jobs (kinds ++ End ∷ []) ≡ shown_in jobs kinds
shown-end jobs kinds = ap (listed jobs) (outcomes-end kinds) ∙ listed-same (outcomes_in false kinds ++ false ∷ []) (outcomes_in false kinds) 0 jobs (none_more (outcomes_in false kinds))

pub shown-quit : (jobs : ℕ) (kinds : List EventKind) → shown_in jobs (kinds ++ Quit ∷ []) ≡ outcomes_after (length (outcomes_in false kinds)) (shown_in jobs kinds)
shown-quit jobs kinds = ap (listed jobs) (outcomes-quit kinds) ∙ sym (listed-outcomes_after jobs (length (outcomes_in false kinds)) (outcomes_in false kinds) (omega arith))

pub shown-other : (jobs : ℕ) (kinds : List EventKind) (kind : EventKind) → kind ≢ End → kind ≢ Quit → shown_in jobs (kinds ++ kind ∷ []) ≡ shown_in jobs kinds
shown-other jobs kinds kind not_end not_quit = ap (listed jobs) (outcomes-other kinds kind not_end not_quit)

-- at first none is shown
none_at : (k : ℕ) → get_or [] k false ≡ false
none_at zero = refl
none_at (suc k) = refl

pub shown-none : (jobs : ℕ) → replicate jobs false ≡ shown_in jobs []
shown-none jobs =
    let same = length-map-range_with_len (λ k. get_or [] k false) 0 jobs in
    ext_get_or false (replicate jobs false) (listed jobs []) (length-replicate jobs false ∙ sym same) (λ k within.
    let below : k < jobs = omega (arith, within, length-replicate jobs false) in
    get_or-replicate jobs k false false below ∙ sym (get_or-map-range_with_len (λ i. get_or [] i false) 0 jobs k k false below (omega arith) ∙ none_at k))

-- ---- the plan whose jobs fail as the journals show

module _ (plan : SeenPlan) (journals : List (List EventKind)) where
  abbrev other : SeenPlan
  other = plan_shown plan journals

  abbrev fails : List (List Bool)
  fails = shown_by plan journals

  pub are_outcomes : AreOutcomesFor plan fails
  are_outcomes = record {
    sites = all_long plan journals;
    jobs = λ s past is_site. ap length (own_is plan journals s past is_site) ∙ own_long plan journals s;
  }

  -- a letter of an event goes to the same site
  receiver-same : (s : ℕ) (shape : Shape) → receiver_by plan s shape ≡ receiver_by other s shape
  receiver-same s shape = refl

  pub receiver_shown : (e : Event) → receiver_of plan e ≡ receiver_of other e
  receiver_shown e = receiver-same e.site (shape_of e.kind)

  -- a log gives the same fork
  value-same : (log : List Entry) (value : ℕ) → value_along plan log value ≡ value_along other log value
  value-same [] value = refl
  value-same (Meal s k ∷ log) value = ap (λ (act : Act). value_along plan log (value_after_act act value)) (sym (acts-same plan fails s k)) ∙ value-same log (value_after_act (act_of other s k) value)
  value-same (Move to ∷ log) value = value-same log value

  pub fork_shown : (edge : ℕ) (log : List Entry) → fork_by plan edge log ≡ fork_by other edge log
  fork_shown edge log =
      ap₂ (λ (a b : ℕ). record { edge = edge; ends = (lo_of plan edge, hi_of plan edge); due = (a, b); log = log; value = value_by plan edge log }) (sym (jobs-same plan fails (lo_of plan edge))) (sym (jobs-same plan fails (hi_of plan edge)))
      ∙ ap (λ (v : ℕ). record (fork_by other edge log) { value = v }) (value-same log (value_of plan edge))

-- there is a journal for each site of the plan and of that plan
pub counted_too : {J : Type 0} (plan : SeenPlan) (events : J → List EventKind) (journals : List J) → length journals ≡ site_count plan
    → length (map events journals) ≡ site_count (plan_shown plan (map events journals))
counted_too plan events journals count = length-map journals events ∙ count ∙ sym (sites_shown plan (map events journals))
