-- The events that a site may do by itself, in the fixed order: how many there are, and which is the n-th.
use Rattle.std.proofs.Common.{◌≡◌, ◌≢◌, ℕ, zero, suc, ◌+◌, ◌-◌, ◌≤◌, ◌&&◌, nat_lt, not, Bool, true, false, cond, count_by, List, [], ◌∷◌, ◌++◌, length, map, slice_get, option_map, option_to_list, Option, Some, None, is_some, refl, sym, ◌∙◌, ap, arith, append_assoc, length-append}
use Rattle.std.specs.List.{filter, find, list_all, range_with_len}
use Rattle.std.proofs.lemmas.Bool.{lt-ltb}
use Rattle.std.proofs.lemmas.List.{length-map}
use Rattle.std.proofs.lemmas.List.Elements.{filter-append}
use Rattle.std.proofs.lemmas.Option.{slice_get-map}
use Rattle.dine_set.specs.Marks.{marks_of, nth_position}
use Rattle.dine_set.proofs.shared.MarksOf.{nth_position-marks_of, count_by-marks_of}
use Rattle.dine_rules.specs.declared.events.EventKind.{EventKind}
use Rattle.dine_rules.specs.declared.events.EventKind.TheVariants as event
use Rattle.dine_rules.specs.declared.phase.Phase.{Phase}
use Rattle.dine_rules.specs.declared.phase.Phase.TheVariants as phase
use Rattle.dine_rules.specs.Local.{is_eating, is_hungry, is_thinking}
use Rattle.dine_rules.specs.World.{placeless_kinds}
use Rattle.dine_site.specs.declared.site.places.Place.{Place}
use Rattle.dine_site.specs.Core.{SeenCore}
use Rattle.dine_site.specs.NextEvent.{can_by_itself, own_kinds}
use Rattle.dine_site.specs.private.OwnEvents.{may_ask_at, may_give_at, may_say_done_at, own_words}
use Rattle.dine_site.specs.Places.{can_close_at, is_ready_at, place_at}
use Rattle.dine_site.proofs.shared.own_events.NextEvents.{filter-map}
use Rattle.dine_site.proofs.own_events.MarkedEvents.{Agrees, as_it_is, marked_count, marked_nth}

-- ---- an element of two lists, one behind the other

pub within_front : {X : Type 0} (xs ys : List X) (n : ℕ) (x : X) → slice_get xs n ≡ Some x → slice_get (xs ++ ys) n ≡ Some x
within_front [] ys n x here = absurd (let e : None ≡ Some x = here in cc)
within_front (y ∷ xs) ys zero x here = here
within_front (y ∷ xs) ys (suc n) x here = within_front xs ys n x here

pub behind_front : {X : Type 0} (xs ys : List X) (n k : ℕ) → length xs + k ≡ n → slice_get (xs ++ ys) n ≡ slice_get ys k
behind_front [] ys n k is = ap (slice_get ys) (let e : n ≡ k = omega (arith, is) in e)
behind_front (x ∷ xs) ys zero k is = absurd (omega (arith, is))
behind_front (x ∷ xs) ys (suc n) k is = behind_front xs ys n k (omega (arith, is))

-- by these tests, all that pass, and the first that passes
abbrev all_of_four : Bool → Bool → Bool → Bool → List EventKind
all_of_four ends begins quits hungers =
    let hungry : List EventKind = cond hungers (event.Hungry ∷ []) [] in
    let quit : List EventKind = cond quits (event.Quit ∷ hungry) hungry in
    let begin : List EventKind = cond begins (event.Begin ∷ quit) quit in
    cond ends (event.End ∷ begin) begin

abbrev first_of_four : Bool → Bool → Bool → Bool → Option EventKind
first_of_four ends begins quits hungers = cond ends (Some event.End) (cond begins (Some event.Begin) (cond quits (Some event.Quit) (cond hungers (Some event.Hungry) None)))

one_alone : (hungers : Bool) → all_of_four false false false hungers ≡ option_to_list (first_of_four false false false hungers)
one_alone true = refl
one_alone false = refl

-- a site can do at most one of End, Begin, Quit and Hungry
one_of_phases : (phase : Phase) (begins must more stays : Bool)
    → all_of_four (is_eating phase) (is_hungry phase && begins) (is_thinking phase && must) (is_thinking phase && more && (not must && stays))
    ≡ option_to_list (first_of_four (is_eating phase) (is_hungry phase && begins) (is_thinking phase && must) (is_thinking phase && more && (not must && stays)))
one_of_phases phase.Thinking begins true true stays = refl
one_of_phases phase.Thinking begins true false stays = refl
one_of_phases phase.Thinking begins false more stays = one_alone (more && stays)
one_of_phases phase.Hungry true must more stays = refl
one_of_phases phase.Hungry false must more stays = refl
one_of_phases phase.Eating begins must more stays = refl

regroup : (a b c d e : List EventKind) → a ++ b ++ c ++ d ++ e ≡ a ++ (b ++ (c ++ d ++ e))
regroup a b c d e = simp append_assoc

module _ (core : SeenCore) where
  abbrev places : List ℕ
  places = range_with_len 0 (length core.places)

  abbrev test : EventKind → Bool
  test = can_by_itself core

  -- the events of a kind at the places that pass a test
  module _ (kind : ℕ → EventKind) (at : Place → Bool) (is : (i : ℕ) → test (kind i) ≡ (nat_lt i (length core.places) && at (place_at core i))) where
    agrees : Agrees at (λ i. test (kind i)) 0 core.places
    agrees i within =
        let here : 0 + i ≡ i = omega arith in
        ap (λ (k : ℕ). test (kind k)) here ∙ is i ∙ ap (λ (b : Bool). b && at (place_at core i)) (lt-ltb i (length core.places) within)

    count_of_kind : length (filter test (map kind places)) ≡ count_by at core.places
    count_of_kind = ap length (filter-map test kind places) ∙ length-map (filter (λ i. test (kind i)) places) kind ∙ marked_count at (λ i. test (kind i)) core.places 0 agrees

    nth_of_kind : (n : ℕ) → slice_get (filter test (map kind places)) n ≡ option_map kind (nth_position at n core.places)
    nth_of_kind n = ap (λ (kinds : List EventKind). slice_get kinds n) (filter-map test kind places) ∙ slice_get-map kind (filter (λ i. test (kind i)) places) n
        ∙ ap (option_map kind) (marked_nth at (λ i. test (kind i)) core.places 0 n agrees ∙ as_it_is (nth_position at n core.places))

    -- by the marks of the places
    module _ (marks : List Bool) (are : marks ≡ marks_of at core.places) where
      pub kind_count : length (filter test (map kind places)) ≡ count_by (λ is_in. is_in) marks
      kind_count = count_of_kind ∙ sym (count_by-marks_of at core.places) ∙ ap (count_by (λ is_in. is_in)) (sym are)

      pub kind_nth : (n : ℕ) → slice_get (filter test (map kind places)) n ≡ option_map kind (nth_position (λ is_in. is_in) n marks)
      kind_nth n = nth_of_kind n ∙ ap (option_map kind) (sym (nth_position-marks_of at n core.places) ∙ ap (nth_position (λ is_in. is_in) n) (sym are))

      -- with others behind it
      pub kind_here : (rest : List EventKind) (n i : ℕ) → Some i ≡ nth_position (λ is_in. is_in) n marks → slice_get (filter test (map kind places) ++ rest) n ≡ Some (kind i)
      kind_here rest n i found = within_front (filter test (map kind places)) rest n (kind i) (kind_nth n ∙ ap (option_map kind) (sym found))

      pub kind_past : (rest : List EventKind) (n k : ℕ) → k ≡ count_by (λ is_in. is_in) marks → count_by (λ is_in. is_in) marks ≤ n
          → slice_get (filter test (map kind places) ++ rest) n ≡ slice_get rest (n - k)
      kind_past rest n k is past = behind_front (filter test (map kind places)) rest n (n - k) (omega (arith, kind_count, is, past))

  pub phase_is : filter test placeless_kinds ≡ option_to_list (find test placeless_kinds)
  phase_is = one_of_phases core.phase (list_all is_ready_at core.places) core.must_quit (nat_lt core.ate core.due) (not core.has_quit)

  pub words_split : filter test (own_words places) ≡ filter test (map event.Ask places) ++ (filter test (map event.Done places) ++ filter test (map event.Close places))
  words_split =
      filter-append test (map event.Ask places ++ map event.Done places) (map event.Close places)
      ∙ ap (λ (kinds : List EventKind). kinds ++ filter test (map event.Close places)) (filter-append test (map event.Ask places) (map event.Done places))
      ∙ append_assoc (filter test (map event.Ask places)) (filter test (map event.Done places)) (filter test (map event.Close places))

  pub kinds_split : filter test (own_kinds places) ≡ filter test (map event.Give places) ++ (option_to_list (find test placeless_kinds) ++ filter test (own_words places))
  kinds_split =
      ap (filter test) (regroup (map event.Give places) placeless_kinds (map event.Ask places) (map event.Done places) (map event.Close places))
      ∙ filter-append test (map event.Give places) (placeless_kinds ++ own_words places)
      ∙ ap (λ (kinds : List EventKind). filter test (map event.Give places) ++ kinds)
      (filter-append test placeless_kinds (own_words places) ∙ ap (λ (kinds : List EventKind). kinds ++ filter test (own_words places)) phase_is)

  abbrev words : List EventKind
  words = filter test (own_words places)

  -- the n-th word: an Ask, or one behind the Asks
  module _ (asks : List Bool) (are : asks ≡ marks_of (may_ask_at core) core.places) (n : ℕ) where
    pub word_ask : (i : ℕ) → Some i ≡ nth_position (λ is_in. is_in) n asks → Some (event.Ask i) ≡ slice_get words n
    word_ask i found = sym (ap (λ (kinds : List EventKind). slice_get kinds n) words_split
        ∙ kind_here event.Ask (may_ask_at core) (λ j. refl) asks are (filter test (map event.Done places) ++ filter test (map event.Close places)) n i found)

    module _ (k : ℕ) (is : k ≡ count_by (λ is_in. is_in) asks) (past : count_by (λ is_in. is_in) asks ≤ n) where
      past_asks : slice_get words n ≡ slice_get (filter test (map event.Done places) ++ filter test (map event.Close places)) (n - k)
      past_asks = ap (λ (kinds : List EventKind). slice_get kinds n) words_split
          ∙ kind_past event.Ask (may_ask_at core) (λ j. refl) asks are (filter test (map event.Done places) ++ filter test (map event.Close places)) n k is past

      -- a Done, or a Close
      module _ (dones : List Bool) (are_dones : dones ≡ marks_of (may_say_done_at core) core.places) where
        pub word_done : (i : ℕ) → Some i ≡ nth_position (λ is_in. is_in) (n - k) dones → Some (event.Done i) ≡ slice_get words n
        word_done i found = sym (past_asks ∙ kind_here event.Done (may_say_done_at core) (λ j. refl) dones are_dones (filter test (map event.Close places)) (n - k) i found)

        pub word_close : (m : ℕ) → m ≡ count_by (λ is_in. is_in) dones → count_by (λ is_in. is_in) dones ≤ n - k
            → (closes : List Bool) → closes ≡ marks_of can_close_at core.places → (found : Option ℕ) → found ≡ nth_position (λ is_in. is_in) (n - k - m) closes
            → option_map event.Close found ≡ slice_get words n
        word_close m is_dones past_dones closes are_closes found here =
            ap (option_map event.Close) here ∙ sym (kind_nth event.Close can_close_at (λ j. refl) closes are_closes (n - k - m))
            ∙ sym (past_asks ∙ kind_past event.Done (may_say_done_at core) (λ j. refl) dones are_dones (filter test (map event.Close places)) (n - k) m is_dones past_dones)

  -- the n-th event: a Give, one without a place, or a word
  module _ (gives : List Bool) (are : gives ≡ marks_of (may_give_at core) core.places) (n : ℕ) where
    pub event_give : (i : ℕ) → Some i ≡ nth_position (λ is_in. is_in) n gives → Some (event.Give i) ≡ slice_get (filter test (own_kinds places)) n
    event_give i found = sym (ap (λ (kinds : List EventKind). slice_get kinds n) kinds_split
        ∙ kind_here event.Give (may_give_at core) (λ j. refl) gives are (option_to_list (find test placeless_kinds) ++ words) n i found)

    module _ (k : ℕ) (is : k ≡ count_by (λ is_in. is_in) gives) (past : count_by (λ is_in. is_in) gives ≤ n) where
      past_gives : (o : Option EventKind) → o ≡ find test placeless_kinds → slice_get (filter test (own_kinds places)) n ≡ slice_get (option_to_list o ++ words) (n - k)
      past_gives o is_phase = ap (λ (kinds : List EventKind). slice_get kinds n) kinds_split
          ∙ kind_past event.Give (may_give_at core) (λ j. refl) gives are (option_to_list (find test placeless_kinds) ++ words) n k is past
          ∙ ap (λ (o : Option EventKind). slice_get (option_to_list o ++ words) (n - k)) (sym is_phase)

      pub event_phase : (kind : EventKind) → Some kind ≡ find test placeless_kinds → n - k ≡ 0 → Some kind ≡ slice_get (filter test (own_kinds places)) n
      event_phase kind is_phase first = sym (past_gives (Some kind) is_phase ∙ ap (slice_get (kind ∷ words)) first)

      pub event_behind : (kind : EventKind) → Some kind ≡ find test placeless_kinds → n - k ≢ 0 → slice_get words (n - k - 1) ≡ slice_get (filter test (own_kinds places)) n
      event_behind kind is_phase behind = sym (past_gives (Some kind) is_phase ∙ ap (slice_get (kind ∷ words)) (let e : n - k ≡ suc (n - k - 1) = omega (arith, behind) in e))

      pub event_word : None ≡ find test placeless_kinds → slice_get words (n - k) ≡ slice_get (filter test (own_kinds places)) n
      event_word is_phase = sym (past_gives None is_phase)

  -- how many there are, by the marks
  pub count_is : (gives asks dones closes : List Bool) (phase : Option EventKind) → gives ≡ marks_of (may_give_at core) core.places → asks ≡ marks_of (may_ask_at core) core.places
      → dones ≡ marks_of (may_say_done_at core) core.places → closes ≡ marks_of can_close_at core.places → phase ≡ find test placeless_kinds
      → count_by (λ is_in. is_in) gives + cond (is_some phase) 1 0 + count_by (λ is_in. is_in) asks + count_by (λ is_in. is_in) dones + count_by (λ is_in. is_in) closes
      ≡ length (filter test (own_kinds places))
  count_is gives asks dones closes phase are_gives are_asks are_dones are_closes is_phase =
      let one : length (option_to_list phase) ≡ cond (is_some phase) 1 0 = one_long phase in
      let split : length (filter test (own_kinds places)) ≡ length (filter test (map event.Give places) ++ (option_to_list phase ++ filter test (own_words places))) =
      ap length kinds_split ∙ ap (λ (o : Option EventKind). length (filter test (map event.Give places) ++ (option_to_list o ++ filter test (own_words places)))) (sym is_phase) in
      omega (
        arith,
        split,
        one,
        ap length words_split,
        length-append (filter test (map event.Give places)) (option_to_list phase ++ filter test (own_words places)),
        length-append (option_to_list phase) (filter test (own_words places)),
        length-append (filter test (map event.Ask places)) (filter test (map event.Done places) ++ filter test (map event.Close places)),
        length-append (filter test (map event.Done places)) (filter test (map event.Close places)),
        kind_count event.Give (may_give_at core) (λ i. refl) gives are_gives,
        kind_count event.Ask (may_ask_at core) (λ i. refl) asks are_asks,
        kind_count event.Done (may_say_done_at core) (λ i. refl) dones are_dones,
        kind_count event.Close can_close_at (λ i. refl) closes are_closes,
      )
    where
      one_long : (o : Option EventKind) → length (option_to_list o) ≡ cond (is_some o) 1 0
      one_long None = refl
      one_long (Some kind) = refl
