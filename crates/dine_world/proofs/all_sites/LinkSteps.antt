-- What a letter that is put or taken does to the links of the world.
use Rattle.std.proofs.Common.{◌≡◌, ◌≢◌, ℕ, zero, suc, ◌<◌, ◌≤◌, List, [], ◌∷◌, ◌++◌, length, drop, get_or, slice_set, refl, sym, ◌∙◌, ap, subst, inl, inr, arith, add-one}
use Rattle.std.proofs.lemmas.Bool.{cases_eq}
use Rattle.std.proofs.lemmas.List.{get_or-set_same, get_or-set_other, length-set, length_push, drop-append-le}
use Rattle.dine_graph.specs.Plan.{SeenPlan, IsPlan, site_count, edges_of}
use Rattle.dine_rules.specs.declared.letters.Letter.{Letter}
use Rattle.dine_rules.specs.Local.{LocalState, Traffic, no_traffic, traffic_at, edge_at, neighbour_at}
use Rattle.dine_rules.specs.World.{WorldState, no_state, state_of, place_of, put_to}
use Rattle.dine_rules.specs.Links.{queue_to}
use Rattle.dine_world.specs.WorldSites.{letters_in}
use Rattle.dine_world.specs.private.StepsOfSites.{with_letter, without_next}
use Rattle.dine_world.specs.Worlds.{AreLinksOf, number_to}
use Rattle.dine_rules.proofs.shared.links.Across.{across}
use Rattle.dine_rules.proofs.shared.links.WorldStreams.{WorldKeeps, prefix_short}
use Rattle.dine_world.proofs.all_sites.LinkNumbers.{number_from, to_in_range, same_place, from_is_to, to_is_from, back_at}

-- one more is dropped
drop_more : (m : ℕ) (xs : List Letter) → drop (suc m) xs ≡ drop 1 (drop m xs)
drop_more zero xs = refl
drop_more (suc m) [] = refl
drop_more (suc m) (x ∷ xs) = drop_more m xs

module _ (plan : SeenPlan) (is_plan : IsPlan plan) (world : WorldState) (kept : WorldKeeps plan world) (s : ℕ) (is_site : s < site_count plan) (new : LocalState) where
  abbrev new_world : WorldState
  new_world = slice_set world s new

  here : state_of new_world s ≡ new
  here = get_or-set_same world s new no_state (omega (arith, kept.sites))

  elsewhere : (t : ℕ) → t ≢ s → state_of new_world t ≡ state_of world t
  elsewhere t other = get_or-set_other world s t new no_state other

  -- the links stand where no traffic changes
  pub links-same : new.traffic ≡ (state_of world s).traffic → (links : List (List Letter)) → AreLinksOf plan world links → AreLinksOf plan new_world links
  links-same same links stand = record {
    count = stand.count;
    letters = λ t j is_t within. stand.letters t j is_t within ∙ sym (ap (λ (x : List Traffic). drop (length (get_or x j no_traffic).taken) (put_to plan new_world t j)) (traffic_same t)
        ∙ ap (λ (x : List Traffic). drop (length (traffic_at (state_of world t) j).taken) (get_or x (place_of plan (neighbour_at plan t j) (edge_at plan t j)) no_traffic).put) (traffic_same (neighbour_at plan t j)));
  } where
    traffic_same : (t : ℕ) → (state_of new_world t).traffic ≡ (state_of world t).traffic
    traffic_same t = elim (cases_eq t s) [
      | inl is ↦ subst (λ (x : ℕ). (state_of new_world x).traffic ≡ (state_of world x).traffic) (sym is) (ap (λ (x : LocalState). x.traffic) here ∙ same)
      | inr other ↦ ap (λ (x : LocalState). x.traffic) (elsewhere t other)
    ]

  module _ (i : ℕ) (within_i : i < length (edges_of plan s)) (traffic : Traffic) (changes : new.traffic ≡ slice_set (state_of world s).traffic i traffic) where
    abbrev old_traffic : Traffic
    old_traffic = traffic_at (state_of world s) i

    long : i < length (state_of world s).traffic
    long = omega (arith, (kept.keeps s is_site).every_place)

    traffic_here : traffic_at (state_of new_world s) i ≡ traffic
    traffic_here = ap (λ (x : LocalState). traffic_at x i) here ∙ ap (λ (x : List Traffic). get_or x i no_traffic) changes ∙ get_or-set_same (state_of world s).traffic i traffic no_traffic long

    -- the traffic of another place stays
    traffic_elsewhere : (t j : ℕ) → ((t ≡ s) × (j ≡ i) → ⊥) → traffic_at (state_of new_world t) j ≡ traffic_at (state_of world t) j
    traffic_elsewhere t j differs = elim (cases_eq t s) [
      | inl is ↦ subst (λ (x : ℕ). traffic_at (state_of new_world x) j ≡ traffic_at (state_of world x) j) (sym is)
          (ap (λ (x : LocalState). traffic_at x j) here ∙ ap (λ (x : List Traffic). get_or x j no_traffic) changes ∙ get_or-set_other (state_of world s).traffic i j traffic no_traffic (λ e. differs (is, e)))
      | inr other ↦ ap (λ (x : LocalState). traffic_at x j) (elsewhere t other)
    ]

    -- a part of the traffic that the change leaves as it was stays everywhere
    part_same : {A : Type 0} (f : Traffic → A) → f traffic ≡ f old_traffic → (t j : ℕ) → f (traffic_at (state_of new_world t) j) ≡ f (traffic_at (state_of world t) j)
    part_same f same t j = elim (cases_eq t s) [
      | inr other ↦ ap f (traffic_elsewhere t j (λ w. other w.0))
      | inl is ↦ elim (cases_eq j i) [
        | inr other ↦ ap f (traffic_elsewhere t j (λ w. other w.1))
        | inl at ↦ subst (λ (x : ℕ). f (traffic_at (state_of new_world x) j) ≡ f (traffic_at (state_of world x) j)) (sym is)
            (subst (λ (k : ℕ). f (traffic_at (state_of new_world s) k) ≡ f (traffic_at (state_of world s) k)) (sym at) (ap f traffic_here ∙ same))
      ]
    ]

    -- a letter is put: it lies last in the link that leads away
    pub links-put : (l : Letter) → traffic.put ≡ old_traffic.put ++ l ∷ [] → traffic.taken ≡ old_traffic.taken → (links : List (List Letter)) → AreLinksOf plan world links
        → AreLinksOf plan new_world (with_letter links (number_from plan s i) l)
    links-put l puts takes links stand = record {
      count = length-set links (number_from plan s i) _ ∙ stand.count;
      letters = λ t j is_t within. elim (cases_eq (number_to plan t j) (number_from plan s i)) [
        | inl same ↦ at_link t j is_t within same
        | inr other ↦ get_or-set_other links (number_from plan s i) (number_to plan t j) _ [] other ∙ stand.letters t j is_t within
            ∙ sym (queue_by t j ∙ ap (λ (x : Traffic). drop (length (traffic_at (state_of world t) j).taken) x.put) (traffic_elsewhere (neighbour_at plan t j) (across_place t j) (not_here t j within other)))
      ];
    } where
      across_place : ℕ → ℕ → ℕ
      across_place t j = place_of plan (neighbour_at plan t j) (edge_at plan t j)

      taken_same : (t j : ℕ) → (traffic_at (state_of new_world t) j).taken ≡ (traffic_at (state_of world t) j).taken
      taken_same = part_same (λ x. x.taken) takes

      queue_by : (t j : ℕ) → queue_to plan new_world t j ≡ drop (length (traffic_at (state_of world t) j).taken) (put_to plan new_world t j)
      queue_by t j = ap (λ (x : List Letter). drop (length x) (put_to plan new_world t j)) (taken_same t j)

      not_here : (t j : ℕ) → j < length (edges_of plan t) → number_to plan t j ≢ number_from plan s i → (neighbour_at plan t j ≡ s) × (across_place t j ≡ i) → ⊥
      not_here t j within other w = other (to_is_from plan t j (neighbour_at plan t j) (across_place t j) (across plan t j is_plan within)
          ∙ ap (λ (x : ℕ). number_from plan x (across_place t j)) w.0 ∙ ap (number_from plan s) w.1)

      at_link : (t j : ℕ) → t < site_count plan → j < length (edges_of plan t) → number_to plan t j ≡ number_from plan s i
          → letters_in (with_letter links (number_from plan s i) l) (number_to plan t j) ≡ queue_to plan new_world t j
      at_link t j is_t within same =
          let n : ℕ = neighbour_at plan s i in
          let k : ℕ = place_of plan n (edge_at plan s i) in
          let over = across plan s i is_plan within_i in
          let is = same_place plan t j n k is_plan within over.within (same ∙ from_is_to plan s i n k over) in
          let back : neighbour_at plan t j ≡ s = ap (λ (x : ℕ). neighbour_at plan x j) is.0 ∙ ap (neighbour_at plan n) is.1 ∙ over.back in
          let at : across_place t j ≡ i = ap (λ (x : ℕ). across_place x j) is.0 ∙ ap (across_place n) is.1 ∙ back_at plan s i n k within_i over in
          let in_range : number_from plan s i < length links = omega (arith, same, to_in_range plan t j is_plan within, stand.count) in
          let old_put : put_to plan world t j ≡ old_traffic.put = ap (λ (x : ℕ). (traffic_at (state_of world x) (across_place t j)).put) back ∙ ap (λ (x : ℕ). (traffic_at (state_of world s) x).put) at in
          let new_put : put_to plan new_world t j ≡ old_traffic.put ++ l ∷ [] = ap (λ (x : ℕ). (traffic_at (state_of new_world x) (across_place t j)).put) back ∙ ap (λ (x : ℕ). (traffic_at (state_of new_world s) x).put) at ∙ ap (λ (x : Traffic). x.put) traffic_here ∙ puts in
          let taken : List Letter = (traffic_at (state_of world t) j).taken in
          let short : length taken ≤ length old_traffic.put = subst (λ (x : List Letter). length taken ≤ length x) old_put (prefix_short taken (put_to plan world t j) (kept.links t j is_t within)) in
          ap (letters_in (with_letter links (number_from plan s i) l)) same ∙ get_or-set_same links (number_from plan s i) _ [] in_range
          ∙ ap (λ (x : List Letter). x ++ l ∷ []) (ap (letters_in links) (sym same) ∙ stand.letters t j is_t within ∙ ap (drop (length taken)) old_put)
          ∙ sym (drop-append-le (length taken) old_traffic.put (l ∷ []) short) ∙ ap (drop (length taken)) (sym new_put) ∙ sym (queue_by t j)

    -- a letter is taken: the link to the place has one letter fewer
    pub links-taken : (l : Letter) → traffic.put ≡ old_traffic.put → traffic.taken ≡ old_traffic.taken ++ l ∷ [] → (links : List (List Letter)) → AreLinksOf plan world links
        → AreLinksOf plan new_world (without_next links (number_to plan s i))
    links-taken l puts takes links stand = record {
      count = length-set links (number_to plan s i) _ ∙ stand.count;
      letters = λ t j is_t within. elim (cases_eq (number_to plan t j) (number_to plan s i)) [
        | inl same ↦ at_link t j is_t within same
        | inr other ↦ get_or-set_other links (number_to plan s i) (number_to plan t j) _ [] other ∙ stand.letters t j is_t within
            ∙ sym (queue_by t j ∙ ap (λ (x : Traffic). drop (length x.taken) (put_to plan world t j)) (traffic_elsewhere t j (λ w. other (ap (λ (x : ℕ). number_to plan x j) w.0 ∙ ap (number_to plan s) w.1))))
      ];
    } where
      put_same : (t j : ℕ) → put_to plan new_world t j ≡ put_to plan world t j
      put_same t j = part_same (λ x. x.put) puts (neighbour_at plan t j) (place_of plan (neighbour_at plan t j) (edge_at plan t j))

      queue_by : (t j : ℕ) → queue_to plan new_world t j ≡ drop (length (traffic_at (state_of new_world t) j).taken) (put_to plan world t j)
      queue_by t j = ap (drop (length (traffic_at (state_of new_world t) j).taken)) (put_same t j)

      at_here : letters_in (without_next links (number_to plan s i)) (number_to plan s i) ≡ queue_to plan new_world s i
      at_here =
          let in_range : number_to plan s i < length links = omega (arith, to_in_range plan s i is_plan within_i, stand.count) in
          let put : List Letter = put_to plan world s i in
          get_or-set_same links (number_to plan s i) _ [] in_range ∙ ap (drop 1) (stand.letters s i is_site within_i) ∙ sym (drop_more (length old_traffic.taken) put)
          ∙ ap (λ (m : ℕ). drop m put) (sym (ap length takes ∙ length_push old_traffic.taken l ∙ add-one (length old_traffic.taken))) ∙ ap (λ (x : Traffic). drop (length x.taken) put) (sym traffic_here) ∙ sym (queue_by s i)

      at_link : (t j : ℕ) → t < site_count plan → j < length (edges_of plan t) → number_to plan t j ≡ number_to plan s i
          → letters_in (without_next links (number_to plan s i)) (number_to plan t j) ≡ queue_to plan new_world t j
      at_link t j is_t within same =
          let is = same_place plan t j s i is_plan within within_i same in
          subst (λ (x : ℕ). letters_in (without_next links (number_to plan s i)) (number_to plan x j) ≡ queue_to plan new_world x j) (sym is.0)
          (subst (λ (k : ℕ). letters_in (without_next links (number_to plan s i)) (number_to plan s k) ≡ queue_to plan new_world s k) (sym is.1) at_here)
