-- Where the fork and the token of an edge are: of each there is one, at an end or in a link. Whether the fork is dirty.
use Rattle.std.proofs.Common.{◌≡◌, ℕ, ◌+◌, ◌*◌, ◌<◌, ◌≤◌, ◌==◌, ◌&&◌, ◌||◌, nat_lt, Bool, true, false, List, get_or, slice_get, length, zero-add, Option, Some, None, refl, sym, ◌∙◌, ap, subst, inl, inr, arith}
use Rattle.std.proofs.lemmas.Bool.{cond-true, cond-false, eqb-true, eqb-false, le-ltb, lt-ltb, ltb-true, ltb-false}
use Rattle.std.proofs.lemmas.List.FromFn.{get_or-map-range_with_len, length-map-range_with_len}
use Rattle.std.proofs.lemmas.Option.{same_Some, slice_get-get_or}
use Rattle.dine_token.specs.Fork.{SeenFork}
use Rattle.dine_token.specs.Log.{is_dirty}
use Rattle.dine_graph.specs.Plan.{SeenPlan, edge_count, hi_of, lo_of, site_count}
use Rattle.dine_rules.specs.declared.letters.Letter.{Letter}
use Rattle.dine_world.specs.declared.world.EdgeEnds.{EdgeEnds}
use Rattle.dine_world.specs.declared.world.sites.WorldSite.{WorldSite}
use Rattle.dine_world.specs.declared.world.whereabouts.Whereabouts.{Whereabouts}
use Rattle.dine_world.specs.declared.world.whereabouts.Whereabouts.TheVariants.{At, To}
use Rattle.dine_rules.specs.Holdings.{fork_at, hand_at, token_at}
use Rattle.dine_rules.specs.Letters.{forks_in, requests_in}
use Rattle.dine_rules.specs.Links.{queue_to}
use Rattle.dine_rules.specs.Precedence.{fork_log}
use Rattle.dine_rules.specs.Local.{LocalState}
use Rattle.dine_rules.specs.Streams.{KeepsStreams}
use Rattle.dine_rules.specs.World.{WorldState, place_of, state_of}
use Rattle.dine_rules.proofs.shared.ends_of_runs.ForkLogs.{log_in_hand}
use Rattle.dine_rules.proofs.shared.lists.Counting.{or_false}
use Rattle.dine_rules.proofs.shared.links.EdgeSums.{one_fork_of_edge, one_token_of_edge}
use Rattle.dine_rules.proofs.shared.links.WorldStreams.{WorldKeeps, reached_kept}
use Rattle.dine_rules.proofs.shared.precedence.Preference.{is_edge}
use Rattle.dine_site.specs.Core.{SeenCore, Refines}
use Rattle.dine_site.specs.Standing.{ForEachState}
use Rattle.dine_world.specs.Whereabouts.{IsForkAt, IsThere, IsTokenAt, ReportsWhere, at_edge, forks_at, forks_to, is_fork_dirty}
use Rattle.dine_world.specs.WorldSites.{IsSiteOf}
use Rattle.dine_world.specs.Worlds.{IsWorldOf, SeenWorld, ends_seen, fork_seen, forks_seen}
use Rattle.dine_world.specs.private.Found.{found_at}
use Rattle.dine_world.proofs.all_sites.ForkPlaces.{edges_count, ends_is, keeps, letters_low, letters_read}

-- ---- one thing of an edge

module _ (plan : SeenPlan) (e : ℕ) (held coming : ℕ → ℕ) (within : e < edge_count plan)
    (one : held (lo_of plan e) + coming (lo_of plan e) + (held (hi_of plan e) + coming (hi_of plan e)) ≡ 1) where
  abbrev low : ℕ
  low = lo_of plan e

  abbrev high : ℕ
  high = hi_of plan e

  -- it is where the tests tell
  found_there : (a b c : Bool) → a ≡ (held low == 1) → b ≡ nat_lt 0 (coming low) → c ≡ (held high == 1) → IsThere plan e held coming (found_at low high a b c)
  found_there true b c a_is b_is c_is = ((within, inl refl), eqb-true (held low) 1 (sym a_is))
  found_there false true c a_is b_is c_is = ((within, inl refl), omega (arith, one, ltb-true 0 (coming low) (sym b_is)))
  found_there false false true a_is b_is c_is = ((within, inr refl), eqb-true (held high) 1 (sym c_is))
  found_there false false false a_is b_is c_is = (
    (within, inr refl),
    omega (arith, one, eqb-false (held low) 1 (sym a_is), ltb-false 0 (coming low) (sym b_is), eqb-false (held high) 1 (sym c_is)),
  )

  not_both : (s t : ℕ) → IsThere plan e held coming (At s) → IsThere plan e held coming (To t) → ⊥
  not_both s t hs ht = elim hs.0.1 [
    | inl p ↦ elim ht.0.1 [ inl q ↦ omega (arith, one, hs.1, ht.1, ap held p, ap coming q) | inr q ↦ omega (arith, one, hs.1, ht.1, ap held p, ap coming q) ]
    | inr p ↦ elim ht.0.1 [ inl q ↦ omega (arith, one, hs.1, ht.1, ap held p, ap coming q) | inr q ↦ omega (arith, one, hs.1, ht.1, ap held p, ap coming q) ]
  ]

  -- and it is at one place alone
  there_once : (v w : Whereabouts) → IsThere plan e held coming v → IsThere plan e held coming w → v ≡ w
  there_once (At s) (At t) hs ht = elim hs.0.1 [
    | inl p ↦ elim ht.0.1 [ inl q ↦ ap (λ (x : ℕ). At x) (p ∙ sym q) | inr q ↦ absurd (omega (arith, one, hs.1, ht.1, ap held p, ap held q)) ]
    | inr p ↦ elim ht.0.1 [ inl q ↦ absurd (omega (arith, one, hs.1, ht.1, ap held p, ap held q)) | inr q ↦ ap (λ (x : ℕ). At x) (p ∙ sym q) ]
  ]
  there_once (To s) (To t) hs ht = elim hs.0.1 [
    | inl p ↦ elim ht.0.1 [ inl q ↦ ap (λ (x : ℕ). To x) (p ∙ sym q) | inr q ↦ absurd (omega (arith, one, hs.1, ht.1, ap coming p, ap coming q)) ]
    | inr p ↦ elim ht.0.1 [ inl q ↦ absurd (omega (arith, one, hs.1, ht.1, ap coming p, ap coming q)) | inr q ↦ ap (λ (x : ℕ). To x) (p ∙ sym q) ]
  ]
  there_once (At s) (To t) hs ht = absurd (not_both s t hs ht)
  there_once (To s) (At t) hs ht = absurd (not_both t s ht hs)

  found_where : (a b c : Bool) → a ≡ (held low == 1) → b ≡ nat_lt 0 (coming low) → c ≡ (held high == 1) → ReportsWhere plan e (IsThere plan e held coming) (Some (found_at low high a b c))
  found_where a b c a_is b_is c_is =
      let there = found_there a b c a_is b_is c_is in
      record { there = there; only = λ other h. ap (λ (x : Whereabouts). Some x) (there_once (found_at low high a b c) other there h) }

-- ---- the fork in two hands

-- The one hand that holds it tells whether it is dirty, and where none does it is not.
of_lower : (a b : ℕ) (x y : Bool) → a ≡ 1 → b ≡ 0 → ((a == 1 && x) || (b == 1 && y)) ≡ x
of_lower a b x y here gone = ap (λ (n : ℕ). (n == 1 && x) || (b == 1 && y)) here ∙ ap (λ (n : ℕ). x || (n == 1 && y)) gone ∙ or_false x

of_higher : (a b : ℕ) (x y : Bool) → a ≡ 0 → b ≡ 1 → ((a == 1 && x) || (b == 1 && y)) ≡ y
of_higher a b x y gone here = ap (λ (n : ℕ). (n == 1 && x) || (b == 1 && y)) gone ∙ ap (λ (n : ℕ). n == 1 && y) here

of_neither : (a b : ℕ) (x y : Bool) → a ≡ 0 → b ≡ 0 → ((a == 1 && x) || (b == 1 && y)) ≡ false
of_neither a b x y gone away = ap (λ (n : ℕ). (n == 1 && x) || (b == 1 && y)) gone ∙ ap (λ (n : ℕ). n == 1 && y) away

-- ---- what is read at the ends of an edge

-- the core's answer is whether it holds one, by the whole lists
abbrev pub TellsOne : (SeenPlan → ℕ → LocalState → ℕ → ℕ) → SeenCore → ℕ → Bool → Type 0
TellsOne count core i answer = ForEachState core (λ plan state. answer ≡ (count plan core.site state i == 1))

-- how many of something of the edge a site holds, and how many lie in the link to it
abbrev pub held_of : SeenPlan → WorldState → (SeenPlan → ℕ → LocalState → ℕ → ℕ) → ℕ → ℕ → ℕ
held_of plan world count e s = count plan s (state_of world s) (place_of plan s e)

abbrev pub coming_of : SeenPlan → WorldState → (List Letter → ℕ) → ℕ → ℕ → ℕ
coming_of plan world among e s = among (queue_to plan world s (place_of plan s e))

-- of an edge there is one such thing
abbrev pub IsOne : SeenPlan → WorldState → (SeenPlan → ℕ → LocalState → ℕ → ℕ) → (List Letter → ℕ) → ℕ → Type 0
IsOne plan world count among e =
    held_of plan world count e (lo_of plan e) + coming_of plan world among e (lo_of plan e) + (held_of plan world count e (hi_of plan e) + coming_of plan world among e (hi_of plan e)) ≡ 1

-- what was read of an edge: its ends, the sites there, and the link to the lower one
pub record IsReadAt (seen : SeenWorld) (e : ℕ) (ends : EdgeEnds) (low_site high_site : WorldSite) (letters : List Letter) : Type 0 where
  pub within : e < length seen.edges
  pub edge : ends ≡ get_or seen.edges e ends
  pub lower : low_site ≡ get_or seen.sites ends.lower low_site
  pub higher : high_site ≡ get_or seen.sites ends.higher high_site
  pub link : letters ≡ get_or seen.links (2 * e + 1) letters

module _ (plan : SeenPlan) (world : WorldState) (seen : SeenWorld) (is : IsWorldOf plan world seen) where
  kept : WorldKeeps plan world
  kept = reached_kept plan is.reached.events world is.reached.is_plan is.reached.reaches

  one_at : (count : SeenPlan → ℕ → LocalState → ℕ → ℕ) (s i : ℕ) (world_site : WorldSite) (answer : Bool) → s < site_count plan → world_site ≡ get_or seen.sites s world_site
      → TellsOne count world_site.core i answer → answer ≡ (count plan s (state_of world s) i == 1)
  one_at count s i world_site answer is_site read tells =
      let site : world_site.core.site ≡ s = ap (λ (x : WorldSite). x.core.site) read ∙ is.sites.site s world_site is_site in
      let keeps_it : KeepsStreams plan world_site.core.site (state_of world s) = subst (λ (x : WorldSite). KeepsStreams plan x.core.site (state_of world s)) (sym read) (keeps plan world seen is s is_site world_site) in
      let stands : Refines plan (state_of world s) world_site.core = (subst (IsSiteOf plan (state_of world s)) (sym read) (is.sites.stands s world_site is_site)).core in
      tells plan (state_of world s) keeps_it stands ∙ ap (λ (x : ℕ). count plan x (state_of world s) i == 1) site

  -- one thing of an edge is where the tests at its ends and of the letters to the lower one tell
  found_by : (count : SeenPlan → ℕ → LocalState → ℕ → ℕ) (among : List Letter → ℕ) (e : ℕ)
      → (e < edge_count plan → IsOne plan world count among e)
      → (ends : EdgeEnds) (low_site high_site : WorldSite) (letters : List Letter) (a b c : Bool) → IsReadAt seen e ends low_site high_site letters
      → TellsOne count low_site.core ends.lower_place a → b ≡ nat_lt 0 (among letters) → TellsOne count high_site.core ends.higher_place c
      → ReportsWhere plan e (IsThere plan e (held_of plan world count e) (coming_of plan world among e)) (Some (found_at ends.lower ends.higher a b c))
  found_by count among e one ends low_site high_site letters a b c read low_tells link_tells high_tells =
      let within : e < edge_count plan = omega (arith, read.within, edges_count plan world seen is) in
      let same : ends ≡ ends_seen plan e = read.edge ∙ ends_is plan world seen is e ends within in
      let w = is_edge plan e is.reached.is_plan within in
      let in_link : letters ≡ queue_to plan world (lo_of plan e) (place_of plan (lo_of plan e) e) = letters_read seen.links (2 * e + 1) letters (omega (arith, within, is.links.count)) read.link ∙ letters_low plan world seen is e within in
      let lower : low_site ≡ get_or seen.sites (lo_of plan e) low_site = subst (λ (x : EdgeEnds). low_site ≡ get_or seen.sites x.lower low_site) same read.lower in
      let higher : high_site ≡ get_or seen.sites (hi_of plan e) high_site = subst (λ (x : EdgeEnds). high_site ≡ get_or seen.sites x.higher high_site) same read.higher in
      subst (λ (x : EdgeEnds). ReportsWhere plan e (IsThere plan e (held_of plan world count e) (coming_of plan world among e)) (Some (found_at x.lower x.higher a b c))) (sym same)
      (found_where plan e (held_of plan world count e) (coming_of plan world among e) within (one within) a b c
      (one_at count (lo_of plan e) (place_of plan (lo_of plan e) e) low_site a w.low_site lower (subst (λ (x : EdgeEnds). TellsOne count low_site.core x.lower_place a) same low_tells))
      (link_tells ∙ ap (λ (x : List Letter). nat_lt 0 (among x)) in_link)
      (one_at count (hi_of plan e) (place_of plan (hi_of plan e) e) high_site c w.high_site higher (subst (λ (x : EdgeEnds). TellsOne count high_site.core x.higher_place c) same high_tells)))

  pub fork_found : (e : ℕ) (ends : EdgeEnds) (low_site high_site : WorldSite) (letters : List Letter) (a b c : Bool) → IsReadAt seen e ends low_site high_site letters
      → TellsOne fork_at low_site.core ends.lower_place a → b ≡ nat_lt 0 (forks_in letters) → TellsOne fork_at high_site.core ends.higher_place c
      → ReportsWhere plan e (IsForkAt plan world e) (Some (found_at ends.lower ends.higher a b c))
  fork_found e = found_by fork_at forks_in e (λ within. one_fork_of_edge plan is.reached.is_plan world kept e within)

  pub token_found : (e : ℕ) (ends : EdgeEnds) (low_site high_site : WorldSite) (letters : List Letter) (a b c : Bool) → IsReadAt seen e ends low_site high_site letters
      → TellsOne token_at low_site.core ends.lower_place a → b ≡ nat_lt 0 (requests_in letters) → TellsOne token_at high_site.core ends.higher_place c
      → ReportsWhere plan e (IsTokenAt plan world e) (Some (found_at ends.lower ends.higher a b c))
  token_found e = found_by token_at requests_in e (λ within. one_token_of_edge plan is.reached.is_plan world kept e within)

  -- there is none past the edges
  pub found_past : (e : ℕ) (held coming : ℕ → ℕ) → length seen.edges ≤ e → ReportsWhere plan e (IsThere plan e held coming) None
  found_past e held coming past =
      let count = edges_count plan world seen is in
      record { there = omega (arith, past, count); only = past_all } where
        past_all : (other : Whereabouts) → IsThere plan e held coming other → ◌≡◌ {A = Option Whereabouts} None (Some other)
        past_all (At s) h = absurd (omega (arith, past, edges_count plan world seen is, h.0.0))
        past_all (To s) h = absurd (omega (arith, past, edges_count plan world seen is, h.0.0))

  -- ---- whether the fork is dirty

  abbrev held : ℕ → ℕ → ℕ
  held e s = forks_at plan world e s

  -- the log of a fork at a site is the one in its hand
  log_at : (e s : ℕ) → IsForkAt plan world e (At s) → fork_log plan world e ≡ hand_at s (state_of world s) (place_of plan s e)
  log_at e s here =
      let w = is_edge plan e is.reached.is_plan here.0.0 in
      let at = log_in_hand plan is.reached.is_plan world kept in
      elim here.0.1 [
        | inl p ↦ subst (λ (x : ℕ). held e x ≡ 1 → fork_log plan world e ≡ hand_at x (state_of world x) (place_of plan x e)) (sym p)
            (λ one. ap (fork_log plan world) (sym w.low_edge) ∙ at (lo_of plan e) (place_of plan (lo_of plan e) e) w.low_site w.low_within one) here.1
        | inr p ↦ subst (λ (x : ℕ). held e x ≡ 1 → fork_log plan world e ≡ hand_at x (state_of world x) (place_of plan x e)) (sym p)
            (λ one. ap (fork_log plan world) (sym w.high_edge) ∙ at (hi_of plan e) (place_of plan (hi_of plan e) e) w.high_site w.high_within one) here.1
      ]

  -- a fork at a site is dirty where its log is
  pub dirty_at : (e s : ℕ) → IsForkAt plan world e (At s) → is_fork_dirty plan world e ≡ is_dirty (fork_log plan world e)
  dirty_at e s here =
      let one = one_fork_of_edge plan is.reached.is_plan world kept e here.0.0 in
      let log = log_at e s here in
      let dirty : ℕ → Bool = λ x. is_dirty (hand_at x (state_of world x) (place_of plan x e)) in
      elim here.0.1 [
        | inl p ↦
            let low_has : held e (lo_of plan e) ≡ 1 = ap (held e) (sym p) ∙ here.1 in
            let high_lacks : held e (hi_of plan e) ≡ 0 = omega (arith, one, low_has) in
            of_lower _ _ (dirty (lo_of plan e)) (dirty (hi_of plan e)) low_has high_lacks ∙ sym (ap is_dirty log ∙ ap dirty p)
        | inr p ↦
            let high_has : held e (hi_of plan e) ≡ 1 = ap (held e) (sym p) ∙ here.1 in
            let low_lacks : held e (lo_of plan e) ≡ 0 = omega (arith, one, high_has) in
            of_higher _ _ (dirty (lo_of plan e)) (dirty (hi_of plan e)) low_lacks high_has ∙ sym (ap is_dirty log ∙ ap dirty p)
      ]

  -- and one on its way is not
  pub dirty_on_way : (e s : ℕ) → IsForkAt plan world e (To s) → is_fork_dirty plan world e ≡ false
  dirty_on_way e s coming =
      let one = one_fork_of_edge plan is.reached.is_plan world kept e coming.0.0 in
      let some : 1 ≤ forks_to plan world e (lo_of plan e) + forks_to plan world e (hi_of plan e) = elim coming.0.1 [
        | inl p ↦ omega (arith, coming.1, ap (forks_to plan world e) p)
        | inr p ↦ omega (arith, coming.1, ap (forks_to plan world e) p)
      ] in
      let low_lacks : held e (lo_of plan e) ≡ 0 = omega (arith, one, some) in
      let high_lacks : held e (hi_of plan e) ≡ 0 = omega (arith, one, some) in
      of_neither _ _ _ _ low_lacks high_lacks

  -- an edge has its fork, with the log that the whole lists give
  fork_there : (e : ℕ) → e < edge_count plan → slice_get (forks_seen plan world) e ≡ Some (fork_seen plan world e)
  fork_there e within =
      slice_get-get_or (forks_seen plan world) e (fork_seen plan world e) (omega (arith, within, length-map-range_with_len (fork_seen plan world) 0 (edge_count plan)))
      ∙ ap (λ (f : SeenFork). Some f) (get_or-map-range_with_len (fork_seen plan world) 0 (edge_count plan) e e (fork_seen plan world e) within (zero-add e))

  pub log_seen : (e : ℕ) (fork : SeenFork) → e < edge_count plan → Some fork ≡ slice_get (forks_seen plan world) e → fork.log ≡ fork_log plan world e
  log_seen e fork within found = ap (λ (f : SeenFork). f.log) (same_Some fork (fork_seen plan world e) (found ∙ fork_there e within))

  pub fork_not_none : (e : ℕ) → e < edge_count plan → None ≡ slice_get (forks_seen plan world) e → ⊥
  fork_not_none e within none = let same : ◌≡◌ {A = Option SeenFork} None (Some (fork_seen plan world e)) = none ∙ fork_there e within in absurd cc

  -- what is said of an edge is said where there is one
  pub said_of_edge : {A : Type 0} (e : ℕ) (answer other : A) → e < edge_count plan → answer ≡ other → Some answer ≡ at_edge plan e other
  said_of_edge {A} e answer other within same = ap (λ (x : A). Some x) same ∙ sym (cond-true (nat_lt e (edge_count plan)) (Some other) None (lt-ltb e (edge_count plan) within))

  pub not_said : {A : Type 0} (e : ℕ) (answer : A) → edge_count plan ≤ e → None ≡ at_edge plan e answer
  not_said e answer past = sym (cond-false (nat_lt e (edge_count plan)) (Some answer) None (le-ltb e (edge_count plan) past))
