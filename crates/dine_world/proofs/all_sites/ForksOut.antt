-- Forks that are taken out of a world, edge by edge.
use Rattle.std.proofs.Common.{◌≡◌, ◌≢◌, ℕ, zero, suc, ◌+◌, ◌*◌, ◌<◌, ◌≤◌, List, [], ◌∷◌, ◌++◌, length, get_or, slice_get, Option, Some, refl, sym, ◌∙◌, ap, ap₂, subst, inl, inr, arith, length-append}
use Rattle.std.specs.Option.{option_or}
use Rattle.std.proofs.lemmas.Bool.{cases_eq}
use Rattle.std.proofs.lemmas.List.{get_or-set_same, get_or-set_other, length-set}
use Rattle.dine_token.specs.Fork.{SeenFork}
use Rattle.dine_rules.specs.declared.letters.Letter.{Letter}
use Rattle.dine_site.specs.declared.site.places.Place.{Place}
use Rattle.dine_site.specs.declared.site.places.ForkSlot.TheVariants.{Away}
use Rattle.dine_world.specs.declared.world.sites.WorldSite.{WorldSite}
use Rattle.dine_world.specs.declared.world.EdgeEnds.{EdgeEnds}
use Rattle.dine_site.specs.Core.{SeenCore}
use Rattle.dine_site.specs.Places.{no_place, place_at, after_give}
use Rattle.dine_world.specs.WorldSites.{letters_in}
use Rattle.dine_world.specs.private.Forks.{absent_site, site_at, edge_ends, fork_in_slot, fork_at_site, first_fork, behind_fork, fork_of_edge, IsPlaceOf, IsEdgeAt, HasAllForks, AreForksOf, without_fork_at, without_fork}

-- ---- one place is emptied

-- the place, when its fork is out
abbrev place_without : Place → Place
place_without place = record place { fork = Away }

module _ (core : SeenCore) (i : ℕ) where
  other_place : (j : ℕ) → j ≢ i → place_at (after_give i core) j ≡ place_at core j
  other_place j differs = get_or-set_other core.places i j (place_without (place_at core i)) no_place differs

  same_place : i < length core.places → place_at (after_give i core) i ≡ place_without (place_at core i)
  same_place within = get_or-set_same core.places i (place_without (place_at core i)) no_place within

  -- each place stays that of its edge
  same_edges : (j : ℕ) → j < length core.places → (place_at (after_give i core) j).edge ≡ (place_at core j).edge
  same_edges j within = elim (cases_eq j i) [
    | inl same ↦
        let P : ℕ → Type 0 = λ k. k < length core.places → (place_at (after_give i core) k).edge ≡ (place_at core k).edge in
        subst P (sym same) (λ h. ap (λ (p : Place). p.edge) (same_place h)) within
    | inr differs ↦ ap (λ (p : Place). p.edge) (other_place j differs)
  ]

-- ---- one site gives the fork of a place out

-- the site, when its fork is out
abbrev world_site_without : ℕ → WorldSite → WorldSite
world_site_without i world_site = record world_site { core = after_give i world_site.core }

module _ (sites : List WorldSite) (s i : ℕ) (site : s < length sites) where
  other_world_site : (t : ℕ) (d : WorldSite) → t ≢ s → get_or (without_fork_at s i sites) t d ≡ get_or sites t d
  other_world_site t d differs = get_or-set_other sites s t (world_site_without i (site_at sites s)) d differs

  same_world_site : (d : WorldSite) → get_or (without_fork_at s i sites) s d ≡ world_site_without i (site_at sites s)
  same_world_site d = get_or-set_same sites s (world_site_without i (site_at sites s)) d site

  length-emptied : length (without_fork_at s i sites) ≡ length sites
  length-emptied = length-set sites s (world_site_without i (site_at sites s))

  -- each place is there as before
  pub place-emptied : (t j e : ℕ) → IsPlaceOf sites t j e → IsPlaceOf (without_fork_at s i sites) t j e
  place-emptied t j e is = elim (cases_eq t s) [
    | inl same ↦ subst (λ (x : ℕ). IsPlaceOf sites x j e → IsPlaceOf (without_fork_at s i sites) x j e) (sym same) here is
    | inr differs ↦ record {
      site = omega (arith, is.site, length-emptied);
      place = subst (λ (x : WorldSite). j < length x.core.places) (sym (other_world_site t absent_site differs)) is.place;
      edge = ap (λ (x : WorldSite). (place_at x.core j).edge) (other_world_site t absent_site differs) ∙ is.edge;
    }
  ]
    where
      here : IsPlaceOf sites s j e → IsPlaceOf (without_fork_at s i sites) s j e
      here is = record {
        site = omega (arith, is.site, length-emptied);
        place = subst (λ (x : WorldSite). j < length x.core.places) (sym (same_world_site absent_site)) (omega (arith, is.place, length-set (site_at sites s).core.places i (place_without (place_at (site_at sites s).core i))));
        edge = ap (λ (x : WorldSite). (place_at x.core j).edge) (same_world_site absent_site) ∙ same_edges (site_at sites s).core i j is.place ∙ is.edge;
      }

  -- the forks of other places stay
  pub fork-emptied : (t j : ℕ) → (t ≡ s → j ≡ i → ⊥) → fork_at_site (site_at (without_fork_at s i sites) t) j ≡ fork_at_site (site_at sites t) j
  fork-emptied t j apart = elim (cases_eq t s) [
    | inl same ↦ subst (λ (x : ℕ). fork_at_site (site_at (without_fork_at s i sites) x) j ≡ fork_at_site (site_at sites x) j) (sym same)
        (ap (λ (x : WorldSite). fork_at_site x j) (same_world_site absent_site) ∙ ap (λ (p : Place). fork_in_slot (site_at sites s).meal j p.fork) (other_place (site_at sites s).core i j (apart same)))
    | inr differs ↦ ap (λ (x : WorldSite). fork_at_site x j) (other_world_site t absent_site differs)
  ]

-- places of two edges are not one
apart : (sites : List WorldSite) (t j e s i k : ℕ) → IsPlaceOf sites t j e → IsPlaceOf sites s i k → e ≢ k → t ≡ s → j ≡ i → ⊥
apart sites t j e s i k one other differs same_site same = differs (sym one.edge ∙ ap₂ (λ (x y : ℕ). (place_at (site_at sites x).core y).edge) same_site same ∙ other.edge)

-- ---- one link

other_link : (links : List (List Letter)) (n m : ℕ) → m ≢ n → letters_in (without_fork n links) m ≡ letters_in links m
other_link links n m differs = get_or-set_other links n m (behind_fork (letters_in links n)) [] differs

-- ---- edge by edge

-- a list with one fork more
get_last : (forks : List SeenFork) (fork : SeenFork) (e : ℕ) → e ≡ length forks → slice_get (forks ++ fork ∷ []) e ≡ Some fork
get_last [] fork e h = ap (slice_get (fork ∷ [])) h
get_last (x ∷ forks) fork e h = ap (slice_get (x ∷ forks ++ fork ∷ [])) h ∙ get_last forks fork (length forks) refl

get_before : (forks : List SeenFork) (fork : SeenFork) (e : ℕ) → e < length forks → slice_get (forks ++ fork ∷ []) e ≡ slice_get forks e
get_before [] fork e h = absurd (omega arith)
get_before (x ∷ forks) fork zero h = refl
get_before (x ∷ forks) fork (suc e) h = get_before forks fork e (omega arith)

pub same_four : (a b c d w x y z : Option SeenFork) → a ≡ w → b ≡ x → c ≡ y → d ≡ z → option_or (option_or (option_or a b) c) d ≡ option_or (option_or (option_or w x) y) z
same_four a b c d w x y z aw bx cy dz = ap₂ option_or (ap₂ option_or (ap₂ option_or aw bx) cy) dz

-- The forks of the first k edges are out: they are the forks of these edges, and each other fork is where it was.
pub record AreOut (first : List WorldSite) (first_links : List (List Letter)) (edges : List EdgeEnds) (k : ℕ) (forks : List SeenFork) (sites : List WorldSite) (links : List (List Letter)) : Type 0 where
  pub count : length forks ≡ k
  pub taken : (e : ℕ) → e < k → slice_get forks e ≡ fork_of_edge first first_links (edge_ends edges e) e
  pub places : (s i e : ℕ) → IsPlaceOf first s i e → IsPlaceOf sites s i e
  pub as_many : length links ≡ length first_links
  pub rest : (e : ℕ) → k ≤ e → e < length edges → fork_of_edge sites links (edge_ends edges e) e ≡ fork_of_edge first first_links (edge_ends edges e) e

module _ (first : List WorldSite) (first_links : List (List Letter)) (edges : List EdgeEnds) (all : HasAllForks first first_links edges)
    (k : ℕ) (forks : List SeenFork) (sites : List WorldSite) (links : List (List Letter)) (out : AreOut first first_links edges k forks sites links) (within : k < length edges) where
  abbrev ends : EdgeEnds
  ends = edge_ends edges k

  -- the ends of an edge that comes are there
  pub edge_there : (e : ℕ) → e < length edges → IsEdgeAt sites links (edge_ends edges e) e
  edge_there e h =
      let w = all.ends e h in
      record {
        ordered = w.ordered;
        lower = out.places (edge_ends edges e).lower (edge_ends edges e).lower_place e w.lower;
        higher = out.places (edge_ends edges e).higher (edge_ends edges e).higher_place e w.higher;
        within = omega (arith, w.within, out.as_many);
      }

  -- and the fork of the next one is that of the start
  pub next_is : (fork : Option SeenFork) → fork ≡ fork_of_edge sites links ends k → fork ≡ Some (all.forks k within).0
  next_is fork is = is ∙ out.rest k (omega arith) within ∙ (all.forks k within).1

  -- the sites when the fork of the lower end is out, and when that of the higher is
  abbrev after_lower : List WorldSite
  after_lower = without_fork_at ends.lower ends.lower_place sites

  abbrev pub after_both : List WorldSite
  after_both = without_fork_at ends.higher ends.higher_place after_lower

  here : IsEdgeAt sites links ends k
  here = edge_there k within

  higher_there : IsPlaceOf after_lower ends.higher ends.higher_place k
  higher_there = place-emptied sites ends.lower ends.lower_place here.lower.site ends.higher ends.higher_place k here.higher

  -- the fork at a place of another edge stays
  world_site_stays : (t j e : ℕ) → IsPlaceOf sites t j e → e ≢ k → fork_at_site (site_at after_both t) j ≡ fork_at_site (site_at sites t) j
  world_site_stays t j e is differs =
      fork-emptied after_lower ends.higher ends.higher_place higher_there.site t j (apart sites t j e ends.higher ends.higher_place k is here.higher differs)
      ∙ fork-emptied sites ends.lower ends.lower_place here.lower.site t j (apart sites t j e ends.lower ends.lower_place k is here.lower differs)

  abbrev pub links_after : List (List Letter)
  links_after = without_fork (2 * k) (without_fork (2 * k + 1) links)

  -- and so do the letters of another link
  link_stays : (m : ℕ) → m ≢ 2 * k → m ≢ 2 * k + 1 → letters_in links_after m ≡ letters_in links m
  link_stays m even odd = other_link (without_fork (2 * k + 1) links) (2 * k) m even ∙ other_link links (2 * k + 1) m odd

  edge_stays : (e : ℕ) → k < e → e < length edges → fork_of_edge after_both links_after (edge_ends edges e) e ≡ fork_of_edge sites links (edge_ends edges e) e
  edge_stays e later h =
      let w = edge_there e h in
      let differs : e ≢ k = λ same. omega arith in
      same_four _ _ _ _ _ _ _ _
      (world_site_stays (edge_ends edges e).lower (edge_ends edges e).lower_place e w.lower differs)
      (ap first_fork (link_stays (2 * e + 1) (λ same. omega arith) (λ same. omega arith)))
      (world_site_stays (edge_ends edges e).higher (edge_ends edges e).higher_place e w.higher differs)
      (ap first_fork (link_stays (2 * e) (λ same. omega arith) (λ same. omega arith)))

  -- one fork more
  pub one_more : (fork : SeenFork) → Some fork ≡ fork_of_edge sites links ends k → AreOut first first_links edges (k + 1) (forks ++ fork ∷ []) after_both links_after
  one_more fork is = record {
    count = length-append forks (fork ∷ []) ∙ ap (λ (n : ℕ). n + 1) out.count;
    taken = λ e h. elim (cases_eq e k) [
      | inl same ↦ get_last forks fork e (same ∙ sym out.count) ∙ is ∙ out.rest k (omega arith) within ∙ ap (λ (x : ℕ). fork_of_edge first first_links (edge_ends edges x) x) (sym same)
      | inr differs ↦ get_before forks fork e (omega (arith, out.count)) ∙ out.taken e (omega arith)
    ];
    places = λ s i e there. place-emptied after_lower ends.higher ends.higher_place higher_there.site s i e (place-emptied sites ends.lower ends.lower_place here.lower.site s i e (out.places s i e there));
    as_many = length-set _ _ _ ∙ length-set _ _ _ ∙ out.as_many;
    rest = λ e h in_edges. edge_stays e (omega arith) in_edges ∙ out.rest e (omega arith) in_edges;
  }

  -- the same of what equals that
  pub one_more_as : (fork : SeenFork) (new_forks : List SeenFork) (new : List WorldSite) (new_links : List (List Letter)) → Some fork ≡ fork_of_edge sites links ends k
      → new_forks ≡ forks ++ fork ∷ [] → new ≡ after_both → new_links ≡ links_after → AreOut first first_links edges (k + 1) new_forks new new_links
  one_more_as fork new_forks new new_links is as_forks as_sites as_links =
      subst (λ (x : List SeenFork). AreOut first first_links edges (k + 1) x new new_links) (sym as_forks)
      (subst (λ (x : List WorldSite). AreOut first first_links edges (k + 1) (forks ++ fork ∷ []) x new_links) (sym as_sites)
      (subst (λ (x : List (List Letter)). AreOut first first_links edges (k + 1) (forks ++ fork ∷ []) after_both x) (sym as_links) (one_more fork is)))
