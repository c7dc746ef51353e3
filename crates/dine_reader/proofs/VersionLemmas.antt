-- What a document of version 1 has no keys for, its plan does not have.
use Rattle.std.proofs.Common.{◌≡◌, ℕ, zero, suc, ◌-◌, Bool, true, false, not, cond, codes, List, [], ◌∷◌, map, get_or, Option, Some, None, Ordering, Less, Equal, Greater, nat_cmp, refl, sym, ap, ◌∙◌, arith}
use Rattle.std.specs.List.{list_any}
use Rattle.std.specs.Str.{bytes_eq}
use Rattle.std.specs.Cmp.Lexicographic.{slice_cmp}
use Rattle.std.specs.Ordering.{match_ordering}
use Rattle.std.proofs.lemmas.Bool.{false≢true, or_parts, not-false}
use Rattle.std.proofs.lemmas.Map.Lookups.{exact_bytes}
use Rattle.toml.specs.Data.{Data, string, integer, float, boolean, datetime, array, table, Members, no_members, member, get, get_member}
use Rattle.dine_token.specs.declared.act.Act.TheVariants.{Add}
use Rattle.dine_graph.specs.Plan.{SeenJob, SeenSite, no_job, no_site}
use Rattle.dine_draft.specs.Draft.{names_of, value_of_edge}
use Rattle.dine_reader.specs.Document.{keys_of, sites_in, edges_in, jobs_in, is_second, version_in, has_key, number_at, text_at, value_in, act_in, resigns_in}
use Rattle.dine_reader.specs.PlanOf.{job_in, site_in, edge_in, plan_of_document, IsPlain}
use Rattle.dine_reader.specs.RefusalTests.{edge_keys, job_keys, site_keys, has_other_key, site_has_other_key, refuses_unknown_key}

missing_at : (o : Ordering) (key l : List ℕ) (d : Data) (rest : Option Data) → slice_cmp nat_cmp key l ≡ o → (key ≡ l → ⊥) → rest ≡ None → match_ordering o rest (Some d) rest ≡ None
missing_at Less key l d rest order apart none = none
missing_at Equal key l d rest order apart none = absurd (apart (exact_bytes key l order))
missing_at Greater key l d rest order apart none = none

-- there is no value at a key that is none of those that a table may have
missing_member : (keys : List (List ℕ)) (key : List ℕ) (ms : Members) → list_any (bytes_eq key) keys ≡ false → list_any (λ k. not (list_any (bytes_eq k) keys)) (keys_of ms) ≡ false → get_member key ms ≡ None
missing_member keys key no_members other none = refl
missing_member keys key (member l d ms) other none =
    let parts = or_parts _ _ none in
    let known : list_any (bytes_eq l) keys ≡ true = not-false _ parts.0 in
    let apart : key ≡ l → ⊥ = λ same. false≢true (sym other ∙ ap (λ k. list_any (bytes_eq k) keys) same ∙ known) in
    missing_at (slice_cmp nat_cmp key l) key l d (get_member key ms) refl apart (missing_member keys key ms other parts.1)

missing : (keys : List (List ℕ)) (key : List ℕ) (d : Data) → list_any (bytes_eq key) keys ≡ false → has_other_key keys d ≡ false → get key d ≡ None
unfolding has_other_key
missing keys key (string s) other none = refl
missing keys key (integer n) other none = refl
missing keys key (float x) other none = refl
missing keys key (boolean b) other none = refl
missing keys key (datetime t) other none = refl
missing keys key (array ds) other none = refl
missing keys key (table ms) other none = missing_member keys key ms other none

no_number : (key : List ℕ) (d : Data) → get key d ≡ None → number_at key d ≡ 0
unfolding number_at
no_number key d none = rw none refl

no_text : (key : List ℕ) (d : Data) → get key d ≡ None → text_at key d ≡ []
unfolding text_at
no_text key d none = rw none refl

no_key : (key : List ℕ) (d : Data) → get key d ≡ None → has_key key d ≡ false
unfolding has_key
no_key key d none = rw none refl

-- an edge, a job and a site of version 1
edge_valueless : (edge : Data) → has_other_key (edge_keys false) edge ≡ false → value_in edge ≡ 0
edge_valueless edge none = no_number (codes "value") edge (missing (edge_keys false) (codes "value") edge refl none)

job_adds_nothing : (job : Data) → has_other_key (job_keys false) job ≡ false → (job_in job).act ≡ Add 0
unfolding job_in act_in
job_adds_nothing job none =
    rw (
      no_key (codes "set") job (missing (job_keys false) (codes "set") job refl none),
      no_number (codes "add") job (missing (job_keys false) (codes "add") job refl none),
    )
    refl

site_goes_on : (site : Data) → has_other_key (site_keys false) site ≡ false → resigns_in site ≡ false
unfolding resigns_in
site_goes_on site none = rw (no_text (codes "on_fault") site (missing (site_keys false) (codes "on_fault") site refl none)) refl

-- what holds past the end of a mapped list and of each element that passes, if all of them do
holds_at : {X Y : Type 0} (P : Y → Type 0) (f : X → Y) (fails : X → Bool) (d : Y) → P d → ((x : X) → fails x ≡ false → P (f x)) → (xs : List X) (i : ℕ) → list_any fails xs ≡ false → P (get_or (map f xs) i d)
holds_at P f fails d past each [] i none = past
holds_at P f fails d past each (x ∷ xs) zero none = each x (or_parts _ _ none).0
holds_at P f fails d past each (x ∷ xs) (suc i) none = holds_at P f fails d past each xs i (or_parts _ _ none).1

-- nothing of a site needs version 2
pub record IsPlainSite (site : SeenSite) : Type 0 where
  pub adds_nothing : (j : ℕ) → (get_or site.jobs j no_job).act ≡ Add 0
  pub goes_on : site.resigns ≡ false

plain_site : (site : Data) → site_has_other_key false site ≡ false → IsPlainSite (site_in site)
unfolding site_in site_has_other_key
plain_site site none =
    let parts = or_parts _ _ none in
    record {
      adds_nothing = λ j. holds_at (λ (job : SeenJob). job.act ≡ Add 0) job_in (has_other_key (job_keys false)) no_job refl job_adds_nothing (jobs_in site) j parts.1;
      goes_on = site_goes_on site parts.0;
    }

first_only : (b : Bool) → ◌≡◌ {A = ℕ} (cond b 2 1) 1 → b ≡ false
first_only true one = absurd (omega (arith, one))
first_only false one = refl

-- the values of the edges of a draft
values_in : (names : List (List ℕ)) (edges : List Data) → map value_of_edge (map (edge_in names) edges) ≡ map value_in edges
unfolding edge_in
values_in names [] = refl
values_in names (edge ∷ edges) = ap (λ vs. value_in edge ∷ vs) (values_in names edges)

-- a plan of version 1, if no key is unknown
pub plain_plan : (doc : Data) → refuses_unknown_key doc ≡ false → version_in doc ≡ 1 → IsPlain (plan_of_document doc)
unfolding refuses_unknown_key
plain_plan doc known one =
    let parts = or_parts _ _ (rw (first_only (is_second doc) one) at known) in
    let known_sites = (or_parts _ _ parts.0).1 in
    let site : (s : ℕ) → IsPlainSite (get_or (map site_in (sites_in doc)) s no_site) = λ s. holds_at IsPlainSite site_in (site_has_other_key false) no_site (record { adds_nothing = λ j. refl; goes_on = refl }) plain_site (sites_in doc) s known_sites in
    record {
      valueless = λ e. rw (values_in (names_of (map site_in (sites_in doc))) (edges_in doc)) (holds_at (λ v. v ≡ 0) value_in (has_other_key (edge_keys false)) 0 refl edge_valueless (edges_in doc) e parts.1);
      adds_nothing = λ s k. (site s).adds_nothing (k - 1);
      none_resigns = λ s. (site s).goes_on;
    }
