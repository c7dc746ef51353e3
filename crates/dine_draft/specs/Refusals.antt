-- Why a draft is refused: each cause as a test of its sites or of its edges, and the first that holds.
use Rattle.std.specs.Prelude.{ℕ, ◌==◌, Bool, false, not, ◌&&◌, ◌||◌, nat_lt, nat_le, List, [], ◌∷◌, ◌++◌, map, length, take, position, slice_index_or, Option, Some, None, option_map, if◌then◌else◌}
use Rattle.std.specs.Option.{option_map_or, option_or}
use Rattle.std.specs.List.{range_with_len, list_any}
use Rattle.std.specs.Str.{bytes_eq}
use Rattle.dine_token.specs.declared.limits.TheConstants.{MAX_NUMBER}
use Rattle.dine_token.specs.Values.{amount_of}
use Rattle.dine_graph.specs.declared.limits.TheConstants.{MAX_EDGES, MAX_SITES, MAX_TURNS}
use Rattle.dine_graph.specs.Plan.{SeenJob, SeenSite, is_name}
use Rattle.dine_draft.specs.Draft.{SeenDraft, names_of, ends_of_edge}
use Rattle.dine_draft.specs.declared.drafts.DraftEdge.{DraftEdge}
use Rattle.dine_draft.specs.declared.plan_fault.PlanFault.{PlanFault}
use Rattle.dine_draft.specs.declared.plan_fault.PlanFault.TheVariants as fault

-- The element at place i is at an earlier place too. `none` is read past the end.
unfoldable pub stands_before : {A : Type 0} → (A → A → Bool) → A → List A → ℕ → Bool
stands_before same none xs i = list_any (same (slice_index_or xs i none)) (take i xs)

-- the least place whose element is at an earlier place too
abbrev pub first_twice : {A : Type 0} → (A → A → Bool) → A → List A → Option ℕ
first_twice same none xs = position (stands_before same none xs) (range_with_len 0 (length xs))

-- the name of the job is no name by `is_name`
abbrev pub is_unnamed : SeenJob → Bool
is_unnamed job = not (is_name job.name)

-- cause 6: the name of the site, or of one of its jobs, is no name
unfoldable pub has_bad_name : SeenSite → Bool
has_bad_name site = not (is_name site.name) || list_any is_unnamed site.jobs

-- cause 10: the site has more than this number of jobs
unfoldable pub has_many_jobs : ℕ → SeenSite → Bool
has_many_jobs most site = nat_lt most (length site.jobs)

-- the job has turns above 1,000,000
abbrev pub is_long : SeenJob → Bool
is_long job = nat_lt MAX_TURNS job.turns

-- cause 11: a job of the site has turns above 1,000,000
unfoldable pub has_many_turns : SeenSite → Bool
has_many_turns site = list_any is_long site.jobs

-- cause 12: an end of the edge is the number of no site, of n sites
unfoldable pub has_unknown_end : ℕ → DraftEdge → Bool
has_unknown_end n edge = nat_le n edge.a || nat_le n edge.b

-- the two sites that an edge joins, the lower one first; none if an end is the number of no site
unfoldable pub joined_by : ℕ → DraftEdge → Option (ℕ × ℕ)
joined_by n edge = if has_unknown_end n edge then None else Some (ends_of_edge edge)

-- both ends are one site
abbrev pub is_one_site : ℕ × ℕ → Bool
is_one_site ends = ends.0 == ends.1

-- cause 13: the edge joins a site with itself; an edge with an unknown end is no loop
unfoldable pub is_loop : ℕ → DraftEdge → Bool
is_loop n edge = option_map_or is_one_site (joined_by n edge) false

-- two edges join the same two sites; an edge with an unknown end joins none
abbrev pub same_ends : Option (ℕ × ℕ) → Option (ℕ × ℕ) → Bool
same_ends (Some a) (Some b) = (a.0 == b.0) && (a.1 == b.1)
same_ends _ _ = false

-- the job adds or sets more than 1,000,000
abbrev pub is_large : SeenJob → Bool
is_large job = nat_lt MAX_NUMBER (amount_of job.act)

-- cause 18: a job of the site adds or sets more than 1,000,000
unfoldable pub has_large_act : SeenSite → Bool
has_large_act site = list_any is_large site.jobs

-- cause 19: the edge has a value above 1,000,000
unfoldable pub has_large_value : DraftEdge → Bool
has_large_value edge = nat_lt MAX_NUMBER edge.value

-- the fault if the test holds
abbrev pub on : Bool → PlanFault → Option PlanFault
on holds fault = if holds then Some fault else None

-- causes 6 to 11, in the sites, of which each may have this number of jobs, each if it holds, at the least position if
-- it has one, in order
unfoldable pub site_refusals : ℕ → List SeenSite → List (Option PlanFault)
site_refusals most sites =
    option_map fault.BadName (position has_bad_name sites)
    ∷ option_map fault.SiteTwice (first_twice bytes_eq [] (names_of sites))
    ∷ on (length sites == 0) fault.NoSite
    ∷ on (nat_lt MAX_SITES (length sites)) fault.TooManySites
    ∷ option_map fault.TooManyJobs (position (has_many_jobs most) sites)
    ∷ option_map fault.TurnsTooLarge (position has_many_turns sites)
    ∷ []

-- causes 12 and 13, in the ends of the edges between n sites, each at the least position, in order
unfoldable pub end_refusals : ℕ → List DraftEdge → List (Option PlanFault)
end_refusals n edges =
    option_map fault.UnknownEnd (position (has_unknown_end n) edges)
    ∷ option_map fault.Loop (position (is_loop n) edges)
    ∷ []

-- causes 14 and 15, in the pairs of sites that the edges join, in order: a pair twice, and more than 512 edges
unfoldable pub pair_refusals : List (Option (ℕ × ℕ)) → List (Option PlanFault)
pair_refusals pairs =
    option_map fault.EdgeTwice (first_twice same_ends None pairs)
    ∷ on (nat_lt MAX_EDGES (length pairs)) fault.TooManyEdges
    ∷ []

-- causes 17 to 20, in what meals do to values and failed jobs to sites, each at the least position, in order
unfoldable pub act_refusals : SeenDraft → List (Option PlanFault)
act_refusals d =
    option_map fault.TwoActs d.two_acts
    ∷ option_map fault.ActTooLarge (position has_large_act d.sites)
    ∷ option_map fault.ValueTooLarge (position has_large_value d.edges)
    ∷ option_map fault.UnknownPolicy d.other_policy
    ∷ []

-- the first of the list that is not none
abbrev pub first_some : {A : Type 0} → List (Option A) → Option A
first_some [] = None
first_some (o ∷ os) = option_or o (first_some os)

-- the refusals of a draft, in order
unfoldable pub draft_refusals : SeenDraft → List (Option PlanFault)
draft_refusals d =
    site_refusals d.most_jobs d.sites ++ (end_refusals (length d.sites) d.edges ++ (pair_refusals (map (joined_by (length d.sites)) d.edges) ++ act_refusals d))

-- the first refusal of a draft that holds, at the least position; none if no cause does
unfoldable pub first_of_draft : SeenDraft → Option PlanFault
first_of_draft d = first_some (draft_refusals d)
