use Rattle.std.proofs.Common.{◌≡◌, ℕ, zero, suc, Some, List, [], ◌∷◌, ◌++◌, slice_get, sym, ◌∙◌, ap, subst, arith}
use Rattle.std.specs.List.{range_with_len}
use Rattle.std.proofs.lemmas.Option.{none-some, same_Some}
use Rattle.dine_token.specs.Fork.{SeenFork}
use Rattle.dine_graph.specs.Plan.{SeenPlan, edge_count, site_count, job_count, ends_of, lo_of, hi_of}
use Rattle.dine_threads.specs.declared.gathered.SiteOut.{SiteOut}
use Rattle.dine_run.specs.Tables.{IsGatheredOf}
use Rattle.dine_run_tests.proofs.tables.gathered_of_path.Goals as goal

-- what is so of the elements of a short list is so of each by its index
two_at : {A : Type 0} (P : ℕ → A → Type 0) (a b : A) → P 0 a → P 1 b → (k : ℕ) (x : A) → slice_get (a ∷ b ∷ []) k ≡ Some x → P k x
two_at P a b first second zero x at = subst (P 0) (same_Some a x at) first
two_at P a b first second (suc zero) x at = subst (P 1) (same_Some b x at) second
two_at P a b first second (suc (suc k)) x at = absurd (none-some x at)

three_at : {A : Type 0} (P : ℕ → A → Type 0) (a b c : A) → P 0 a → P 1 b → P 2 c → (k : ℕ) (x : A) → slice_get (a ∷ b ∷ c ∷ []) k ≡ Some x → P k x
three_at P a b c first second third zero x at = subst (P 0) (same_Some a x at) first
three_at P a b c first second third (suc zero) x at = subst (P 1) (same_Some b x at) second
three_at P a b c first second third (suc (suc zero)) x at = subst (P 2) (same_Some c x at) third
three_at P a b c first second third (suc (suc (suc k))) x at = absurd (none-some x at)

pair_is : (p : ℕ × ℕ) (a b : ℕ) → p.0 ≡ a → p.1 ≡ b → p ≡ (a, b)
pair_is p a b first second = ap (λ (n : ℕ). (n, p.1)) first ∙ ap (λ (n : ℕ). (a, n)) second

-- what is due to the ends of an edge
dues : (plan : SeenPlan) (edge lo hi m n : ℕ) → ends_of plan edge ≡ (lo, hi) → job_count plan lo ≡ m → job_count plan hi ≡ n → ◌≡◌ {A = ℕ × ℕ} (job_count plan (lo_of plan edge), job_count plan (hi_of plan edge)) (m, n)
dues plan edge lo hi m n ends low high = pair_is (job_count plan (lo_of plan edge), job_count plan (hi_of plan edge)) m n
    (ap (λ (e : ℕ × ℕ). job_count plan e.0) ends ∙ low)
    (ap (λ (e : ℕ × ℕ). job_count plan e.1) ends ∙ high)

-- two forks and three sites, put into lists one after another
gathered : {D : Type 0} (plan : SeenPlan) (forks forks_0 forks_1 : List SeenFork) (outs outs_0 outs_1 outs_2 : List (SiteOut D)) (f g : SeenFork) (x y z : SiteOut D)
    → forks_0 ≡ [] → forks_1 ≡ forks_0 ++ f ∷ [] → forks ≡ forks_1 ++ g ∷ []
    → outs_0 ≡ [] → outs_1 ≡ outs_0 ++ x ∷ [] → outs_2 ≡ outs_1 ++ y ∷ [] → outs ≡ outs_2 ++ z ∷ []
    → edge_count plan ≡ 2 → site_count plan ≡ 3 → ends_of plan 0 ≡ (0, 1) → ends_of plan 1 ≡ (1, 2)
    → job_count plan 0 ≡ 3 → job_count plan 1 ≡ 1 → job_count plan 2 ≡ 0
    → f.edge ≡ 0 → f.ends ≡ (0, 1) → f.due ≡ (3, 1) → g.edge ≡ 1 → g.ends ≡ (1, 2) → g.due ≡ (1, 0)
    → x.site ≡ 0 → y.site ≡ 1 → z.site ≡ 2 → IsGatheredOf plan forks outs
gathered {D} plan forks forks_0 forks_1 outs outs_0 outs_1 outs_2 f g x y z f_0 f_1 f_2 o_0 o_1 o_2 o_3 edges sites first second a b c f_edge f_ends f_due g_edge g_ends g_due at_x at_y at_z =
    let forks_are : forks ≡ f ∷ g ∷ [] = f_2 ∙ ap (λ (l : List SeenFork). l ++ g ∷ []) (f_1 ∙ ap (λ (l : List SeenFork). l ++ f ∷ []) f_0) in
    let push : SiteOut D → List (SiteOut D) → List (SiteOut D) = λ o l. l ++ o ∷ [] in
    let outs_are : outs ≡ x ∷ y ∷ z ∷ [] = o_3 ∙ ap (push z) (o_2 ∙ ap (push y) (o_1 ∙ ap (push x) o_0)) in
    let is : IsGatheredOf plan (f ∷ g ∷ []) (x ∷ y ∷ z ∷ []) = record {
      one_fork_an_edge = ap (λ (n : ℕ). n ∷ g.edge ∷ []) f_edge ∙ ap (λ (n : ℕ). 0 ∷ n ∷ []) g_edge ∙ sym (ap (range_with_len 0) edges);
      ends = two_at (λ edge fork. fork.ends ≡ (lo_of plan edge, hi_of plan edge)) f g (f_ends ∙ sym first) (g_ends ∙ sym second);
      due = two_at (λ edge fork. fork.due ≡ (job_count plan (lo_of plan edge), job_count plan (hi_of plan edge))) f g (f_due ∙ sym (dues plan 0 0 1 3 1 first a b)) (g_due ∙ sym (dues plan 1 1 2 1 0 second b c));
      count = sym sites;
      site = three_at (λ s out. out.site ≡ s) x y z at_x at_y at_z;
    } in
    subst (λ (os : List (SiteOut D)). IsGatheredOf plan forks os) (sym outs_are) (subst (λ (fs : List SeenFork). IsGatheredOf plan fs (x ∷ y ∷ z ∷ [])) (sym forks_are) is)

pub returns : goal.returns
returns g c =
    let both = c.in_ok-fork_of_both in
    let one = c.in_ok-fork_of_one in
    let x = c.in_ok-out_of in
    let y = c.in_ok-out_of-2 in
    let z = c.in_ok-out_of-3 in
    gathered c.args.plan.now _ _ _ _ _ _ _ both.field-0 one.field-0 x.field-0 y.field-0 z.field-0
    c.in_ok-forks.ensures.items c.push_reserved.ensures.items c.push_reserved-2.ensures.items
    c.in_ok-sites.ensures.items c.push_reserved-3.ensures.items c.push_reserved-4.ensures.items c.push_reserved-5.ensures.items
    (omega (arith, c.edges.ensures.count))
    (omega (arith, c.sites.ensures.count))
    (pair_is _ _ _ (omega (arith, ap (λ (p : ℕ × ℕ). p.0) c.ends-a.ensures.ends)) (omega (arith, ap (λ (p : ℕ × ℕ). p.1) c.ends-a.ensures.ends)))
    (pair_is _ _ _ (omega (arith, ap (λ (p : ℕ × ℕ). p.0) c.ends-b.ensures.ends)) (omega (arith, ap (λ (p : ℕ × ℕ). p.1) c.ends-b.ensures.ends)))
    (omega (arith, c.jobs.ensures.count))
    (omega (arith, c.jobs-2.ensures.count))
    (omega (arith, c.jobs-3.ensures.count))
    both.ensures.edge both.ensures.ends both.ensures.due one.ensures.edge one.ensures.ends one.ensures.due
    x.ensures y.ensures z.ensures
