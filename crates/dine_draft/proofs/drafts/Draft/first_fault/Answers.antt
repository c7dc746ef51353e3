use Rattle.std.proofs.Common.{◌≡◌, true, false, length, map, Option, Some, None, is_some, refl, sym, ap, ◌∙◌, arith}
use Rattle.std.specs.Option.{option_or}
use Rattle.std.proofs.lemmas.List.{length-map}
use Rattle.dine_graph.specs.Site.{seen_site}
use Rattle.dine_draft.specs.Draft.{ends_of_edge, seen_draft}
use Rattle.dine_draft.proofs.shared.PlanLemmas.{are_ends, first_of_groups, join_known}
use Rattle.dine_draft.proofs.drafts.Draft.first_fault.Goals as goal

found : {A : Type 0} (a b : Option A) → is_some a ≡ true → option_or a b ≡ a
found (Some x) b h = refl
found None b h = absurd (cc)

missed : {A : Type 0} (a : Option A) → is_some a ≡ false → a ≡ None
missed (Some x) h = absurd (cc)
missed None h = refl

pub returns-then-is_some : goal.returns-then-is_some
returns-then-is_some c =
    let sites = rw c.as_slice.ensures.value at c.in_ok-site_fault.ensures in
    sym (first_of_groups (seen_draft c.args.self.now) ∙ rw (← sites) (found _ _ (sym c.is_some.ensures ∙ c.if-is_some.true)))

pub returns-then-is_some-2 : goal.returns-then-is_some-2
returns-then-is_some-2 c =
    let sites = sym (rw c.as_slice.ensures.value at c.in_ok-site_fault.ensures) ∙ missed _ (sym c.is_some.ensures ∙ c.if-is_some.false) in
    let n : c.len.result ≡ length (map seen_site c.args.self.now.sites.items) = omega (arith, c.len.ensures, c.args.self.now.sites.ok.0, length-map c.args.self.now.sites.items seen_site) in
    let ends = rw (c.as_slice-2.ensures.value, n) at c.first_end_fault-end_fault.ensures in
    sym (first_of_groups (seen_draft c.args.self.now) ∙ rw (sites, ← ends) (found _ _ (sym c.is_some-2.ensures ∙ c.if-is_some-2.true)))

pub returns-then-is_some-3 : goal.returns-then-is_some-3
returns-then-is_some-3 c =
    let sites = sym (rw c.as_slice.ensures.value at c.in_ok-site_fault.ensures) ∙ missed _ (sym c.is_some.ensures ∙ c.if-is_some.false) in
    let n : c.len.result ≡ length (map seen_site c.args.self.now.sites.items) = omega (arith, c.len.ensures, c.args.self.now.sites.ok.0, length-map c.args.self.now.sites.items seen_site) in
    let ends = sym (rw (c.as_slice-2.ensures.value, n) at c.first_end_fault-end_fault.ensures) ∙ missed _ (sym c.is_some-2.ensures ∙ c.if-is_some-2.false) in
    let joined = join_known _ _ (are_ends _ _ ends).known ∙ ap (map Some) (sym (c.as_slice-4.ensures.value ∙ c.in_ok-ends.ensures ∙ ap (map ends_of_edge) c.as_slice-3.ensures.value)) in
    sym (first_of_groups (seen_draft c.args.self.now) ∙ rw (sites, ends, joined, ← c.first_pair_fault-pair_fault.ensures) (found _ _ (sym c.is_some-3.ensures ∙ c.if-is_some-3.true)))

pub returns : goal.returns
returns c =
    let sites = sym (rw c.as_slice.ensures.value at c.in_ok-site_fault.ensures) ∙ missed _ (sym c.is_some.ensures ∙ c.if-is_some.false) in
    let n : c.len.result ≡ length (map seen_site c.args.self.now.sites.items) = omega (arith, c.len.ensures, c.args.self.now.sites.ok.0, length-map c.args.self.now.sites.items seen_site) in
    let ends = sym (rw (c.as_slice-2.ensures.value, n) at c.first_end_fault-end_fault.ensures) ∙ missed _ (sym c.is_some-2.ensures ∙ c.if-is_some-2.false) in
    let joined = join_known _ _ (are_ends _ _ ends).known ∙ ap (map Some) (sym (c.as_slice-4.ensures.value ∙ c.in_ok-ends.ensures ∙ ap (map ends_of_edge) c.as_slice-3.ensures.value)) in
    let pairs = sym c.first_pair_fault-pair_fault.ensures ∙ missed _ (sym c.is_some-3.ensures ∙ c.if-is_some-3.false) in
    sym (first_of_groups (seen_draft c.args.self.now) ∙ rw (sites, ends, joined, pairs) (sym c.first_act_fault.ensures))
