use Rattle.std.proofs.Common.{[], length, arith, refl, sym, ◌∙◌}
use Rattle.std.specs.Str.{bytes_eq}
use Rattle.std.proofs.lemmas.Bool.{lt-ltb, le-ltb}
use Rattle.std.proofs.lemmas.List.{length-map}
use Rattle.dine_graph.specs.Site.{seen_site}
use Rattle.dine_graph.specs.declared.limits.TheConstants.{MAX_SITES}
use Rattle.dine_draft.specs.Refusals.{site_refusals}
use Rattle.dine_draft.proofs.shared.NameLemmas.{names_seen, length-names_seen}
use Rattle.dine_draft.proofs.shared.ListLemmas.{first_twice_within}
use Rattle.dine_draft.proofs.sites.first_site_fault.Goals as goal

pub overflow_cast-result-in-Some-2 : goal.overflow_cast-result-in-Some-2
overflow_cast-result-in-Some-2 c =
    let sites = c.args.sites.now in
    let within = first_twice_within bytes_eq [] (names_seen sites) c.in-Some-2.site (sym c.in_ok-site.ensures ∙ c.in-Some-2.is) in
    omega (arith, within, length-names_seen sites, c.requires)

pub returns-in-Some : goal.returns-in-Some
unfolding site_refusals
returns-in-Some c = rw (← c.in-Some.ensures) refl

pub returns-in-Some-2 : goal.returns-in-Some-2
unfolding site_refusals
returns-in-Some-2 c = rw (← c.in_default.ensures, ← c.in_ok-site.ensures, c.in-Some-2.is) refl

pub returns-then-is_empty : goal.returns-then-is_empty
unfolding site_refusals
returns-then-is_empty c = rw (← c.in_default.ensures, ← c.in_ok-site.ensures, c.in_default-2.is, length-map c.args.sites.now seen_site, ← c.if-is_empty.ensures) refl

pub returns-then-sites : goal.returns-then-sites
unfolding site_refusals
returns-then-sites c =
    let many = lt-ltb MAX_SITES (length c.args.sites.now) c.if-sites.true in
    rw (← c.in_default.ensures, ← c.in_ok-site.ensures, c.in_default-2.is, length-map c.args.sites.now seen_site, ← c.if-is_empty.ensures, many) refl

pub returns-in-Some-first_with_many_jobs : goal.returns-in-Some-first_with_many_jobs
unfolding site_refusals
returns-in-Some-first_with_many_jobs c =
    let few = le-ltb MAX_SITES (length c.args.sites.now) c.if-sites.false in
    rw (← c.in_default.ensures, ← c.in_ok-site.ensures, c.in_default-2.is, ← c.in-Some-first_with_many_jobs.ensures, length-map c.args.sites.now seen_site, ← c.if-is_empty.ensures, few) refl

pub returns-in-Some-first_with_many_turns : goal.returns-in-Some-first_with_many_turns
unfolding site_refusals
returns-in-Some-first_with_many_turns c =
    let few = le-ltb MAX_SITES (length c.args.sites.now) c.if-sites.false in
    rw (← c.in_default.ensures, ← c.in_ok-site.ensures, c.in_default-2.is, ← c.in_default-first_with_many_jobs.ensures, ← c.in-Some-first_with_many_turns.ensures, length-map c.args.sites.now seen_site, ← c.if-is_empty.ensures, few) refl

pub returns : goal.returns
unfolding site_refusals
returns c =
    let few = le-ltb MAX_SITES (length c.args.sites.now) c.if-sites.false in
    rw (← c.in_default.ensures, ← c.in_ok-site.ensures, c.in_default-2.is, ← c.in_default-first_with_many_jobs.ensures, ← c.in_default-first_with_many_turns.ensures, length-map c.args.sites.now seen_site, ← c.if-is_empty.ensures, few) refl
