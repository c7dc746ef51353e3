use Rattle.std.proofs.Common.{◌≡◌, map, map-id, length, vec_len, ap, sym, ◌∙◌, arith}
use Rattle.std.specs.List.{position}
use Rattle.std.proofs.lemmas.List.{length-map, map_push}
use Rattle.std.proofs.lemmas.Iterator.Adapters.{YieldsList-from_vec}
use Rattle.std.proofs.lemmas.Iterator.Consumers.{YieldsList-end}
use Rattle.toml.specs.View.{view}
use Rattle.dine_graph.specs.Site.{seen_site}
use Rattle.dine_reader.specs.Document.{has_two_acts}
use Rattle.dine_reader.specs.PlanOf.{site_in}
use Rattle.dine_reader.specs.private.Forms.{flaws_in}
use Rattle.dine_reader.proofs.IndexLemmas.{position_more}
use Rattle.dine_reader.proofs.ReadLemmas.{each_last, flaws_last}
use Rattle.dine_reader.proofs.drafts.sites_in.Goals as goal

pub loop-table-preserved : goal.loop-table-preserved
loop-table-preserved c =
    let was = c.loop-table.invariant in
    let before = c.loop-table.yielded in
    let table = c.in-Some.table in
    let sites = c.loop-table.sites in
    let count : length (map view before) ≡ vec_len sites =
    sym (length-map (map view before) site_in) ∙ ap length (sym was.sites) ∙ length-map sites.items seen_site ∙ omega (arith, sites.ok.0) in
    record {
      sites =
          ap (map seen_site) c.in_ok-push.ensures.items
          ∙ each_last seen_site site_in view sites.items c.in_ok-site.site before table was.sites c.in_ok-site.ensures.site;
      flaws =
          flaws_last c.args.second before table _ _ _ _ was.flaws c.site_has_other_key-other_key.ensures c.site_lacks_key-missing_key.ensures c.in_ok-site.ensures.wrong;
      two_acts =
          c.first_of-two_acts.ensures
          ∙ rw (was.two_acts, c.has_two_acts.ensures, c.len.ensures, ← count) (sym (position_more has_two_acts (map view before) (view table)) ∙ ap (position has_two_acts) (sym (map_push view before table)));
    }

pub returns-clause-sites : goal.returns-clause-sites
returns-clause-sites c =
    let given = c.args.tables in
    let same = c.into_iter-table-iterator.ensures.into_iter_gives in
    let all = YieldsList-end (YieldsList-from_vec {s = c.into_iter-table-iterator.result} given.items same.0 (omega (arith, same.1, given.ok.0)))
    c.loop-table.yielded _ c.loop-table.yielded_by _ c.next.new.self c.in-None.is c.next.ensures.steps in
    c.loop-table.invariant.sites ∙ ap (λ tables. map site_in (map view tables)) (sym (map-id c.loop-table.yielded) ∙ all.0)

pub returns-clause-flaws : goal.returns-clause-flaws
returns-clause-flaws c =
    let given = c.args.tables in
    let same = c.into_iter-table-iterator.ensures.into_iter_gives in
    let all = YieldsList-end (YieldsList-from_vec {s = c.into_iter-table-iterator.result} given.items same.0 (omega (arith, same.1, given.ok.0)))
    c.loop-table.yielded _ c.loop-table.yielded_by _ c.next.new.self c.in-None.is c.next.ensures.steps in
    c.loop-table.invariant.flaws ∙ ap (λ tables. flaws_in c.args.second (map view tables)) (sym (map-id c.loop-table.yielded) ∙ all.0)

pub returns-clause-two_acts : goal.returns-clause-two_acts
returns-clause-two_acts c =
    let given = c.args.tables in
    let same = c.into_iter-table-iterator.ensures.into_iter_gives in
    let all = YieldsList-end (YieldsList-from_vec {s = c.into_iter-table-iterator.result} given.items same.0 (omega (arith, same.1, given.ok.0)))
    c.loop-table.yielded _ c.loop-table.yielded_by _ c.next.new.self c.in-None.is c.next.ensures.steps in
    c.loop-table.invariant.two_acts ∙ ap (λ tables. position has_two_acts (map view tables)) (sym (map-id c.loop-table.yielded) ∙ all.0)
