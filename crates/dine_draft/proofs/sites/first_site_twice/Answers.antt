use Rattle.std.proofs.Common.{◌≡◌, Bool, not, ◌||◌, [], true, false, take, below_more, refl, sym, ap, ◌∙◌, arith}
use Rattle.std.specs.List.{list_any}
use Rattle.std.specs.Str.{bytes_eq}
use Rattle.std.specs.BTreeMap.{is_at}
use Rattle.std.proofs.lemmas.Bool.{false≢true}
use Rattle.dine_draft.proofs.shared.ListLemmas.{first_twice_here, first_twice_none}
use Rattle.dine_draft.proofs.shared.NameLemmas.{text_cmp, contains-texts, any-insert_key, any-names_more, names_seen, length-names_seen, name_stands_before}
use Rattle.dine_draft.proofs.sites.first_site_twice.Goals as goal

new_false : (b : Bool) → false ≡ not b → b ≡ true
new_false true h = refl
new_false false h = absurd (false≢true h)

new_true : (b : Bool) → true ≡ not b → b ≡ false
new_true true h = absurd (false≢true (sym h))
new_true false h = refl

pub returns-then-not-is_new : goal.returns-then-not-is_new
returns-then-not-is_new c =
    let sites = c.args.sites.now in
    let i = c.loop-i.i in
    let name = c.as_str.result in
    let keys = c.loop-i.names.keys in
    let held : list_any (is_at (text_cmp name)) keys ≡ true = new_false _ (sym c.if-not-is_new.true ∙ c.in_ok-is_new.ensures.added) in
    let there : list_any (bytes_eq name.now) (names_seen (take i sites)) ≡ true = sym (c.loop-i.invariant.names name.now) ∙ sym (contains-texts keys name) ∙ held in
    let here = name_stands_before sites i c.index-sites-i.result true c.loop-i-test.true c.index-sites-i.is (sym (rw c.as_str.ensures.value at there)) in
    let long = length-names_seen sites in
    sym (first_twice_here bytes_eq [] (names_seen sites) i (omega arith) c.loop-i.invariant.apart here)

pub loop-i-preserved : goal.loop-i-preserved
loop-i-preserved c =
    let sites = c.args.sites.now in
    let i = c.loop-i.i in
    let name = c.as_str.result in
    let keys = c.loop-i.names.keys in
    let held : list_any (is_at (text_cmp name)) keys ≡ false = new_true _ (sym c.if-not-is_new.false ∙ c.in_ok-is_new.ensures.added) in
    let there : list_any (bytes_eq name.now) (names_seen (take i sites)) ≡ false = sym (c.loop-i.invariant.names name.now) ∙ sym (contains-texts keys name) ∙ held in
    let here = name_stands_before sites i c.index-sites-i.result false c.loop-i-test.true c.index-sites-i.is (sym (rw c.as_str.ensures.value at there)) in
    record {
      apart = below_more _ _ c.loop-i.invariant.apart here;
      names = λ q.
          ap (list_any (λ k. bytes_eq q k.now)) c.in_ok-is_new.ensures.keys ∙ any-insert_key q keys name
          ∙ ap (λ b. bytes_eq q name.now || b) (c.loop-i.invariant.names q)
          ∙ ap (λ text. bytes_eq q text || list_any (bytes_eq q) (names_seen (take i sites))) c.as_str.ensures.value
          ∙ sym (any-names_more q sites i c.index-sites-i.result c.loop-i-test.true c.index-sites-i.is);
    }

pub returns : goal.returns
returns c =
    let long = length-names_seen c.args.sites.now in
    sym (first_twice_none bytes_eq [] (names_seen c.args.sites.now) (λ k h. c.loop-i.invariant.apart k (omega arith)))
