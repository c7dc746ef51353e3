use Rattle.std.proofs.Common.{ℕ, ◌≡◌, ◌-◌, List, [], ◌∷◌, ◌++◌, length, get_or, sym, ◌∙◌, ap, subst, inl, inr, arith, vec_capacity}
use Rattle.dine_token.specs.declared.log_entry.Entry.{Entry}
use Rattle.dine_token.specs.declared.log_entry.Entry.TheVariants.{Meal}
use Rattle.dine_token.specs.declared.fork.Contents.{Contents}
use Rattle.dine_token.specs.declared.log_period.Period.{Period}
use Rattle.dine_token.specs.Periods.{entries_of}
use Rattle.dine_token.specs.Fork.{MayEat, after_meal}
use Rattle.dine_token.specs.Values.{value_after_act}
use Rattle.dine_token.specs.private.Fields.{seen_contents, MatchesLog}
use Rattle.dine_token.proofs.Periods.{length-periods_of}
use Rattle.dine_token.proofs.shared.Forks.{room_to_eat}
use Rattle.dine_token.proofs.Contents.{eaten_matches, items_eaten}
use Rattle.dine_token.proofs.fork.Fork.eat.Goals as goal
use Rattle.dine_token.proofs.fork.Fork.eat.Goals.{then-site-contents, else-site-contents}

pub overflow_add-index_mut : goal.overflow_add-index_mut
overflow_add-index_mut c =
    let old = c.deref_mut-contents.result.now in
    let contents = subst MatchesLog (sym c.deref_mut-contents.ensures.value) c.self.invariant in
    let items = c.if-site-contents.contents.periods.items in
    let same : items ≡ old.periods.items = elim c.if-site-contents.branch [
      | then-site-contents w ↦ ap (λ (f : Contents). f.periods.items) w.contents-is
      | else-site-contents w ↦ ap (λ (f : Contents). f.periods.items) w.contents-is
    ] in
    let n = c.len-last.result - 1 in
    let fork = seen_contents old in
    let may : MayEat c.args.site c.args.k fork = subst (MayEat c.args.site c.args.k) (sym (ap seen_contents c.deref_mut-contents.ensures.value ∙ c.self.view_is)) c.requires.may_eat in
    let items_are = same ∙ contents.periods in
    let at = c.index_mut.ensures.value ∙ ap (λ (l : List Period). get_or l n c.index_mut.result.now) items_are in
    omega (arith, room_to_eat fork c.args.site c.args.k n c.index_mut.result.now contents.proper may at (omega (arith, length-periods_of fork.ends.0 fork.log, ap length items_are, c.len-last.ensures, c.if-site-contents.contents.periods.ok.0)))

pub invariant_of-self : goal.invariant_of-self
invariant_of-self c =
    let old = c.deref_mut-contents.result.now in
    let inv = subst MatchesLog (sym c.deref_mut-contents.ensures.value) c.self.invariant in
    let items = c.if-site-contents.contents.periods.items in
    let value : c.apply-value.result ≡ value_after_act c.args.act old.value = c.apply-value.ensures ∙ ap (value_after_act c.args.act) (ap (λ (f : Contents). f.value) (c.deref.ensures ∙ sym c.deref_mut-contents.ensures.value)) in
    let may : MayEat c.args.site c.args.k (seen_contents old) = subst (MayEat c.args.site c.args.k) (sym (ap seen_contents c.deref_mut-contents.ensures.value ∙ c.self.view_is)) c.requires.may_eat in
    let same : items ≡ old.periods.items = elim c.if-site-contents.branch [
      | then-site-contents w ↦ ap (λ (f : Contents). f.periods.items) w.contents-is
      | else-site-contents w ↦ ap (λ (f : Contents). f.periods.items) w.contents-is
    ] in
    let contents = items_eaten old items c.len-last.result c.index_mut.result.now c.args.site c.args.k inv may same c.index_mut.ensures.value (omega (arith, c.len-last.ensures, c.if-site-contents.contents.periods.ok.0)) in
    elim c.if-site-contents.branch [
      | then-site-contents w ↦
          let is = w.contents-is in
          eaten_matches old _ c.args.site c.args.k c.args.act inv may c.requires.act
          (ap (λ (log : List Entry). record (seen_contents c.if-site-contents.contents) { log = log }) contents.1 ∙ ap (λ (f : Contents). record (seen_contents f) { log = entries_of old.periods.items ++ Meal c.args.site c.args.k ∷ [] }) is
          ∙ ap (λ (v : ℕ). record (seen_contents old) { log = entries_of old.periods.items ++ Meal c.args.site c.args.k ∷ []; value = v }) value)
          (ap (λ (f : Contents). f.location) is) (ap (λ (f : Contents). f.dirty) is) contents.0 (ap (λ (f : Contents). vec_capacity f.periods) is)
          (inl (w.if-site-contents.true, ap (λ (f : Contents). f.lower_meals) is, ap (λ (f : Contents). f.higher_meals) is))
      | else-site-contents w ↦
          let is = w.contents-is in
          eaten_matches old _ c.args.site c.args.k c.args.act inv may c.requires.act
          (ap (λ (log : List Entry). record (seen_contents c.if-site-contents.contents) { log = log }) contents.1 ∙ ap (λ (f : Contents). record (seen_contents f) { log = entries_of old.periods.items ++ Meal c.args.site c.args.k ∷ [] }) is
          ∙ ap (λ (v : ℕ). record (seen_contents old) { log = entries_of old.periods.items ++ Meal c.args.site c.args.k ∷ []; value = v }) value)
          (ap (λ (f : Contents). f.location) is) (ap (λ (f : Contents). f.dirty) is) contents.0 (ap (λ (f : Contents). vec_capacity f.periods) is)
          (inr (w.if-site-contents.false, ap (λ (f : Contents). f.lower_meals) is, ap (λ (f : Contents). f.higher_meals) is))
    ]

pub returns-clause-eaten : goal.returns-clause-eaten
returns-clause-eaten c =
    let old = c.deref_mut-contents.result.now in
    let inv = subst MatchesLog (sym c.deref_mut-contents.ensures.value) c.self.invariant in
    let items = c.if-site-contents.contents.periods.items in
    let view = ap seen_contents c.deref_mut-contents.ensures.value ∙ c.self.view_is in
    let value : c.apply-value.result ≡ value_after_act c.args.act old.value = c.apply-value.ensures ∙ ap (value_after_act c.args.act) (ap (λ (f : Contents). f.value) (c.deref.ensures ∙ sym c.deref_mut-contents.ensures.value)) in
    let may : MayEat c.args.site c.args.k (seen_contents old) = subst (MayEat c.args.site c.args.k) (sym view) c.requires.may_eat in
    let same_items : items ≡ old.periods.items = elim c.if-site-contents.branch [
      | then-site-contents w ↦ ap (λ (f : Contents). f.periods.items) w.contents-is
      | else-site-contents w ↦ ap (λ (f : Contents). f.periods.items) w.contents-is
    ] in
    let contents = items_eaten old items c.len-last.result c.index_mut.result.now c.args.site c.args.k inv may same_items c.index_mut.ensures.value (omega (arith, c.len-last.ensures, c.if-site-contents.contents.periods.ok.0)) in
    let same : record (seen_contents c.if-site-contents.contents) { log = entries_of old.periods.items ++ Meal c.args.site c.args.k ∷ [] } ≡ record (seen_contents old) { log = entries_of old.periods.items ++ Meal c.args.site c.args.k ∷ []; value = c.apply-value.result } = elim c.if-site-contents.branch [
      | then-site-contents w ↦ ap (λ (f : Contents). record (seen_contents f) { log = entries_of old.periods.items ++ Meal c.args.site c.args.k ∷ [] }) w.contents-is
      | else-site-contents w ↦ ap (λ (f : Contents). record (seen_contents f) { log = entries_of old.periods.items ++ Meal c.args.site c.args.k ∷ [] }) w.contents-is
    ] in
    ap (λ (log : List Entry). record (seen_contents c.if-site-contents.contents) { log = log }) contents.1 ∙ same
    ∙ ap (λ (v : ℕ). record (seen_contents old) { log = entries_of old.periods.items ++ Meal c.args.site c.args.k ∷ []; value = v }) value
    ∙ ap (after_meal c.args.site c.args.k c.args.act) view

pub returns-clause-proper : goal.returns-clause-proper
returns-clause-proper c = (invariant_of-self c).proper
