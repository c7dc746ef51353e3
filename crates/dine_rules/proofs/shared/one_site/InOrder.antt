-- The order of the letters of a site that does no Break.
use Rattle.std.proofs.Common.{◌≡◌, ℕ, ◌<◌, Bool, true, false, ◌||◌, [], ◌∷◌, ◌++◌, length, get_or, slice_set, refl, sym, ◌∙◌, ap, subst, inl, inr}
use Rattle.std.proofs.lemmas.Bool.{false≢true, and_parts, or_left, cases_eq, ltb-true}
use Rattle.std.proofs.lemmas.List.{get_or-set_same, get_or-set_other}
use Rattle.dine_graph.specs.Plan.{SeenPlan, edges_of}
use Rattle.dine_rules.specs.declared.letters.Letter.{Letter}
use Rattle.dine_rules.specs.declared.letters.Letter.TheVariants as letter
use Rattle.dine_rules.specs.Letters.{has_done, has_close}
use Rattle.dine_rules.specs.Local.{LocalState, Traffic, no_traffic, traffic_at, start_of, edge_at}
use Rattle.dine_rules.specs.Steps.{Step, Give, Ask, Hungry, Begin, End, Quit, Done, Close, Break, Take, after, may}
use Rattle.dine_rules.specs.Streams.{is_orderly}
use Rattle.dine_rules.proofs.shared.lists.Counting.{has_done-append, has_close-append, or_false}
use Rattle.dine_rules.proofs.shared.one_site.Site.{no_traffic_yet}
use Rattle.dine_rules.proofs.links.EachSite.{IsInOrder}
use Rattle.dine_rules.proofs.shared.lists.Turns.{is_orderly-push_other, is_orderly-push_close}

-- each Close put has a Done before it, and it was put after Done was taken
pub record KeepsOrder (traffic : Traffic) : Type 0 where
  pub orderly : is_orderly traffic.put ≡ true
  pub closed_after : has_close traffic.put ≡ true → has_done traffic.taken ≡ true

-- no letters are in order
none_in_order : KeepsOrder no_traffic
none_in_order = record { orderly = refl; closed_after = λ h. absurd (false≢true h) }

-- a letter that is not Close is put
put_in_order : (traffic : Traffic) (l : Letter) → has_close (l ∷ []) ≡ false → KeepsOrder traffic → KeepsOrder (record traffic { put = traffic.put ++ l ∷ [] })
put_in_order traffic l no_close k = record {
  orderly = is_orderly-push_other traffic.put l no_close k.orderly;
  closed_after = λ h. k.closed_after (sym (has_close-append traffic.put (l ∷ []) ∙ ap (λ (b : Bool). has_close traffic.put || b) no_close ∙ or_false (has_close traffic.put)) ∙ h);
}

-- Close is put behind Done, where Done was taken
close_in_order : (traffic : Traffic) → has_done traffic.put ≡ true → has_done traffic.taken ≡ true → KeepsOrder traffic → KeepsOrder (record traffic { put = traffic.put ++ letter.Close ∷ [] })
close_in_order traffic done done_taken k = record {
  orderly = is_orderly-push_close traffic.put done k.orderly;
  closed_after = λ h. done_taken;
}

-- a letter is taken
take_in_order : (traffic : Traffic) (l : Letter) → KeepsOrder traffic → KeepsOrder (record traffic { taken = traffic.taken ++ l ∷ [] })
take_in_order traffic l k = record {
  orderly = k.orderly;
  closed_after = λ h. has_done-append traffic.taken (l ∷ []) ∙ or_left (has_done traffic.taken) (has_done (l ∷ [])) (k.closed_after h);
}

-- the letters of each place are in order
abbrev pub IsOrderly : LocalState → Type 0
IsOrderly state = (i : ℕ) → KeepsOrder (traffic_at state i)

-- so it is at the start
pub start_in_order : (plan : SeenPlan) (s : ℕ) → IsOrderly (start_of plan s)
start_in_order plan s i = subst KeepsOrder (sym (no_traffic_yet (edges_of plan s) i)) none_in_order

module _ (plan : SeenPlan) (s : ℕ) (state : LocalState) (order : IsOrderly state) where
  -- one place changes
  changed_in_order : (k : ℕ) (traffic : Traffic) → k < length state.traffic → KeepsOrder traffic → (i : ℕ) → KeepsOrder (get_or (slice_set state.traffic k traffic) i no_traffic)
  changed_in_order k traffic within here i = elim (cases_eq i k) [
    | inl same ↦ subst (λ (x : ℕ). KeepsOrder (get_or (slice_set state.traffic k traffic) x no_traffic)) (sym same)
        (subst KeepsOrder (sym (get_or-set_same state.traffic k traffic no_traffic within)) here)
    | inr other ↦ subst KeepsOrder (sym (get_or-set_other state.traffic k i traffic no_traffic other)) (order i)
  ]

  -- each step but a Break keeps the order
  pub step_in_order : (step : Step) → IsInOrder step → may plan s state step ≡ true → IsOrderly (after plan s state step)
  step_in_order (Give k) in_order h = changed_in_order k _ (ltb-true _ _ (and_parts _ _ h).0) (put_in_order (traffic_at state k) (letter.Fork _) refl (order k))
  step_in_order (Ask k) in_order h = changed_in_order k _ (ltb-true _ _ (and_parts _ _ h).0) (put_in_order (traffic_at state k) (letter.Request (edge_at plan s k)) refl (order k))
  step_in_order Hungry in_order h = order
  step_in_order Begin in_order h = order
  step_in_order (End failed) in_order h = order
  step_in_order Quit in_order h = order
  step_in_order (Done k) in_order h = changed_in_order k _ (ltb-true _ _ (and_parts _ _ h).0) (put_in_order (traffic_at state k) letter.Done refl (order k))
  step_in_order (Close k) in_order h =
      let parts = and_parts _ _ h in
      let done = and_parts _ _ (and_parts _ _ parts.1).0 in
      changed_in_order k _ (ltb-true _ _ parts.0) (close_in_order (traffic_at state k) done.0 done.1 (order k))
  step_in_order (Break k) in_order h = absurd in_order
  step_in_order (Take k l) in_order h = changed_in_order k _ (ltb-true _ _ (and_parts _ _ h).0) (take_in_order (traffic_at state k) l (order k))
