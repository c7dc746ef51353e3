use Rattle.std.proofs.Common.{◌≡◌, ℕ, [], ◌∷◌, ◌++◌, not, true, false, All, filter, map, length, inl, inr, sym, ◌∙◌, ap, subst, arith}
use Rattle.std.specs.List.{range_with_len}
use Rattle.std.proofs.lemmas.Bool.{cond-false, cond-true}
use Rattle.std.proofs.lemmas.List.{map-append}
use Rattle.std.proofs.lemmas.List.Elements.{All-push}
use Rattle.dine_rules.specs.Local.{is_hungry}
use Rattle.dine_rules.specs.Steps.{is_ready}
use Rattle.dine_rules.specs.World.{state_of}
use Rattle.dine_states.specs.declared.waits.Wait.{Wait}
use Rattle.dine_states.specs.Waits.{IsWait}
use Rattle.dine_states.proofs.Reading.{kept_at}
use Rattle.dine_states.proofs.Waiting.{fails_more, few_places, passes_more, some_of}
use Rattle.dine_states.proofs.waits.waits_of.Goals.{in-Some+in_ok-add_wait, in_default}
use Rattle.dine_states.proofs.waits.waits_of.Goals as goal

pub returns-then-not-is_hungry-clause-places : goal.returns-then-not-is_hungry-clause-places
returns-then-not-is_hungry-clause-places c state is =
    let plan = c.args.plan.now in
    let st = state_of state c.args.site in
    ap (map (λ (wait : Wait). wait.place)) c.new-waits.ensures.items
    ∙ sym (cond-false (is_hungry st.phase) (filter (λ i. not (is_ready plan c.args.site st i)) (range_with_len 0 (length st.traffic))) [] (sym (c.is_hungry.ensures plan state is) ∙ c.if-not-is_hungry.true))

pub overflow_cast-place-end : goal.overflow_cast-place-end
overflow_cast-place-end c = omega (arith, few_places c.args.plan.now c.args.site c.edges_of.ensures.plan, ap length c.edges_of.ensures.edges)

pub loop-place-preserved : goal.loop-place-preserved
loop-place-preserved c state is =
    let plan = c.args.plan.now in
    let s = c.args.site in
    let st = state_of state s in
    let place = c.loop-place.place in
    let old = c.loop-place.waits.items in
    let before = c.loop-place.invariant state is in
    elim c.match-at.branch [
      | in-Some+in_ok-add_wait w ↦
          let end = w.in-Some.end in
          let at = w.in-Some.ensures in
          let now = ap (λ (v : _). v.items) w.waits-is in
          elim (w.in_ok-add_wait.ensures state is) [
            | inl r ↦
                let ready = subst (λ (i : ℕ). is_ready plan s st i ≡ true) at.2 (subst (λ (x : ℕ). is_ready plan x (state_of state x) end.place ≡ true) at.1 r.0) in (
                  ap (map (λ (wait : Wait). wait.place)) (now ∙ r.1) ∙ fails_more (is_ready plan s st) (map (λ (wait : Wait). wait.place) old) place ready before.0,
                  subst (All (IsWait plan state s)) (sym (now ∙ r.1)) before.1,
                )
            | inr n ↦
                let kept = subst (λ (i : ℕ). is_ready plan s st i ≡ false) at.2 (subst (λ (x : ℕ). is_ready plan x (state_of state x) end.place ≡ false) at.1 n.0) in (
                  ap (map (λ (wait : Wait). wait.place)) (now ∙ n.1.1) ∙ map-append (λ (wait : Wait). wait.place) old (n.1.0 ∷ [])
                      ∙ ap (λ (i : ℕ). map (λ (wait : Wait). wait.place) old ++ i ∷ []) (n.1.2 ∙ at.2)
                      ∙ passes_more (is_ready plan s st) (map (λ (wait : Wait). wait.place) old) place kept before.0,
                  subst (All (IsWait plan state s)) (sym (now ∙ n.1.1)) (All-push (IsWait plan state s) old n.1.0 before.1 (subst (λ (x : ℕ). IsWait plan state x n.1.0) at.1 n.1.3)),
                )
          ]
      | in_default w ↦
          let found = some_of c.at.result _ _ c.at.ensures (λ past. omega (arith, past, c.loop-place-test.true, ap length c.edges_of.ensures.edges)) in
          absurd (w.in_default.not-Some found.0 found.1)
    ]

pub returns-clause-places : goal.returns-clause-places
returns-clause-places c state is =
    let plan = c.args.plan.now in
    let s = c.args.site in
    let st = state_of state s in
    let keeps = kept_at plan state s is.reached c.requires in
    let all : c.loop-place.place ≡ length st.traffic = omega (arith, c.loop-place-test.false, c.loop-place.auto.place-end, ap length c.edges_of.ensures.edges, keeps.every_place) in
    (c.loop-place.invariant state is).0 ∙ ap (λ (n : ℕ). filter (λ i. not (is_ready plan s st i)) (range_with_len 0 n)) all
    ∙ sym (cond-true (is_hungry st.phase) (filter (λ i. not (is_ready plan s st i)) (range_with_len 0 (length st.traffic))) [] (sym (c.is_hungry.ensures plan state is) ∙ c.if-not-is_hungry.false))

pub returns-clause-causes : goal.returns-clause-causes
returns-clause-causes c state is = (c.loop-place.invariant state is).1
