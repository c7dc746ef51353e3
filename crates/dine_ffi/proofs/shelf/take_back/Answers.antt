use mir.Syntax.{w64}
use mir.Val.{SFits}
use Rattle.std.proofs.Common.{rules, ◌≡◌, ℕ, zero, suc, ◌<◌, ℤ, List, [], ◌∷◌, length, Option, Some, None, refl, ap, sym, subst, ◌∙◌, arith, slice_index_or, slice_set}
use Rattle.std.proofs.lemmas.Int.{to_z-of_z}
use Rattle.dine_token.specs.Fork.{SeenFork}
use Rattle.dine_ffi.specs.Shelves.{IsNotTakenBack, kept_at}
use Rattle.dine_ffi.proofs.PutBack.{set_back}
use Rattle.dine_ffi.proofs.shelf.take_back.Goals as goal

-- an element that is there is read, whatever would be read past the end
other_default : {X : Type 0} (l : List X) (i : ℕ) (a b : X) → i < length l → slice_index_or l i a ≡ slice_index_or l i b
other_default [] i a b h = absurd (omega (arith, h))
other_default (x ∷ xs) zero a b h = refl
other_default (x ∷ xs) (suc i) a b h = other_default xs i a b (omega (arith, h))

pub returns-in-Err-clause-back : goal.returns-in-Err-clause-back
returns-in-Err-clause-back c =
    let shelf = c.args.shelf.now.items in
    let same : c.index_mut.result.now ≡ Some c.in-Err.refused.kept =
    sym c.replace.ensures.value ∙ c.in-Some.is ∙ ap (λ (fork : SeenFork). Some fork) (sym c.in-Err.ensures.kept) in (
      search rules,
      ap (λ (slot : Option SeenFork). slice_set (slice_set shelf c.args.i c.replace.new.dest) c.args.i slot) (sym same)
          ∙ set_back shelf c.args.i c.replace.new.dest c.index_mut.result.now (sym c.index_mut.ensures.value),
    )

pub returns-in-Err-clause-why : goal.returns-in-Err-clause-why
returns-in-Err-clause-why c =
    let r = c.wire_status-status.result in
    let fits : SFits w64 r = search rules in
    let f = c.in-Err.refused.fault in
    let shelf = c.args.shelf.now.items in
    λ within.
    let here : kept_at c.args.i shelf ≡ Some c.in-Some.kept =
    other_default shelf c.args.i None c.index_mut.result.now within ∙ sym c.index_mut.ensures.value ∙ sym c.replace.ensures.value ∙ c.in-Some.is in
    subst (λ (r : ℤ). IsNotTakenBack c.args.plan.now (kept_at c.args.i shelf) c.args.note r) (sym (to_z-of_z w64 r fits))
    (subst (λ (o : Option SeenFork). IsNotTakenBack c.args.plan.now o c.args.note r) (sym here) (f, c.wire_status-status.ensures.status, c.in-Err.ensures.refused))
