use mir.Syntax.{w64}
use mir.Val.{SFits, to_z}
use Rattle.std.proofs.lemmas.Int.{to_z-of_z}
use Rattle.std.proofs.Common.{rules, ℤ, sym, ◌∙◌, ap, subst}
use Rattle.dine_ffi.specs.OwnSites.{TakesOrRefuses}
use Rattle.dine_ffi.specs.declared.contents.Object.TheVariants as object
use Rattle.dine_ffi.specs.declared.contents.Contents.{Contents}
use Rattle.dine_ffi.proofs.OnSites.{on_site, value_is}
use Rattle.dine_ffi.proofs.site_calls.dine_raw_site_take.Goals as goal
use Rattle.dine_ffi.proofs.site_calls.dine_raw_site_take.Goals.{in-Site, in-Plan-1, in-World-1, in-Builder-1}

pub returns : goal.returns
returns c = record {
  becomes = elim c.match-deref_mut.branch [
    | in-Site w ↦
        let own = w.in-Site.site in
        let after = w.take-answer.new.self in
        let result = w.take-answer.result in
        let changed : Contents = record { object = object.Site after } in
        let fits : SFits w64 result = search rules in
        on_site (TakesOrRefuses c.args.letter.now) (to_z w64 c.match-deref_mut.answer-bits) c.args.handle.now.slot.held c.put.new.self.slot.held
        c.in-Some.contents.value c.match-deref_mut.contents.value own after c.in-Some.ensures.held
        (ap (λ (t : Contents). t.object) (sym c.deref_mut.ensures.value) ∙ w.in-Site.is) c.put.ensures (value_is c.match-deref_mut.contents c.in-Some.contents changed w.contents-is)
        (subst (λ (r : ℤ). TakesOrRefuses c.args.letter.now r own after) (sym (w.answer-is ∙ to_z-of_z w64 result fits)) w.take-answer.ensures)
    | in-Plan-1 w ↦ search rules
    | in-World-1 w ↦ search rules
    | in-Builder-1 w ↦ search rules
  ];
}
