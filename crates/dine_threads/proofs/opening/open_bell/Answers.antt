use Rattle.std.proofs.Common.{◌≡◌, ◌+◌, ◌++◌, ◌∷◌, [], ℕ, List, length, map, take, sym, ap, ◌∙◌, arith}
use Rattle.std.specs.List.{range_with_len}
use Rattle.std.proofs.lemmas.List.FromFn.{length-map-range_with_len, map-range_with_len_more}
use Rattle.std.proofs.Math.Seq.{take-append_seam}
use Rattle.dine_link.specs.Bells.{SeenRinger, new_ringer}
use Rattle.dine_threads.proofs.opening.open_bell.Goals as goal

-- a list without its last element
front_of : {X : Type 0} (xs ys : List X) (x y : X) → length xs ≡ length ys → xs ++ x ∷ [] ≡ ys ++ y ∷ [] → xs ≡ ys
front_of xs ys x y count is = sym (take-append_seam xs (x ∷ [])) ∙ ap (take (length xs)) is ∙ ap (λ (n : ℕ). take n (ys ++ y ∷ [])) count ∙ take-append_seam ys (y ∷ [])

pub returns-clause-ringers : goal.returns-clause-ringers
returns-clause-ringers c =
    let f : ℕ → SeenRinger = new_ringer c.in-Ok.bell.identity in
    let all = c.in-Ok.ensures.ringers ∙ map-range_with_len_more f 0 c.args.degree c.args.degree (omega arith) in
    let long : length c.take_last-outside.new.self.items ≡ length (map f (range_with_len 0 c.args.degree)) = omega (arith, c.in-Ok.ringers.ok.0, ap length c.in-Ok.ensures.ringers, length-map-range_with_len f 0 (c.args.degree + 1), length-map-range_with_len f 0 c.args.degree, c.take_last-outside.ensures.len, c.take_last-outside.new.self.ok.0) in
    front_of c.take_last-outside.new.self.items (map f (range_with_len 0 c.args.degree)) c.take_last-outside.result (f c.args.degree) long (sym c.take_last-outside.ensures.items ∙ all)
