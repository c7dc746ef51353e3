-- Each step of a link keeps its rule.
use Rattle.std.proofs.Common.{◌≡◌, ◌≢◌, ℕ, zero, suc, true, true≢false, List, [], ◌∷◌, ◌++◌, length, set, sym, refl, ap, ◌∙◌, ⊎_elim, append_assoc}
use mathlib.Core.Option.{some, some-ne-none}
use lib.ListN.{get_elem?}
use Rattle.crossbeam_channel.specs.Fifo.{Pushes, Pops, Forks, Merges, Learns}
use Rattle.atomic_table.proofs.Lists.{at_set, at_snoc}
use Rattle.dine_link.specs.declared.stamped.Stamped.{Stamped}
use Rattle.dine_link.specs.declared.rule.Known.{Known}
use Rattle.dine_link.proofs.Passes.{Each, each_set}
use Rattle.dine_link.specs.private.Rule.{Fits, IsInOrder, fresh_pass, spent_pass, putting_part, taking_part, joined_parts, after_put, after_take}

-- the view just after the end of a list is the one that was added
at_end : (views : List Known) (a b : Known) (j : ℕ) → get_elem? views j ≢ some b → get_elem? (views ++ a ∷ []) j ≡ some b → j ≡ length views
at_end [] a b zero n e = refl
at_end [] a b (suc j) n e = absurd (some-ne-none b (sym e))
at_end (x ∷ xs) a b zero n e = absurd (n e)
at_end (x ∷ xs) a b (suc j) n e = ap suc (at_end xs a b j n e)

-- a new channel
pub begins : IsInOrder [] (fresh_pass ∷ [])
begins = record {
  putter = 0;
  taker = 0;
  put = [];
  taken = [];
  in_order = refl;
  fits = each_set (Fits 0 0 [] []) (fresh_pass ∷ []) 0 fresh_pass (record { puts = λ _. (refl, refl); takes = λ _. (refl, refl) }) (λ j u other e. absurd (other (at_end [] _ u j (λ x. some-ne-none u (sym x)) e)));
}

-- a send
pub puts : (n pass : ℕ) (v : Known) (x : Stamped) → v.puts ≡ true → Pushes IsInOrder n pass v x (λ w. w ≡ after_put v x)
puts n pass v x may items views _ h at = let mine = h.fits pass v at in let put = h.put ++ x ∷ [] in (
  after_put v x,
  record {
    putter = h.putter;
    taker = h.taker;
    put = put;
    taken = h.taken;
    in_order = ap (λ l. l ++ x ∷ []) h.in_order ∙ append_assoc h.taken items (x ∷ []);
    fits =
        each_set (Fits h.putter h.taker put h.taken) views pass (after_put v x) (record { puts = λ _. ((mine.puts may).0, ap (λ l. l ++ x ∷ []) (mine.puts may).1); takes = mine.takes })
        (λ j u other e. record { puts = λ p. absurd (other (((h.fits j u e).puts p).0 ∙ sym (mine.puts may).0)); takes = (h.fits j u e).takes });
  },
  refl,
)

-- a receive
pub takes : (pass : ℕ) (v : Known) → v.takes ≡ true → Pops IsInOrder pass v (λ x w. w ≡ after_take v x)
takes pass v may x items views h at = let mine = h.fits pass v at in let taken = h.taken ++ x ∷ [] in (
  after_take v x,
  record {
    putter = h.putter;
    taker = h.taker;
    put = h.put;
    taken = taken;
    in_order = h.in_order ∙ sym (append_assoc h.taken (x ∷ []) items);
    fits =
        each_set (Fits h.putter h.taker h.put taken) views pass (after_take v x) (record { puts = mine.puts; takes = λ _. ((mine.takes may).0, ap (λ l. l ++ x ∷ []) (mine.takes may).1) })
        (λ j u other e. record { puts = (h.fits j u e).puts; takes = λ p. absurd (other (((h.fits j u e).takes p).0 ∙ sym (mine.takes may).0)) });
  },
  refl,
)

-- a pass cut in two
pub forks : (pass : ℕ) (v : Known) → v.puts ≡ true → v.takes ≡ true → Forks IsInOrder pass v (putting_part v) (taking_part v)
forks pass v a b items views h at =
    let l : Known = putting_part v in
    let r : Known = taking_part v in
    let mine = h.fits pass v at in
    let vs : List Known = set views pass l in
    let Old : ℕ → Known → Type 0 = λ j u. (u.puts ≡ true → (j ≡ h.putter) × (u.put ≡ h.put)) × (u.takes ≢ true) in
    let old : Each Old vs = each_set Old views pass l ((λ _. mine.puts a), λ p. true≢false (sym p)) (λ j u other e. ((h.fits j u e).puts, λ p. other (((h.fits j u e).takes p).0 ∙ sym (mine.takes b).0))) in record {
      putter = h.putter;
      taker = length vs;
      put = h.put;
      taken = h.taken;
      in_order = h.in_order;
      fits =
          λ j u e. ⊎_elim (λ x. record { puts = (old j u x).0; takes = λ p. absurd ((old j u x).1 p) })
          (λ (is : r ≡ u). record { puts = λ p. absurd (true≢false (sym (ap (λ (y : Known). y.puts) is ∙ p))); takes = λ p. (at_end vs r u j (λ x. (old j u x).1 p) e, ap (λ (y : Known). y.taken) (sym is) ∙ (mine.takes b).1) }) (at_snoc vs r u j e);
    }

-- two passes made one
pub merges : (pass : ℕ) (v : Known) (other : ℕ) (u : Known) → v.puts ≡ true → u.takes ≡ true → Merges IsInOrder pass v other u (joined_parts v u) spent_pass
merges pass v other u a b items views h at two at' =
    let one : Known = joined_parts v u in
    let mine = h.fits pass v at in
    let vs : List Known = set views pass one in
    let was : get_elem? views other ≡ some u = ⊎_elim (λ x. absurd (two x.0)) (λ x. x.1) (at_set views pass other one u at') in
    let theirs = (h.fits other u was).takes b in
    let Now : ℕ → Known → Type 0 = λ j y. j ≢ other → Fits h.putter pass h.put h.taken j y in
    let now : Each Now vs = each_set Now views pass one (λ _. record { puts = λ _. mine.puts a; takes = λ _. (refl, theirs.1) }) (λ j y _ e apart. record { puts = (h.fits j y e).puts; takes = λ p. absurd (apart (((h.fits j y e).takes p).0 ∙ sym theirs.0)) }) in record {
      putter = h.putter;
      taker = pass;
      put = h.put;
      taken = h.taken;
      in_order = h.in_order;
      fits = each_set (Fits h.putter pass h.put h.taken) vs other spent_pass (record { puts = λ p. absurd (true≢false (sym p)); takes = λ p. absurd (true≢false (sym p)) }) (λ j y apart e. now j y e apart);
    }

-- what the pass of both ends learns
pub learns : (pass : ℕ) (v : Known) → v.puts ≡ true → v.takes ≡ true → Learns IsInOrder pass v (λ items. v.put ≡ v.taken ++ items)
learns pass v a b items views h at = let mine = h.fits pass v at in (mine.puts a).1 ∙ h.in_order ∙ ap (λ l. l ++ items) (sym (mine.takes b).1)
