-- Texts that are written in several pieces.
use Rattle.std.proofs.Common.{◌≤◌, ◌+◌, ◌++◌, ℕ, List, Option, drop, length, take, arith, subst, sym, ◌∙◌, inl, inr}
use Rattle.std.proofs.Math.Seq.{take-add, take-append-add, take-append_seam}
use Rattle.std.proofs.lemmas.Bool.{cases_lt}
use Rattle.std.proofs.lemmas.List.{take-append-le, take_all}
use Rattle.std.specs.Io.KnownBytes.{Appends}
use Rattle.std.proofs.KnownBytes.{Appends-trans}
use Rattle.dine_words.specs.Output.{WritesPrefix}

-- the first i bytes of a text, and then the next k of them
pub Appends-next : (a b c : Option (List ℕ)) (text : List ℕ) (i k : ℕ) → Appends a b (take i text) → Appends b c (take k (drop i text)) → Appends a c (take (i + k) text)
Appends-next a b c text i k first second =
    subst (Appends a c) (sym (take-add i k text)) (Appends-trans a b c _ _ first second)

-- a prefix of the front of a text is a prefix of the text
pub WritesPrefix-front : (a b : Option (List ℕ)) (front rest : List ℕ) → WritesPrefix a b front → WritesPrefix a b (front ++ rest)
WritesPrefix-front a b front rest p =
    elim (cases_lt p.0 (length front)) [
      | inl below ↦
          let within : p.0 ≤ length front = omega arith in
          (p.0, subst (Appends a b) (sym (take-append-le p.0 front rest within)) p.1)
      | inr past ↦
          (length front, subst (Appends a b) (take_all p.0 front past ∙ sym (take-append_seam front rest)) p.1)
    ]

-- a whole front, and then a prefix of the rest, is a prefix of the text
pub WritesPrefix-rest : (a b c : Option (List ℕ)) (front rest : List ℕ) → Appends a b front → WritesPrefix b c rest → WritesPrefix a c (front ++ rest)
WritesPrefix-rest a b c front rest whole p =
    (length front + p.0, subst (Appends a c) (sym (take-append-add front rest p.0)) (Appends-trans a b c _ _ whole p.1))
