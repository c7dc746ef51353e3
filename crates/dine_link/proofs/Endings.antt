-- What one further letter changes about Close, and that nothing is after Close.
use Rattle.std.specs.Prelude.{Result, Ok, Err, IfOk, IfErr}
use Rattle.dine_link.specs.Links.{SeenEnd, with_letter_at, after_refusal}
use Rattle.std.proofs.Common.{◌≡◌, ℕ, true, false, true≢false, List, [], ◌∷◌, ◌++◌, sym, refl, ◌∙◌, subst}
use Rattle.std.proofs.lemmas.List.{append-nil}
use Rattle.dine_rules.specs.declared.letters.Letter.{Letter}
use Rattle.dine_rules.specs.declared.letters.Letter.TheVariants.{Fork, Request, Done, Close}
use Rattle.dine_rules.specs.Letters.{has_close}
use Rattle.dine_rules.specs.Streams.{is_close_last}
use Rattle.dine_link.specs.Closing.{is_close, ends_in_close}

-- a letter added to a list without Close
pub has_close-added : (letters : List Letter) (x : Letter) → has_close letters ≡ false → has_close (letters ++ x ∷ []) ≡ is_close x
has_close-added [] (Fork fork) h = refl
has_close-added [] (Request edge) h = refl
has_close-added [] Done h = refl
has_close-added [] Close h = refl
has_close-added (Fork fork ∷ letters) x h = has_close-added letters x h
has_close-added (Request edge ∷ letters) x h = has_close-added letters x h
has_close-added (Done ∷ letters) x h = has_close-added letters x h
has_close-added (Close ∷ letters) x h = absurd (true≢false h)

-- in a list without Close nothing is after it, and it is not the last letter
pub close_last-open : (letters : List Letter) → has_close letters ≡ false → is_close_last letters ≡ true
close_last-open [] h = refl
close_last-open (Fork fork ∷ letters) h = close_last-open letters h
close_last-open (Request edge ∷ letters) h = close_last-open letters h
close_last-open (Done ∷ letters) h = close_last-open letters h
close_last-open (Close ∷ letters) h = absurd (true≢false h)

last_of : (x : Letter) → has_close (x ∷ []) ≡ false → is_close x ≡ false
last_of (Fork fork) h = refl
last_of (Request edge) h = refl
last_of Done h = refl
last_of Close h = absurd (true≢false h)

rest_of : (x : Letter) (letters : List Letter) → has_close (x ∷ letters) ≡ false → has_close letters ≡ false
rest_of (Fork fork) letters h = h
rest_of (Request edge) letters h = h
rest_of Done letters h = h
rest_of Close letters h = absurd (true≢false h)

pub not_ended-open : (letters : List Letter) → has_close letters ≡ false → ends_in_close letters ≡ false
not_ended-open [] h = refl
not_ended-open (x ∷ []) h = last_of x h
not_ended-open (x ∷ y ∷ letters) h = not_ended-open (y ∷ letters) (rest_of x (y ∷ letters) h)

-- Close added to a list without it is the last letter, and the only Close
pub ended-added : (letters : List Letter) → ends_in_close (letters ++ Close ∷ []) ≡ true
ended-added [] = refl
ended-added (x ∷ []) = refl
ended-added (x ∷ y ∷ letters) = ended-added (y ∷ letters)

pub close_last-added : (letters : List Letter) → has_close letters ≡ false → is_close_last (letters ++ Close ∷ []) ≡ true
close_last-added [] h = refl
close_last-added (Fork fork ∷ letters) h = close_last-added letters h
close_last-added (Request edge ∷ letters) h = close_last-added letters h
close_last-added (Done ∷ letters) h = close_last-added letters h
close_last-added (Close ∷ letters) h = absurd (true≢false h)

-- a prefix that has Close is followed by no letter
nothing_behind : (taken : List Letter) (x : Letter) (queue : List Letter) → has_close taken ≡ true → is_close_last (taken ++ x ∷ queue) ≡ true → ⊥
nothing_behind [] x queue h last = true≢false (sym h)
nothing_behind (Fork fork ∷ taken) x queue h last = nothing_behind taken x queue h last
nothing_behind (Request edge ∷ taken) x queue h last = nothing_behind taken x queue h last
nothing_behind (Done ∷ taken) x queue h last = nothing_behind taken x queue h last
nothing_behind (Close ∷ []) x queue h last = true≢false (sym last)
nothing_behind (Close ∷ y ∷ taken) x queue h last = true≢false (sym last)

-- what was taken up to Close is all that was put
pub whole : (put taken queue : List Letter) → put ≡ taken ++ queue → has_close taken ≡ true → is_close_last put ≡ true → taken ≡ put
whole put taken [] e h last = sym (append-nil taken) ∙ sym e
whole put taken (x ∷ queue) e h last = absurd (nothing_behind taken x queue h (let P : List Letter → Type 0 = λ letters. is_close_last letters ≡ true in subst P e last))

-- a send, refused or not, of a letter other than Close leaves an end without Close
pub unclosed-sent : {Identity : Type 0} (result : Result Unit Letter) (before after : SeenEnd Identity) (x : Letter) (at : ℕ) → IfOk result (λ _. after ≡ with_letter_at x at before) → IfErr result (λ _. after ≡ after_refusal before)
    → has_close before.letters ≡ false → is_close x ≡ false → has_close after.letters ≡ false
unclosed-sent (Ok done) before after x at put refused unclosed other = rw put (has_close-added before.letters x unclosed ∙ other)
unclosed-sent (Err back) before after x at put refused unclosed other = rw refused unclosed
