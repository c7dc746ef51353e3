-- What the steps of a site do to its ports.
use Rattle.std.specs.Prelude.{◌≡◌, ℕ, false, List, [], ◌∷◌, ◌++◌, slice_get, slice_set, IfSome}
use Rattle.dine_rules.specs.declared.letters.Letter.{Letter}
use Rattle.dine_rules.specs.declared.letters.Letter.TheVariants.{Close}
use Rattle.dine_rules.specs.declared.letters.LetterKind.{LetterKind}
use Rattle.dine_rules.specs.declared.letters.LetterKind.TheVariants as four
use Rattle.dine_link.specs.declared.deed.Deed.{Deed}
use Rattle.dine_link.specs.Deeds.{HasRungFor}
use Rattle.dine_rules.specs.Letters.{kind_of}
use Rattle.dine_site_thread.specs.declared.port.Sent.{Sent}
use Rattle.dine_site_thread.specs.declared.port.Sent.TheVariants.{Heard, Refused, Unheard}
use Rattle.dine_site_thread.specs.declared.port.Closed.{Closed}
use Rattle.dine_site_thread.specs.declared.port.Closed.TheVariants as closed
use Rattle.dine_link.specs.Bells.{after_refused_ring, after_ring}
use Rattle.dine_link.specs.Links.{after_refusal, with_letter_at}
use Rattle.dine_site_thread.specs.Ports.{SeenPort}

-- the last of the letters is of this kind
pub record EndsIn (kind : LetterKind) (letters : List Letter) : Type 0 where
  pub front : List Letter
  pub last : Letter
  pub is_kind : kind_of last ≡ kind
  pub parts : letters ≡ front ++ last ∷ []

module _ {Identity : Type 0} where
  -- the port after a letter was put and the bell rung
  abbrev pub port_after_put : ℕ → Letter → SeenPort Identity → SeenPort Identity
  port_after_put m letter port = record { tx = with_letter_at letter m port.tx; is_live = port.is_live; rx = port.rx; ringer = after_ring port.ringer }

  -- the port after a letter was put and the ring refused
  abbrev pub port_after_unheard_put : ℕ → Letter → SeenPort Identity → SeenPort Identity
  port_after_unheard_put m letter port = record { tx = with_letter_at letter m port.tx; is_live = port.is_live; rx = port.rx; ringer = after_refused_ring port.ringer }

  -- the port after Close was put and the bell rung; no more can be put
  abbrev pub port_after_close : ℕ → SeenPort Identity → SeenPort Identity
  port_after_close m port = record { tx = with_letter_at Close m port.tx; is_live = false; rx = port.rx; ringer = after_ring port.ringer }

  -- the port after Close was put and the ring refused; no more can be put
  abbrev pub port_after_unheard_close : ℕ → SeenPort Identity → SeenPort Identity
  port_after_unheard_close m port = record { tx = with_letter_at Close m port.tx; is_live = false; rx = port.rx; ringer = after_refused_ring port.ringer }

  -- the port after the link refused a letter or Close
  abbrev pub port_after_refusal : SeenPort Identity → SeenPort Identity
  port_after_refusal port = record { tx = after_refusal port.tx; is_live = port.is_live; rx = port.rx; ringer = port.ringer }

  -- the port after a letter was taken
  abbrev pub port_after_take : ℕ → Letter → SeenPort Identity → SeenPort Identity
  port_after_take m letter port = record { tx = port.tx; is_live = port.is_live; rx = with_letter_at letter m port.rx; ringer = port.ringer }

  -- the port after the link refused to give a letter
  abbrev pub port_after_refused_take : SeenPort Identity → SeenPort Identity
  port_after_refused_take port = record { tx = port.tx; is_live = port.is_live; rx = after_refusal port.rx; ringer = port.ringer }

  -- the port after the bell was rung
  abbrev pub port_after_ring : SeenPort Identity → SeenPort Identity
  port_after_ring port = record { tx = port.tx; is_live = port.is_live; rx = port.rx; ringer = after_ring port.ringer }

  -- the port after the bell refused the ring
  abbrev pub port_after_refused_ring : SeenPort Identity → SeenPort Identity
  port_after_refused_ring port = record { tx = port.tx; is_live = port.is_live; rx = port.rx; ringer = after_refused_ring port.ringer }

  -- a letter was sent: it was put and the bell rung, or the link refused it and it is handed back, or the bell refused
  -- the ring
  abbrev pub Sends : ℕ → Letter → SeenPort Identity → SeenPort Identity → Sent → Type 0
  Sends m letter old new Heard = new ≡ port_after_put m letter old
  Sends m letter old new Unheard = new ≡ port_after_unheard_put m letter old
  Sends m letter old new (Refused back) = (back ≡ letter) × (new ≡ port_after_refusal old)

  -- Close was sent: it was put and the bell rung, or it was put and the ring refused, or the link refused it
  abbrev pub SendsClose : ℕ → SeenPort Identity → SeenPort Identity → Closed → Type 0
  SendsClose m old new closed.Heard = new ≡ port_after_close m old
  SendsClose m old new closed.Unheard = new ≡ port_after_unheard_close m old
  SendsClose m old new closed.Refused = new ≡ port_after_refusal old

  -- one of the ports changed, in this way
  abbrev pub ChangesAt : ℕ → (SeenPort Identity → SeenPort Identity → Type 0) → List (SeenPort Identity) → List (SeenPort Identity) → Type 0
  ChangesAt i Way olds news = IfSome (slice_get olds i) (λ (old : SeenPort Identity). (new : SeenPort Identity) × Way old new × (news ≡ slice_set olds i new))

-- the log of a thread that sent a letter of this kind at this place: it has the ring, if there was one, and that the
-- neighbour was woken, if the ring had to wake it
abbrev pub LogsRing : ℕ → LetterKind → List Deed → List Deed → Sent → Type 0
LogsRing place kind old new Heard = HasRungFor place kind old new
LogsRing place kind old new Unheard = new ≡ old
LogsRing place kind old new (Refused back) = new ≡ old

-- the same for Close
abbrev pub LogsClose : ℕ → List Deed → List Deed → Closed → Type 0
LogsClose place old new closed.Heard = HasRungFor place four.Close old new
LogsClose place old new closed.Unheard = new ≡ old
LogsClose place old new closed.Refused = new ≡ old
