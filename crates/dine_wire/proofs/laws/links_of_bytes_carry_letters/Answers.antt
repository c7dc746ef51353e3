use Rattle.dine_wire.proofs.CarriedSites.{linked_by_bytes, next_by_bytes}
use Rattle.dine_wire.proofs.laws.links_of_bytes_carry_letters.Goals as goal

pub returns : goal.returns
returns c = record {
  linked = λ plan run s i other j here there both. linked_by_bytes plan run s i other j here there both.is_plan both.ends both.keeps both.keeps_there both.takes both.takes_there;
  next = λ plan run s i other j here there l both. next_by_bytes plan run s i other j here there both.is_plan both.ends both.keeps both.keeps_there both.takes both.takes_there l;
}
