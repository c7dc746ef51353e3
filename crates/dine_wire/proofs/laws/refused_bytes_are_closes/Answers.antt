use Rattle.dine_rules.proofs.shared.two_ends.TwoEnds.{refused_at}
use Rattle.dine_wire.proofs.CarriedSites.{linked_by_bytes}
use Rattle.dine_wire.proofs.laws.refused_bytes_are_closes.Goals as goal

pub returns : goal.returns
returns c = λ plan run s i other j here there l both. refused_at plan both.is_plan s i other j here there l both.ends both.keeps both.keeps_there
    (linked_by_bytes plan run s i other j here there both.is_plan both.ends both.keeps both.keeps_there both.takes both.takes_there)
