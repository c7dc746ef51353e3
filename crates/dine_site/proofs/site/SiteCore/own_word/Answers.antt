use Rattle.std.proofs.Common.{◌≡◌, ◌∙◌, Some, None, arith}
use Rattle.std.proofs.lemmas.Grind.{common_steps}
use Rattle.dine_set.specs.Marks.{marks_of}
use Rattle.dine_site.specs.Places.{can_close_at}
use Rattle.dine_site.proofs.own_events.OwnEvents.{word_ask, word_close, word_done}
use Rattle.dine_site.proofs.site.SiteCore.own_word.Goals as goal

pub returns-in-Some : goal.returns-in-Some
returns-in-Some c = word_ask c.args.self.now c.asks_now-asks.result c.asks_now-asks.ensures c.args.n c.in-Some.i c.in-Some.ensures.value

pub returns-in-Some-nth : goal.returns-in-Some-nth
returns-in-Some-nth c =
    word_done c.args.self.now c.asks_now-asks.result c.asks_now-asks.ensures c.args.n c.len.result c.len.ensures.value c.in_default.ensures.none
    c.dones_now-dones.result c.dones_now-dones.ensures c.in-Some-nth.i c.in-Some-nth.ensures.value

pub returns-in_err-i : goal.returns-in_err-i
returns-in_err-i c =
    let are : c.closes.result ≡ marks_of can_close_at c.args.self.now.places = grind (arith, common_steps) in
    let none : c.from_residual.result ≡ None = grind (arith, common_steps) in
    none ∙ word_close c.args.self.now c.asks_now-asks.result c.asks_now-asks.ensures c.args.n c.len.result c.len.ensures.value c.in_default.ensures.none
    c.dones_now-dones.result c.dones_now-dones.ensures c.len-2.result c.len-2.ensures.value c.in_default-nth.ensures.none
    c.closes.result are None c.in_err-i.ensures.value

pub returns : goal.returns
returns c =
    let are : c.closes.result ≡ marks_of can_close_at c.args.self.now.places = grind (arith, common_steps) in
    word_close c.args.self.now c.asks_now-asks.result c.asks_now-asks.ensures c.args.n c.len.result c.len.ensures.value c.in_default.ensures.none
    c.dones_now-dones.result c.dones_now-dones.ensures c.len-2.result c.len-2.ensures.value c.in_default-nth.ensures.none
    c.closes.result are (Some c.in_ok-i.i) c.in_ok-i.ensures.value
