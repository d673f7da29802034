-- A request that is told something is taken out, and its outcome put behind the others.
use Rattle.std.proofs.Common.{◌≡◌, ◌<◌, ◌||◌, Bool, List, [], ◌∷◌, length, ◌∙◌, ap, sym, arith}
use Rattle.std.specs.Prelude.{slice_index_or, Option, option_map, find}
use Rattle.modem_desk.specs.declared.request.Request.{Request}
use Rattle.modem_history.specs.Acts.{Told}
use Rattle.modem_queues.specs.declared.asker.Asker.{Asker}
use Rattle.modem_queues.specs.Stops.{asker_of, is_answered, is_stop}
use Rattle.modem_core.specs.Telling.{told_by}
use Rattle.modem_core.specs.Cores.{state_shown}
use Rattle.modem_core.proofs.requests.ToldOutcomes.{told_further}
use Rattle.modem_core.proofs.telling.tell_on.Goals as goal

pub loop-place-preserved-in-Some : goal.loop-place-preserved-in-Some
loop-place-preserved-in-Some c =
    let says = told_by c.args.happened c.args.ended (λ d. state_shown c.args.station.now c.args.lost d) in
    let hand = c.loop-place.hand in
    let stop = option_map asker_of (find is_stop c.args.hand.now) in
    let test = c.loop-place-test.true in
    let len = c.len.ensures.value in
    let h1 : c.loop-place.place < length hand = omega (arith, test, len) in
    let looked : c.index-as_slice-place.result ≡ slice_index_or hand c.loop-place.place c.index-as_slice-place.result = c.index-as_slice-place.is ∙ ap (λ (v : List Request). slice_index_or v c.loop-place.place c.index-as_slice-place.result) c.as_slice.ensures in
    let o = c.outcome_of-outcome.result in (
      told_further says stop c.loop-place.place hand c.args.hand.now c.loop-place.told.items c.args.told.now.items c.loop-place.answered c.loop-place.invariant.0 h1 c.index-as_slice-place.result c.remove.result c.in-Some.answer c.remove.new.self c.put_told.new.told.items _
          looked (ap (λ (r : Request). says r.ask) c.index-as_slice-place.is ∙ (sym c.told_by.ensures ∙ c.in-Some.is)) c.remove.ensures.value c.remove.ensures.items o c.outcome_of-outcome.ensures c.put_told.ensures.put
          (ap (λ (b : Bool). c.loop-place.answered || b) (c.ends_for-answered.ensures ∙ ap (λ (s : Option Asker). is_answered s (Told o ∷ [])) c.stop-stop.ensures)),
      c.put_told.ensures.room,
    )
