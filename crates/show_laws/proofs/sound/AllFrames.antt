-- Nothing is wrong with a frame that breaks none of the five rules.
use Rattle.std.specs.Prelude.{◌≡◌, ℕ, false, List, [], ◌∷◌, ◌++◌, map, reverse, refl}
use Rattle.std.specs.List.{list_any}
use Rattle.std.proofs.Common.{ap, ◌∙◌}
use Rattle.std.proofs.lemmas.Bool.{or_parts}
use Rattle.mux_capture.specs.Passing.{Caught}
use Rattle.modem_history.specs.Calls.{Setting}
use Rattle.modem_show.specs.declared.faults.Faults.{Faults}
use Rattle.modem_show.specs.declared.rule.Rule.{Rule}
use Rattle.modem_show.specs.declared.rule.Rule.TheVariants.{Unasked, Unopened, Unstopped, TooLong, Astray}
use Rattle.modem_show.specs.Judging.{faults_from}
use Rattle.modem_show.specs.Rows.{sound}
use Rattle.modem_show.specs.Rules.{breaks}
use Rattle.show_laws.specs.Lines.{LineAct, captured}
use Rattle.show_laws.specs.Laws.{AllSound}
use Rattle.show_laws.proofs.asks.NoneUnasked.{answers_asks}
use Rattle.show_laws.proofs.lines.JudgedFrames.{turned}
use Rattle.show_laws.proofs.openings.BothOpen.{send_while_open}
use Rattle.show_laws.proofs.sizes.NoneTooLong.{fits_n1}
use Rattle.show_laws.proofs.stops.NoneUnstopped.{heeds_stops}
use Rattle.show_laws.proofs.texts.NoneAstray.{carries_text}
use Rattle.show_laws.specs.Laws.{AnswersAsks, SendWhileOpen, CarriesText, FitsN1, HeedsStops}

abbrev Kept : Rule → List Faults → Type 0
Kept rule fs = list_any (λ f. breaks f rule) fs ≡ false

one_sound : (f : Faults) → f.unasked ≡ false → f.unopened ≡ false → f.unstopped ≡ false → f.too_long ≡ false → f.astray ≡ false → f ≡ sound
one_sound f a b c d e = λ i. record { unasked = a i; unopened = b i; unstopped = c i; too_long = d i; astray = e i }

each_sound : (fs : List Faults) → Kept Unasked fs → Kept Unopened fs → Kept Unstopped fs → Kept TooLong fs → Kept Astray fs → fs ≡ map (λ f. sound) fs
each_sound [] a b c d e = refl
each_sound (f ∷ fs) a b c d e =
    let ka = or_parts f.unasked (list_any (λ g. breaks g Unasked) fs) a in
    let kb = or_parts f.unopened (list_any (λ g. breaks g Unopened) fs) b in
    let kc = or_parts f.unstopped (list_any (λ g. breaks g Unstopped) fs) c in
    let kd = or_parts f.too_long (list_any (λ g. breaks g TooLong) fs) d in
    let ke = or_parts f.astray (list_any (λ g. breaks g Astray) fs) e in
    ap (λ (g : Faults). g ∷ fs) (one_sound f ka.0 kb.0 kc.0 kd.0 ke.0) ∙ ap (λ (gs : List Faults). sound ∷ gs) (each_sound fs ka.1 kb.1 kc.1 kd.1 ke.1)

one_each : (n1 : ℕ) (line frames : List Caught) → map (λ (f : Faults). sound) (faults_from n1 line frames) ≡ map (λ (c : Caught). sound) frames
one_each n1 line [] = refl
one_each n1 line (c ∷ frames) = ap (λ (fs : List Faults). sound ∷ fs) (one_each n1 (c ∷ line) frames)

last_first : (c : Caught) (xs : List Caught) → map (λ (x : Caught). sound) (xs ++ c ∷ []) ≡ sound ∷ map (λ (x : Caught). sound) xs
last_first c [] = refl
last_first c (x ∷ xs) = ap (λ (fs : List Faults). sound ∷ fs) (last_first c xs)

any_order : (line : List Caught) → map (λ (c : Caught). sound) (reverse line) ≡ map (λ (c : Caught). sound) line
any_order [] = refl
any_order (c ∷ line) =
    ap (map (λ (x : Caught). sound)) (turned c line) ∙ (last_first c (reverse line) ∙ ap (λ (fs : List Faults). sound ∷ fs) (any_order line))

-- nothing is wrong with any frame of a plain line, where neither end has a greater N1 than this, and a probe fits
pub all_sound : (s : Setting) (n1 : ℕ) (line : List LineAct) → AllSound s n1 line
unfolding AllSound AnswersAsks SendWhileOpen CarriesText FitsN1 HeedsStops
all_sound s n1 line h stamps most low high high2 =
    let fs = faults_from most [] (reverse (captured stamps line)) in
    each_sound fs (answers_asks s n1 line h.lawful stamps most) (send_while_open s n1 line h.lawful h.once stamps most)
    (heeds_stops s n1 line h.lawful h.once stamps most) (fits_n1 s n1 line h.lawful h.probes stamps most low high high2)
    (carries_text s n1 line h.lawful h.commands h.offers stamps most)
    ∙ (one_each most [] (reverse (captured stamps line)) ∙ any_order (captured stamps line))
