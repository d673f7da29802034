-- Octets come behind a text, one after the other.
use Rattle.std.specs.Prelude.{◌≡◌, ◌↔◌, ℕ, ◌+◌, ◌<◌, Bool, true, false, List, [], ◌∷◌, ◌++◌, length, take, get_or, refl, Option, Some, None, is_some}
use Rattle.std.proofs.Common.{ap, sym, ◌∙◌, subst, arith, add-one, true≢false}
use Rattle.std.proofs.lemmas.List.{append_assoc}
use Rattle.std.proofs.Math.Seq.{take-suc}
use Rattle.at_text.specs.Reading.{HasRead}
use Rattle.at_text.specs.declared.finals.Final.{Final}
use Rattle.at_text.specs.declared.finals.Final.TheVariants.{Good}
use Rattle.modem_history.specs.Sessions.{LineView}
use Rattle.modem_driver.specs.EndpointSteps.{with_received}
use Rattle.modem_driver.specs.Entries.{SeesCode}
use Rattle.modem_driver.specs.declared.entry.EntryStep.{EntryStep}
use Rattle.modem_driver.specs.declared.entry.EntryStep.TheVariants.{Answered, Idle, Moved}
use Rattle.modem_driver.specs.EntrySteps.{EntryView, IsAnswered, StepsTo, EntryStepsOn, step_by}
use Rattle.modem_c.specs.Entries.{Ends, EntryState, Hears, HearsBy, HearsIn, IsTurnedDown}
use Rattle.modem_driver.proofs.EntrySteps.{came_as, none_came}

-- a step says nothing of a line but what was sent and received
same_octets : (first old now : LineView) (e : EntryView) (said : EntryStep) → now.sent ≡ old.sent → now.received ≡ old.received → StepsTo first old e said → StepsTo first now e said
same_octets first old now e Moved sent came h =
    record { few = h.few; sent_are = sent ∙ h.sent_are; read = h.read; read_are = came ∙ h.read_are; in_turn = h.in_turn; kept = h.kept; none = h.none }
same_octets first old now e Idle sent came h =
    record { few = h.few; sent_are = sent ∙ h.sent_are; read = h.read; read_are = came ∙ h.read_are; in_turn = h.in_turn; kept = h.kept; none = h.none }
same_octets first old now e (Answered code) sent came h =
    record { sent_are = sent ∙ h.sent_are; read = h.read; read_are = came ∙ h.read_are; line = h.line; ended = h.ended; code_is = h.code_is }

-- one octet came where the whole text was given
pub hears_one : (seen was : EntryView) (kept : List ℕ) (octet : ℕ) (code : Option Final) → seen ≡ was → was.written ≡ length was.text
    → HasRead kept (seen.kept ++ octet ∷ []) → SeesCode seen.kept octet code
    → Hears was (record { text = seen.text; written = seen.written; kept = kept }) (octet ∷ []) (step_by code)
unfolding Hears EntryStepsOn
hears_one seen was kept octet code same whole keeps sees first l asked =
    same_octets first _ (with_received l (octet ∷ [])) (record { text = seen.text; written = seen.written; kept = kept }) (step_by code) refl refl
    (came_as l _ seen was kept (Some octet) octet code (step_by code) refl same refl whole refl keeps sees first asked)

-- none came
pub hears_none : (was : EntryView) → Hears was was [] Moved
unfolding Hears EntryStepsOn
hears_none was first l asked = same_octets first _ (with_received l []) was Moved refl refl (none_came l _ was None refl refl first asked)

joined : (first l : LineView) (now : EntryView) (xs ys : List ℕ) (said : EntryStep) → StepsTo first (with_received (with_received l xs) ys) now said
    → StepsTo first (with_received l (xs ++ ys)) now said
joined first l now xs ys said h =
    subst (λ (zs : List ℕ). StepsTo first (record l { received = zs }) now said) (append_assoc l.received xs ys) h

one_more : (octets : List ℕ) (n d : ℕ) → n < length octets → take (n + 1) octets ≡ take n octets ++ get_or octets n d ∷ []
one_more octets n d inside = rw add-one (take-suc octets n d inside)

-- one more behind those so far
pub hears_more : (was mid now : EntryView) (octets : List ℕ) (n d : ℕ) (said : EntryStep) → n < length octets
    → Hears was mid (take n octets) Moved → Hears mid now (get_or octets n d ∷ []) said → Hears was now (take (n + 1) octets) said
unfolding Hears
hears_more was mid now octets n d said inside before one first l asked =
    subst (λ (xs : List ℕ). StepsTo first (with_received l xs) now said) (sym (one_more octets n d inside))
    (joined first l now (take n octets) (get_or octets n d ∷ []) said (one first (with_received l (take n octets)) (before first l asked)))

-- no code came
pub moved_by : (code : Option Final) (b : Bool) → b ≡ is_some code → b ≡ false → step_by code ≡ Moved
moved_by None b is none = refl
moved_by (Some code) b is none = absurd (true≢false (sym is ∙ none))

ends_at : (b : Bool) (e f : EntryState) (octets : List ℕ) (code : Final) → e.is_closing ≡ b → HearsBy b e f octets (Some code) → Ends e octets code
unfolding Hears
ends_at true e f octets code is h = absurd (some_none h.1)
  where
    some_none : Some code ≡ None → ⊥
    some_none q = true≢false (ap is_some q)
ends_at false e f octets code is h = (
  is,
  (λ first l asked. subst (λ (text : List ℕ). IsAnswered first (with_received l octets) text code) h.1.0 (h.1.1.1 first l asked)),
)

-- an answer came
pub ends_by : (e f : EntryState) (octets : List ℕ) (o : Option Final) (code : Final) → o ≡ Some code → HearsIn e f octets o → Ends e octets code
ends_by e f octets o code is h = ends_at e.is_closing e f octets code refl (subst (λ (c : Option Final). HearsIn e f octets c) is h)

-- it is another than OK
pub turned_down : (e f : EntryState) (octets : List ℕ) (code : Option Final) (n : ℕ) → (n ≡ 0) ↔ (code ≡ None) → (n ≡ 27) ↔ (code ≡ Some Good) → n ≡ 28
    → HearsIn e f octets code → IsTurnedDown e octets
turned_down e f octets None n none good is h = absurd (let q = none.1 refl in omega (arith, q, is))
turned_down e f octets (Some code) n none good is h = record {
  code = code;
  other = λ same. let q = good.1 (ap Some same) in omega (arith, q, is);
  ends = ends_by e f octets (Some code) code refl h;
}
