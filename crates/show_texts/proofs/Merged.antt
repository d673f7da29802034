-- The frames of both ways are told in one order.
use Rattle.std.specs.Prelude.{◌≡◌, ℕ, ◌-◌, ◌<◌, Bool, true, false, List, [], ◌∷◌, Option, length, map, take, drop, refl, slice_index_or}
use Rattle.std.proofs.Common.{ap, sym, ◌∙◌, subst, arith}
use Rattle.std.proofs.lemmas.List.{take_rest}
use Rattle.std.specs.Io.KnownBytes.{Appends}
use Rattle.mux_frame.specs.Frames.{Frame, kept_frame}
use Rattle.mux_frame.specs.declared.frame.FrameBuf.{FrameBuf}
use Rattle.mux_capture.specs.declared.packet.Direction.TheVariants.{ToModem, FromModem}
use Rattle.mux_capture.specs.declared.packet.Direction.{Direction}
use Rattle.show_texts.specs.Merging.{BothSoFar, Comes, HasFrames, IsShownUntimed, PrintsBoth, TellsBoth, driver, driver_alone, modem, modem_alone, more, none, untimed_item, waits}
use Rattle.show_texts.specs.Telling.{Closes, Item, Setting, Teller, TellerFits, Tells, frames_of, has_complaint, setting_of, shown_text}

-- ## The next frame

-- the first of kept frames, and the others
pub first_kept : (bs : List FrameBuf) (b : FrameBuf) → 0 < length bs → b ≡ slice_index_or bs 0 b
    → map kept_frame bs ≡ kept_frame b ∷ map kept_frame (take (length bs - 1) (drop 1 bs))
first_kept [] b l e = absurd (omega (arith, l))
first_kept (x ∷ bs) b l e =
    ap (λ (y : FrameBuf). kept_frame y ∷ map kept_frame bs) (sym e)
    ∙ ap (λ (ys : List FrameBuf). kept_frame b ∷ map kept_frame ys) (sym (take_rest (x ∷ bs) 1))

none_kept : (bs : List FrameBuf) → length bs < 1 → map kept_frame bs ≡ []
none_kept [] l = refl
none_kept (x ∷ bs) l = absurd (omega (arith, l))

alike : (s : Setting) (items : List Item) (d : Direction) (f g : Frame) (to from to_left from_left to2 from2 to_left2 from_left2 : List Frame) → f ≡ g → to ≡ to2 → from ≡ from2 → to_left ≡ to_left2 → from_left ≡ from_left2
    → Comes s items to2 from2 d g to_left2 from_left2 → Comes s items to from d f to_left from_left
alike s items d f g to from to_left from_left to2 from2 to_left2 from_left2 a b c e h m =
    subst (λ (x : Frame × List Frame × List Frame × List Frame × List Frame). Comes s items x.1 x.2 d x.0 x.3 x.4)
    (λ i. (sym a i, sym b i, sym c i, sym e i, sym h i)) m

-- where the driver has no frame left the modem's next one comes
pub modem_alone_comes : (s : Setting) (items : List Item) (to from : List FrameBuf) (b : FrameBuf) (f : Frame) → length to < 1 → 0 < length from
    → b ≡ slice_index_or from 0 b → f ≡ kept_frame b
    → Comes s items (map kept_frame to) (map kept_frame from) FromModem f (map kept_frame to) (map kept_frame (take (length from - 1) (drop 1 from)))
modem_alone_comes s items to from b f l m e is =
    alike s items FromModem f (kept_frame b) _ _ _ _ [] (kept_frame b ∷ map kept_frame (take (length from - 1) (drop 1 from))) [] (map kept_frame (take (length from - 1) (drop 1 from)))
    is (none_kept to l) (first_kept from b m e) (none_kept to l) refl (modem_alone (kept_frame b) _)

-- where the modem has none left the driver's comes
pub driver_alone_comes : (s : Setting) (items : List Item) (to from : List FrameBuf) (b : FrameBuf) (f : Frame) → 0 < length to → length from < 1
    → b ≡ slice_index_or to 0 b → f ≡ kept_frame b
    → Comes s items (map kept_frame to) (map kept_frame from) ToModem f (map kept_frame (take (length to - 1) (drop 1 to))) (map kept_frame from)
driver_alone_comes s items to from b f l m e is =
    alike s items ToModem f (kept_frame b) _ _ _ _ (kept_frame b ∷ map kept_frame (take (length to - 1) (drop 1 to))) [] (map kept_frame (take (length to - 1) (drop 1 to))) []
    is (first_kept to b l e) (none_kept from m) refl (none_kept from m) (driver_alone (kept_frame b) _)

-- where both have some, and the driver's waits, the modem's comes
pub modem_comes : (s : Setting) (items : List Item) (to from : List FrameBuf) (a b : FrameBuf) (w : Bool) (f g : Frame) → 0 < length to → 0 < length from
    → a ≡ slice_index_or to 0 a → b ≡ slice_index_or from 0 b → f ≡ kept_frame a → g ≡ kept_frame b → w ≡ waits s (frames_of items) f → w ≡ true
    → Comes s items (map kept_frame to) (map kept_frame from) FromModem g (map kept_frame to) (map kept_frame (take (length from - 1) (drop 1 from)))
modem_comes s items to from a b w f g l m ea eb fa gb ew is =
    alike s items FromModem g (kept_frame b) _ _ _ _
    (kept_frame a ∷ map kept_frame (take (length to - 1) (drop 1 to))) (kept_frame b ∷ map kept_frame (take (length from - 1) (drop 1 from)))
    (kept_frame a ∷ map kept_frame (take (length to - 1) (drop 1 to))) (map kept_frame (take (length from - 1) (drop 1 from)))
    gb (first_kept to a l ea) (first_kept from b m eb) (first_kept to a l ea) refl
    (modem (kept_frame a) (kept_frame b) _ _ (ap (λ (x : Frame). waits s (frames_of items) x) (sym fa) ∙ (sym ew ∙ is)))

-- where the driver's doesn't wait it comes
pub driver_comes : (s : Setting) (items : List Item) (to from : List FrameBuf) (a b : FrameBuf) (w : Bool) (f g : Frame) → 0 < length to → 0 < length from
    → a ≡ slice_index_or to 0 a → b ≡ slice_index_or from 0 b → f ≡ kept_frame a → g ≡ kept_frame a → w ≡ waits s (frames_of items) f → w ≡ false
    → Comes s items (map kept_frame to) (map kept_frame from) ToModem g (map kept_frame (take (length to - 1) (drop 1 to))) (map kept_frame from)
driver_comes s items to from a b w f g l m ea eb fa ga ew is =
    alike s items ToModem g (kept_frame a) _ _ _ _
    (kept_frame a ∷ map kept_frame (take (length to - 1) (drop 1 to))) (kept_frame b ∷ map kept_frame (take (length from - 1) (drop 1 from)))
    (map kept_frame (take (length to - 1) (drop 1 to))) (kept_frame b ∷ map kept_frame (take (length from - 1) (drop 1 from)))
    ga (first_kept to a l ea) (first_kept from b m eb) refl (first_kept from b m eb)
    (driver (kept_frame a) (kept_frame b) _ _ (ap (λ (x : Frame). waits s (frames_of items) x) (sym fa) ∙ (sym ew ∙ is)))

-- ## All frames

-- no frame is told yet
pub none_so_far : (t : Teller) (to from : List Frame) → BothSoFar t t to from to from
none_so_far t to from = record { setting = refl; items = []; fits = λ h. h; merged = λ h all m. m }

-- one frame more is told
pub more_so_far : (old now new : Teller) (to from to_left from_left to_more from_more : List Frame) (d : Direction) (f : Frame)
    → BothSoFar old now to from to_left from_left
    → ((written : List ℕ) (items : List Item) → TellerFits written now items → Comes (setting_of now) items to_left from_left d f to_more from_more)
    → Tells now new (untimed_item d f)
    → BothSoFar old new to from to_more from_more
more_so_far old now new to from to_left from_left to_more from_more d f h c t = record {
  setting = t.setting ∙ h.setting;
  items = untimed_item d f ∷ h.items;
  fits = λ k. t.fits [] h.items (h.fits k);
  merged = λ k all m.
      h.merged k all
      (more h.items all to_left from_left to_more from_more d f
      (subst (λ (s : Setting). Comes s h.items to_left from_left d f to_more from_more) h.setting (c [] h.items (h.fits k))) m);
}

-- none is left
pub both_told : (old new : Teller) (to from to_left from_left : List Frame) → BothSoFar old new to from to_left from_left → to_left ≡ [] → from_left ≡ []
    → TellsBoth old new to from
both_told old new to from [] [] h e g = record {
  setting = h.setting;
  items = h.items;
  fits = h.fits;
  merged = λ k. h.merged k h.items (none h.items);
}
both_told old new to from [] (x ∷ from_left) h e g = cc
both_told old new to from (x ∷ to_left) from_left h e g = cc

-- and the end
pub both_printed : (first last closed : Teller) (wrong : Bool) (to from : List Frame) (x y : Option (List ℕ)) → TellsBoth first last to from
    → Closes last closed → Appends x y closed.text → wrong ≡ closed.is_wrong → TellerFits [] first []
    → PrintsBoth (setting_of first) wrong to from x y
both_printed first last closed wrong to from x y h c e q k =
    let fits : TellerFits [] last h.items = h.fits k in
    record {
      items = h.items;
      merged = h.merged k;
      printed =
          subst (λ (s : Setting). Appends x y (shown_text s h.items)) h.setting
          (subst (λ (l : List ℕ). Appends x y l) (sym (c.text [] h.items fits)) e);
      is_wrong = q ∙ (c.is_wrong [] h.items fits ∙ ap (λ (s : Setting). has_complaint s h.items) h.setting);
    }

-- frames of both ways, by what a teller that was made for them does
pub prints_whole : (s : Setting) (t : Teller) (wrong was : Bool) (to from : List Frame) (before after : Option (List ℕ)) → setting_of t ≡ s → TellerFits [] t []
    → (TellerFits [] t [] → PrintsBoth (setting_of t) was to from before after) → wrong ≡ was → PrintsBoth s wrong to from before after
prints_whole s t wrong was to from before after same fits p w =
    subst (λ (x : Setting × Bool). PrintsBoth x.0 x.1 to from before after) (λ i. (same i, sym w i)) (p fits)

-- the octets of both ways
pub shown_untimed : (s : Setting) (wrong : Bool) (to from before after : Option (List ℕ)) (bs cs ds es : List FrameBuf) → HasFrames to (map kept_frame bs) → HasFrames from (map kept_frame cs)
    → ds ≡ bs → es ≡ cs → PrintsBoth s wrong (map kept_frame ds) (map kept_frame es) before after → IsShownUntimed s wrong to from before after
shown_untimed s wrong to from before after bs cs ds es h k ed ee p = record {
  to_frames = map kept_frame bs;
  from_frames = map kept_frame cs;
  to_read = h;
  from_read = k;
  prints =
      subst (λ (x : List FrameBuf × List FrameBuf). PrintsBoth s wrong (map kept_frame x.0) (map kept_frame x.1) before after)
      (λ i. (ed i, ee i)) p;
}
