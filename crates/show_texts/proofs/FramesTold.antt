-- A frame is told.
use Rattle.std.specs.Prelude.{Result, Ok, Err, OnOk, ◌≡◌, ◌≢◌, ℕ, ◌<◌, ◌==◌, ◌||◌, Bool, true, false, List, [], ◌∷◌, ◌++◌, length, replicate, Option, refl, if◌then◌else◌, slice_index_or, slice_set}
use Rattle.std.proofs.Common.{ap, sym, ◌∙◌, subst, arith, append_assoc}
use Rattle.std.proofs.lemmas.Bool.{eqb-true, eqb-false}
use Rattle.std.proofs.lemmas.List.{get_or-replicate, get_or-set_other, get_or_default}
use Rattle.std.proofs.lemmas.Grind.{get_or-set_at}
use Rattle.at_text.specs.Rules.{Rules, dialect_of}
use Rattle.mux_frame.specs.Frames.{Frame}
use Rattle.mux_frame.specs.declared.frame.Kind.{Kind}
use Rattle.mux_capture.specs.Passing.{Caught, Passed}
use Rattle.mux_capture.specs.declared.packet.Direction.{Direction}
use Rattle.mux_capture.specs.declared.packet.Stamp.{Stamp}
use Rattle.modem_show.specs.Asking.{answered_kind}
use Rattle.modem_show.specs.Judging.{WatchFits, faults_of}
use Rattle.modem_show.specs.Talking.{TalksFit, told_in}
use Rattle.modem_show.specs.Ways.{caught}
use Rattle.modem_show.specs.declared.faults.Faults.{Faults}
use Rattle.modem_show.specs.declared.told.Told.{Told}
use Rattle.show_texts.specs.declared.tally.Tally.{Tally}
use Rattle.show_texts.specs.Complaints.{faults_text, has_fault}
use Rattle.show_texts.specs.Frames.{event_text}
use Rattle.show_texts.specs.Lines.{are_wrong}
use Rattle.show_texts.specs.Tallies.{no_tally, with_frame}
use Rattle.show_texts.specs.Telling.{Damage, Framed, Item, Setting, Teller, TellerFits, Tells, are_wrong_items, damage_text, data_in, frames_of, is_data_on, items_text, setting_of, tally_at, tally_of, told_by, told_with}

-- the text of a frame by its parts
texts_alike : (rules : Rules) (s : Stamp) (d : Direction) (f : Frame) (a a2 : Option Kind) (k k2 : Option Stamp) (is is2 : Bool) (told told2 : List Told) (faults faults2 : Faults)
    → a ≡ a2 → k ≡ k2 → is ≡ is2 → told ≡ told2 → faults ≡ faults2
    → event_text rules s d a2 k2 is2 f told2 ++ faults_text s d faults2 f ≡ event_text rules s d a k is f told ++ faults_text s d faults f
texts_alike rules s d f a a2 k k2 is is2 told told2 faults faults2 ea ek ei et ef =
    ap (λ (x : Option Kind). event_text rules s d x k2 is2 f told2 ++ faults_text s d faults2 f) (sym ea)
    ∙ (ap (λ (x : Option Stamp). event_text rules s d a x is2 f told2 ++ faults_text s d faults2 f) (sym ek)
    ∙ (ap (λ (x : Bool). event_text rules s d a k x f told2 ++ faults_text s d faults2 f) (sym ei)
    ∙ (ap (λ (x : List Told). event_text rules s d a k is f x ++ faults_text s d faults2 f) (sym et)
    ∙ ap (λ (x : Faults). event_text rules s d a k is f told ++ faults_text s d x f) (sym ef))))

joined : (x y z written old : List ℕ) → x ≡ written ++ old → y ≡ z → x ++ y ≡ written ++ (old ++ z)
joined x y z written old e g = ap (λ (l : List ℕ). l ++ y) e ∙ (append_assoc written old y ∙ ap (λ (l : List ℕ). written ++ (old ++ l)) g)

-- the counts of the frame's connection, and of the others
counts_at : (ts : List Tally) (place d : ℕ) (t u : Tally) (b : Bool) → length ts ≡ 62 → place < 62 → (place == d) ≡ b
    → tally_at (slice_set ts place t) d ≡ (if b then t else tally_at ts d)
counts_at ts place d t u true n l e =
    let w : place < length ts = omega (arith, n) in get_or-set_at ts place d t no_tally (sym (eqb-true place d e)) w
counts_at ts place d t u false n l e =
    let ne : d ≢ place = λ h. eqb-false place d e (sym h) in get_or-set_other ts place d t no_tally ne

counted_on : (place d : ℕ) (t u v : Tally) (b : Bool) → (place == d) ≡ b → (place ≡ d → t ≡ u) → (if b then t else v) ≡ (if b then u else v)
counted_on place d t u v true e h = h (eqb-true place d e)
counted_on place d t u v false e h = refl

-- a frame that passed, was judged and heard, and was written and counted, is told
pub frame_tells : (old mid new : Teller) (s : Stamp) (d : Direction) (f : Frame) (answered : Option Kind) (faults : Faults) (told : List Told)
    → length old.tallies ≡ 62 → f.dlci < 62
    → mid.tallies ≡ old.tallies → mid.text ≡ old.text → mid.is_wrong ≡ old.is_wrong
    → mid.watch.n1 ≡ old.watch.n1 → mid.talks.rules ≡ old.talks.rules → mid.talks.data_channels ≡ old.talks.data_channels
    → ((line : List Caught) → WatchFits old.watch line → WatchFits mid.watch (caught s d f ∷ line))
    → ((line : List Caught) → WatchFits old.watch line → faults ≡ faults_of old.watch.n1 line (caught s d f))
    → ((line : List Caught) → WatchFits old.watch line → answered ≡ answered_kind line (caught s d f))
    → ((line : List Caught) → TalksFit old.talks line → answered ≡ answered_kind line (caught s d f) → TalksFit mid.talks (caught s d f ∷ line))
    → ((line : List Caught) → TalksFit old.talks line → answered ≡ answered_kind line (caught s d f) → told ≡ told_in (dialect_of old.talks.rules) old.talks.data_channels line (caught s d f))
    → new ≡ told_by mid s d f answered faults told
    → Tells old new (Framed (caught s d f))
frame_tells old mid new s d f answered faults told n l mt mx mw e1 e2 e3 hw hf ha ht hs is =
    subst (λ (t : Teller). Tells old t (Framed (caught s d f))) (sym is)
    (record {
      setting = setting_is;
      fits = λ written items h.
          let line = frames_of items in
          let counts : tally_at mid.tallies f.dlci ≡ tally_of (setting_of old) f.dlci line =
          ap (λ (ts : List Tally). tally_at ts f.dlci) mt ∙ h.tallies f.dlci l in
          let on : is_data_on (setting_of mid) f.dlci ≡ is_data_on (setting_of old) f.dlci =
          ap (λ (g : Setting). is_data_on g f.dlci) setting_is in
          record {
            watch = hw line h.watch;
            talks = ht line h.talks (ha line h.watch);
            tallies = λ e b.
                counts_at mid.tallies f.dlci e (with_frame s (tally_at mid.tallies f.dlci) (data_in (is_data_on (setting_of mid) f.dlci) f) told) no_tally (f.dlci == e) (ap (λ (ts : List Tally). length ts) mt ∙ n) l refl
                ∙ (counted_on f.dlci e (with_frame s (tally_at mid.tallies f.dlci) (data_in (is_data_on (setting_of mid) f.dlci) f) told)
                (with_frame s (tally_of (setting_of old) e line) (data_in (is_data_on (setting_of old) e) f) (told_with (setting_of old) line (caught s d f)))
                (tally_at mid.tallies e) (f.dlci == e) refl
                (λ g.
                ap (λ (t : Tally). with_frame s t (data_in (is_data_on (setting_of mid) f.dlci) f) told) counts
                ∙ (ap (λ (x : Bool). with_frame s (tally_of (setting_of old) f.dlci line) (data_in x f) told) on
                ∙ (ap (λ (x : List Told). with_frame s (tally_of (setting_of old) f.dlci line) (data_in (is_data_on (setting_of old) f.dlci) f) x) (hs line h.talks (ha line h.watch))
                ∙ ap (λ (k : ℕ). with_frame s (tally_of (setting_of old) k line) (data_in (is_data_on (setting_of old) k) f) (told_with (setting_of old) line (caught s d f))) g)))
                ∙ (ap (λ (t : Tally). if f.dlci == e then with_frame s (tally_of (setting_of old) e line) (data_in (is_data_on (setting_of old) e) f) (told_with (setting_of old) line (caught s d f)) else t)
                (ap (λ (ts : List Tally). tally_at ts e) mt ∙ h.tallies e b)
                ∙ ap (λ (g : Setting). tally_of g e (caught s d f ∷ line)) (sym setting_is)));
            text =
                ap (λ (g : Setting). items_text g (Framed (caught s d f) ∷ items)) setting_is
                ∙ (joined _ _ _ written old.text h.text
                (texts_alike old.talks.rules s d f answered _ (tally_at mid.tallies f.dlci).asked _ (is_data_on (setting_of mid) f.dlci) _ told _ faults _
                (ha line h.watch) (ap (λ (t : Tally). t.asked) counts) on (hs line h.talks (ha line h.watch)) (hf line h.watch))
                ∙ (ap (λ (x : List ℕ). written ++ (x ++ (event_text old.talks.rules s d answered (tally_at mid.tallies f.dlci).asked (is_data_on (setting_of mid) f.dlci) f told ++ faults_text s d faults f))) (sym mx)
                ∙ ap (λ (r : Rules). written ++ (mid.text ++ (event_text r s d answered (tally_at mid.tallies f.dlci).asked (is_data_on (setting_of mid) f.dlci) f told ++ faults_text s d faults f))) (sym e2)));
            is_wrong =
                ap (λ (b : Bool). b || (has_fault faults || are_wrong mid.talks.rules told)) (mw ∙ h.is_wrong)
                ∙ (ap (λ (r : Rules). are_wrong_items (setting_of old) items || (has_fault faults || are_wrong r told)) e2
                ∙ (ap (λ (x : Faults). are_wrong_items (setting_of old) items || (has_fault x || are_wrong old.talks.rules told)) (hf line h.watch)
                ∙ (ap (λ (x : List Told). are_wrong_items (setting_of old) items || (has_fault (faults_of old.watch.n1 line (caught s d f)) || are_wrong old.talks.rules x)) (hs line h.talks (ha line h.watch))
                ∙ ap (λ (g : Setting). are_wrong_items g (Framed (caught s d f) ∷ items)) (sym setting_is))));
          };
    })
  where
    setting_is : setting_of mid ≡ setting_of old
    setting_is = cc (e1, e2, e3)

-- what follows from a fact of a call that went well follows, where it did
pub on_ok : {T E : Type 0} (P Q : Type 0) (r : Result T E) → (P → Q) → OnOk r P → OnOk r Q
on_ok P Q (Ok x) f p = f p
on_ok P Q (Err e) f p = tt

-- so an item is told, where the call went well
pub tells_on_ok : {T E : Type 0} (r : Result T E) (old old2 new : Teller) (P : Type 0) (item : Item) → old ≡ old2 → (P → Tells old new item) → OnOk r P
    → OnOk r (Tells old2 new item)
tells_on_ok r old old2 new P item e f p =
    on_ok P (Tells old2 new item) r (λ x. subst (λ (t : Teller). Tells t new item) e (f x)) p

-- the counts that were read are those of the connection
pub tally_read : (ts : List Tally) (i : ℕ) (t : Tally) → length ts ≡ 62 → i < 62 → t ≡ slice_index_or ts i t → t ≡ tally_at ts i
tally_read ts i t n l e = e ∙ get_or_default ts i t no_tally (omega (arith, n))

-- what is written and counted of a frame
pub told_parts : (t : Teller) (s : Stamp) (d : Direction) (f : Frame) (answered : Option Kind) (faults : Faults) (told : List Told) (rules rules2 : Rules)
    (tally counted : Tally) (is_data : Bool) (place octets : ℕ) (x y : List ℕ) (w : Bool)
    → length t.tallies ≡ 62 → f.dlci < 62 → place ≡ f.dlci → tally ≡ slice_index_or t.tallies place tally
    → rules ≡ t.talks.rules → rules2 ≡ t.talks.rules → is_data ≡ is_data_on (setting_of t) f.dlci
    → x ≡ t.text ++ event_text rules s d answered tally.asked is_data f told → y ≡ x ++ faults_text s d faults f
    → octets ≡ data_in is_data f → counted ≡ with_frame s tally octets told
    → w ≡ (t.is_wrong || (has_fault faults || are_wrong rules2 told))
    → record t { tallies = slice_set t.tallies place counted; text = y; is_wrong = w } ≡ told_by t s d f answered faults told
told_parts t s d f answered faults told rules rules2 tally counted is_data place octets x y w n l ep et er er2 ei ex ey eo ec ew =
    ap (λ (ts : List Tally). record t { tallies = ts; text = y; is_wrong = w }) counts
    ∙ (ap (λ (z : List ℕ). record t { tallies = slice_set t.tallies f.dlci last; text = z; is_wrong = w }) text
    ∙ ap (λ (b : Bool). record t { tallies = slice_set t.tallies f.dlci last; text = t.text ++ shown; is_wrong = b }) wrong)
  where
    last : Tally
    last = with_frame s (tally_at t.tallies f.dlci) (data_in (is_data_on (setting_of t) f.dlci) f) told

    shown : List ℕ
    shown =
        event_text t.talks.rules s d answered (tally_at t.tallies f.dlci).asked (is_data_on (setting_of t) f.dlci) f told
        ++ faults_text s d faults f

    tally_is : tally ≡ tally_at t.tallies f.dlci
    tally_is =
        et
        ∙ (ap (λ (k : ℕ). slice_index_or t.tallies k tally) ep
        ∙ get_or_default t.tallies f.dlci tally no_tally (omega (arith, n)))

    counts : slice_set t.tallies place counted ≡ slice_set t.tallies f.dlci last
    counts =
        ap (λ (k : ℕ). slice_set t.tallies k counted) ep
        ∙ ap (λ (u : Tally). slice_set t.tallies f.dlci u)
        (ec
        ∙ (ap (λ (u : Tally). with_frame s u octets told) tally_is
        ∙ ap (λ (k : ℕ). with_frame s (tally_at t.tallies f.dlci) k told) (eo ∙ ap (λ (b : Bool). data_in b f) ei)))

    text : y ≡ t.text ++ shown
    text =
        ey
        ∙ (ap (λ (z : List ℕ). z ++ faults_text s d faults f) ex
        ∙ (append_assoc t.text (event_text rules s d answered tally.asked is_data f told) (faults_text s d faults f)
        ∙ ap (λ (z : List ℕ). t.text ++ (z ++ faults_text s d faults f))
        (ap (λ (r : Rules). event_text r s d answered tally.asked is_data f told) er
        ∙ (ap (λ (u : Tally). event_text t.talks.rules s d answered u.asked is_data f told) tally_is
        ∙ ap (λ (b : Bool). event_text t.talks.rules s d answered (tally_at t.tallies f.dlci).asked b f told) ei))))

    wrong : w ≡ (t.is_wrong || (has_fault faults || are_wrong t.talks.rules told))
    wrong = ew ∙ ap (λ (r : Rules). t.is_wrong || (has_fault faults || are_wrong r told)) er2

-- damage is told
pub damage_tells : (old new : Teller) (p : Passed) → new ≡ record old { text = old.text ++ damage_text p } → Tells old new (Damage p)
damage_tells old new p is =
    subst (λ (t : Teller). Tells old t (Damage p)) (sym is)
    (record {
      setting = refl;
      fits = λ written items h. record {
        watch = h.watch;
        talks = h.talks;
        tallies = h.tallies;
        text = ap (λ (x : List ℕ). x ++ damage_text p) h.text ∙ append_assoc written old.text (damage_text p);
        is_wrong = h.is_wrong;
      };
    })

-- nothing passed
pub nothing_told : (t : Teller) → t.tallies ≡ replicate 62 no_tally → t.text ≡ [] → t.is_wrong ≡ false
    → WatchFits t.watch [] → TalksFit t.talks [] → TellerFits [] t []
nothing_told t e x w hw ht = record {
  watch = hw;
  talks = ht;
  tallies = λ d l. ap (λ (ts : List Tally). slice_index_or ts d no_tally) e ∙ get_or-replicate 62 d no_tally no_tally l;
  text = sym x;
  is_wrong = w;
}
