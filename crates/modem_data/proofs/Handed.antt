-- What of a frame goes on to the driver is written.
use Rattle.std.specs.Prelude.{◌≡◌, ℕ, ◌==◌, false, List, [], ◌∷◌, ◌++◌, length, take, drop, flat_map, Option, Some, refl}
use Rattle.std.proofs.Common.{ap, sym, ◌∙◌}
use Rattle.std.proofs.lemmas.List.{append_assoc, append-nil}
use Rattle.std.proofs.lemmas.Grind.{flat_map-append}
use Rattle.mux_frame.specs.Frames.{Frame}
use Rattle.mux_frame.specs.Spelling.{spelled}
use Rattle.modem_data.specs.declared.switch.LineCut.{LineCut}
use Rattle.modem_data.specs.Prompts.{mark_if}
use Rattle.modem_data.specs.Switching.{Carries, released, before_of, behind_of}
use Rattle.modem_data.specs.Hops.{JoinsLines, with_lines}
use Rattle.modem_data.specs.Handing.{handed}

some_lines : (f : Frame) (text : List ℕ) → (length text == 0) ≡ false → flat_map spelled (with_lines f text) ≡ spelled (record f { info = text })
some_lines f [] e = cc
some_lines f (c ∷ text) e = append-nil (spelled (record f { info = c ∷ text }))

joined : (f : Frame) (old x y z : List ℕ) → ((old ++ flat_map spelled (with_lines f x)) ++ flat_map spelled (with_lines f y)) ++ flat_map spelled (with_lines f z) ≡ old ++ flat_map spelled (with_lines f x ++ (with_lines f y ++ with_lines f z))
joined f old x y z =
    append_assoc (old ++ flat_map spelled (with_lines f x)) (flat_map spelled (with_lines f y)) (flat_map spelled (with_lines f z))
    ∙ (append_assoc old (flat_map spelled (with_lines f x)) (flat_map spelled (with_lines f y) ++ flat_map spelled (with_lines f z))
    ∙ ap (λ t. old ++ t) (ap (λ t. flat_map spelled (with_lines f x) ++ t) (sym (flat_map-append spelled (with_lines f y) (with_lines f z)))
    ∙ sym (flat_map-append spelled (with_lines f x) (with_lines f y ++ with_lines f z))))

-- octets of lines, where there are some, are written as a frame of their own
pub put_some : (f : Frame) (text old new : List ℕ) → (length text == 0) ≡ false → new ≡ old ++ spelled (record f { info = text }) → new ≡ old ++ flat_map spelled (with_lines f text)
put_some f text old new some e = e ∙ ap (λ x. old ++ x) (sym (some_lines f text some))

-- a held `>`, the lines before the cut and those behind it, written one behind the other, are what is handed to the driver
pub all_lines : (f : Frame) (o : Option LineCut) (cut : LineCut) (mark before behind old one two new : List ℕ) → o ≡ Some cut → mark ≡ mark_if cut.is_marked → before ≡ take cut.before f.info → behind ≡ drop cut.behind f.info → one ≡ old ++ flat_map spelled (with_lines f mark) → two ≡ one ++ flat_map spelled (with_lines f before) → new ≡ two ++ flat_map spelled (with_lines f behind) → new ≡ old ++ handed f o
all_lines f o cut mark before behind old one two new is m b d e1 e2 e3 =
    rw is (e3 ∙ (ap (λ x. x ++ flat_map spelled (with_lines f behind)) (e2 ∙ ap (λ x. x ++ flat_map spelled (with_lines f before)) e1)
    ∙ joined f old mark before behind ∙ rw (m, b, d) refl))

-- ## Frames of lines

own_info : (f : Frame) (text : List ℕ) → flat_map (λ (g : Frame). g.info) (with_lines f text) ≡ text
own_info f [] = refl
own_info f (c ∷ text) = append-nil (c ∷ text)

-- the frames of a frame's lines have all its lines, in their order
pub joins_lines : (m : Carries) (f : Frame) → JoinsLines m f
joins_lines m f =
    let x = released m f.info in
    let y = before_of m f.info in
    let z = behind_of m f.info in
    flat_map-append (λ (g : Frame). g.info) (with_lines f x) (with_lines f y ++ with_lines f z)
    ∙ (ap (λ t. flat_map (λ (g : Frame). g.info) (with_lines f x) ++ t) (flat_map-append (λ (g : Frame). g.info) (with_lines f y) (with_lines f z)) ∙ rw (own_info f x, own_info f y, own_info f z) refl)
