-- What is read of the beginning of spelled frames is the beginning of those frames.
use Rattle.std.proofs.Common.{sym, subst, lit<}
use Rattle.std.proofs.lemmas.List.Elements.{All-cons, All-nil}
use Rattle.std.proofs.lemmas.Bool.{and_from, and_parts}
use Rattle.std.specs.Prelude.{◌≡◌, ℕ, ◌≤◌, List, [], ◌∷◌, ◌++◌, flat_map, All, refl}
use Rattle.std.specs.List.{list_all}
use Rattle.mux_frame.specs.Frames.{Frame}
use Rattle.mux_frame.specs.Deframing.{Deframes, Deframing}
use Rattle.mux_frame.specs.Laws.{AreOctets, GoesOn, HasSpelling}
use Rattle.mux_frame.specs.Reading.{Reads, no_flag, fill, frame, cut_short, other}
use Rattle.mux_frame.specs.Spelling.{spelled}
use Rattle.mux_frame.proofs.readings.ComputedReadings.{octets_both, total_reading}
use Rattle.mux_frame.proofs.readings.LaterTexts.{reads_spelled}
use Rattle.mux_frame.proofs.readings.TextReadings.{one_reading}
use Rattle.one_modem.proofs.octets.WithinFrames.{Within, is_within, spelled_within, within_spelled}

-- frames that are read are such as this N1 reads
pub reads_within : (n1 : ℕ) (s : List ℕ) (fs : List Frame) (rest : List ℕ) → Reads n1 s fs rest → Within n1 fs
reads_within n1 s _ _ (no_flag _ e) = refl
reads_within n1 s _ _ (fill _ t fs rest e q) = reads_within n1 _ fs rest q
reads_within n1 s _ _ (frame _ b x f fs rest e k q) =
    and_from (is_within n1 f) (list_all (is_within n1) fs) (spelled_within n1 f (record { octets = b; spells = k })) (reads_within n1 _ fs rest q)
reads_within n1 s _ _ (cut_short _ t e c) = refl
reads_within n1 s _ _ (other _ t fs rest e nf nh nc q) = reads_within n1 t fs rest q

-- and so are the first of such frames
pub first_within : (n1 : ℕ) (fs gs : List Frame) → Within n1 (fs ++ gs) → Within n1 fs
first_within n1 [] gs h = refl
first_within n1 (f ∷ fs) gs h =
    let p = and_parts (is_within n1 f) (list_all (is_within n1) (fs ++ gs)) h in
    and_from (is_within n1 f) (list_all (is_within n1) fs) p.0 (first_within n1 fs gs p.1)

-- so are those that a deframer handed out
pub handed_within : (taken : List ℕ) (handed : List Frame) (d : Deframing) → Deframes taken handed d → Within d.n1 handed
handed_within taken handed d k =
    let more = total_reading d.n1 (d.undecided ++ []) (octets_both d.undecided [] k.octets (λ i. lit< tt)) in
    first_within d.n1 handed more.frames (reads_within d.n1 (taken ++ []) (handed ++ more.frames) more.rest (k.reads [] more.frames more.rest more.reads))

all_spelled : (n1 : ℕ) (fs : List Frame) → n1 ≤ 32767 → Within n1 fs → All (HasSpelling n1) fs
all_spelled n1 [] high h = All-nil (HasSpelling n1)
all_spelled n1 (f ∷ fs) high h =
    let p = and_parts (is_within n1 f) (list_all (is_within n1) fs) h in
    All-cons (HasSpelling n1) f fs (within_spelled n1 f high p.0) (all_spelled n1 fs high p.1)

-- a deframer that took the beginning of spelled frames handed out the first of them
pub handed_first : (taken x : List ℕ) (handed fs : List Frame) (d : Deframing) → Deframes taken handed d → d.n1 ≤ 32767 → Within d.n1 fs → AreOctets x → taken ++ x ≡ flat_map spelled fs → GoesOn handed fs
handed_first taken x handed fs d k high within octets e =
    let more = total_reading d.n1 (d.undecided ++ x) (octets_both d.undecided x k.octets octets) in
    let read : Reads d.n1 (flat_map spelled fs) (handed ++ more.frames) more.rest = subst (λ (s : List ℕ). Reads d.n1 s (handed ++ more.frames) more.rest) e (k.reads x more.frames more.rest more.reads) in
    record { later = more.frames; frames = sym (one_reading d.n1 (flat_map spelled fs) (handed ++ more.frames) fs more.rest _ read (reads_spelled d.n1 fs (all_spelled d.n1 fs high within))).0 }
