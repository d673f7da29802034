-- Octets that pass, and the pieces that are captured of them.
use Rattle.std.specs.Prelude.{◌≡◌, ℕ, Bool, true, false, List, [], ◌∷◌, ◌++◌, map, Option, None, Some, Result, Ok, Err, OnOk, refl, if◌then◌else◌}
use Rattle.std.specs.List.{flat_map}
use Rattle.std.specs.Io.KnownBytes.{Appends}
use Rattle.std.proofs.Common.{sym, ap, subst, ◌∙◌}
use Rattle.std.proofs.lemmas.List.{append_assoc, append-nil}
use Rattle.std.proofs.lemmas.Grind.{flat_map-append}
use Rattle.mux_frame.specs.Reading.{Reads}
use Rattle.mux_frame.specs.Reading as reading
use Rattle.mux_frame.proofs.readings.LaterTexts.{reads_on}
use Rattle.mux_capture.specs.declared.packet.Direction.{Direction}
use Rattle.mux_capture.specs.declared.packet.Direction.TheVariants.{ToModem, FromModem}
use Rattle.mux_capture.specs.declared.packet.Stamp.{Stamp}
use Rattle.mux_capture.specs.Passing.{AreRests, CaptureState, Captures, Catches, CatchesAll, CatchesFrames, HasCaptured, HasStretches, IsOver, IsReadWhole, OverIsRead, Packed, Passed, Renews, Stretch, frames_in, is_same, none_over, octets_in, one_over, packed_at, packet_with, passed_at, piece_packet, pieces_in}
use Rattle.mux_capture.specs.Passing as catches
use Rattle.mux_capture.specs.Pcap.{file_header}
use Rattle.mux_capture.specs.Pieces.{AreDamage, IsAll, Piece, behind_flags, frames_of, octets_of, unflagged}
use Rattle.mux_capture.specs.Pushing.{Passes, PushesDamage, PushesRests}
use Rattle.mux_capture.proofs.Showing.{frames_both, front_of_all, no_frames, shows_all, shows_frames, unflagged_both}

-- where all went well
pub weaker : {A E P Q : Type 0} (r : Result A E) → (P → Q) → OnOk r P → OnOk r Q
weaker (Ok x) f holds = f holds
weaker (Err e) f holds = tt

-- ## Known octets

-- octets were written, and then others
pub appended_more : (a b c : Option (List ℕ)) (xs ys : List ℕ) → Appends a b xs → Appends b c ys → Appends a c (xs ++ ys)
appended_more None b c xs ys p q = tt
appended_more (Some x) None c xs ys p q = absurd p
appended_more (Some x) (Some y) None xs ys p q = absurd q
appended_more (Some x) (Some y) (Some z) xs ys p q = q ∙ ap (λ l. l ++ ys) p ∙ append_assoc x xs ys

packets_are : (stamp : Stamp) (direction : Direction) (ps : List Piece) → flat_map packet_with (map (packed_at stamp direction) ps) ≡ flat_map (piece_packet stamp direction) ps
packets_are stamp direction [] = refl
packets_are stamp direction (p ∷ ps) = ap (λ l. piece_packet stamp direction p ++ l) (packets_are stamp direction ps)

-- what was written before, and the packets of these pieces
written_more : (before between after : Option (List ℕ)) (packed : List Packed) (stamp : Stamp) (direction : Direction) (ps : List Piece) → Appends before between (file_header ++ flat_map packet_with packed)
    → Appends between after (flat_map (piece_packet stamp direction) ps) → Appends before after (file_header ++ flat_map packet_with (packed ++ map (packed_at stamp direction) ps))
written_more before between after packed stamp direction ps first second =
    let all : (file_header ++ flat_map packet_with packed) ++ flat_map (piece_packet stamp direction) ps ≡ file_header ++ flat_map packet_with (packed ++ map (packed_at stamp direction) ps)
    = append_assoc file_header (flat_map packet_with packed) (flat_map (piece_packet stamp direction) ps)
    ∙ ap (λ l. file_header ++ (flat_map packet_with packed ++ l)) (sym (packets_are stamp direction ps))
    ∙ ap (λ l. file_header ++ l) (sym (flat_map-append packet_with packed (map (packed_at stamp direction) ps)))
    in subst (λ l. Appends before after l) all (appended_more before between after (file_header ++ flat_map packet_with packed) (flat_map (piece_packet stamp direction) ps) first second)

-- ## A capture

abbrev state : Option (List ℕ) → ℕ → (to from : List ℕ) → Bool → CaptureState
state written n1 to from failed = record { written = written; n1 = n1; to_modem = to; from_modem = from; failed = failed }

-- more packets stand behind those of the stretches that are over
written_on : (before between after : Option (List ℕ)) (ended packed : List Packed) (stamp : Stamp) (direction : Direction) (ps : List Piece) → Appends before between (file_header ++ flat_map packet_with (ended ++ packed))
    → Appends between after (flat_map (piece_packet stamp direction) ps) → Appends before after (file_header ++ flat_map packet_with (ended ++ (packed ++ map (packed_at stamp direction) ps)))
written_on before between after ended packed stamp direction ps first second =
    subst (λ (l : List Packed). Appends before after (file_header ++ flat_map packet_with l)) (append_assoc ended packed (map (packed_at stamp direction) ps))
    (written_more before between after (ended ++ packed) stamp direction ps first second)

-- octets to the modem are captured, where the packets of what they come to were written
pub captures_to_modem : (old : CaptureState) (w x : Option (List ℕ)) (n1 : ℕ) (to rest from : List ℕ) (failed : Bool) (stamp : Stamp) (octets : List ℕ) → old ≡ state w n1 to from failed
    → Passes n1 stamp ToModem to octets rest w x → Captures old (state x n1 rest from failed) (passed_at stamp ToModem octets)
unfolding Captures
captures_to_modem old w x n1 to rest from failed stamp octets same p =
    subst (λ (o : CaptureState). (before : Option (List ℕ)) (over : List Stretch) (passed : List Passed) → HasStretches before over passed o → HasStretches before over (passed ++ passed_at stamp ToModem octets ∷ []) (state x n1 rest from failed)) (sym same)
    (λ before over passed h. record {
      good = h.good;
      ended = h.ended;
      are_over = h.are_over;
      packed = h.packed ++ map (packed_at stamp ToModem) p.pieces;
      catches = catches.to_modem passed h.packed to from octets rest stamp p.pieces h.catches p.shows;
      written = written_on before w x h.ended h.packed stamp ToModem p.pieces h.written p.written;
    })

-- so are octets from there
pub captures_from_modem : (old : CaptureState) (w x : Option (List ℕ)) (n1 : ℕ) (to from rest : List ℕ) (failed : Bool) (stamp : Stamp) (octets : List ℕ) → old ≡ state w n1 to from failed
    → Passes n1 stamp FromModem from octets rest w x → Captures old (state x n1 to rest failed) (passed_at stamp FromModem octets)
unfolding Captures
captures_from_modem old w x n1 to from rest failed stamp octets same p =
    subst (λ (o : CaptureState). (before : Option (List ℕ)) (over : List Stretch) (passed : List Passed) → HasStretches before over passed o → HasStretches before over (passed ++ passed_at stamp FromModem octets ∷ []) (state x n1 to rest failed)) (sym same)
    (λ before over passed h. record {
      good = h.good;
      ended = h.ended;
      are_over = h.are_over;
      packed = h.packed ++ map (packed_at stamp FromModem) p.pieces;
      catches = catches.from_modem passed h.packed to from octets rest stamp p.pieces h.catches p.shows;
      written = written_on before w x h.ended h.packed stamp FromModem p.pieces h.written p.written;
    })

-- with the header of a file alone nothing is captured
pub captured_none : (before after : Option (List ℕ)) (n1 : ℕ) (to from : List ℕ) → to ≡ [] → from ≡ [] → Appends before after file_header → HasCaptured before [] (state after n1 to from false)
captured_none before after n1 to from no_to no_from written = record {
  good = refl;
  ended = [];
  are_over = none_over;
  packed = [];
  catches = subst (λ (l : List ℕ × List ℕ). Catches n1 [] [] l.0 l.1) (λ i. (sym no_to i, sym no_from i)) catches.none;
  written = subst (λ l. Appends before after l) (sym (append-nil file_header)) written;
}

-- ## Another stretch

-- the packets of what could still become a frame each way
pub rests_pushed : (stamp : Stamp) (to from to_left from_left first second third : List ℕ) (before after : Option (List ℕ)) → first ≡ [] → PushesDamage stamp ToModem to first second → PushesDamage stamp FromModem from second third
    → to_left ≡ [] → from_left ≡ [] → Appends before after third → PushesRests stamp to from to_left from_left before after
rests_pushed stamp to from to_left from_left first second third before after none sent came none_to none_from written = record {
  packed = map (packed_at stamp ToModem) sent.pieces ++ map (packed_at stamp FromModem) came.pieces;
  are = record { sent = sent.pieces; came = came.pieces; sent_are = sent.are; came_are = came.are; packed_is = refl };
  none_to = none_to;
  none_from = none_from;
  written = subst (λ l. Appends before after l) all written;
}
  where
    all : third ≡ flat_map packet_with (map (packed_at stamp ToModem) sent.pieces ++ map (packed_at stamp FromModem) came.pieces)
    all =
        came.pushed ∙ ap (λ l. l ++ flat_map (piece_packet stamp FromModem) came.pieces) (sent.pushed ∙ ap (λ l. l ++ flat_map (piece_packet stamp ToModem) sent.pieces) none)
        ∙ ap (λ l. l ++ flat_map (piece_packet stamp FromModem) came.pieces) (sym (packets_are stamp ToModem sent.pieces))
        ∙ ap (λ l. flat_map packet_with (map (packed_at stamp ToModem) sent.pieces) ++ l) (sym (packets_are stamp FromModem came.pieces))
        ∙ sym (flat_map-append packet_with (map (packed_at stamp ToModem) sent.pieces) (map (packed_at stamp FromModem) came.pieces))

-- all that was captured before, and then these packets
over_written : (before between after : Option (List ℕ)) (ended packed rests : List Packed) → Appends before between (file_header ++ flat_map packet_with (ended ++ packed)) → Appends between after (flat_map packet_with rests)
    → Appends before after (file_header ++ flat_map packet_with ((ended ++ (packed ++ rests)) ++ []))
over_written before between after ended packed rests first second =
    subst (λ l. Appends before after l) all (appended_more before between after (file_header ++ flat_map packet_with (ended ++ packed)) (flat_map packet_with rests) first second)
  where
    all : (file_header ++ flat_map packet_with (ended ++ packed)) ++ flat_map packet_with rests ≡ file_header ++ flat_map packet_with ((ended ++ (packed ++ rests)) ++ [])
    all =
        append_assoc file_header (flat_map packet_with (ended ++ packed)) (flat_map packet_with rests)
        ∙ ap (λ l. file_header ++ l) (sym (flat_map-append packet_with (ended ++ packed) rests))
        ∙ ap (λ (l : List Packed). file_header ++ flat_map packet_with l) (append_assoc ended packed rests ∙ sym (append-nil (ended ++ (packed ++ rests))))

nothing_passed : (n1 : ℕ) (to from : List ℕ) → to ≡ [] → from ≡ [] → Catches n1 [] [] to from
nothing_passed n1 to from no_to no_from = subst (λ (l : List ℕ × List ℕ). Catches n1 [] [] l.0 l.1) (λ i. (sym no_to i, sym no_from i)) catches.none

-- where what could still become a frame is written as damage, the stretch is over
pub renews_by : (old : CaptureState) (w x : Option (List ℕ)) (n1 m : ℕ) (to from to_left from_left : List ℕ) (failed : Bool) (stamp : Stamp) → old ≡ state w n1 to from failed
    → PushesRests stamp to from to_left from_left w x → Renews old (state x m to_left from_left failed)
unfolding Renews
renews_by old w x n1 m to from to_left from_left failed stamp same p =
    subst (λ (o : CaptureState). (before : Option (List ℕ)) (over : List Stretch) (passed : List Passed) → HasStretches before over passed o → HasStretches before (over ++ record { n1 = o.n1; passed = passed } ∷ []) [] (state x m to_left from_left failed)) (sym same)
    (λ before over passed h. record {
      good = h.good;
      ended = h.ended ++ (h.packed ++ p.packed);
      are_over =
          one_over over (record { n1 = n1; passed = passed }) h.ended (h.packed ++ p.packed) h.are_over
          (record { before = h.packed; to = to; from = from; catches = h.catches; stamp = stamp; rests = p.packed; are_rests = p.are; packed_is = refl });
      packed = [];
      catches = nothing_passed m to_left from_left p.none_to p.none_from;
      written = over_written before w x h.ended h.packed p.packed h.written p.written;
    })

-- ## Laws

octets_by : (b : Bool) (o x y z : List ℕ) → x ≡ y ++ z → (if b then o ++ x else x) ≡ (if b then o ++ y else y) ++ z
octets_by true o x y z e = ap (λ l. o ++ l) e ∙ sym (append_assoc o y z)
octets_by false o x y z e = e

octets_both : (d : Direction) (xs ys : List Passed) → octets_in d (xs ++ ys) ≡ octets_in d xs ++ octets_in d ys
octets_both d [] ys = refl
octets_both d (p ∷ xs) ys = octets_by (is_same p.direction d) p.octets (octets_in d (xs ++ ys)) (octets_in d xs) (octets_in d ys) (octets_both d xs ys)

pieces_by : (b : Bool) (p : Piece) (x y z : List Piece) → x ≡ y ++ z → (if b then p ∷ x else x) ≡ (if b then p ∷ y else y) ++ z
pieces_by true p x y z e = ap (λ l. p ∷ l) e
pieces_by false p x y z e = e

pieces_both : (d : Direction) (xs ys : List Packed) → pieces_in d (xs ++ ys) ≡ pieces_in d xs ++ pieces_in d ys
pieces_both d [] ys = refl
pieces_both d (p ∷ xs) ys = pieces_by (is_same p.direction d) p.piece (pieces_in d (xs ++ ys)) (pieces_in d xs) (pieces_in d ys) (pieces_both d xs ys)

to_to : (stamp : Stamp) (ps : List Piece) → pieces_in ToModem (map (packed_at stamp ToModem) ps) ≡ ps
to_to stamp [] = refl
to_to stamp (p ∷ ps) = ap (λ l. p ∷ l) (to_to stamp ps)

from_from : (stamp : Stamp) (ps : List Piece) → pieces_in FromModem (map (packed_at stamp FromModem) ps) ≡ ps
from_from stamp [] = refl
from_from stamp (p ∷ ps) = ap (λ l. p ∷ l) (from_from stamp ps)

to_from : (stamp : Stamp) (ps : List Piece) → pieces_in ToModem (map (packed_at stamp FromModem) ps) ≡ []
to_from stamp [] = refl
to_from stamp (p ∷ ps) = to_from stamp ps

from_to : (stamp : Stamp) (ps : List Piece) → pieces_in FromModem (map (packed_at stamp ToModem) ps) ≡ []
from_to stamp [] = refl
from_to stamp (p ∷ ps) = from_to stamp ps

-- one way, what comes to octets and pieces of a list and one more
record Side (d : Direction) (passed : List Passed) (packed : List Packed) (p : Passed) (new : List Packed) (octets : List ℕ) (pieces : List Piece) : Type 0 where
  octets_are : octets_in d (passed ++ p ∷ []) ≡ octets_in d passed ++ octets
  pieces_are : pieces_in d (packed ++ new) ≡ pieces_in d packed ++ pieces

side : (d : Direction) (passed : List Passed) (packed : List Packed) (p : Passed) (new : List Packed) (octets : List ℕ) (pieces : List Piece) → octets_in d (p ∷ []) ≡ octets → pieces_in d new ≡ pieces
    → Side d passed packed p new octets pieces
side d passed packed p new octets pieces e f = record {
  octets_are = octets_both d passed (p ∷ []) ∙ ap (λ l. octets_in d passed ++ l) e;
  pieces_are = pieces_both d packed new ∙ ap (λ l. pieces_in d packed ++ l) f;
}

-- what the frames were, and those of octets that came behind what could become one
reads_side : (n1 : ℕ) (d : Direction) (passed : List Passed) (packed : List Packed) (p : Passed) (new : List Packed) (kept octets rest : List ℕ) (pieces : List Piece) → Side d passed packed p new octets pieces
    → Reads n1 (octets_in d passed) (frames_in d packed) kept → Reads n1 (kept ++ octets) (frames_of pieces) rest → Reads n1 (octets_in d (passed ++ p ∷ [])) (frames_in d (packed ++ new)) rest
reads_side n1 d passed packed p new kept octets rest pieces s reads later =
    subst (λ l. Reads n1 l (frames_in d (packed ++ new)) rest) (sym s.octets_are)
    (subst (λ l. Reads n1 (octets_in d passed ++ octets) l rest) (sym (ap frames_of s.pieces_are ∙ frames_both (pieces_in d packed) pieces))
    (reads_on n1 (octets_in d passed) octets (frames_in d packed) (frames_of pieces) kept rest reads later))

-- of the other way nothing came
reads_still : (n1 : ℕ) (d : Direction) (passed : List Passed) (packed : List Packed) (p : Passed) (new : List Packed) (kept : List ℕ) → Side d passed packed p new [] [] → Reads n1 (octets_in d passed) (frames_in d packed) kept
    → Reads n1 (octets_in d (passed ++ p ∷ [])) (frames_in d (packed ++ new)) kept
reads_still n1 d passed packed p new kept s reads =
    subst (λ l. Reads n1 l (frames_in d (packed ++ new)) kept) (sym (s.octets_are ∙ append-nil (octets_in d passed)))
    (subst (λ l. Reads n1 (octets_in d passed) l kept) (sym (ap frames_of (s.pieces_are ∙ append-nil (pieces_in d packed)))) reads)

-- the frames captured each way are those that all octets that passed that way are read as
pub catches_frames : CatchesFrames
catches_frames n1 _ _ _ _ catches.none = (reading.no_flag [] refl, reading.no_flag [] refl)
catches_frames n1 _ _ _ _ (catches.to_modem passed packed to from octets rest stamp pieces c shown) =
    let both = catches_frames n1 passed packed to from c in (
      reads_side n1 ToModem passed packed (passed_at stamp ToModem octets) (map (packed_at stamp ToModem) pieces) to octets rest pieces
          (side ToModem passed packed (passed_at stamp ToModem octets) (map (packed_at stamp ToModem) pieces) octets pieces (append-nil octets) (to_to stamp pieces)) both.0
          (shows_frames n1 (to ++ octets) rest pieces shown),
      reads_still n1 FromModem passed packed (passed_at stamp ToModem octets) (map (packed_at stamp ToModem) pieces) from
          (side FromModem passed packed (passed_at stamp ToModem octets) (map (packed_at stamp ToModem) pieces) [] [] refl (from_to stamp pieces)) both.1,
    )
catches_frames n1 _ _ _ _ (catches.from_modem passed packed to from octets rest stamp pieces c shown) =
    let both = catches_frames n1 passed packed to from c in (
      reads_still n1 ToModem passed packed (passed_at stamp FromModem octets) (map (packed_at stamp FromModem) pieces) to
          (side ToModem passed packed (passed_at stamp FromModem octets) (map (packed_at stamp FromModem) pieces) [] [] refl (to_from stamp pieces)) both.0,
      reads_side n1 FromModem passed packed (passed_at stamp FromModem octets) (map (packed_at stamp FromModem) pieces) from octets rest pieces
          (side FromModem passed packed (passed_at stamp FromModem octets) (map (packed_at stamp FromModem) pieces) octets pieces (append-nil octets) (from_from stamp pieces)) both.1
          (shows_frames n1 (from ++ octets) rest pieces shown),
    )

-- nothing was missing, and nothing is of octets that came behind what could become a frame
all_more : (before kept octets rest : List ℕ) (ps qs : List Piece) → IsAll before ps kept → IsAll (kept ++ octets) qs rest → IsAll (before ++ octets) (ps ++ qs) rest
all_more before kept octets rest ps qs p q =
    unflagged_both before octets ∙ ap (λ l. l ++ unflagged octets) p
    ∙ append_assoc (flat_map (λ (x : Piece). unflagged (octets_of x)) ps) (unflagged kept) (unflagged octets)
    ∙ ap (λ l. flat_map (λ (x : Piece). unflagged (octets_of x)) ps ++ l) (sym (unflagged_both kept octets) ∙ q)
    ∙ sym (append_assoc (flat_map (λ (x : Piece). unflagged (octets_of x)) ps) (flat_map (λ (x : Piece). unflagged (octets_of x)) qs) (unflagged rest))
    ∙ ap (λ l. l ++ unflagged rest) (sym (flat_map-append (λ (x : Piece). unflagged (octets_of x)) ps qs))

all_side : (d : Direction) (passed : List Passed) (packed : List Packed) (p : Passed) (new : List Packed) (kept octets rest : List ℕ) (pieces : List Piece) → Side d passed packed p new octets pieces
    → IsAll (octets_in d passed) (pieces_in d packed) kept → IsAll (kept ++ octets) pieces rest → IsAll (octets_in d (passed ++ p ∷ [])) (pieces_in d (packed ++ new)) rest
all_side d passed packed p new kept octets rest pieces s first second =
    subst (λ (l : List ℕ × List Piece). IsAll l.0 l.1 rest) (λ i. (sym s.octets_are i, sym s.pieces_are i)) (all_more (octets_in d passed) kept octets rest (pieces_in d packed) pieces first second)

all_still : (d : Direction) (passed : List Passed) (packed : List Packed) (p : Passed) (new : List Packed) (kept : List ℕ) → Side d passed packed p new [] [] → IsAll (octets_in d passed) (pieces_in d packed) kept
    → IsAll (octets_in d (passed ++ p ∷ [])) (pieces_in d (packed ++ new)) kept
all_still d passed packed p new kept s first =
    subst (λ (l : List ℕ × List Piece). IsAll l.0 l.1 kept) (λ i. (sym (s.octets_are ∙ append-nil (octets_in d passed)) i, sym (s.pieces_are ∙ append-nil (pieces_in d packed)) i)) first

-- nothing that passed is missing
pub catches_all : CatchesAll
catches_all n1 _ _ _ _ catches.none = (refl, refl)
catches_all n1 _ _ _ _ (catches.to_modem passed packed to from octets rest stamp pieces c shown) =
    let both = catches_all n1 passed packed to from c in (
      all_side ToModem passed packed (passed_at stamp ToModem octets) (map (packed_at stamp ToModem) pieces) to octets rest pieces
          (side ToModem passed packed (passed_at stamp ToModem octets) (map (packed_at stamp ToModem) pieces) octets pieces (append-nil octets) (to_to stamp pieces)) both.0
          (shows_all n1 (to ++ octets) rest pieces shown),
      all_still FromModem passed packed (passed_at stamp ToModem octets) (map (packed_at stamp ToModem) pieces) from
          (side FromModem passed packed (passed_at stamp ToModem octets) (map (packed_at stamp ToModem) pieces) [] [] refl (from_to stamp pieces)) both.1,
    )
catches_all n1 _ _ _ _ (catches.from_modem passed packed to from octets rest stamp pieces c shown) =
    let both = catches_all n1 passed packed to from c in (
      all_still ToModem passed packed (passed_at stamp FromModem octets) (map (packed_at stamp FromModem) pieces) to
          (side ToModem passed packed (passed_at stamp FromModem octets) (map (packed_at stamp FromModem) pieces) [] [] refl (to_from stamp pieces)) both.0,
      all_side FromModem passed packed (passed_at stamp FromModem octets) (map (packed_at stamp FromModem) pieces) from octets rest pieces
          (side FromModem passed packed (passed_at stamp FromModem octets) (map (packed_at stamp FromModem) pieces) octets pieces (append-nil octets) (from_from stamp pieces)) both.1
          (shows_all n1 (from ++ octets) rest pieces shown),
    )

-- ## A stretch that is over

-- what was captured that way of such a stretch
record SideOver (d : Direction) (before : List Packed) (packed : List Packed) (rest : List ℕ) : Type 0 where
  pieces : List Piece
  are : AreDamage (behind_flags rest) pieces
  pieces_are : pieces_in d packed ≡ pieces_in d before ++ pieces

read_side : (d : Direction) (s : Stretch) (before packed : List Packed) (rest : List ℕ) → SideOver d before packed rest → Reads s.n1 (octets_in d s.passed) (frames_in d before) rest → IsAll (octets_in d s.passed) (pieces_in d before) rest → IsReadWhole d s packed
read_side d s before packed rest o reads all = record {
  rest = rest;
  reads = subst (λ l. Reads s.n1 (octets_in d s.passed) l rest) (sym frames) reads;
  all = subst (λ (l : List Piece). IsAll (octets_in d s.passed) l []) (sym o.pieces_are) whole;
}
  where
    frames : frames_in d packed ≡ frames_in d before
    frames =
        ap frames_of o.pieces_are ∙ frames_both (pieces_in d before) o.pieces ∙ ap (λ l. frames_in d before ++ l) (no_frames (behind_flags rest) o.pieces o.are)
        ∙ append-nil (frames_in d before)

    whole : IsAll (octets_in d s.passed) (pieces_in d before ++ o.pieces) []
    whole =
        all ∙ ap (λ l. flat_map (λ (x : Piece). unflagged (octets_of x)) (pieces_in d before) ++ l) (front_of_all rest o.pieces o.are)
        ∙ sym (flat_map-append (λ (x : Piece). unflagged (octets_of x)) (pieces_in d before) o.pieces)
        ∙ sym (append-nil (flat_map (λ (x : Piece). unflagged (octets_of x)) (pieces_in d before ++ o.pieces)))

to_over : (s : Stretch) (packed : List Packed) → (o : IsOver s packed) → SideOver ToModem o.before packed o.to
to_over s packed o = record {
  pieces = o.are_rests.sent;
  are = o.are_rests.sent_are;
  pieces_are =
      ap (λ (l : List Packed). pieces_in ToModem l) (o.packed_is ∙ ap (λ (l : List Packed). o.before ++ l) o.are_rests.packed_is)
      ∙ pieces_both ToModem o.before (map (packed_at o.stamp ToModem) o.are_rests.sent ++ map (packed_at o.stamp FromModem) o.are_rests.came)
      ∙ ap (λ (l : List Piece). pieces_in ToModem o.before ++ l)
      (pieces_both ToModem (map (packed_at o.stamp ToModem) o.are_rests.sent) (map (packed_at o.stamp FromModem) o.are_rests.came)
      ∙ ap (λ (l : List Piece). l ++ pieces_in ToModem (map (packed_at o.stamp FromModem) o.are_rests.came)) (to_to o.stamp o.are_rests.sent)
      ∙ ap (λ (l : List Piece). o.are_rests.sent ++ l) (to_from o.stamp o.are_rests.came) ∙ append-nil o.are_rests.sent);
}

from_over : (s : Stretch) (packed : List Packed) → (o : IsOver s packed) → SideOver FromModem o.before packed o.from
from_over s packed o = record {
  pieces = o.are_rests.came;
  are = o.are_rests.came_are;
  pieces_are =
      ap (λ (l : List Packed). pieces_in FromModem l) (o.packed_is ∙ ap (λ (l : List Packed). o.before ++ l) o.are_rests.packed_is)
      ∙ pieces_both FromModem o.before (map (packed_at o.stamp ToModem) o.are_rests.sent ++ map (packed_at o.stamp FromModem) o.are_rests.came)
      ∙ ap (λ (l : List Piece). pieces_in FromModem o.before ++ l)
      (pieces_both FromModem (map (packed_at o.stamp ToModem) o.are_rests.sent) (map (packed_at o.stamp FromModem) o.are_rests.came)
      ∙ ap (λ (l : List Piece). l ++ pieces_in FromModem (map (packed_at o.stamp FromModem) o.are_rests.came)) (from_to o.stamp o.are_rests.sent)
      ∙ from_from o.stamp o.are_rests.came);
}

-- so it is of a stretch that is over, but for flags
pub over_is_read : OverIsRead
over_is_read s packed o =
    let reads = catches_frames s.n1 s.passed o.before o.to o.from o.catches in
    let all = catches_all s.n1 s.passed o.before o.to o.from o.catches in
    (read_side ToModem s o.before packed o.to (to_over s packed o) reads.0 all.0, read_side FromModem s o.before packed o.from (from_over s packed o) reads.1 all.1)
