-- What a text comes to, and its packets.
use Rattle.std.specs.Prelude.{◌≡◌, ◌≢◌, ℕ, zero, suc, ◌+◌, ◌-◌, ◌==◌, ◌<◌, ◌≤◌, Bool, true, false, List, [], ◌∷◌, ◌++◌, length, take, drop, refl, if◌then◌else◌}
use Rattle.std.specs.List.{flat_map}
use Rattle.std.proofs.Common.{sym, ap, subst, arith, ◌∙◌}
use Rattle.std.proofs.lemmas.List.{append_assoc, append-nil, length-append, take-append-drop}
use Rattle.std.proofs.lemmas.Grind.{flat_map-append}
use Rattle.std.proofs.lemmas.Bool.{false≢true}
use Rattle.mux_frame.specs.Reading.{Reads}
use Rattle.mux_frame.specs.Spelling.{flag, Indicates, long, short}
use Rattle.mux_capture.specs.declared.packet.Direction.{Direction}
use Rattle.mux_capture.specs.declared.packet.Kind.TheVariants as kind
use Rattle.mux_capture.specs.declared.packet.Stamp.{Stamp}
use Rattle.mux_capture.specs.FirstFrame.{ReadsFirst}
use Rattle.mux_capture.specs.FirstFrame as first_frame
use Rattle.mux_capture.specs.FrontFrames.{IsFrameText, PassesOver}
use Rattle.mux_capture.specs.Passing.{piece_packet}
use Rattle.mux_capture.specs.Pcap.{packet}
use Rattle.mux_capture.specs.Pieces.{AreDamage, Piece, Shows, ShowsAll, ShowsFrames, behind_flags, damage, framed, frames_of, most_damage, octets_of, unflagged}
use Rattle.mux_capture.specs.Pieces as shows
use Rattle.mux_capture.specs.Pushing.{ArePushed, PushesDamage, PushesFirst}
use Rattle.mux_capture.proofs.FirstFrames.{spelled_size}
use Rattle.mux_capture.proofs.FirstLaws.{first_is_read}

-- ## Packets

-- no packet was written
pub pushed_none : (stamp : Stamp) (direction : Direction) (out : List ℕ) → ArePushed stamp direction [] out out
pushed_none stamp direction out = sym (append-nil out)

-- packets of some pieces were, and then of others
pub pushed_more : (stamp : Stamp) (direction : Direction) (ps qs : List Piece) (a b c : List ℕ) → ArePushed stamp direction ps a b → ArePushed stamp direction qs b c → ArePushed stamp direction (ps ++ qs) a c
pushed_more stamp direction ps qs a b c p q =
    q ∙ ap (λ l. l ++ flat_map (piece_packet stamp direction) qs) p ∙ append_assoc a (flat_map (piece_packet stamp direction) ps) (flat_map (piece_packet stamp direction) qs)
    ∙ ap (λ l. a ++ l) (sym (flat_map-append (piece_packet stamp direction) ps qs))

-- that of one piece was
pub pushed_one : (stamp : Stamp) (direction : Direction) (p : Piece) (a b : List ℕ) → b ≡ a ++ piece_packet stamp direction p → ArePushed stamp direction (p ∷ []) a b
pushed_one stamp direction p a b is = is ∙ ap (λ l. a ++ l) (sym (append-nil (piece_packet stamp direction p)))

-- ## Octets that are no frame

-- the packets of the front of some octets are written, and the rest is left
pub record DamageSoFar (stamp : Stamp) (direction : Direction) (whole left before now : List ℕ) : Type 0 where
  pub pieces : List Piece
  pub leads : (more : List Piece) → AreDamage left more → AreDamage whole (pieces ++ more)
  pub pushed : ArePushed stamp direction pieces before now

-- and then a packet of as many as one may have
pub damage_more : (stamp : Stamp) (direction : Direction) (whole left part rest before now after : List ℕ) → left ≢ [] → part ≡ take most_damage left → rest ≡ drop most_damage left
    → DamageSoFar stamp direction whole left before now → after ≡ now ++ piece_packet stamp direction (damage part) → DamageSoFar stamp direction whole rest before after
damage_more stamp direction whole left part rest before now after some part_is rest_is so_far written = record {
  pieces = so_far.pieces ++ damage part ∷ [];
  leads = λ more are.
      subst (λ (l : List Piece). AreDamage whole l) (sym (append_assoc so_far.pieces (damage part ∷ []) more))
      (so_far.leads (damage part ∷ more) (subst (λ (x : List ℕ). AreDamage left (damage x ∷ more)) (sym part_is) (shows.some left more some (subst (λ (x : List ℕ). AreDamage x more) rest_is are))));
  pushed = pushed_more stamp direction so_far.pieces (damage part ∷ []) before now after so_far.pushed (pushed_one stamp direction (damage part) now after written);
}

-- where nothing is left all of them are written
pub damage_all : (stamp : Stamp) (direction : Direction) (octets whole left before now : List ℕ) → whole ≡ behind_flags octets → left ≡ [] → DamageSoFar stamp direction whole left before now → PushesDamage stamp direction octets before now
damage_all stamp direction octets whole left before now is none so_far = record {
  pieces = so_far.pieces;
  are =
      subst (λ (l : List Piece). AreDamage (behind_flags octets) l) (append-nil so_far.pieces)
      (subst (λ (l : List ℕ). AreDamage l (so_far.pieces ++ [])) is (so_far.leads [] (subst (λ (l : List ℕ). AreDamage l []) (sym none) shows.none)));
  pushed = so_far.pushed;
}

take_short : (n : ℕ) (xs : List ℕ) → length (take n xs) ≤ n
take_short zero xs = omega arith
take_short (suc n) [] = omega arith
take_short (suc n) (x ∷ xs) = let on = take_short n xs in omega (arith, on)

drop_short : (n : ℕ) (xs : List ℕ) → length (drop n xs) ≤ length xs
drop_short zero xs = omega arith
drop_short (suc n) [] = omega arith
drop_short (suc n) (x ∷ xs) = let on = drop_short n xs in omega (arith, on)

-- what is cut off is short, and leaves less
pub cut_short : (left part : List ℕ) → part ≡ take most_damage left → length part ≤ 65532
cut_short left part is = let size = take_short most_damage left in let same = ap length is in omega (arith, size, same)

-- behind such a packet less is left
pub cut_less : (left rest : List ℕ) → left ≢ [] → rest ≡ drop most_damage left → length rest < length left
cut_less [] rest some is = absurd (some refl)
cut_less (x ∷ xs) rest some is = let size = drop_short 65531 xs in let same : length rest ≡ length (drop 65531 xs) = ap length is in omega (arith, size, same)

-- ## The first frame

not_more : {A : Type 0} → false ≡ true → A
not_more e = absurd (false≢true e)

-- where no frame is found what begins none is written, and the rest can become one
pub pushes_none : (n1 : ℕ) (stamp : Stamp) (direction : Direction) (text front rest before after : List ℕ) → text ≡ front ++ rest → PassesOver n1 text rest → Reads n1 rest [] rest
    → PushesDamage stamp direction front before after → PushesFirst n1 stamp direction text rest false before after
pushes_none n1 stamp direction text front rest before after is passes reads pushes = record {
  pieces = pushes.pieces;
  goes_on = λ next last e. not_more e;
  ends = λ e. subst (λ (l : List ℕ). Shows n1 l pushes.pieces rest) (sym is) (shows.ends front rest pushes.pieces all pushes.are);
  pushed = pushes.pushed;
}
  where
    whole : Reads n1 text [] rest
    whole = subst (λ (l : List ℕ). Reads n1 l [] rest) (append-nil text) (passes.none [] rest (subst (λ (l : List ℕ). Reads n1 l [] rest) (sym (append-nil rest)) reads))

    all : Reads n1 (front ++ rest) [] rest
    all = subst (λ (l : List ℕ). Reads n1 l [] rest) is whole

-- the text from a frame on
from_frame : (frame b behind : List ℕ) → frame ≡ flag ∷ b ++ flag ∷ [] → frame ++ behind ≡ flag ∷ b ++ flag ∷ behind
from_frame frame b behind is = ap (λ l. l ++ behind) is ∙ ap (λ l. flag ∷ l) (append_assoc b (flag ∷ []) behind)

drop_front : (front more : List ℕ) (n : ℕ) → drop (length front + n) (front ++ more) ≡ drop n more
drop_front [] more n = let none : length {A = ℕ} [] + n ≡ n = omega arith in ap (λ k. drop k more) none
drop_front (x ∷ front) more n = let count : length (x ∷ front) + n ≡ suc (length front + n) = omega arith in ap (λ k. drop k (x ∷ (front ++ more))) count ∙ drop_front front more n

-- a text goes on from the closing flag of a frame
pub left_is : (text front frame b behind : List ℕ) → text ≡ front ++ (frame ++ behind) → frame ≡ flag ∷ b ++ flag ∷ [] → drop (length front + length frame - 1) text ≡ flag ∷ behind
left_is text front frame b behind is frame_is =
    let size : length frame ≡ length (flag ∷ b) + 1 = ap length frame_is ∙ length-append (flag ∷ b) (flag ∷ []) in
    let count : length front + length frame - 1 ≡ length front + length (flag ∷ b) = omega (arith, size) in
    let zero_more : length (flag ∷ b) ≡ length (flag ∷ b) + 0 = omega arith in
    ap (λ k. drop k text) count ∙ ap (λ l. drop (length front + length (flag ∷ b)) l) (is ∙ ap (λ l. front ++ l) (from_frame frame b behind frame_is))
    ∙ drop_front front (flag ∷ b ++ flag ∷ behind) (length (flag ∷ b))
    ∙ ap (λ k. drop k ((flag ∷ b) ++ flag ∷ behind)) zero_more ∙ drop_front (flag ∷ b) (flag ∷ behind) 0

-- where a frame is found what stands before it is written, and then the frame
pub pushes_frame : (n1 : ℕ) (stamp : Stamp) (direction : Direction) (text front frame behind left before between after : List ℕ) → text ≡ front ++ (frame ++ behind) → PassesOver n1 text (frame ++ behind) → (t : IsFrameText n1 frame)
    → left ≡ drop (length front + length frame - 1) text
    → PushesDamage stamp direction front before between → after ≡ between ++ piece_packet stamp direction (framed t.octets t.frame) → PushesFirst n1 stamp direction text left true before after
pushes_frame n1 stamp direction text front frame behind left before between after is passes t left_from pushes written = record {
  pieces = pushes.pieces ++ framed t.octets t.frame ∷ [];
  goes_on = λ next rest more shown.
      subst (λ (l : List Piece). Shows n1 text l rest) (sym (append_assoc pushes.pieces (framed t.octets t.frame ∷ []) next))
      (subst (λ (l : List ℕ). Shows n1 l (pushes.pieces ++ framed t.octets t.frame ∷ next) rest) (sym joins)
      (shows.frame front t.octets behind rest t.frame pushes.pieces next t.spells reads pushes.are (subst (λ (l : List ℕ). Shows n1 l next rest) left_at shown)));
  ends = λ e. not_more (sym e);
  pushed = pushed_more stamp direction pushes.pieces (framed t.octets t.frame ∷ []) before between after pushes.pushed (pushed_one stamp direction (framed t.octets t.frame) between after written);
}
  where
    joins : text ≡ front ++ (flag ∷ t.octets ++ flag ∷ behind)
    joins = is ∙ ap (λ l. front ++ l) (from_frame frame t.octets behind t.text_is)

    left_at : left ≡ flag ∷ behind
    left_at = left_from ∙ left_is text front frame t.octets behind is t.text_is

    at_first : ReadsFirst n1 (frame ++ behind) t.frame behind
    at_first = subst (λ (l : List ℕ). ReadsFirst n1 l t.frame behind) (sym (from_frame frame t.octets behind t.text_is)) (first_frame.first (flag ∷ t.octets ++ flag ∷ behind) t.octets behind t.frame refl t.spells)

    reads : ReadsFirst n1 (front ++ (flag ∷ t.octets ++ flag ∷ behind)) t.frame behind
    reads =
        subst (λ (l : List ℕ). ReadsFirst n1 l t.frame behind) (append-nil text ∙ joins)
        (passes.first [] behind t.frame (subst (λ (l : List ℕ). ReadsFirst n1 l t.frame behind) (sym (append-nil (frame ++ behind))) at_first))

info_short : (octets : List ℕ) (n : ℕ) → Indicates octets n → n < 32768
info_short _ _ (short n l) = omega (arith, l)
info_short _ _ (long n l) = l

-- a frame has few octets, and two at least
pub frame_size : (n1 : ℕ) (frame : List ℕ) → IsFrameText n1 frame → (2 ≤ length frame) × (length frame ≤ 65533)
frame_size n1 frame t =
    let most = (spelled_size n1 t.octets t.frame t.spells).1 in
    let few = info_short t.spells.indicator (length t.frame.info) t.spells.indicates in
    let size : length frame ≡ length (flag ∷ t.octets) + 1 = ap length t.text_is ∙ length-append (flag ∷ t.octets) (flag ∷ []) in
    (omega (arith, size), omega (arith, most, few, size))

-- the packet of a frame from flag to flag
pub framed_packet : (stamp : Stamp) (direction : Direction) (frame before after : List ℕ) (n1 : ℕ) → (t : IsFrameText n1 frame) → after ≡ before ++ packet kind.Frame stamp direction frame
    → after ≡ before ++ piece_packet stamp direction (framed t.octets t.frame)
framed_packet stamp direction frame before after n1 t is = is ∙ ap (λ l. before ++ packet kind.Frame stamp direction l) t.text_is

-- ## All of a text

-- of a text nothing is written yet
pub first_none : (n1 : ℕ) (stamp : Stamp) (direction : Direction) (text out : List ℕ) → PushesFirst n1 stamp direction text text true out out
first_none n1 stamp direction text out = record {
  pieces = [];
  goes_on = λ next rest more shown. shown;
  ends = λ e. not_more (sym e);
  pushed = pushed_none stamp direction out;
}

-- and then all up to the end of one frame more
pub first_more : (n1 : ℕ) (stamp : Stamp) (direction : Direction) (text left rest : List ℕ) (so_far more : Bool) (a b c : List ℕ) → so_far ≡ true → PushesFirst n1 stamp direction text left so_far a b → PushesFirst n1 stamp direction left rest more b c
    → PushesFirst n1 stamp direction text rest more a c
first_more n1 stamp direction text left rest so_far more a b c is p q = record {
  pieces = p.pieces ++ q.pieces;
  goes_on = λ next last e shown.
      subst (λ (l : List Piece). Shows n1 text l last) (sym (append_assoc p.pieces q.pieces next)) (p.goes_on (q.pieces ++ next) last is (q.goes_on next last e shown));
  ends = λ e. p.goes_on q.pieces rest is (q.ends e);
  pushed = pushed_more stamp direction p.pieces q.pieces a b c p.pushed q.pushed;
}

-- ## Laws

-- the frames of two lists of pieces are those of both
pub frames_both : (ps qs : List Piece) → frames_of (ps ++ qs) ≡ frames_of ps ++ frames_of qs
frames_both [] qs = refl
frames_both (framed b f ∷ ps) qs = ap (λ l. f ∷ l) (frames_both ps qs)
frames_both (damage d ∷ ps) qs = frames_both ps qs

-- pieces of damage have no frame
pub no_frames : (octets : List ℕ) (ps : List Piece) → AreDamage octets ps → frames_of ps ≡ []
no_frames _ _ shows.none = refl
no_frames _ _ (shows.some octets more some are) = no_frames (drop most_damage octets) more are

-- the frames among the pieces of a text are those that the text is read as
pub shows_frames : ShowsFrames
shows_frames n1 _ _ _ (shows.ends front rest pieces reads are) = subst (λ l. Reads n1 (front ++ rest) l rest) (sym (no_frames (behind_flags front) pieces are)) reads
shows_frames n1 _ _ _ (shows.frame front b x rest f pieces more spells reads are shown) =
    subst (λ l. Reads n1 (front ++ (flag ∷ b ++ flag ∷ x)) l rest)
    (sym (frames_both pieces (framed b f ∷ more) ∙ ap (λ l. l ++ f ∷ frames_of more) (no_frames (behind_flags front) pieces are)))
    (first_is_read n1 (front ++ (flag ∷ b ++ flag ∷ x)) x f (frames_of more) rest reads (shows_frames n1 (flag ∷ x) rest more shown))

unflagged_by : (b : Bool) (x : ℕ) (u v w : List ℕ) → u ≡ v ++ w → (if b then u else x ∷ u) ≡ (if b then v else x ∷ v) ++ w
unflagged_by true x u v w e = e
unflagged_by false x u v w e = ap (λ l. x ∷ l) e

-- two texts without their flags are both together without them
pub unflagged_both : (xs ys : List ℕ) → unflagged (xs ++ ys) ≡ unflagged xs ++ unflagged ys
unflagged_both [] ys = refl
unflagged_both (x ∷ xs) ys = unflagged_by (x == flag) x (unflagged (xs ++ ys)) (unflagged xs) (unflagged ys) (unflagged_both xs ys)

unflagged_front-at : (b : Bool) (x : ℕ) (xs : List ℕ) → (x == flag) ≡ b → unflagged (behind_flags xs) ≡ unflagged xs → unflagged (if b then behind_flags xs else x ∷ xs) ≡ (if b then unflagged xs else x ∷ unflagged xs)
unflagged_front-at true x xs is e = e
unflagged_front-at false x xs is e = ap (λ c. if c then unflagged xs else x ∷ unflagged xs) is

unflagged_front : (xs : List ℕ) → unflagged (behind_flags xs) ≡ unflagged xs
unflagged_front [] = refl
unflagged_front (x ∷ xs) = unflagged_front-at (x == flag) x xs refl (unflagged_front xs)

abbrev all_of : List Piece → List ℕ
all_of ps = flat_map (λ p. unflagged (octets_of p)) ps

damage_of_all : (octets : List ℕ) (ps : List Piece) → AreDamage octets ps → unflagged octets ≡ all_of ps
damage_of_all _ _ shows.none = refl
damage_of_all _ _ (shows.some octets more some are) =
    ap unflagged (sym (take-append-drop most_damage octets)) ∙ unflagged_both (take most_damage octets) (drop most_damage octets)
    ∙ ap (λ l. unflagged (take most_damage octets) ++ l) (damage_of_all (drop most_damage octets) more are)

-- but for flags, octets that are no frame are those of their pieces
pub front_of_all : (front : List ℕ) (ps : List Piece) → AreDamage (behind_flags front) ps → unflagged front ≡ all_of ps
front_of_all front ps are = sym (unflagged_front front) ∙ damage_of_all (behind_flags front) ps are

-- nothing of a text is missing
pub shows_all : ShowsAll
shows_all n1 _ _ _ (shows.ends front rest pieces reads are) = unflagged_both front rest ∙ ap (λ l. l ++ unflagged rest) (front_of_all front pieces are)
shows_all n1 _ _ _ (shows.frame front b x rest f pieces more spells reads are shown) =
    unflagged_both front (flag ∷ b ++ flag ∷ x)
    ∙ ap (λ l. l ++ unflagged (b ++ flag ∷ x)) (front_of_all front pieces are)
    ∙ ap (λ l. all_of pieces ++ l) (unflagged_both b (flag ∷ x) ∙ ap (λ l. unflagged b ++ l) (shows_all n1 (flag ∷ x) rest more shown) ∙ sym (append_assoc (unflagged b) (all_of more) (unflagged rest)))
    ∙ sym (append_assoc (all_of pieces) (unflagged b ++ all_of more) (unflagged rest))
    ∙ ap (λ l. l ++ unflagged rest) (sym (flat_map-append (λ (p : Piece). unflagged (octets_of p)) pieces (framed b f ∷ more)))
