-- The frames that a control queue's octets spell.
use Rattle.std.specs.Prelude.{zero, suc, ◌≡◌, ◌≢◌, ℕ, ◌+◌, ◌-◌, ◌<◌, ◌≤◌, nat_le, if◌then◌else◌, Bool, true, false, List, [], ◌∷◌, ◌++◌, length, take, drop, slice_index_or, slice_get, refl, Some, None}
use Rattle.std.specs.List.{flat_map, All}
use Rattle.std.proofs.Common.{◌∙◌, ap, sym, subst, min, arith, append_assoc, append-nil, length-append, length-drop}
use Rattle.std.proofs.lemmas.List.{drop_more, drop_all}
use Rattle.std.proofs.Math.Seq.{take-length}
use Rattle.std.proofs.lemmas.List.Concat.{flat_map-cons}
use Rattle.std.proofs.lemmas.List.Elements.{All-get_or, All-append, All-cons, All-nil, All-drop}
use Rattle.std.proofs.lemmas.Grind.{flat_map-append}
use Rattle.std.proofs.lemmas.Option.{slice_get-get_or, slice_get_past}
use Rattle.std.proofs.lemmas.Bool.Decides.{nat_tests}
use Rattle.mux_frame.specs.Frames.{Frame}
use Rattle.mux_frame.specs.Spelling.{most_info, spelled}
use Rattle.mux_frame.specs.declared.frame.Kind.{Kind}
use Rattle.mux_frame.specs.declared.frame.Kind.TheVariants.{Sabm, Ua, Dm, Disc, Uih}
use Rattle.mux_station.specs.Written.{written_length}
use Rattle.mux_station.specs.Tables.{octets_of}
use Rattle.circular_buffer.specs.Buffer.{Buffer, buffer, keep_last}
use Rattle.mux_station.specs.ControlQueues.{ControlQueue, IsKeptAsOctets}
use Rattle.mux_station.specs.ControlOctets.{lead_len, info_len, front_len, front_frame, read_frames, IsControlFrame, AreSpelled, HasFront, BeginsAt}
use Rattle.mux_station.proofs.queues.QueueRoom.{octets_both}
use Rattle.mux_station.proofs.queues.FrameOctets.{Fronted, fronted, dropped}

-- a frame that stands where there is none
abbrev pub no_frame : Frame
no_frame = record { dlci = 0; kind = Uih; cr = false; pf = false; info = [] }

-- so many are read
pub frames_many : (n : ℕ) (octets : List ℕ) → length (read_frames n octets) ≡ n
unfolding read_frames
frames_many zero octets = refl
frames_many (suc n) octets = let rest : length (read_frames n (drop (front_len octets) octets)) ≡ n = frames_many n (drop (front_len octets) octets) in ap suc rest

-- one more frame behind others adds its octets as written
pub octets_more : (fs : List Frame) (f : Frame) → octets_of (fs ++ f ∷ []) ≡ octets_of fs + written_length f
octets_more fs f = let both : octets_of (fs ++ f ∷ []) ≡ octets_of fs + (written_length f + 0) = octets_both fs (f ∷ []) in omega (arith, both)

-- what is spelled is read
one_read : (f : Frame) (octets later : List ℕ) (n : ℕ) → octets ≡ spelled f ++ later → read_frames (suc n) octets ≡ f ∷ read_frames n later
unfolding read_frames
one_read f octets later n e =
    let g = subst (λ (xs : List ℕ). Fronted f xs later) (sym e) (fronted f later) in
    ap (λ (x : Frame). x ∷ read_frames n (drop (front_len octets) octets)) g.is_frame ∙ ap (λ (xs : List ℕ). f ∷ read_frames n xs) g.leaves

-- frames that are spelled one after the other are read as themselves, whatever follows
pub frames_read : (fs : List Frame) (later : List ℕ) → read_frames (length fs) (flat_map spelled fs ++ later) ≡ fs
unfolding read_frames
frames_read [] later = refl
frames_read (f ∷ fs) later =
    one_read f (flat_map spelled (f ∷ fs) ++ later) (flat_map spelled fs ++ later) (length fs)
    (ap (λ (xs : List ℕ). xs ++ later) (flat_map-cons spelled f fs) ∙ append_assoc (spelled f) (flat_map spelled fs) later)
    ∙ ap (λ (gs : List Frame). f ∷ gs) (frames_read fs later)

-- these octets are these frames
all_read : (fs : List Frame) (octets : List ℕ) (n : ℕ) → octets ≡ flat_map spelled fs → length fs ≡ n → read_frames n octets ≡ fs
all_read fs octets n e l =
    ap (λ (m : ℕ). read_frames m octets) (sym l)
    ∙ (ap (read_frames (length fs)) (e ∙ sym (append-nil (flat_map spelled fs))) ∙ frames_read fs [])

-- octets that spell so many control frames, and nothing else, are those of so many
pub are_spelled : (fs : List Frame) (octets : List ℕ) (n : ℕ) → octets ≡ flat_map spelled fs → length fs ≡ n → All IsControlFrame fs → AreSpelled octets n
are_spelled fs octets n e l each =
    let read = all_read fs octets n e l in
    record {
      spelled_one_by_one = e ∙ ap (flat_map spelled) (sym read);
      each = subst (All IsControlFrame) (sym read) each;
    }

-- a frame is spelled in as many octets as it has as written
pub spelled_long : (f : Frame) → length (spelled f) ≡ written_length f
spelled_long f = let e = (fronted f []).all in omega (arith, e, length-append (spelled f) [])

all_long : (fs : List Frame) → length (flat_map spelled fs) ≡ octets_of fs
all_long [] = refl
all_long (f ∷ fs) =
    ap length (flat_map-cons spelled f fs)
    ∙ (length-append (spelled f) (flat_map spelled fs)
    ∙ (ap (λ (n : ℕ). n + length (flat_map spelled fs)) (spelled_long f) ∙ ap (λ (n : ℕ). written_length f + n) (all_long fs)))

one_each : (fs : List Frame) → length fs ≤ octets_of fs
one_each [] = omega arith
one_each (f ∷ fs) =
    let rest : length fs ≤ octets_of fs = one_each fs in
    let one : 1 ≤ written_length f = one_at (length f.info) (nat_le (length f.info) 127) in
    omega arith
  where
    one_at : (n : ℕ) (b : Bool) → 1 ≤ n + (if b then 6 else 7)
    one_at n true = omega arith
    one_at n false = omega arith

-- the octets that are kept are as many as those of the frames
pub octets_counted : (octets : List ℕ) (count : ℕ) → AreSpelled octets count → length octets ≡ octets_of (read_frames count octets)
octets_counted octets count s = ap length s.spelled_one_by_one ∙ all_long (read_frames count octets)

-- and there are no more frames than octets
pub count_small : (octets : List ℕ) (count : ℕ) → AreSpelled octets count → count ≤ length octets
count_small octets count s = omega (arith, octets_counted octets count s, one_each (read_frames count octets), frames_many count octets)

-- ## The queue as it is seen

-- the queue with these frames and this room
abbrev pub queue_with : List Frame → ℕ → ControlQueue
queue_with fs room = record { frames = fs; room = room }

queue_same : (fs gs : List Frame) (m n : ℕ) → fs ≡ gs → m ≡ n → queue_with fs m ≡ queue_with gs n
queue_same fs gs m n e h = ap (λ (xs : List Frame). queue_with xs m) e ∙ ap (queue_with gs) h

-- empty buffers keep no frame
pub none_kept : (octets : Buffer ℕ) (spelling : List ℕ) (capacity : ℕ) → octets ≡ buffer [] capacity → spelling ≡ [] → IsKeptAsOctets octets.items 0 spelling
none_kept octets spelling capacity e h = record {
  spelled = are_spelled [] octets.items 0 (ap (λ (b : Buffer ℕ). b.items) e) refl (All-nil IsControlFrame);
  none_half = h;
}

-- and are seen as an empty queue, its room their capacity
pub none_seen : (octets : Buffer ℕ) (capacity : ℕ) → octets ≡ buffer [] capacity → queue_with (read_frames 0 octets.items) octets.capacity ≡ queue_with [] capacity
unfolding read_frames
none_seen octets capacity e = queue_same _ _ _ _ refl (ap (λ (b : Buffer ℕ). b.capacity) e)

module _ (q : ControlQueue) (octets : List ℕ) (count room : ℕ) (e : queue_with (read_frames count octets) room ≡ q) where
  -- as many frames are counted as the queue has
  pub seen_many : count ≡ length q.frames
  seen_many = sym (frames_many count octets) ∙ ap (λ (w : ControlQueue). length w.frames) e

  -- octets that spell so many frames are as many as the queue's frames have as written
  pub seen_octets : AreSpelled octets count → length octets ≡ octets_of q.frames
  seen_octets s = octets_counted octets count s ∙ ap (λ (w : ControlQueue). octets_of w.frames) e

  -- the room is that of the queue
  pub seen_room : room ≡ q.room
  seen_room = ap (λ (w : ControlQueue). w.room) e

  -- the frame that is read at an index is the queue's there
  pub seen_at : (index : ℕ) → slice_get (read_frames count octets) index ≡ slice_get q.frames index
  seen_at index = ap (λ (w : ControlQueue). slice_get w.frames index) e

  -- where one more frame is read behind them, in the same room, the queue has it behind its frames
  pub seen_put : (f : Frame) (new : Buffer ℕ) (n : ℕ) → read_frames n new.items ≡ read_frames count octets ++ f ∷ [] → new.capacity ≡ room → queue_with (read_frames n new.items) new.capacity ≡ record q { frames = q.frames ++ f ∷ [] }
  seen_put f new n put same =
      queue_same _ _ _ _ put same
      ∙ ap (λ (w : ControlQueue). let v : ControlQueue = record w { frames = w.frames ++ f ∷ [] } in v) e

  -- where all but the first are read, in the same room, the queue is without its first frame
  pub seen_taken : (new : Buffer ℕ) (n : ℕ) → read_frames n new.items ≡ drop 1 (read_frames count octets) → new.capacity ≡ room → queue_with (read_frames n new.items) new.capacity ≡ record q { frames = drop 1 q.frames }
  seen_taken new n taken same =
      queue_same _ _ _ _ taken same
      ∙ ap (λ (w : ControlQueue). let v : ControlQueue = record w { frames = drop 1 w.frames } in v) e

  -- where the queue has frames, some are counted
  pub seen_some : q.frames ≢ [] → 0 < count
  seen_some some = by_frames q.frames seen_many some
    where
      by_frames : (fs : List Frame) → count ≡ length fs → fs ≢ [] → 0 < count
      by_frames [] e s = absurd (s refl)
      by_frames (f ∷ fs) e s = omega (arith, e)

-- more octets fit into the room that is left just where all together fit into the whole
pub room_left : (more room octets : ℕ) → octets ≤ room → nat_le more (room - octets) ≡ nat_le (octets + more) room
room_left more room octets l = grind (arith, nat_tests)

-- ## Where a frame begins

module _ (octets : List ℕ) (count : ℕ) (s : AreSpelled octets count) where
  abbrev frames : List Frame
  frames = read_frames count octets

  abbrev frame : ℕ → Frame
  frame index = slice_index_or frames index no_frame

  begun : (index place : ℕ) → BeginsAt octets count index place → drop place octets ≡ spelled (frame index) ++ flat_map spelled (drop (index + 1) frames)
  begun index place b =
      let one : drop index frames ≡ frame index ∷ drop (index + 1) frames = drop_more frames index no_frame (omega (arith, b.within, frames_many count octets)) in
      b.later ∙ (ap (flat_map spelled) one ∙ flat_map-cons spelled (frame index) (drop (index + 1) frames))

  -- where a frame begins it stands in front, with the later ones behind it
  pub front_at : (index place : ℕ) → BeginsAt octets count index place → Fronted (frame index) (drop place octets) (flat_map spelled (drop (index + 1) frames))
  front_at index place b = subst (λ (xs : List ℕ). Fronted (frame index) xs (flat_map spelled (drop (index + 1) frames))) (sym (begun index place b)) (fronted (frame index) (flat_map spelled (drop (index + 1) frames)))

  -- a whole control frame is in front there
  pub has_front : (index place : ℕ) → BeginsAt octets count index place → HasFront (drop place octets)
  has_front index place b =
      let f = front_at index place b in
      record {
        whole = omega (arith, f.is_long, f.all);
        control = subst IsControlFrame (sym f.is_frame) (All-get_or IsControlFrame frames index no_frame (omega (arith, b.within, frames_many count octets)) s.each);
      }

  -- the first frame begins at the front
  pub begins_first : 0 < count → BeginsAt octets count 0 0
  begins_first l = record { within = l; later = s.spelled_one_by_one }

  -- the next frame begins two octets behind the information of the one before it
  pub begins_next : (index place next lead info : ℕ) → BeginsAt octets count index place → index + 1 < count → lead ≡ lead_len (drop place octets) → info ≡ info_len (drop place octets) → next ≡ place + (lead + info + 2) → BeginsAt octets count (index + 1) next
  unfolding front_len
  begins_next index place next lead info b l e h n =
      let f = front_at index place b in
      let len : next ≡ place + front_len (drop place octets) = omega (arith, e, h, n) in
      record { within = l; later = ap (λ (m : ℕ). drop m octets) len ∙ (dropped octets place (front_len (drop place octets)) ∙ f.leaves) }

  -- the frame that is read there
  pub it_is : (index place : ℕ) → BeginsAt octets count index place → Some (front_frame (drop place octets)) ≡ slice_get frames index
  it_is index place b = ap Some (front_at index place b).is_frame ∙ sym (slice_get-get_or frames index no_frame (omega (arith, b.within, frames_many count octets)))

  -- none is read past the last
  pub none_is : (index : ℕ) → count ≤ index → None ≡ slice_get frames index
  none_is index l = sym (slice_get_past frames index (omega (arith, l, frames_many count octets)))

  -- ## A frame more, a frame less

  module _ (f : Frame) (is : IsControlFrame f) (new : Buffer ℕ) (spelling : List ℕ) (n capacity : ℕ) (spelt : spelling ≡ spelled f) (put : new ≡ buffer (octets ++ take n spelling) capacity) (all : n ≡ min (length spelling) (capacity - length octets)) (fits : length octets + written_length f ≤ capacity) where
    put_items : new.items ≡ octets ++ spelled f
    put_items =
        let whole : n ≡ length spelling = omega (arith, all, fits, ap length spelt, spelled_long f) in
        ap (λ (b : Buffer ℕ). b.items) put ∙ ap (λ (xs : List ℕ). octets ++ xs) (ap (λ (m : ℕ). take m spelling) whole ∙ (take-length spelling ∙ spelt))

    put_octets : new.items ≡ flat_map spelled (frames ++ f ∷ [])
    put_octets =
        put_items
        ∙ (ap (λ (xs : List ℕ). xs ++ spelled f) s.spelled_one_by_one
        ∙ (ap (λ (xs : List ℕ). flat_map spelled frames ++ xs) (sym (flat_map-cons spelled f [] ∙ append-nil (spelled f)))
        ∙ sym (flat_map-append spelled frames (f ∷ []))))

    put_many : length (frames ++ f ∷ []) ≡ count + 1
    put_many = length-append frames (f ∷ []) ∙ ap (λ (m : ℕ). m + 1) (frames_many count octets)

    -- a control frame whose spelling is put behind the octets is read behind the others
    pub put_read : read_frames (count + 1) new.items ≡ frames ++ f ∷ []
    put_read = all_read (frames ++ f ∷ []) new.items (count + 1) put_octets put_many

    -- and the octets spell one control frame more, and nothing else
    pub put_spelled : AreSpelled new.items (count + 1)
    put_spelled =
        are_spelled (frames ++ f ∷ []) new.items (count + 1) put_octets put_many
        (All-append IsControlFrame frames (f ∷ []) s.each (All-cons IsControlFrame f [] is (All-nil IsControlFrame)))

  module _ (some : 0 < count) where
    -- where there are frames, a whole control frame is in front
    pub front_whole : HasFront octets
    front_whole = has_front 0 0 (begins_first some)

    -- the frame in front takes as many octets as it has as written
    pub front_written : front_len octets ≡ written_length (front_frame octets)
    front_written = let f = front_at 0 0 (begins_first some) in f.is_long ∙ ap written_length (sym f.is_frame)

    -- it is the first of the frames
    pub front_first : Some (front_frame octets) ≡ slice_get frames 0
    front_first = it_is 0 0 (begins_first some)

    module _ (new : Buffer ℕ) (k capacity : ℕ) (is : new ≡ buffer (keep_last k octets) capacity) (long : k + front_len octets ≡ length octets) where
      left : new.items ≡ flat_map spelled (drop 1 frames)
      left =
          let gone : length octets - k ≡ front_len octets = omega (arith, long) in
          ap (λ (b : Buffer ℕ). b.items) is ∙ (ap (λ (n : ℕ). drop n octets) gone ∙ (front_at 0 0 (begins_first some)).leaves)

      many : length (drop 1 frames) ≡ count - 1
      many = length-drop 1 frames ∙ ap (λ (n : ℕ). n - 1) (frames_many count octets)

      -- once the octets of the frame in front are gone, the other frames are read
      pub taken_read : read_frames (count - 1) new.items ≡ drop 1 frames
      taken_read = all_read (drop 1 frames) new.items (count - 1) left many

      -- what is left spells one control frame less, and nothing else
      pub taken_spelled : AreSpelled new.items (count - 1)
      taken_spelled = are_spelled (drop 1 frames) new.items (count - 1) left many (All-drop IsControlFrame 1 frames s.each)

-- ## A frame's room

-- nothing is left of what was passed
pub all_passed : (xs ys zs : List ℕ) → ys ≡ xs → zs ≡ drop (length ys) xs → zs ≡ []
all_passed xs ys zs e h = h ∙ drop_all (length ys) xs (omega (arith, ap length e))

-- control frames have room to be spelled in
pub plain_fits : (k : Kind) (n : ℕ) → n ≤ most_info 129 k → n ≤ most_info 1024 k
plain_fits Sabm n h = h
plain_fits Ua n h = h
plain_fits Dm n h = h
plain_fits Disc n h = h
plain_fits Uih n h = omega (arith, h)

-- and have no more information than 1024 octets
pub plain_short : (k : Kind) (n : ℕ) → n ≤ most_info 129 k → n ≤ 1024
plain_short Sabm n h = omega (arith, h)
plain_short Ua n h = omega (arith, h)
plain_short Dm n h = omega (arith, h)
plain_short Disc n h = omega (arith, h)
plain_short Uih n h = omega (arith, h)
