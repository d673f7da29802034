-- Packets are read, told and written, one after the other.
use Rattle.std.specs.Prelude.{◌≡◌, ℕ, ◌==◌, Bool, true, false, length, List, [], ◌∷◌, ◌++◌, Option, Some, None, IfSome, refl, map}
use Rattle.std.proofs.Common.{ap, sym, ◌∙◌, subst, append_assoc, append-nil}
use Rattle.std.proofs.KnownBytes.{Appends-nil, Appends-trans, Consumes-kept, Consumes-nil, Consumes-trans}
use Rattle.std.specs.Io.KnownBytes.{Appends, Consumes, IsAtEnd, Keeps}
use Rattle.mux_frame.specs.Frames.{Frame, kept_frame}
use Rattle.mux_frame.specs.declared.frame.FrameBuf.{FrameBuf}
use Rattle.mux_frame.specs.Reading.{Reads}
use Rattle.mux_capture.specs.Passing.{Passed}
use Rattle.mux_capture.specs.Pcap.{packet}
use Rattle.mux_capture.specs.declared.packet.Kind.{Kind}
use Rattle.mux_capture.specs.declared.packet.Kind.TheVariants as kind
use Rattle.modem_show.specs.Ways.{caught}
use Rattle.mux_capture.specs.Reading.{IsHeaded}
use Rattle.show_texts.specs.Captures.{IsShown, IsToldWhole, ReadsMore, ShowsOctets, TellsFrames, TellsOctets, TellsPacket, ToldSoFar, Writes, more, none, packets_octets, with_frames, with_packet}
use Rattle.show_texts.specs.Telling.{Closes, Damage, Framed, Item, Setting, Teller, TellerFits, Tells, has_complaint, setting_of, shown_text}

-- ## Octets read and written

-- no octets were read: a name for tactics
pub consumed_none : (a : Option (List ℕ)) → Consumes a a []
consumed_none a = Consumes-nil a

consumed_all : (a b c : Option (List ℕ)) (xs ys : List ℕ) → Consumes a b xs → Consumes b c ys → IsAtEnd c → IfSome a (λ all. all ≡ xs ++ ys)
consumed_all None b c xs ys p q e = tt
consumed_all (Some x) None c xs ys p q e = absurd p
consumed_all (Some x) (Some y) None xs ys p q e = absurd q
consumed_all (Some x) (Some y) (Some z) xs ys p q e = p ∙ ap (λ l. xs ++ l) (q ∙ (ap (λ l. ys ++ l) e ∙ append-nil ys))

kept_same : (a b c : Option (List ℕ)) (xs : List ℕ) → Consumes a b xs → Consumes b c [] → IsAtEnd c → IsAtEnd b
kept_same a None c xs p q e = tt
kept_same a (Some y) None xs p q e = absurd q
kept_same a (Some y) (Some z) xs p q e = q ∙ e

-- no octets were read behind these
pub read_none : (a : Option (List ℕ)) (octets : List ℕ) → ReadsMore a a octets octets
read_none a octets = record { more = []; read = Consumes-nil a; kept = sym (append-nil octets) }

-- none were read where a reader keeps its octets, behind a read of none
pub consumed_keeps : (a b c : Option (List ℕ)) → Consumes a b [] → Keeps b c → Consumes a c []
consumed_keeps a b c p q = Consumes-kept a b c [] p q

-- a piece was read that stands behind the others
pub read_at_once : (a b : Option (List ℕ)) (x y piece : List ℕ) → Consumes a b piece → y ≡ x ++ piece → ReadsMore a b x y
read_at_once a b x y piece p e = record { more = piece; read = p; kept = e }

-- so it was where none were read before it
pub read_piece_on : (a b c : Option (List ℕ)) (x y piece : List ℕ) → Consumes a b [] → Consumes b c piece → y ≡ x ++ piece → ReadsMore a c x y
read_piece_on a b c x y piece p q e = record { more = piece; read = Consumes-trans a b c [] piece p q; kept = e }

-- a packet is told, and a part of the text, or none, is written
pub octets_shown : (old mid new : Teller) (octets : List ℕ) (a b : Option (List ℕ)) → TellsOctets old mid octets → Writes mid new a b
    → ShowsOctets old new octets a b
octets_shown old mid new octets a b t w = record { mid = mid; tells = t; writes = w }

-- octets were read behind others, and then more
pub read_on : (a b c : Option (List ℕ)) (x y z : List ℕ) → ReadsMore a b x y → ReadsMore b c y z → ReadsMore a c x z
read_on a b c x y z p q = record {
  more = p.more ++ q.more;
  read = Consumes-trans a b c p.more q.more p.read q.read;
  kept = q.kept ∙ (ap (λ l. l ++ q.more) p.kept ∙ append_assoc x p.more q.more);
}

-- behind none, all octets that are there were read
pub read_whole : (a b : Option (List ℕ)) (x y : List ℕ) → ReadsMore a b x y → x ≡ [] → Consumes a b y
read_whole a b x y p e = subst (λ l. Consumes a b l) (sym (p.kept ∙ ap (λ l. l ++ p.more) e)) p.read

-- ## Frames of a packet

with_one_more : (p : Passed) (f : Frame) (frames : List Frame) (items : List Item)
    → with_frames p (frames ++ f ∷ []) items ≡ Framed (caught p.stamp p.direction f) ∷ with_frames p frames items
with_one_more p f [] items = refl
with_one_more p f (g ∷ frames) items = with_one_more p f frames (Framed (caught p.stamp p.direction g) ∷ items)

-- no frame of a packet is told yet
pub no_frame_told : (t : Teller) (p : Passed) (frames : List Frame) → frames ≡ [] → TellsFrames t t p frames
no_frame_told t p frames e = rw e (record { setting = refl; fits = λ written items h. h })

-- and then one more
pub frame_more_told : (old mid new : Teller) (p : Passed) (f : Frame) (frames all : List Frame) → TellsFrames old mid p frames
    → Tells mid new (Framed (caught p.stamp p.direction f)) → all ≡ frames ++ f ∷ [] → TellsFrames old new p all
frame_more_told old mid new p f frames all h t e = rw e (record {
  setting = t.setting ∙ h.setting;
  fits = λ written items k.
      subst (λ (l : List Item). TellerFits written new l) (sym (with_one_more p f frames items))
      (t.fits written (with_frames p frames items) (h.fits written items k));
})

zero_is : (b : Bool) → b ≡ (0 == 0) → b ≡ false → ⊥
zero_is true e f = cc
zero_is false e f = cc

-- where frames are counted there are some
pub not_none : (frames : List FrameBuf) (n : ℕ) (b : Bool) → length frames ≡ n → b ≡ (n == 0) → b ≡ false → ¬ (map kept_frame frames ≡ [])
not_none [] n b e f g h = zero_is b (f ∙ ap (λ (k : ℕ). k == 0) (sym e)) g
not_none (x ∷ frames) n b e f g h = cc

-- a packet of damage is told as that
pub damage_packet : (old new : Teller) (p : Passed) → Tells old new (Damage p) → TellsPacket old new kind.Damage p
damage_packet old new p t = record { setting = t.setting; frames = []; reads = refl; fits = t.fits }

-- a packet in which frames are read is told by those
pub packet_frames : (old new : Teller) (p : Passed) (frames : List Frame) (rest : List ℕ) → Reads 32767 p.octets frames rest → ¬ (frames ≡ [])
    → TellsFrames old new p frames → TellsPacket old new kind.Frame p
packet_frames old new p [] rest r e t = absurd (e refl)
packet_frames old new p (f ∷ frames) rest r e t =
    record { setting = t.setting; frames = f ∷ frames; reads = record { rest = rest; reads = r }; fits = t.fits }

-- ## Packets

-- octets that are one packet, with nothing behind it, are told as that
pub octets_told : (old new : Teller) (k : Kind) (p : Passed) (octets rest : List ℕ) → octets ≡ packet k p.stamp p.direction p.octets ++ rest → rest ≡ []
    → TellsPacket old new k p → TellsOctets old new octets
octets_told old new k p octets rest e n t = record {
  k = k;
  p = p;
  is = e ∙ (ap (λ l. packet k p.stamp p.direction p.octets ++ l) n ∙ append-nil (packet k p.stamp p.direction p.octets));
  tells = t;
}

-- no packet is told yet
pub no_packet_so_far : (t : Teller) (a x : Option (List ℕ)) → ToldSoFar t t a a x x
no_packet_so_far t a x = record {
  packets = [];
  items = [];
  written = [];
  setting = refl;
  read = Consumes-nil a;
  are = none;
  appended = Appends-nil x;
  fits = λ h. h;
}

-- and then one more
pub packet_so_far : (old now new : Teller) (a b c x y z : Option (List ℕ)) (octets : List ℕ) → ToldSoFar old now a b x y
    → Consumes b c octets → ShowsOctets now new octets y z → ToldSoFar old new a c x z
packet_so_far old now new a b c x y z octets h r s =
    let t = s.tells.tells in
    record {
      packets = record { kind = s.tells.k; passed = s.tells.p } ∷ h.packets;
      items = with_packet s.tells.p t.frames h.items;
      written = h.written ++ s.writes.part;
      setting = s.writes.setting ∙ (t.setting ∙ h.setting);
      read =
          subst (λ l. Consumes a c (packets_octets h.packets ++ l)) s.tells.is
          (Consumes-trans a b c (packets_octets h.packets) octets h.read r);
      are = more h.packets h.items (record { kind = s.tells.k; passed = s.tells.p }) t.frames h.are t.reads;
      appended = Appends-trans x y z h.written s.writes.part h.appended s.writes.appended;
      fits = λ k. s.writes.fits h.written (with_packet s.tells.p t.frames h.items) (t.fits h.written h.items (h.fits k));
    }

-- where nothing more is to be read all are
pub whole_told : (old now : Teller) (a b c x y : Option (List ℕ)) → ToldSoFar old now a b x y → Consumes b c [] → IsAtEnd c
    → IsToldWhole old now a x y
whole_told old now a b c x y h r e = record { left = b; end = kept_same a b c (packets_octets h.packets) h.read r e; told = h }

-- the head, the packets, and the end
pub shown_whole : (first last closed : Teller) (wrong : Bool) (a b x y z : Option (List ℕ)) (head : List ℕ)
    → TellerFits [] first [] → Consumes a b head → IsHeaded head [] → IsToldWhole first last b x y → Closes last closed
    → Appends y z closed.text → wrong ≡ closed.is_wrong → IsShown (setting_of first) wrong a x z
shown_whole first last closed wrong a b x y z head k r headed w c e q =
    let h = w.told in
    let fits : TellerFits h.written last h.items = h.fits k in
    record {
      head = head;
      packets = h.packets;
      items = h.items;
      headed = headed;
      whole = consumed_all a b w.left head (packets_octets h.packets) r h.read w.end;
      are = h.are;
      printed =
          subst (λ (s : Setting). Appends x z (shown_text s h.items)) h.setting
          (subst (λ l. Appends x z l) (sym (c.text h.written h.items fits)) (Appends-trans x y z h.written closed.text h.appended e));
      is_wrong = q ∙ (c.is_wrong h.written h.items fits ∙ ap (λ (s : Setting). has_complaint s h.items) h.setting);
    }
