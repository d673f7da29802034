use Rattle.std.proofs.Common.{◌≡◌, ℕ, ◌+◌, List, ◌++◌, length, ap, ◌∙◌, append_assoc, arith, length-append, refl}
use Rattle.mux_capture.specs.declared.packet.Stamp.{Stamp}
use Rattle.mux_capture.specs.Pcap.{little_endian, packet_of}
use Rattle.mux_capture.proofs.packet.push_behind.Goals as goal

all_six : (out a b c d h f x y z u v w : List ℕ) → x ≡ out ++ a → y ≡ x ++ b → z ≡ y ++ c → u ≡ z ++ d → v ≡ u ++ h → w ≡ v ++ f → w ≡ out ++ (a ++ (b ++ (c ++ (d ++ (h ++ f)))))
all_six out a b c d h f x y z u v w first second third fourth fifth sixth =
    sixth ∙ ap (λ l. l ++ f) (fifth ∙ ap (λ l. l ++ h) (fourth ∙ ap (λ l. l ++ d) (third ∙ ap (λ l. l ++ c) (second ∙ ap (λ l. l ++ b) first))))
    ∙ simp append_assoc

-- each part is what it is to be
is_packet : (stamp : Stamp) (head octets out a b c d x y z u v w : List ℕ) (kept : ℕ)
    → a ≡ little_endian 4 stamp.seconds → b ≡ little_endian 4 stamp.micros → c ≡ little_endian 4 kept → d ≡ little_endian 4 kept
    → kept ≡ length head + length octets
    → x ≡ out ++ a → y ≡ x ++ b → z ≡ y ++ c → u ≡ z ++ d → v ≡ u ++ head → w ≡ v ++ octets → w ≡ out ++ packet_of stamp (head ++ octets)
is_packet stamp head octets out a b c d x y z u v w kept a_is b_is c_is d_is kept_is first second third fourth fifth sixth =
    let both : length (head ++ octets) ≡ length head + length octets = length-append head octets in
    let many : kept ≡ length (head ++ octets) = omega (arith, kept_is, both) in
    all_six out (little_endian 4 stamp.seconds) (little_endian 4 stamp.micros) (little_endian 4 (length (head ++ octets)))
    (little_endian 4 (length (head ++ octets))) head octets x y z u v w
    (first ∙ ap (λ l. out ++ l) a_is) (second ∙ ap (λ l. x ++ l) b_is)
    (third ∙ ap (λ l. y ++ l) (c_is ∙ ap (little_endian 4) many)) (fourth ∙ ap (λ l. z ++ l) (d_is ∙ ap (little_endian 4) many))
    fifth sixth

pub returns-clause-ok : goal.returns-clause-ok
returns-clause-ok c =
    is_packet c.args.stamp c.args.head.now c.args.octets.now c.args.out.now.items c.to_le_bytes.result c.to_le_bytes-2.result c.to_le_bytes-3.result
    c.to_le_bytes-4.result c.put.new.out.items c.put-2.new.out.items c.put-3.new.out.items c.put-4.new.out.items c.put-5.new.out.items c.put-6.new.out.items
    (length c.args.head.now + length c.args.octets.now)
    c.to_le_bytes.ensures c.to_le_bytes-2.ensures c.to_le_bytes-3.ensures c.to_le_bytes-4.ensures refl
    (c.put.ensures.items ∙ ap (λ l. l ++ c.to_le_bytes.result) c.reserve.ensures.items)
    c.put-2.ensures.items c.put-3.ensures.items c.put-4.ensures.items c.put-5.ensures.items c.put-6.ensures.items
