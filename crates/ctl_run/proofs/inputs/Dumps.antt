-- Octets written as pairs of digits, read word by word and line by line.
use Rattle.std.specs.Prelude.{◌≡◌, ◌≢◌, ℕ, ◌+◌, ◌*◌, ◌%◌, ◌==◌, ◌<◌, Bool, true, false, List, [], ◌∷◌, ◌++◌, length, Option, None, Some, Result, Ok, Err, refl, if◌then◌else◌}
use Rattle.std.proofs.Common.{sym, ap, arith, ◌∙◌}
use Rattle.std.proofs.lemmas.Bool.{ne_eqb, eqb-true}
use Rattle.std.proofs.lemmas.List.{append_assoc, append-nil}
use denote.Ref.{Bor}
use Rattle.std.specs.Option.{MatchOption, unwrap_or}
use Rattle.std.specs.Result.{result_ok}
use Rattle.std.specs.Str.Iter.{LacksByte}
use Rattle.hex.specs.Hex.{decode_of, decode_pairs, digit_or_error, hex_digit_value, ◌>>=◌}
use Rattle.hex.specs.declared.error.FromHexError.{FromHexError}
use Rattle.hex.specs.declared.error.FromHexError.TheVariants.{OddLength}
use Rattle.ctl_run.specs.Dump.{IsNoDump, dump_octets, joined, line_octets, octet_of}
use Rattle.ctl_text.specs.Input.{input_lines}
use Rattle.ctl_text.proofs.CutTexts.{IsCutAt, lacks_head, lacks_tail}
use Rattle.ctl_run.specs.LineFaults.{DumpFault}
use Rattle.ctl_run.proofs.inputs.ReadLines.{IsRead, read_more}

-- no octets in front change nothing
pub joined_nil : (o : Option (List ℕ)) → joined (Some []) o ≡ o
joined_nil None = refl
joined_nil (Some x) = refl

-- octets may be joined in either grouping
pub joined_assoc : (a b c : Option (List ℕ)) → joined (joined a b) c ≡ joined a (joined b c)
joined_assoc None b c = refl
joined_assoc (Some x) None c = refl
joined_assoc (Some x) (Some y) None = refl
joined_assoc (Some x) (Some y) (Some z) = ap (λ (l : List ℕ). Some l) (append_assoc x y z)

some_isnt_none : (x : List ℕ) → Some x ≡ None → ⊥
some_isnt_none x e = cc

no_low : (high : Option ℕ) → octet_of high None ≡ None
no_low None = refl
no_low (Some h) = refl

-- the two digits of an octet, and what follows them
abbrev then_pair : ℕ → ℕ → ℕ → Option ℕ → Option ℕ → Result (List ℕ) FromHexError → Result (List ℕ) FromHexError
then_pair c d i high low later = do
  byte ← (do
    h ← digit_or_error c i high
    l ← digit_or_error d (i + 1) low
    Ok (h * 16 + l))
  bytes ← later
  Ok (byte ∷ bytes)

pair_more : (c d i : ℕ) (high low : Option ℕ) (later : Result (List ℕ) FromHexError) (o : Option (List ℕ)) → joined (octet_of high low) (joined (result_ok later) o) ≡ joined (result_ok (then_pair c d i high low later)) o
pair_more c d i None low later o = refl
pair_more c d i (Some h) None later o = refl
pair_more c d i (Some h) (Some l) (Err e) o = refl
pair_more c d i (Some h) (Some l) (Ok x) None = refl
pair_more c d i (Some h) (Some l) (Ok x) (Some y) = refl

none_later : (c d i : ℕ) (high low : Option ℕ) (later : Result (List ℕ) FromHexError) → result_ok later ≡ None → result_ok (then_pair c d i high low later) ≡ None
none_later c d i None low later e = refl
none_later c d i (Some h) None later e = refl
none_later c d i (Some h) (Some l) (Err x) e = refl
none_later c d i (Some h) (Some l) (Ok x) e = absurd (some_isnt_none x e)

second : {X : Type 0} (a : Bool) (x y : X) → a ≡ false → (if a then x else y) ≡ y
second a x y e = rw e refl

-- a word is read first, where no digit can pair with what follows it
word_first : (i : ℕ) (word tail : List ℕ) → LacksByte 32 word → ((c : ℕ) → c ≢ 32 → line_octets (c ∷ tail) ≡ None) → line_octets (word ++ tail) ≡ joined (result_ok (decode_pairs i word)) (line_octets tail)
unfolding decode_pairs
word_first i [] tail h odd = sym (joined_nil (line_octets tail))
word_first i (c ∷ []) tail h odd = odd c (lacks_head 32 c [] h)
word_first i (c ∷ d ∷ word) tail h odd =
    second (c == 32) (line_octets (d ∷ word ++ tail)) (joined (octet_of (hex_digit_value c) (hex_digit_value d)) (line_octets (word ++ tail))) (ne_eqb c 32 (lacks_head 32 c (d ∷ word) h))
    ∙ ap (joined (octet_of (hex_digit_value c) (hex_digit_value d))) (word_first (i + 2) word tail (lacks_tail 32 d word (lacks_tail 32 c (d ∷ word) h)) odd)
    ∙ pair_more c d i (hex_digit_value c) (hex_digit_value d) (decode_pairs (i + 2) word) (line_octets tail)

odd_at_end : (c : ℕ) → c ≢ 32 → line_octets (c ∷ []) ≡ None
odd_at_end c n = second (c == 32) (Some []) None (ne_eqb c 32 n)

odd_at_blank : (rest : List ℕ) (c : ℕ) → c ≢ 32 → line_octets (c ∷ 32 ∷ rest) ≡ None
odd_at_blank rest c n =
    second (c == 32) (line_octets (32 ∷ rest)) (joined (octet_of (hex_digit_value c) None) (line_octets rest)) (ne_eqb c 32 n)
    ∙ ap (λ (o : Option (List ℕ)). joined o (line_octets rest)) (no_low (hex_digit_value c))

blank_skipped : (rest : List ℕ) → line_octets (32 ∷ rest) ≡ line_octets rest
blank_skipped [] = refl
blank_skipped (c ∷ rest) = refl

odd_decodes_none : (i : ℕ) (word : List ℕ) → length word % 2 ≡ 1 → result_ok (decode_pairs i word) ≡ None
unfolding decode_pairs
odd_decodes_none i [] e = absurd (omega arith)
odd_decodes_none i (c ∷ []) e = refl
odd_decodes_none i (c ∷ d ∷ word) e =
    let later = odd_decodes_none (i + 2) word (omega arith) in
    none_later c d i (hex_digit_value c) (hex_digit_value d) (decode_pairs (i + 2) word) later

-- what a word decodes to
decoded_at : (b : Bool) (word : List ℕ) → (length word % 2 == 1) ≡ b → result_ok (if b then Err OddLength else decode_pairs 0 word) ≡ result_ok (decode_pairs 0 word)
decoded_at true word e = sym (odd_decodes_none 0 word (eqb-true (length word % 2) 1 e))
decoded_at false word e = refl

decoded : (word : List ℕ) → result_ok (decode_of word) ≡ result_ok (decode_pairs 0 word)
decoded word = decoded_at (length word % 2 == 1) word refl

-- a word before a blank stands for what it decodes to, and what follows is read on
pub word_and_rest : (word rest : List ℕ) → LacksByte 32 word → line_octets (word ++ 32 ∷ rest) ≡ joined (result_ok (decode_of word)) (line_octets rest)
word_and_rest word rest h =
    word_first 0 word (32 ∷ rest) h (odd_at_blank rest)
    ∙ ap (joined (result_ok (decode_pairs 0 word))) (blank_skipped rest)
    ∙ ap (λ (o : Option (List ℕ)). joined o (line_octets rest)) (sym (decoded word))

-- so does the last word of a line
pub last_word : (word : List ℕ) → LacksByte 32 word → line_octets word ≡ joined (result_ok (decode_of word)) (Some [])
last_word word h =
    ap line_octets (sym (append-nil word))
    ∙ word_first 0 word [] h odd_at_end
    ∙ ap (λ (o : Option (List ℕ)). joined o (Some [])) (sym (decoded word))

-- what `split_once` says of a blank
pub word_cut : (line : List ℕ) (o : Option (Bor (List ℕ) × Bor (List ℕ))) (whole nothing : Bor (List ℕ)) (cut : Bor (List ℕ) × Bor (List ℕ)) → MatchOption o (LacksByte 32 line) (λ parts. IsCutAt 32 line parts.0.now parts.1.now) → whole.now ≡ line → nothing.now ≡ [] → cut ≡ unwrap_or o (whole, nothing) → line_octets line ≡ joined (result_ok (decode_of cut.0.now)) (line_octets cut.1.now)
word_cut line None whole nothing cut h w n e = rw (e, w, n) (last_word line h)
word_cut line (Some parts) whole nothing cut h w n e = rw (e, h.1) (word_and_rest parts.0.now parts.1.now h.0)

-- one more word is read
pub word_more : (octets more line word rest later : List ℕ) → line_octets line ≡ joined (result_ok (decode_of word)) (line_octets rest) → decode_of word ≡ Ok more → later ≡ octets ++ more → joined (Some octets) (line_octets line) ≡ joined (Some later) (line_octets rest)
word_more octets more line word rest later e d n =
    ap (joined (Some octets)) e
    ∙ ap (λ r. joined (Some octets) (joined (result_ok r) (line_octets rest))) d
    ∙ sym (joined_assoc (Some octets) (Some more) (line_octets rest))
    ∙ ap (λ (l : List ℕ). joined (Some l) (line_octets rest)) (sym n)

none_joined : (x : List ℕ) (o : Option (List ℕ)) → joined (Some x) o ≡ None → o ≡ None
none_joined x None e = refl
none_joined x (Some y) e = absurd (some_isnt_none (x ++ y) e)

-- so many lines are read, and their octets with them
pub record AreOctets (dump left octets : List ℕ) (place : ℕ) : Type 0 where
  pub read : IsRead IsNoDump DumpFault dump left place
  pub joins : joined (Some octets) (dump_octets (input_lines left)) ≡ dump_octets (input_lines dump)

stands_for : (octets later : List ℕ) (o : Option (List ℕ)) → Some later ≡ joined (Some octets) o → o ≡ None → ⊥
stands_for octets later None e n = some_isnt_none later e
stands_for octets later (Some x) e n = some_isnt_none x n

-- one more line is read, and its octets
pub line_more : (dump left line rest octets later : List ℕ) (place : ℕ) → AreOctets dump left octets place → input_lines left ≡ line ∷ input_lines rest → length rest < length left → Some later ≡ joined (Some octets) (line_octets line) → AreOctets dump rest later (place + 1)
line_more dump left line rest octets later place h e l n = record {
  read = read_more IsNoDump DumpFault dump left line rest place h.read e l (stands_for octets later (line_octets line) n);
  joins =
      ap (λ (o : Option (List ℕ)). joined o (dump_octets (input_lines rest))) n
      ∙ joined_assoc (Some octets) (line_octets line) (dump_octets (input_lines rest))
      ∙ ap (λ (l : List (List ℕ)). joined (Some octets) (dump_octets l)) (sym e)
      ∙ h.joins;
}
