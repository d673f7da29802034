-- What is said of files, one behind the other.
use Rattle.std.specs.Prelude.{◌≡◌, ◌==◌, ℕ, ◌+◌, ◌-◌, ◌^◌, ◌<◌, ◌≤◌, Bool, true, false, List, [], ◌∷◌, ◌++◌, All, Option, codes, length, min, refl, take, slice_index_or, if◌then◌else◌}
use Rattle.std.proofs.Common.{ap, arith, sym, subst, true≢false, ◌∙◌}
use Rattle.std.proofs.lemmas.List.{append-nil, map-append, take_more, take_all}
use Rattle.std.proofs.lemmas.List.Concat.{flat_map-append}
use Rattle.ctl_text.specs.Writing.{IsBegun}
use Rattle.modem_data.specs.PipeSets.{PipeSet}
use Rattle.data_files.specs.Files.{FileState}
use Rattle.data_files.specs.Moves.{IsUnsent}
use Rattle.file_threads.specs.FileEnds.{AreEnds, FileEnd, IsWritten, SaysEnd, SaysEnds, count_texts, data_text, end_of, end_texts, ends_texts, octets_text, texts_if, SaysFull, full_text, full_texts}
use Rattle.file_threads.specs.Said.{AreSaid}

-- some texts were said, and then others
pub said_both : (a b c : Option (List ℕ)) (xs ys : List (List ℕ)) → AreSaid a b xs → AreSaid b c ys → AreSaid a c (xs ++ ys)
said_both a b c [] ys (AreSaid.said_none _) two = two
said_both a b c (x ∷ xs) ys (AreSaid.said_next _ between _ _ _ first h) two = AreSaid.said_next a between c x (xs ++ ys) first (said_both between b c xs ys h two)

-- where it isn't so, nothing is said
pub said_no : (a : Option (List ℕ)) (is_so : Bool) (d : ℕ) (words : List ℕ) → is_so ≡ false → AreSaid a a (texts_if is_so d words)
said_no a is_so d words e = subst (λ (b : Bool). AreSaid a a (texts_if b d words)) (sym e) (AreSaid.said_none a)

-- where it is so, that is said
pub said_yes : (a b : Option (List ℕ)) (is_so : Bool) (d : ℕ) (words : List ℕ) → is_so ≡ true → IsBegun a b (data_text d words) → AreSaid a b (texts_if is_so d words)
said_yes a b is_so d words e h = subst (λ (t : Bool). AreSaid a b (texts_if t d words)) (sym e) (AreSaid.said_next a b b (data_text d words) [] h (AreSaid.said_none b))

-- of no octets nothing is said
pub count_none : (a : Option (List ℕ)) (d n : ℕ) (words : List ℕ) → (n == 0) ≡ true → AreSaid a a (count_texts d words n)
count_none a d n words e = subst (λ (t : Bool). AreSaid a a (if t then [] else data_text d words ∷ octets_text n ∷ [])) (sym e) (AreSaid.said_none a)

-- of some it is said that they are left, and how many at least
pub count_some : (a b c : Option (List ℕ)) (d n : ℕ) (words : List ℕ) → (n == 0) ≡ false → IsBegun a b (data_text d words) → IsBegun b c (octets_text n)
    → AreSaid a c (count_texts d words n)
count_some a b c d n words e one two = subst (λ (t : Bool). AreSaid a c (if t then [] else data_text d words ∷ octets_text n ∷ [])) (sym e)
    (AreSaid.said_next a b c (data_text d words) (octets_text n ∷ []) one (AreSaid.said_next b c c (octets_text n) [] two (AreSaid.said_none c)))

-- four runs of texts, one behind the other
pub said_four : (a b c d e : Option (List ℕ)) (ws xs ys zs : List (List ℕ)) → AreSaid a b ws → AreSaid b c xs → AreSaid c d ys → AreSaid d e zs
    → AreSaid a e (ws ++ xs ++ ys ++ zs)
said_four a b c d e ws xs ys zs one two three four =
    said_both a d e (ws ++ xs ++ ys) zs (said_both a c d (ws ++ xs) ys (said_both a b c ws xs one two) three) four

-- of no files nothing is said
pub ends_of_none : {Y : Type 0} (pipes : PipeSet) (a : Option (List ℕ)) (files : List (FileState Y)) → SaysEnds pipes (take 0 files) a a
ends_of_none pipes a files = record { ends = []; ends_are = AreEnds.ends_none; said = AreSaid.said_none a }

-- behind what was said of some files, it was said what came of another
said_ends : (a b c : Option (List ℕ)) (ends : List FileEnd) (e : FileEnd) → AreSaid a b (ends_texts ends) → AreSaid b c (end_texts e)
    → AreSaid a c (ends_texts (ends ++ e ∷ []))
said_ends a b c ends e h one =
    subst (AreSaid a c)
    (sym (flat_map-append end_texts ends (e ∷ []) ∙ ap (λ (ts : List (List ℕ)). ends_texts ends ++ ts) (append-nil (end_texts e))))
    (said_both a b c (ends_texts ends) (end_texts e) h one)

-- behind what came of some files it was said what came of the next
pub ends_more : {Y : Type 0} (pipes : PipeSet) (a b c : Option (List ℕ)) (files : List (FileState Y)) (i : ℕ) (f : FileState Y) → i < length files
    → SaysEnds pipes (take i files) a b → SaysEnd pipes (slice_index_or files i f) b c → SaysEnds pipes (take (i + 1) files) a c
ends_more pipes a b c files i f there h one =
    subst (λ (xs : List (FileState _)). SaysEnds pipes xs a c) (sym (take_more files i f there))
    (record {
      ends = h.ends ++ one.end ∷ [];
      ends_are = AreEnds.ends_next (take i files) h.ends (slice_index_or files i f) one.end h.ends_are one.end_is;
      said = said_ends a b c h.ends one.end h.said one.said;
    })

-- when it was said of all of them, it was said of each
pub ends_all : {Y : Type 0} (pipes : PipeSet) (a b : Option (List ℕ)) (files : List (FileState Y)) (i : ℕ) → length files ≤ i
    → SaysEnds pipes (take i files) a b → SaysEnds pipes files a b
ends_all pipes a b files i most h = subst (λ (xs : List (FileState _)). SaysEnds pipes xs a b) (take_all i files most) h

-- ## All is written

-- if each file has taken all that was read for it, all have
pub written_all : {Y : Type 0} (files : List (FileState Y)) (n : ℕ) → length files ≤ n
    → ((i : ℕ) (f : FileState Y) → i < n → i < length files → IsWritten (slice_index_or files i f)) → All IsWritten files
written_all files n most each = λ i f there. each i f (omega (arith, there, most)) there

-- what is said of one file
said_four_of : (a b c d e : Option (List ℕ)) (f : FileEnd) (one two : Bool) (n m dlci : ℕ) → one ≡ f.has_ended → two ≡ f.is_broken → n ≡ f.unsent → m ≡ f.unwritten → dlci ≡ f.dlci
    → AreSaid a b (texts_if one dlci (codes ": its file gives no more")) → AreSaid b c (texts_if two dlci (codes ": its file takes no more"))
    → AreSaid c d (count_texts dlci (codes ": not all that its file gave was sent") n) → AreSaid d e (count_texts dlci (codes ": not all that came was written to its file") m)
    → AreSaid a e (end_texts f)
said_four_of a b c d e f one two n m dlci p q r s t h1 h2 h3 h4 =
    subst
    (λ (x : Bool × Bool × ℕ × ℕ × ℕ). AreSaid a e
    (texts_if x.0 x.4 (codes ": its file gives no more") ++ texts_if x.1 x.4 (codes ": its file takes no more") ++ count_texts x.4 (codes ": not all that its file gave was sent") x.2 ++ count_texts x.4 (codes ": not all that came was written to its file") x.3))
    (λ i. (p i, q i, r i, s i, t i))
    (said_four a b c d e (texts_if one dlci (codes ": its file gives no more")) (texts_if two dlci (codes ": its file takes no more")) (count_texts dlci (codes ": not all that its file gave was sent") n)
    (count_texts dlci (codes ": not all that came was written to its file") m) h1 h2 h3 h4)

-- it is said by what its connection took and hasn't sent
pub said_file : {Y : Type 0} (pipes : PipeSet) (a b c d e : Option (List ℕ)) (f : FileState Y) (one two : Bool) (ungiven kept both dropped n m dlci : ℕ) → one ≡ f.has_ended → two ≡ f.is_broken
    → ungiven ≡ length f.ungiven → IsUnsent pipes dlci kept → both ≡ min (ungiven + kept) (2 ^ 64 - 1) → dropped ≡ f.dropped → n ≡ min (both + dropped) (2 ^ 64 - 1)
    → m ≡ length f.unwritten → dlci ≡ f.dlci
    → AreSaid a b (texts_if one dlci (codes ": its file gives no more")) → AreSaid b c (texts_if two dlci (codes ": its file takes no more"))
    → AreSaid c d (count_texts dlci (codes ": not all that its file gave was sent") n) → AreSaid d e (count_texts dlci (codes ": not all that came was written to its file") m)
    → SaysEnd pipes f a e
said_file pipes a b c d e f one two ungiven kept both dropped n m dlci p q u k r v w s t h1 h2 h3 h4 = record {
  end = end_of f kept;
  end_is = record { kept = kept; kept_are = subst (λ (x : ℕ). IsUnsent pipes x kept) t k; end_is = refl };
  said = said_four_of a b c d e (end_of f kept) one two n m dlci p q
      (let all : n ≡ min (length f.ungiven + kept + f.dropped) (2 ^ 64 - 1) = omega (arith, u, r, v, w) in all) s t h1 h2 h3 h4;
}

-- ## Threads that have more to write

-- one text more was said behind others
pub said_last : (a b c : Option (List ℕ)) (texts : List (List ℕ)) (text : List ℕ) → AreSaid a b texts → IsBegun b c text → AreSaid a c (texts ++ text ∷ [])
said_last a b c texts text h begun = said_both a b c texts (text ∷ []) h (AreSaid.said_next b c c text [] begun (AreSaid.said_none c))

-- of no thread is it said at first that it has more to write
pub full_none : (a : Option (List ℕ)) → SaysFull true a a
full_none a = record { full = []; said = AreSaid.said_none a; none = (λ q. refl, λ q. refl) }

not_none : (ds : List ℕ) (d : ℕ) → ds ++ d ∷ [] ≡ [] → ⊥
not_none [] d q = cc
not_none (x ∷ ds) d q = cc

-- one more has more to write
pub full_more : (before all : Bool) (a b c x : Option (List ℕ)) (d : ℕ) → SaysFull before a b → IsBegun b c (full_text d) → all ≡ false → x ≡ c
    → SaysFull all a x
full_more before all a b c x d h begun not_all same = record {
  full = h.full ++ d ∷ [];
  said = subst (λ (z : Option (List ℕ)). AreSaid a z (full_texts (h.full ++ d ∷ []))) (sym same)
      (subst (λ (ts : List (List ℕ)). AreSaid a c ts) (sym (map-append full_text h.full (d ∷ []))) (said_last a b c (full_texts h.full) (full_text d) h.said begun));
  none = (λ q. absurd (true≢false (sym q ∙ not_all)), λ q. absurd (not_none h.full d q));
}

-- this one is through
pub full_same : (before all : Bool) (a b x : Option (List ℕ)) → SaysFull before a b → all ≡ before → x ≡ b → SaysFull all a x
full_same before all a b x h same none =
    subst (λ (y : Bool × Option (List ℕ)). SaysFull y.0 a y.1) (λ i. (sym same i, sym none i)) h
