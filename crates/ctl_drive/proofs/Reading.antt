-- Lines are read, one after the other.
use Rattle.std.specs.Prelude.{◌≡◌, ℕ, ◌==◌, Bool, true, false, List, [], ◌∷◌, ◌++◌, length, Option, None, Some, refl}
use Rattle.std.proofs.Common.{ap, sym, subst, append_assoc, append-nil, ◌∙◌}
use Rattle.std.proofs.KnownBytes.{Consumes-kept, Consumes-nil, Consumes-trans}
use Rattle.std.specs.Io.KnownBytes.{Consumes, IsAtEnd, Keeps}
use Rattle.std.specs.Str.Iter.{LacksByte}
use Rattle.ctl_text.specs.Input.{input_lines}
use Rattle.ctl_text.proofs.CutTexts.{line_left}
use Rattle.std.specs.declared.vec.Vec.{Vec}
use Rattle.std.specs.declared.alloc.Global.{Global}
use Rattle.std.specs.Option.{MatchOption}
use Rattle.ctl_drive.specs.Input.{HasRead, LinesView, Reads, line_in}

-- ## What the reader has left

consumes_none : (a b c : Option (List ℕ)) (xs : List ℕ) → Consumes a b xs → Consumes b c [] → Consumes a c xs
consumes_none a b c xs h k = subst (Consumes a c) (append-nil xs) (Consumes-trans a b c xs [] h k)

keeps_consumes : (a b : Option (List ℕ)) → Keeps a b → Consumes a b []
keeps_consumes a b h = Consumes-kept a a b [] (Consumes-nil a) h

-- ## Steps

-- no line was given
pub reads_none : (l : LinesView) → Reads l l []
unfolding Reads
reads_none l first lines h = subst (HasRead first l) (sym (append-nil lines)) h

-- some lines were given, and then others
pub reads_then : (k l m : LinesView) (xs ys : List (List ℕ)) → Reads k l xs → Reads l m ys → Reads k m (xs ++ ys)
unfolding Reads
reads_then k l m xs ys g h first lines r = subst (HasRead first m) (append_assoc lines xs ys) (h first (lines ++ xs) (g first lines r))

-- a piece came
pub reads_piece : (old new : LinesView) (piece : List ℕ) → old.ended ≡ false → Consumes old.left new.left piece → new.text ≡ old.text ++ piece → new.ended ≡ old.ended → Reads old new []
unfolding Reads
reads_piece old new piece going took text same first lines h =
    subst (HasRead first new) (sym (append-nil lines)) (record {
      came = h.came ++ piece;
      consumed = Consumes-trans first old.left new.left h.came piece h.consumed took;
      lines_are = λ more e.
          ap input_lines (append_assoc h.came piece more)
          ∙ h.lines_are (piece ++ more) (λ ended. absurd (apart (sym ended ∙ going)))
          ∙ ap (λ (l : List ℕ). lines ++ input_lines l) (sym (append_assoc old.text piece more) ∙ ap (λ (l : List ℕ). l ++ more) (sym text));
      at_end = λ ended well. absurd (apart (sym ended ∙ same ∙ going));
    })
  where
    apart : true ≡ false → ⊥
    apart e = cc

-- the reader has ended or failed, or gave nothing for now
pub record Rests (old new : LinesView) : Type 0 where
  pub took : Consumes old.left new.left []
  pub text : new.text ≡ old.text
  pub sooner : old.ended ≡ true → new.ended ≡ true
  pub at_end : new.ended ≡ true → new.failed ≡ false → IsAtEnd new.left

-- it gave no line
pub reads_rests : (old new : LinesView) → Rests old new → Reads old new []
unfolding Reads
reads_rests old new s first lines h =
    subst (HasRead first new) (sym (append-nil lines)) (record {
      came = h.came;
      consumed = consumes_none first old.left new.left h.came h.consumed s.took;
      lines_are = λ more e.
          h.lines_are more (λ ended. e (s.sooner ended)) ∙ ap (λ (l : List ℕ). lines ++ input_lines (l ++ more)) (sym s.text);
      at_end = s.at_end;
    })

-- the reader gave its end
pub reads_ended : (left later : Option (List ℕ)) (text : List ℕ) (ended failed : Bool) → Consumes left later [] → IsAtEnd later → Reads (record { left = left; text = text; ended = ended; failed = failed }) (record { left = later; text = text; ended = true; failed = failed }) []
reads_ended left later text ended failed took end =
    reads_rests (record { left = left; text = text; ended = ended; failed = failed }) (record { left = later; text = text; ended = true; failed = failed })
    (record { took = took; text = refl; sooner = λ _. refl; at_end = λ _ _. end })

-- it failed
pub reads_failed : (left later : Option (List ℕ)) (text : List ℕ) (ended failed : Bool) → Keeps left later → Reads (record { left = left; text = text; ended = ended; failed = failed }) (record { left = later; text = text; ended = true; failed = true }) []
reads_failed left later text ended failed kept =
    reads_rests (record { left = left; text = text; ended = ended; failed = failed }) (record { left = later; text = text; ended = true; failed = true })
    (record { took = keeps_consumes left later kept; text = refl; sooner = λ _. refl; at_end = λ _ well. absurd (apart well) })
  where
    apart : true ≡ false → ⊥
    apart e = cc

-- it has nothing for now
pub reads_nothing : (left later : Option (List ℕ)) (text : List ℕ) (failed : Bool) → Keeps left later → Reads (record { left = left; text = text; ended = false; failed = failed }) (record { left = later; text = text; ended = false; failed = failed }) []
reads_nothing left later text failed kept =
    reads_rests (record { left = left; text = text; ended = false; failed = failed }) (record { left = later; text = text; ended = false; failed = failed })
    (record { took = keeps_consumes left later kept; text = refl; sooner = λ e. e; at_end = λ e _. absurd (apart e) })
  where
    apart : false ≡ true → ⊥
    apart e = cc

-- a line was cut off the text
pub reads_cut : (old new : LinesView) (line : List ℕ) → ((more : List ℕ) → input_lines (old.text ++ more) ≡ line ∷ input_lines (new.text ++ more)) → new ≡ record old { text = new.text } → Reads old new (line ∷ [])
unfolding Reads
reads_cut old new line cut same first lines h = subst (λ (l : LinesView). HasRead first l (lines ++ line ∷ [])) (sym same) (record {
  came = h.came;
  consumed = h.consumed;
  lines_are = λ more e.
      h.lines_are more e ∙ ap (λ (l : List (List ℕ)). lines ++ l) (cut more) ∙ sym (append_assoc lines (line ∷ []) (input_lines (new.text ++ more)));
  at_end = h.at_end;
})

-- the last line, which no LF ends
pub reads_last : (old new : LinesView) → old.ended ≡ true → LacksByte 10 old.text → false ≡ (length old.text == 0) → new ≡ record old { text = [] } → Reads old new (old.text ∷ [])
unfolding Reads
reads_last old new ended lacks some same first lines h = subst (λ (l : LinesView). HasRead first l (lines ++ old.text ∷ [])) (sym same) (record {
  came = h.came;
  consumed = h.consumed;
  lines_are = λ more e.
      let none : more ≡ [] = e ended in
      let all : input_lines (h.came ++ []) ≡ (lines ++ old.text ∷ []) ++ [] =
      h.lines_are [] (λ _. refl) ∙ ap (λ (l : List ℕ). lines ++ input_lines l) (append-nil old.text) ∙ ap (λ (l : List (List ℕ)). lines ++ l) (line_left old.text lacks some)
      ∙ sym (append-nil (lines ++ old.text ∷ [])) in
      subst (λ (l : List ℕ). input_lines (h.came ++ l) ≡ (lines ++ old.text ∷ []) ++ input_lines l) (sym none) all;
  at_end = h.at_end;
})

-- a line that LF ends was taken, or none was there
pub reads_taken : (left : Option (List ℕ)) (old text : List ℕ) (ended failed : Bool) (o : Option (Vec ℕ Global))
    → MatchOption o (LacksByte 10 old × (text ≡ old)) (λ line. (more : List ℕ) → input_lines (old ++ more) ≡ line.items ∷ input_lines (text ++ more))
    → Reads (record { left = left; text = old; ended = ended; failed = failed }) (record { left = left; text = text; ended = ended; failed = failed }) (line_in o)
reads_taken left old text ended failed None h =
    subst (λ (t : List ℕ). Reads (record { left = left; text = old; ended = ended; failed = failed }) (record { left = left; text = t; ended = ended; failed = failed }) []) (sym h.1)
    (reads_none (record { left = left; text = old; ended = ended; failed = failed }))
reads_taken left old text ended failed (Some line) h =
    reads_cut (record { left = left; text = old; ended = ended; failed = failed }) (record { left = left; text = text; ended = ended; failed = failed }) line.items h refl

-- the last line was taken
pub reads_rest : (left : Option (List ℕ)) (text rest line : List ℕ) (ended failed : Bool) → ended ≡ true → rest ≡ [] → line ≡ text → LacksByte 10 text → false ≡ (length text == 0)
    → Reads (record { left = left; text = text; ended = ended; failed = failed }) (record { left = left; text = rest; ended = ended; failed = failed }) (line ∷ [])
reads_rest left text rest line ended failed over none same lacks some =
    subst (λ (x : List ℕ × List ℕ). Reads (record { left = left; text = text; ended = ended; failed = failed }) (record { left = left; text = x.0; ended = ended; failed = failed }) (x.1 ∷ [])) (λ i. (sym none i, sym same i))
    (reads_last (record { left = left; text = text; ended = ended; failed = failed }) (record { left = left; text = []; ended = ended; failed = failed }) over lacks some refl)

-- of the same lines
pub reads_from : (view old new : LinesView) (more : List (List ℕ)) → view ≡ old → Reads view new more → Reads old new more
reads_from view old new more same h = subst (λ (l : LinesView). Reads l new more) same h
