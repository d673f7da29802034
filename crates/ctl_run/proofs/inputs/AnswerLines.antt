-- The text of answers of one's own, read line by line.
use Rattle.std.specs.Prelude.{◌≡◌, ◌≢◌, ℕ, suc, ◌+◌, ◌<◌, ◌≤◌, ◌^◌, true, false, List, [], ◌∷◌, ◌++◌, length, drop, Option, Some, None, Result, Ok, Err, MatchOption, MatchResult, IfOk, IfSome, refl, codes}
use Rattle.std.specs.Fmt.{decimal}
use Rattle.std.proofs.Common.{ap, ap₂, arith, sym, subst, ◌∙◌, inl, inr, append_assoc, append-nil, length-append}
use Rattle.std.specs.Str.Iter.{LacksByte}
use Rattle.std.proofs.lemmas.Bool.{false≢true}
use Rattle.modem_sim.specs.Doing.{is_line}
use Rattle.modem_sim.specs.declared.own_answers.OwnAnswer.{OwnAnswer}
use Rattle.modem_sim.specs.declared.own_answers.OwnLine.{OwnLine}
use Rattle.ctl_text.specs.Input.{input_lines}
use Rattle.ctl_text.specs.LineFaults.{behind_word, first_word}
use Rattle.ctl_text.proofs.CutTexts.{lacks_cons, lacks_head, lacks_nil, lacks_tail}
use Rattle.ctl_text.proofs.FirstWords.{behind_front, first_front}
use Rattle.ctl_run.specs.declared.own_answers.AnswerRefusal.{AnswerRefusal}
use Rattle.ctl_run.specs.declared.own_answers.AnswersStop.{AnswersStop}
use Rattle.ctl_run.specs.AnswerTexts.{AnswersStopBy, AreAnswers, AreLines, AreSome, GivesAnswers, HasArrow, HasNoLine, HasNoNext, HasRefusal, IsFirst, IsLast, IsNoFirst, IsNoLast, IsNoText, IsStarred, SaysAnswer, SaysCount, answers_stop, is_skipped}
use Rattle.ctl_run.proofs.inputs.StepLines.{lacks_decimal}

-- ## Counts

-- what a word that isn't empty is read as, a decimal or none, is its count
pub counted : (word : List ℕ) (o : Option ℕ) → word ≢ [] → MatchOption o ((n : ℕ) → n < 2 ^ 64 → word ≢ decimal n) (λ n. word ≡ decimal n)
    → MatchOption o ((n : ℕ) → n < 2 ^ 64 → SaysCount word n → ⊥) (SaysCount word)
counted word (Some n) some is = inr is
counted word None some none = λ n few says. says_none n few says
  where
    says_none : (n : ℕ) → n < 2 ^ 64 → SaysCount word n → ⊥
    says_none n few (inl empty) = some empty.0
    says_none n few (inr is) = none n few is

count_lacks : (word : List ℕ) (n : ℕ) → n < 2 ^ 64 → SaysCount word n → LacksByte 32 word
count_lacks word n few (inl empty) = subst (LacksByte 32) (sym empty.0) (lacks_nil 32)
count_lacks word n few (inr is) = subst (LacksByte 32) (sym is) (lacks_decimal n few)

-- ## One line

lacks_blank : (xs ys : List ℕ) → LacksByte 32 (xs ++ 32 ∷ ys) → ⊥
lacks_blank [] ys h = lacks_head 32 32 ys h refl
lacks_blank (x ∷ xs) ys h = lacks_blank xs ys (lacks_tail 32 x (xs ++ 32 ∷ ys) h)

-- a text is cut in one way at its first blank
same_parts : (text word other rest behind : List ℕ) → LacksByte 32 word → LacksByte 32 other → text ≡ word ++ 32 ∷ rest → text ≡ other ++ 32 ∷ behind → (word ≡ other) × (rest ≡ behind)
same_parts text word other rest behind lacks lacks_too cut cut_too = (
  sym (first_front word rest lacks) ∙ ap first_word (sym cut ∙ cut_too) ∙ first_front other behind lacks_too,
  sym (behind_front word rest lacks) ∙ ap behind_word (sym cut ∙ cut_too) ∙ behind_front other behind lacks_too,
)

-- a text without a blank is no line of an answer
pub no_blank : (text : List ℕ) → LacksByte 32 text → IsNoLast text
no_blank text lacks l is = lacks_blank is.word l.line.text (subst (LacksByte 32) is.text_is lacks)

-- nor is one whose first word is no count
pub no_count : (text word rest : List ℕ) → LacksByte 32 word → text ≡ word ++ 32 ∷ rest → ((n : ℕ) → n < 2 ^ 64 → SaysCount word n → ⊥) → IsNoLast text
no_count text word rest lacks cut none l is =
    let same = same_parts text word is.word rest l.line.text lacks (count_lacks is.word l.after is.few is.count) cut is.text_is in
    none l.after is.few (subst (λ (w : List ℕ). SaysCount w l.after) (sym same.0) is.count)

-- nor one behind whose first blank no line stands, of 1 to 512 octets
pub no_answer_text : (text word rest : List ℕ) → LacksByte 32 word → text ≡ word ++ 32 ∷ rest → is_line rest ≡ false → IsNoLast text
no_answer_text text word rest lacks cut none l is =
    let same = same_parts text word is.word rest l.line.text lacks (count_lacks is.word l.after is.few is.count) cut is.text_is in
    false≢true (sym none ∙ ap is_line same.1 ∙ is.small)

-- a count, a blank and a line are one
pub is_last : (text word : List ℕ) (l : OwnLine) → l.after < 2 ^ 64 → SaysCount word l.after → text ≡ word ++ 32 ∷ l.line.text → is_line l.line.text ≡ true → IsLast text l
is_last text word l few count cut small = record { word = word; few = few; count = count; text_is = cut; small = small }

abbrev head_of : List ℕ → ℕ
head_of [] = 0
head_of (c ∷ text) = c

no_octet : (c : ℕ) (ys : List ℕ) → [] ≢ ys ++ c ∷ []
no_octet c [] e = cc
no_octet c (y ∷ ys) e = cc

-- two texts are the same, if they are with an octet behind them
same_front : (c : ℕ) (xs ys : List ℕ) → xs ++ c ∷ [] ≡ ys ++ c ∷ [] → xs ≡ ys
same_front c [] [] e = refl
same_front c [] (y ∷ ys) e = absurd (no_octet c ys (ap (drop 1) e))
same_front c (x ∷ xs) [] e = absurd (no_octet c xs (sym (ap (drop 1) e)))
same_front c (x ∷ xs) (y ∷ ys) e = ap₂ (λ (z : ℕ) (zs : List ℕ). z ∷ zs) (ap head_of e) (same_front c xs ys (ap (drop 1) e))

first_by : (text left : List ℕ) (o : Option OwnLine) → text ≡ left ++ codes " " → MatchOption o (IsNoLast left) (IsLast left) → MatchOption o (IsNoFirst text) (IsFirst text)
first_by text left (Some l) cut is = record { left = left; text_is = cut; is_line = is }
first_by text left None cut none =
    λ l is. none l (subst (λ (t : List ℕ). IsLast t l) (same_front 32 is.left left (sym is.text_is ∙ cut)) is.is_line)

-- what is found without the blank at a text's end is found of the text as a line with more to come
pub first_found : {E : Type 0} (text left : List ℕ) (r : Result (Option OwnLine) E) → text ≡ left ++ codes " " → IfOk r (λ o. MatchOption o (IsNoLast left) (IsLast left)) → IfOk r (λ o. MatchOption o (IsNoFirst text) (IsFirst text))
first_found text left (Ok o) cut h = first_by text left o cut h
first_found text left (Err why) cut h = tt

-- a text without a blank at its end is no such line
pub no_end : (text : List ℕ) → ((c : List ℕ) → text ≢ c ++ codes " ") → IsNoFirst text
no_end text none l is = none is.left is.text_is

-- what was found there, or that nothing was
pub first_there : (text : List ℕ) (o : Option OwnLine) (l : OwnLine) → MatchOption o (IsNoFirst text) (IsFirst text) → o ≡ Some l → IsFirst text l
first_there text o l found is = subst (λ (x : Option OwnLine). MatchOption x (IsNoFirst text) (IsFirst text)) is found

-- that nothing was
pub first_nowhere : (text : List ℕ) (o : Option OwnLine) → MatchOption o (IsNoFirst text) (IsFirst text) → o ≡ None → IsNoFirst text
first_nowhere text o found is = subst (λ (x : Option OwnLine). MatchOption x (IsNoFirst text) (IsFirst text)) is found

-- and of a last line
pub last_there : (text : List ℕ) (o : Option OwnLine) (l : OwnLine) → MatchOption o (IsNoLast text) (IsLast text) → o ≡ Some l → IsLast text l
last_there text o l found is = subst (λ (x : Option OwnLine). MatchOption x (IsNoLast text) (IsLast text)) is found

-- that there is none
pub last_nowhere : (text : List ℕ) (o : Option OwnLine) → MatchOption o (IsNoLast text) (IsLast text) → o ≡ None → IsNoLast text
last_nowhere text o found is = subst (λ (x : Option OwnLine). MatchOption x (IsNoLast text) (IsLast text)) is found

-- ## Lines of an answer

-- some lines are read, and this is left
pub record AreRead (behind : List ℕ) (lines : List OwnLine) (left : List ℕ) : Type 0 where
  pub said : (more : List OwnLine) → AreSome left more → AreSome behind (lines ++ more)
  pub none : HasNoNext left → HasNoNext behind

-- none is read yet
pub read_none : (behind : List ℕ) → AreRead behind [] behind
read_none behind = record { said = λ more h. h; none = λ h. h }

-- one more line, up to the next bar, is read
pub read_line : (behind left text rest : List ℕ) (lines : List OwnLine) (l : OwnLine) → AreRead behind lines left → LacksByte 124 text → left ≡ text ++ 124 ∷ rest → IsFirst text l → AreRead behind (lines ++ l ∷ []) rest
read_line behind left text rest lines l read lacks cut is = record {
  said = λ more h. subst (AreSome behind) (sym (append_assoc lines (l ∷ []) more)) (read.said (l ∷ more) (AreSome.first left text rest l more cut lacks is h));
  none = λ h. read.none (HasNoNext.later left text rest l cut lacks is h);
}

-- what stands behind that bar is shorter
pub shorter : (left text rest : List ℕ) → left ≡ text ++ 124 ∷ rest → length rest < length left
shorter left text rest cut =
    let so_long : length left ≡ length text + length (124 ∷ rest) = ap length cut ∙ length-append text (124 ∷ rest) in
    let one_more : length (124 ∷ rest) ≡ suc (length rest) = refl in
    omega (arith, so_long, one_more)

-- what stands before the next bar is no line: behind the arrow are no lines
pub no_next : (behind left text rest : List ℕ) (lines : List OwnLine) → behind ≢ [] → AreRead behind lines left → LacksByte 124 text → left ≡ text ++ 124 ∷ rest → IsNoFirst text → HasNoLine behind
no_next behind left text rest lines some read lacks cut none = record { some = some; none = read.none (HasNoNext.no_first left text rest cut lacks none) }

-- no bar is left, and what is left is no line: behind the arrow are no lines
pub none_last : (behind left : List ℕ) (lines : List OwnLine) → behind ≢ [] → AreRead behind lines left → LacksByte 124 left → IsNoLast left → HasNoLine behind
none_last behind left lines some read lacks none = record { some = some; none = read.none (HasNoNext.no_last left lacks none) }

-- no bar is left, and what is left is a line: these are all
pub all_lines : (behind left : List ℕ) (lines : List OwnLine) (l : OwnLine) → AreRead behind lines left → LacksByte 124 left → IsLast left l → AreLines behind (lines ++ l ∷ [])
all_lines behind left lines l read lacks is = inr (read.said (l ∷ []) (AreSome.last left l lacks is))

-- ## Commands and arrows

-- a command line with a star behind it means lines that go on too
pub is_starred : (front command : List ℕ) → front ≡ command ++ codes "*" → IsStarred front command true
is_starred front command is = record { front_is = is; no_star = λ no c e. absurd (false≢true (sym no)) }

lacks_front : (c : ℕ) (xs ys : List ℕ) → LacksByte c (xs ++ ys) → LacksByte c xs
lacks_front c [] ys h = lacks_nil c
lacks_front c (x ∷ xs) ys h = lacks_cons c x xs (lacks_head c x (xs ++ ys) h) (lacks_front c xs ys (lacks_tail c x (xs ++ ys) h))

-- a blank and = before the first `>` make it an arrow
pub has_arrow : (line before front behind : List ℕ) → LacksByte 62 before → line ≡ before ++ 62 ∷ behind → before ≡ front ++ codes " =" → HasArrow line front behind
has_arrow line before front behind lacks cut is = record {
  line_is = cut ∙ ap (λ (x : List ℕ). x ++ 62 ∷ behind) is;
  first = lacks_front 62 front (codes " =") (subst (LacksByte 62) is lacks);
}

-- ## Lines that say answers

pub record IsReadTo (text left : List ℕ) (answers : List OwnAnswer) (place : ℕ) : Type 0 where
  pub lines : List (List ℕ)
  pub split : input_lines text ≡ lines ++ input_lines left
  pub counted : place ≡ length lines
  pub say : AreAnswers lines answers
  pub bounded : place + length left ≤ length text

-- no line is read yet
pub read_from : (text : List ℕ) → IsReadTo text text [] 0
read_from text = record { lines = []; split = refl; counted = refl; say = AreAnswers.no_line; bounded = omega arith }

skip_behind : (lines : List (List ℕ)) (answers : List OwnAnswer) (line : List ℕ) → AreAnswers lines answers → is_skipped line ≡ true → AreAnswers (lines ++ line ∷ []) answers
skip_behind _ _ line AreAnswers.no_line is = AreAnswers.skips line [] [] is AreAnswers.no_line
skip_behind _ _ line (AreAnswers.skips l lines answers skipped say) is = AreAnswers.skips l (lines ++ line ∷ []) answers skipped (skip_behind lines answers line say is)
skip_behind _ _ line (AreAnswers.says l lines a answers read says say) is = AreAnswers.says l (lines ++ line ∷ []) a answers read says (skip_behind lines answers line say is)

say_behind : (lines : List (List ℕ)) (answers : List OwnAnswer) (line : List ℕ) (a : OwnAnswer) → AreAnswers lines answers → is_skipped line ≡ false → SaysAnswer line a → AreAnswers (lines ++ line ∷ []) (answers ++ a ∷ [])
say_behind _ _ line a AreAnswers.no_line read says = AreAnswers.says line [] a [] read says AreAnswers.no_line
say_behind _ _ line a (AreAnswers.skips l lines answers skipped say) read says = AreAnswers.skips l (lines ++ line ∷ []) (answers ++ a ∷ []) skipped (say_behind lines answers line a say read says)
say_behind _ _ line a (AreAnswers.says l lines b answers was says_b say) read says = AreAnswers.says l (lines ++ line ∷ []) b (answers ++ a ∷ []) was says_b (say_behind lines answers line a say read says)

next_split : (text left line rest : List ℕ) (lines : List (List ℕ)) → input_lines text ≡ lines ++ input_lines left → input_lines left ≡ line ∷ input_lines rest → input_lines text ≡ (lines ++ line ∷ []) ++ input_lines rest
next_split text left line rest lines split cut = split ∙ ap (λ (x : List (List ℕ)). lines ++ x) cut ∙ sym (append_assoc lines (line ∷ []) (input_lines rest))

next_count : (place : ℕ) (lines : List (List ℕ)) (line : List ℕ) → place ≡ length lines → place + 1 ≡ length (lines ++ line ∷ [])
next_count place lines line is = ap (λ (n : ℕ). n + 1) is ∙ sym (length-append lines (line ∷ []))

-- a line that is empty or a comment is passed over
pub read_skipped : (text left line rest : List ℕ) (answers : List OwnAnswer) (place : ℕ) → IsReadTo text left answers place → input_lines left ≡ line ∷ input_lines rest → length rest < length left → is_skipped line ≡ true → IsReadTo text rest answers (place + 1)
read_skipped text left line rest answers place read cut less is =
    let bounded = read.bounded in
    record {
      lines = read.lines ++ line ∷ [];
      split = next_split text left line rest read.lines read.split cut;
      counted = next_count place read.lines line read.counted;
      say = skip_behind read.lines answers line read.say is;
      bounded = omega (arith, bounded, less);
    }

-- a line with an answer is read
pub read_said : (text left line rest : List ℕ) (answers : List OwnAnswer) (a : OwnAnswer) (place : ℕ) → IsReadTo text left answers place → input_lines left ≡ line ∷ input_lines rest → length rest < length left → is_skipped line ≡ false → SaysAnswer line a → IsReadTo text rest (answers ++ a ∷ []) (place + 1)
read_said text left line rest answers a place read cut less is says =
    let bounded = read.bounded in
    record {
      lines = read.lines ++ line ∷ [];
      split = next_split text left line rest read.lines read.split cut;
      counted = next_count place read.lines line read.counted;
      say = say_behind read.lines answers line a read.say is says;
      bounded = omega (arith, bounded, less);
    }

-- a line that says none is the first such, for this reason
pub read_stopped : (text left line rest : List ℕ) (answers : List OwnAnswer) (place : ℕ) (why : AnswerRefusal) → IsReadTo text left answers place → input_lines left ≡ line ∷ input_lines rest → is_skipped line ≡ false → HasRefusal line why → IsNoText (input_lines text) (answers_stop (place + 1) why)
read_stopped text left line rest answers place AnswerRefusal.NoMemory read cut is none = tt
read_stopped text left line rest answers place (AnswerRefusal.Bad part) read cut is none = record {
  before = read.lines;
  answers = answers;
  line = line;
  after = input_lines rest;
  split = read.split ∙ ap (λ (x : List (List ℕ)). read.lines ++ x) cut;
  counted = ap (λ (n : ℕ). n + 1) read.counted;
  good = read.say;
  is_read = is;
  none = none;
}

-- nothing is left: these are the answers of all lines
pub all_read : (text left : List ℕ) (answers : List OwnAnswer) (place : ℕ) → IsReadTo text left answers place → left ≡ [] → AreAnswers (input_lines text) answers
all_read text left answers place read none =
    let lines_are : input_lines text ≡ read.lines = read.split ∙ ap (λ (x : List ℕ). read.lines ++ input_lines x) none ∙ append-nil read.lines in
    subst (λ (l : List (List ℕ)). AreAnswers l answers) (sym lines_are) read.say

-- ## What a reader had

stops_by : (input : Option (List ℕ)) (octets : List ℕ) (stop : AnswersStop) → IfSome input (λ all. octets ≡ all) → IsNoText (input_lines octets) stop → AnswersStopBy input stop
stops_by input octets AnswersStop.NoMemory whole none = tt
stops_by input octets AnswersStop.Input whole none = tt
stops_by input octets (AnswersStop.BadLine place part) whole none = record { text = octets; whole = whole; first = none }

-- what the text that was read says is what all that the reader had says
pub answers_by : (input : Option (List ℕ)) (octets read : List ℕ) (r : Result (List OwnAnswer) AnswersStop) → IfSome input (λ all. octets ≡ all) → read ≡ octets → MatchResult r (AreAnswers (input_lines read)) (IsNoText (input_lines read))
    → MatchResult r (GivesAnswers input) (AnswersStopBy input)
answers_by input octets read (Ok answers) whole same h = record { text = octets; whole = whole; say = subst (λ (l : List ℕ). AreAnswers (input_lines l) answers) same h }
answers_by input octets read (Err stop) whole same h = stops_by input octets stop whole (subst (λ (l : List ℕ). IsNoText (input_lines l) stop) same h)
