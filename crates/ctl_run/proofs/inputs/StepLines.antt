-- The lines of a modem's script, read line by line.
use Rattle.std.specs.Prelude.{◌≡◌, ◌≢◌, ℕ, ◌+◌, ◌<◌, ◌%◌, ◌^◌, nat_lt, Bool, true, false, List, [], ◌∷◌, ◌++◌, length, drop, codes, refl, Option, IfSome, Result, Ok, Err, MatchResult, if◌then◌else◌}
use Rattle.std.specs.Fmt.{decimal}
use Rattle.std.specs.Str.Iter.{LacksByte}
use Rattle.std.proofs.Common.{sym, ap, arith, eqb, subst, inl, inr, ◌⊎◌, ◌∙◌}
use Rattle.std.proofs.lemmas.Fmt.{IsAscii-decimal, decimal_by_steps, parse-decimal}
use Rattle.std.proofs.lemmas.Bool.{eq-eqb, false≢true}
use Rattle.std.proofs.lemmas.Str.{IsUtf8-from_ascii}
use Rattle.std.specs.Cmp.Lexicographic.{pointwise}
use Rattle.std.specs.Str.{IsUtf8}
use Rattle.std.specs.Str.Parse.{ParsesUnsigned}
use Rattle.std.proofs.lemmas.List.{append_assoc, append-nil}
use Rattle.modem_sim.specs.declared.script.Step.{Step}
use Rattle.modem_sim.specs.declared.script.StepAct.{StepAct}
use Rattle.modem_sim.specs.declared.script.StepAct.TheVariants.{Announce, Flow, Hold, Disconnect, CloseDown}
use Rattle.ctl_text.specs.Words.{number_text}
use Rattle.ctl_text.specs.Input.{input_lines}
use Rattle.ctl_run.specs.Input.{IsReason}
use Rattle.ctl_run.specs.declared.stop.Stop.{Stop}
use Rattle.ctl_run.specs.Steps.{AreSteps, GivesSteps, IsNoStep, StepsStop, SaysAct, SaysNoAct, SaysNoStep, SaysStep}
use Rattle.ctl_run.specs.LineFaults.{AnnouncementFault, DeedFault, StepFault}
use Rattle.ctl_run.proofs.inputs.ReadLines.{IsRead, read_more}
use Rattle.ctl_text.specs.LineFaults.{HasFault, behind_word, first_word}
use Rattle.ctl_text.specs.declared.refusal.Refusal.{Refusal}
use Rattle.ctl_text.specs.declared.expected.Expected.{Expected}
use Rattle.ctl_text.proofs.CommandWords.{is_connection, joined_words}
use Rattle.ctl_text.proofs.FirstWords.{as_long, behind_front, first_front, whole}
use Rattle.ctl_text.proofs.CutTexts.{lacks_cons, lacks_head, lacks_nil, lacks_tail}

-- Numbers.

-- a decimal, read as a number and shown again, is the same text
pub decimal_same : {E : Type 0} (text shown : List ℕ) (number n : ℕ) (r : Result ℕ E) → r ≡ Ok number → n < 2 ^ 64 → text ≡ decimal n → ParsesUnsigned 64 10 text r → shown ≡ decimal number → shown ≡ text
decimal_same text shown number n r is few same parses shows =
    let ok : r ≡ Ok n = parse-decimal 64 n text r few few same parses in
    let both : Ok number ≡ Ok n = sym is ∙ ok in
    let numbers : number ≡ n = cc in
    shows ∙ ap decimal numbers ∙ sym same

-- a text that isn't read as a number is no decimal
pub no_decimal : {E : Type 0} (text : List ℕ) (n : ℕ) (why : E) (r : Result ℕ E) → r ≡ Err why → n < 2 ^ 64 → ParsesUnsigned 64 10 text r → text ≢ decimal n
no_decimal text n why r is few parses same =
    let ok : r ≡ Ok n = parse-decimal 64 n text r few few same parses in
    let both : Err why ≡ Ok n = sym is ∙ ok in
    cc

-- nor is a word that isn't UTF-8
pub no_text : (word : List ℕ) (n : ℕ) → (IsUtf8 word → ⊥) → n < 2 ^ 64 → word ≢ decimal n
no_text word n none few same = none (subst IsUtf8 (sym same) (IsUtf8-from_ascii (decimal n) (IsAscii-decimal n few)))

pointwise_same : (xs : List ℕ) → pointwise eqb xs xs ≡ true
pointwise_same [] = refl
pointwise_same (c ∷ xs) = rw (eq-eqb c c refl) (pointwise_same xs)

-- equal texts don't compare unequal
pub not_apart : (xs ys : List ℕ) → xs ≡ ys → false ≡ pointwise eqb xs ys → ⊥
not_apart xs ys same apart = false≢true (apart ∙ ap (λ (l : List ℕ). pointwise eqb l ys) same ∙ pointwise_same ys)

-- Words that say nothing.

abbrev head_of : List ℕ → ℕ
head_of [] = 0
head_of (c ∷ text) = c

-- words after `announce` that are no connection, blank and text
abbrev AreNoText : List ℕ → Type 0
AreNoText words = (n : ℕ) (text : List ℕ) → n < 62 → words ≢ number_text n ++ 32 ∷ text

-- it is the text that is missing behind the connection
pub announcement_fault : (words : List ℕ) (d : ℕ) → first_word words ≡ number_text d → d < 62 → length (first_word words) ≡ length words → AnnouncementFault words Expected.Text
announcement_fault words d e known l = inr (is_connection words d e known, inl (λ n. n (as_long words (omega (arith, l))), refl))

-- words after `hold` that aren't two connections
abbrev AreNotTwo : List ℕ → Type 0
AreNotTwo words = (n m : ℕ) → n < 62 → m < 62 → words ≢ number_text n ++ 32 ∷ number_text m

-- behind `hold` they say nothing
pub holds_nothing : (words : List ℕ) → AreNotTwo words → SaysNoAct (codes "hold " ++ words)
holds_nothing words h (Announce d text) s = absurd (let e = ap head_of s in omega (arith, e))
holds_nothing words h (Flow d false) s = absurd (let e = ap head_of s in omega (arith, e))
holds_nothing words h (Flow d true) s = absurd (let e = ap head_of s in omega (arith, e))
holds_nothing words h (Hold d x) s = h d.number x.number d.in_range x.in_range (ap (drop 5) s)
holds_nothing words h (Disconnect d) s = absurd (let e = ap head_of s in omega (arith, e))
holds_nothing words h CloseDown s = absurd (let e = ap head_of s in omega (arith, e))

number_at : (b : Bool) (one high low : ℕ) → (if b then one ∷ [] else high ∷ low ∷ []) ≡ [] → ⊥
number_at true one high low e = cc
number_at false one high low e = cc

-- a connection's number has digits
pub number_some : (n : ℕ) → number_text n ≢ []
number_some n e = number_at (nat_lt n 10) _ _ _ e

-- a connection, and a blank behind it
pub announces : (words word text : List ℕ) (n : ℕ) → word ≡ first_word words → text ≡ behind_word words → word ≡ number_text n → (length word ≡ length words → ⊥) → words ≡ number_text n ++ 32 ∷ text
announces words word text n e b is apart =
    whole words (λ same. apart (ap length (e ∙ same))) ∙ ap (λ (w : List ℕ). w ++ 32 ∷ behind_word words) (sym e ∙ is) ∙ ap (λ (l : List ℕ). number_text n ++ 32 ∷ l) (sym b)

-- where nothing stands behind the connection, the text is missing
pub text_fault_at : (words word : List ℕ) (n : ℕ) → word ≡ first_word words → word ≡ number_text n → n < 62 → length word ≡ length words → AnnouncementFault words Expected.Text
text_fault_at words word n e is known l = announcement_fault words n (sym e ∙ is) known (ap length (sym e) ∙ l)

-- Lines that say no step.

lacks_both : (c : ℕ) (front back : List ℕ) → LacksByte c front → LacksByte c back → LacksByte c (front ++ back)
lacks_both c [] back h i = i
lacks_both c (x ∷ front) back h i = lacks_cons c x (front ++ back) (lacks_head c x front h) (lacks_both c front back (lacks_tail c x front h) i)

-- a decimal has no blank
pub lacks_decimal : (n : ℕ) → n < 2 ^ 64 → LacksByte 32 (decimal n)
lacks_decimal n h =
    decimal_by_steps (λ m ds. LacksByte 32 ds)
    (λ m l. lacks_cons 32 (48 + m) [] (λ e. omega (arith, e)) (lacks_nil 32))
    (λ m ds l d. lacks_both 32 ds ((48 + m % 10) ∷ []) d (lacks_cons 32 (48 + m % 10) [] (λ e. omega (arith, e)) (lacks_nil 32)))
    n h

-- what stands first and what behind it
step_parts : (line : List ℕ) (s : Step) (c : SaysStep line s) → (first_word line ≡ decimal s.after) × (behind_word line ≡ c.words)
step_parts line s c =
    rw c.line_is (first_front (decimal s.after) c.words (lacks_decimal s.after c.few), behind_front (decimal s.after) c.words (lacks_decimal s.after c.few))

-- a line that doesn't begin with a count says no step
pub no_number_step : (line : List ℕ) → ((n : ℕ) → n < 2 ^ 64 → first_word line ≢ decimal n) → SaysNoStep line
no_number_step line unknown s c = unknown s.after c.few (step_parts line s c).0

-- a number is there, and this is wrong behind it
pub behind_count : (line word words : List ℕ) (n : ℕ) (why : Refusal) → word ≡ first_word line → words ≡ behind_word line → word ≡ decimal n → n < 2 ^ 64 → HasFault (DeedFault words) why → HasFault (StepFault line) why
behind_count line word words n (Refusal.Bad fault) e b is few h = inr (record { number = n; small = few; word_is = sym e ∙ is }, subst (λ (l : List ℕ). DeedFault l fault) b h)
behind_count line word words n Refusal.NoMemory e b is few h = tt

-- a line says no step where the words behind its count say nothing that a modem does
pub no_act_step : (line : List ℕ) → SaysNoAct (behind_word line) → SaysNoStep line
no_act_step line none s c = none s.act (rw (step_parts line s c).1 c.says)

act_some : (words : List ℕ) (a : StepAct) → SaysAct words a → words ≢ []
act_some words (Announce d text) h e = cc
act_some words (Flow d false) h e = cc
act_some words (Flow d true) h e = cc
act_some words (Hold d x) h e = cc
act_some words (Disconnect d) h e = cc
act_some words CloseDown h e = cc

-- a count, and words that say what a modem does then, are a step
pub says_step_of : (line : List ℕ) (s : Step) → first_word line ≡ decimal s.after → s.after < 2 ^ 64 → SaysAct (behind_word line) s.act → SaysStep line s
says_step_of line s e few says = record {
  words = behind_word line;
  few = few;
  line_is = joined_words line (decimal s.after) (behind_word line) e refl (act_some (behind_word line) s.act says);
  says = says;
}

-- Line by line.

-- so many lines are read, and the steps that they say
pub record AreStepsRead (script left : List ℕ) (steps : List Step) (place : ℕ) : Type 0 where
  pub read : IsRead IsNoStep StepFault script left place
  pub said : (more : List Step) → AreSteps (input_lines left) more → AreSteps (input_lines script) (steps ++ more)

-- nothing is left: these are the steps of the whole script
pub all_steps : (script left : List ℕ) (steps : List Step) (place : ℕ) → AreStepsRead script left steps place → left ≡ [] → AreSteps (input_lines script) steps
all_steps script left steps place h e =
    let whole : AreSteps (input_lines script) (steps ++ []) = h.said [] (rw e tt) in
    rw (sym (append-nil steps)) whole

-- an empty line
pub step_skipped : (script left line rest : List ℕ) (steps : List Step) (place : ℕ) → AreStepsRead script left steps place → input_lines left ≡ line ∷ input_lines rest → length rest < length left → line ≡ [] → AreStepsRead script rest steps (place + 1)
step_skipped script left line rest steps place h e l n = record {
  read = read_more IsNoStep StepFault script left line rest place h.read e l (λ b. b.0 n);
  said = λ more i. h.said more (rw (e, n) i);
}

says_step : (line : List ℕ) (lines : List (List ℕ)) (s : Step) (steps : List Step) → line ≢ [] → SaysStep line s → AreSteps lines steps → AreSteps (line ∷ lines) (s ∷ steps)
says_step [] lines s steps f h rest = absurd (f refl)
says_step (c ∷ line) lines s steps f h rest = (h, rest)

-- a line with a step
pub step_next : (script left line rest : List ℕ) (steps later : List Step) (place : ℕ) (s : Step) → AreStepsRead script left steps place → input_lines left ≡ line ∷ input_lines rest → length rest < length left → line ≢ [] → SaysStep line s → later ≡ steps ++ s ∷ [] → AreStepsRead script rest later (place + 1)
step_next script left line rest steps later place s h e l f says n = record {
  read = read_more IsNoStep StepFault script left line rest place h.read e l (λ b. b.1 s says);
  said = λ more i.
      rw (n, append_assoc steps (s ∷ []) more)
      (h.said (s ∷ more) (rw e (says_step line (input_lines rest) s more f says i)));
}

-- What a reader had.

stops_by : (input : Option (List ℕ)) (octets : List ℕ) (stop : Stop) → IfSome input (λ all. octets ≡ all) → IsReason IsNoStep StepFault (input_lines octets) stop → StepsStop input stop
stops_by input octets Stop.NoMemory whole reason = tt
stops_by input octets (Stop.BadLine place why) whole reason = record { text = octets; whole = whole; bad = reason }
stops_by input octets Stop.Input whole reason = tt
stops_by input octets Stop.Output whole reason = reason
stops_by input octets Stop.Line whole reason = reason
stops_by input octets (Stop.GaveUp cause) whole reason = reason
stops_by input octets Stop.BadN1 whole reason = reason
stops_by input octets Stop.BadCallers whole reason = reason
stops_by input octets Stop.BadCut whole reason = reason
stops_by input octets (Stop.Dialect fault) whole reason = reason

-- what the text that was read says is what all that the reader had says
pub steps_by : (input : Option (List ℕ)) (octets read : List ℕ) (r : Result (List Step) Stop) → IfSome input (λ all. octets ≡ all) → read ≡ octets → MatchResult r (AreSteps (input_lines read)) (IsReason IsNoStep StepFault (input_lines read))
    → MatchResult r (GivesSteps input) (StepsStop input)
steps_by input octets read (Ok steps) whole same h = record { text = octets; whole = whole; say = subst (λ (l : List ℕ). AreSteps (input_lines l) steps) same h }
steps_by input octets read (Err stop) whole same h = stops_by input octets stop whole (subst (λ (l : List ℕ). IsReason IsNoStep StepFault (input_lines l) stop) same h)

-- a script may be left unread for want of memory, or since its reader failed
pub not_read : (input : Option (List ℕ)) (stop : Stop) → (stop ≡ Stop.NoMemory) ⊎ (stop ≡ Stop.Input) → StepsStop input stop
not_read input stop (inl is) = subst (StepsStop input) (sym is) tt
not_read input stop (inr is) = subst (StepsStop input) (sym is) tt
