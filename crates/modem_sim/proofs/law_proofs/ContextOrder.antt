-- Contexts are found by their numbers, which rise.
use Rattle.std.specs.Prelude.{◌≡◌, ℕ, ◌<◌, ◌≤◌, ◌==◌, nat_lt, Bool, true, false, List, [], ◌∷◌, map, Option, Some, None, cond, refl, if◌then◌else◌}
use Rattle.std.specs.Ordering.{nat_cmp}
use Rattle.std.specs.List.{AllByRecursion}
use Rattle.std.specs.List.Sorted.{IsStrictlySortedBy}
use Rattle.std.specs.declared.cmp.Ordering.TheVariants.{Less}
use Rattle.std.proofs.Common.{arith, subst, sym}
use Rattle.std.proofs.lemmas.Bool.Decides.{nat_tests}
use Rattle.std.proofs.lemmas.Map.Keys.{IsStrictlyIncreasing-from_sorted}
use Rattle.at_cmds.specs.declared.command.Command.{Command}
use Rattle.at_cmds.specs.declared.command.Command.TheVariants.{PinEnter, OperChoose, ContextSet}
use Rattle.at_cmds.specs.declared.command.OperChoice.TheVariants.{Automatic, Deregister, Manual}
use Rattle.modem_sim.specs.declared.contexts.PdpContext.{PdpContext}
use Rattle.modem_sim.specs.declared.modem.ModemStart.{ModemStart}
use Rattle.modem_sim.specs.declared.state.ModemState.{ModemState}
use Rattle.modem_sim.specs.Contexts.{with_context}
use Rattle.at_cmds.specs.Values.{command_of}
use Rattle.modem_sim.specs.Reading.{is_attention}
use Rattle.modem_sim.specs.Steps.{Step, standard_step, started, step_by, refusal_of, obeyed_unless, after_refusal, after_command}
use Rattle.modem_sim.specs.LineSteps.{step}
use Rattle.modem_sim.specs.Laws.{after_lines, reached, SetsOne, AreInOrder, context_of}
use Rattle.modem_sim.proofs.modem_steps.StandardModems.{step_standard, step_words}

-- a number is below those of these contexts
abbrev IsBelowAll : ℕ → List PdpContext → Type 0
IsBelowAll n [] = Unit {0}
IsBelowAll n (c ∷ contexts) = (n < c.cid) × IsBelowAll n contexts

abbrev AreRising : List PdpContext → Type 0
AreRising [] = Unit {0}
AreRising (c ∷ contexts) = IsBelowAll c.cid contexts × AreRising contexts

below_further : (m n : ℕ) (contexts : List PdpContext) → m ≤ n → IsBelowAll n contexts → IsBelowAll m contexts
below_further m n [] le below = tt
below_further m n (c ∷ contexts) le below = (let here = below.0 in omega arith, below_further m n contexts le below.1)

below_with_at : (n : ℕ) (new c : PdpContext) (contexts rest : List PdpContext) (below same : Bool) → n < new.cid → n < c.cid → IsBelowAll n contexts → IsBelowAll n rest → IsBelowAll n (if below then c ∷ rest else if same then new ∷ contexts else new ∷ c ∷ contexts)
below_with_at n new c contexts rest true same is here there more = (here, more)
below_with_at n new c contexts rest false true is here there more = (is, there)
below_with_at n new c contexts rest false false is here there more = (is, (here, there))

below_with : (n : ℕ) (new : PdpContext) (contexts : List PdpContext) → n < new.cid → IsBelowAll n contexts → IsBelowAll n (with_context new contexts)
below_with n new [] is below = (is, tt)
below_with n new (c ∷ contexts) is below =
    below_with_at n new c contexts (with_context new contexts) (nat_lt c.cid new.cid) (c.cid == new.cid) is below.0 below.1 (below_with n new contexts is below.1)

rising_with_at : (new c : PdpContext) (contexts rest : List PdpContext) (below same : Bool) → nat_lt c.cid new.cid ≡ below → (c.cid == new.cid) ≡ same → IsBelowAll c.cid contexts → AreRising contexts → (c.cid < new.cid → IsBelowAll c.cid rest) → AreRising rest → AreRising (if below then c ∷ rest else if same then new ∷ contexts else new ∷ c ∷ contexts)
rising_with_at new c contexts rest true same b s first rising more next = (more (grind (arith, nat_tests)), next)
rising_with_at new c contexts rest false true b s first rising more next =
    let equal : new.cid ≤ c.cid = grind (arith, nat_tests) in
    (below_further new.cid c.cid contexts equal first, rising)
rising_with_at new c contexts rest false false b s first rising more next =
    let above : new.cid < c.cid = grind (arith, nat_tests) in
    ((above, below_further new.cid c.cid contexts (omega arith) first), (first, rising))

rising_with : (new : PdpContext) (contexts : List PdpContext) → AreRising contexts → AreRising (with_context new contexts)
rising_with new [] rising = (tt, tt)
rising_with new (c ∷ contexts) rising =
    rising_with_at new c contexts (with_context new contexts) (nat_lt c.cid new.cid) (c.cid == new.cid) refl refl rising.0 rising.1
    (λ below. below_with c.cid new contexts below rising.0) (rising_with new contexts rising.1)

after_rising : (s : ModemState) (c : Command) → AreRising s.contexts → AreRising (after_command s c).contexts
after_rising s (OperChoose Automatic) rising = rising
after_rising s (OperChoose Deregister) rising = rising
after_rising s (OperChoose (Manual oper)) rising = rising
after_rising s (ContextSet cid pdp apn) rising = rising_with (record { cid = cid; pdp = pdp; apn = apn }) s.contexts rising
after_rising s c rising = rising

refused_same : (s : ModemState) (c : Command) → (after_refusal s c).contexts ≡ s.contexts
refused_same s (PinEnter pin) = refl
refused_same s c = refl

obeyed_rising : (o : Option ℕ) (s : ModemState) (c : Command) → AreRising s.contexts → AreRising (obeyed_unless o s c).state.contexts
obeyed_rising None s c rising = after_rising s c rising
obeyed_rising (Some number) s c rising = rw (refused_same s c) rising

step_by_rising : (s : ModemState) (o : Option Command) → AreRising s.contexts → AreRising (step_by s o).state.contexts
step_by_rising s None rising = rising
step_by_rising s (Some c) rising = obeyed_rising (refusal_of s c) s c rising

step_rising_at : (s : ModemState) (line : List ℕ) (at : Bool) → is_attention line ≡ at → AreRising s.contexts → AreRising (standard_step s line).state.contexts
step_rising_at s line true is rising = rw is rising
step_rising_at s line false is rising = rw is (step_by_rising s (command_of line) rising)

step_rising : (s : ModemState) (line : List ℕ) → s.words ≡ None → AreRising s.contexts → AreRising (step s line).state.contexts
step_rising s line none rising = subst (λ (t : Step). AreRising t.state.contexts) (sym (step_standard s line none)) (step_rising_at s line (is_attention line) refl rising)

lines_rising : (s : ModemState) (lines : List (List ℕ)) → s.words ≡ None → AreRising s.contexts → AreRising (after_lines s lines).contexts
lines_rising s [] none rising = rising
lines_rising s (line ∷ lines) none rising = lines_rising (step s line).state lines (step_words s line none) (step_rising s line none rising)

less : (m n : ℕ) → m < n → nat_cmp m n ≡ Less
less m n is = grind (arith, nat_tests)

below_sorted : (n : ℕ) (contexts : List PdpContext) → IsBelowAll n contexts → AllByRecursion (λ m. nat_cmp n m ≡ Less) (map (λ c. c.cid) contexts)
below_sorted n [] below = tt
below_sorted n (c ∷ contexts) below = (less n c.cid below.0, below_sorted n contexts below.1)

rising_sorted : (contexts : List PdpContext) → AreRising contexts → IsStrictlySortedBy nat_cmp (map (λ c. c.cid) contexts)
unfolding IsStrictlySortedBy
rising_sorted [] rising = tt
rising_sorted (c ∷ contexts) rising = (below_sorted c.cid contexts rising.0, rising_sorted contexts rising.1)

-- the contexts of a modem have numbers of their own, in rising order
pub reached_in_order : (start : ModemStart) (lines : List (List ℕ)) → AreInOrder (reached start lines).contexts
reached_in_order start lines =
    let contexts = (reached start lines).contexts in
    IsStrictlyIncreasing-from_sorted (map (λ c. c.cid) contexts) (rising_sorted contexts (lines_rising (started start) lines refl tt))

found_at : (new c : PdpContext) (contexts rest : List PdpContext) (n : ℕ) (below same here mine : Bool) → nat_lt c.cid new.cid ≡ below → (c.cid == new.cid) ≡ same → (c.cid == n) ≡ here → (new.cid == n) ≡ mine → context_of n rest ≡ (if mine then Some new else context_of n contexts) → context_of n (if below then c ∷ rest else if same then new ∷ contexts else new ∷ c ∷ contexts) ≡ (if mine then Some new else cond here (Some c) (context_of n contexts))
found_at new c contexts rest n true same true true b s h m more = absurd (grind (arith, nat_tests))
found_at new c contexts rest n true same true false b s h m more = rw h refl
found_at new c contexts rest n true same false mine b s h m more = rw h more
found_at new c contexts rest n false true here true b s h m more = rw m refl
found_at new c contexts rest n false true true false b s h m more = absurd (grind (arith, nat_tests))
found_at new c contexts rest n false true false false b s h m more = rw m refl
found_at new c contexts rest n false false here true b s h m more = rw m refl
found_at new c contexts rest n false false true false b s h m more = rw (m, h) refl
found_at new c contexts rest n false false false false b s h m more = rw (m, h) refl

sets_one_only : (new : PdpContext) (n : ℕ) (mine : Bool) → (new.cid == n) ≡ mine → context_of n (new ∷ []) ≡ (if mine then Some new else None)
sets_one_only new n true is = rw is refl
sets_one_only new n false is = rw is refl

-- a context that is set is found by its number, and the others as before
pub sets_one : (new : PdpContext) (contexts : List PdpContext) (n : ℕ) → SetsOne new contexts n
sets_one new [] n = sets_one_only new n (new.cid == n) refl
sets_one new (c ∷ contexts) n =
    found_at new c contexts (with_context new contexts) n (nat_lt c.cid new.cid) (c.cid == new.cid) (c.cid == n) (new.cid == n) refl refl refl refl (sets_one new contexts n)
